-- The typed tree that the rules relate to an expression, or the first fault in the order of the text
-- (Shading Language, RenderMan Interface 3.2, sections 11 to 15).
use Rattle.std.specs.Prelude.{ℕ, ℤ, pos, Bool, true, false, ◌&&◌, ◌||◌, not, List, [], ◌∷◌, Option, Some, None, Ok, Err, codes, if◌then◌else◌, is_some}
use Rattle.std.specs.Str.{bytes_eq}
use Rattle.fixed_math.specs.Decimal.{num}
use Rattle.fixed_math.specs.DecimalText.{decimal_at}
use Rattle.fixed_math.specs.declared.decimal.Decimal.{Decimal}
use Rattle.sl_ast.specs.Syntax as U
use Rattle.sl_ast.specs.WellTyped as W
use Rattle.sl_ast.specs.Names.{name_type, has_operation, has_surface, is_constant, space_named}
use Rattle.sl_ast.specs.Rules.{node_type, takes, rule}
use Rattle.sl_ast.specs.declared.operands.Operands.{Operands}
use Rattle.sl_ast.specs.declared.operands.Operands.TheVariants.{Nothing, One, Two, Three, Many}
use Rattle.sl_ast.specs.declared.kinds.SlType.{SlType}
use Rattle.sl_ast.specs.declared.kinds.SlType.TheVariants as types
use Rattle.sl_ast.specs.declared.kinds.NodeType.{NodeType}
use Rattle.sl_ast.specs.declared.kinds.NodeType.TheVariants as nodes
use Rattle.sl_ast.specs.declared.operations.Operation.{Operation}
use Rattle.sl_ast.specs.declared.operations.Operation.TheVariants as operations
use Rattle.sl_ast.specs.declared.operations.ValueOperation.TheVariants as ops
use Rattle.sl_ast.specs.declared.operations.Look.{Look}
use Rattle.sl_ast.specs.declared.operations.Look.TheVariants as looks
use Rattle.sl_ast.specs.declared.kinds.Predefined.{Predefined}
use Rattle.sl_ast.specs.declared.kinds.Prefix.{Prefix}
use Rattle.sl_ast.specs.declared.kinds.SpaceName.{SpaceName}
use Rattle.sl_ast.specs.declared.kinds.SpaceName.TheVariants.{Current}
use Rattle.sl_ast.specs.declared.syntax.Space.{Space}
use Rattle.sl_ast.specs.declared.typed.Variable.TheVariants as variables
use Rattle.sl_expressions.specs.declared.faults.TypeCode.TheVariants.{T1, T2, T6, T7, T11}
use Rattle.sl_expressions.specs.declared.rules.Builtin.{Builtin}
use Rattle.sl_expressions.specs.declared.rules.Builtin.TheVariants.{Plain, LeftOut}
use Rattle.sl_expressions.specs.Found.{Found, ◌>>=◌, refuses}
use Rattle.sl_expressions.specs.Names.{entry_of}
use Rattle.sl_expressions.specs.Predefined.{predefined_names, is_read, is_own}
use Rattle.sl_expressions.specs.Rules.{operation_of, prefix_operation, builtin_names}
use Rattle.sl_expressions.specs.Typed as T
use Rattle.sl_expressions.specs.Typed.{kind_of}
use Rattle.sl_expressions.specs.Scope.{Local, level_of, Callee, callee_named, Around, formals_in, body_in}

-- the value of a number; a text that is none has the value 0
abbrev pub value_read : Option (Decimal × List ℕ) → ℤ
value_read None = pos 0
value_read (Some n) = num n.0

-- the value of a number's text
abbrev pub number_value : List ℕ → ℤ
number_value text = value_read (decimal_at text)

-- a predefined variable that is read: unknown where this kind of shader has none of that name, else outside its place
abbrev pub predefined_at : W.Around → ℕ → Option Predefined → Found T.Expr
predefined_at g line None = Err (T1, line)
predefined_at g line (Some x) =
    if is_read g x then Ok (T.variable (variables.Predefined x) (node_type (name_type x)) line)
    else (if is_own g x then Err (T6, line) else Err (T1, line))

-- a name in an expression
abbrev pub named : W.Around → List ℕ → ℕ → Option (ℕ × Local) → Found T.Expr
named g name line (Some at) = Ok (T.variable (variables.Level at.0) (node_type at.1.kind) line)
named g name line None = predefined_at g line (entry_of predefined_names name)

abbrev pub operands_of : List T.Expr → Operands
operands_of [] = Nothing
operands_of (a ∷ []) = One (kind_of a)
operands_of (a ∷ b ∷ []) = Two (kind_of a) (kind_of b)
operands_of (a ∷ b ∷ c ∷ []) = Three (kind_of a) (kind_of b) (kind_of c)
operands_of (a ∷ b ∷ c ∷ d ∷ rest) = Many

-- an operation on its typed operands
abbrev pub ruled : Operation → List T.Expr → ℕ → Option NodeType → Found T.Expr
ruled op args line None = Err (T2, line)
ruled op args line (Some kind) = Ok (T.apply op (T.exprs args) kind line)

abbrev pub applied : Operation → ℕ → List T.Expr → Found T.Expr
applied op line args = ruled op args line (rule op (operands_of args))

-- no rule fits these operands
abbrev pub misfits : Operation → List T.Expr → Bool
misfits op args = not (is_some (rule op (operands_of args)))

-- a prefix operator on its operand
abbrev pub prefixed : Prefix → ℕ → Found T.Expr → Found T.Expr
prefixed operator line operand = operand >>= λ t. applied (prefix_operation operator) line (t ∷ [])

-- one of two values by a condition
abbrev pub chosen : ℕ → Found (List T.Expr) → Found T.Expr
chosen line parts = parts >>= applied (operations.Value ops.Select) line

-- the space of a name
abbrev pub space_at : ℕ → Option SpaceName → Found SpaceName
space_at line None = Err (T11, line)
space_at line (Some s) = Ok s

-- the space before a value of a type: a colour's is "rgb"; one before a float or a string is no rule's, which is told where the
-- value has a type
abbrev pub space_of : W.Around → SlType → Option Space → Found SpaceName
space_of g kind None = Ok Current
space_of g types.Color (Some s) = if bytes_eq s.name (codes "rgb") then Ok Current else Err (T11, s.line)
space_of g types.Float (Some s) = Ok Current
space_of g types.Str (Some s) = Ok Current
space_of g kind (Some s) = space_at s.line (space_named g.kind g.default s.name)

abbrev pub refuses_space : SlType → Option Space → Bool
refuses_space types.Float (Some s) = true
refuses_space kind space = false

-- a call, and a look-up
abbrev pub is_call_node : U.Expr → Bool
is_call_node (U.call name args line) = true
is_call_node _ = false

abbrev pub is_look : Operation → Bool
is_look (operations.Look look) = true
is_look _ = false

abbrev pub is_look_up : T.Expr → Bool
is_look_up (T.apply operation args kind line) = is_look operation
is_look_up _ = false

-- what a type before a value does: `float` directly before a look-up takes the first part of its colour
abbrev pub takes_first : SlType → Bool → T.Expr → Bool
takes_first types.Float call t = call && is_look_up t
takes_first kind call t = false

abbrev pub conversion : SlType → SpaceName → Bool → T.Expr → Operation
conversion kind s call t = if takes_first kind call t then operations.Look looks.First else operations.Value (ops.Convert kind s)

-- a type before a value: its own fault, then that of the space, then those of the value
abbrev pub converted : W.Around → SlType → Option Space → Bool → ℕ → Found T.Expr → Found T.Expr
converted g kind space call line part =
    if refuses part (λ t. refuses_space kind space || misfits (conversion kind Current call t) (t ∷ [])) then Err (T2, line) else
    (space_of g kind space >>= λ s. part >>= λ t. applied (conversion kind s call t) line (t ∷ []))

-- a type before three components
abbrev pub tripled : W.Around → SlType → Option Space → ℕ → Found (List T.Expr) → Found T.Expr
tripled g kind space line parts =
    if refuses parts (misfits (operations.Value (ops.Triple kind Current))) then Err (T2, line) else
    (space_of g kind space >>= λ s. parts >>= applied (operations.Value (ops.Triple kind s)) line)

-- whether those values go into those formals
abbrev pub fits : List Local → List T.Expr → Bool
fits [] [] = true
fits (f ∷ fs) (a ∷ rest) = takes f.kind (kind_of a) && fits fs rest
fits _ _ = false

-- a call of a function: T2 at its name, then the faults of its body, then those of the arguments
abbrev pub called : Bool → ℕ → Callee → ℕ → Found (List T.Expr) → Found T.Expr
called by_default k c line args =
    if refuses args (λ ts. not (fits c.formals ts)) then Err (T2, line) else
    (body_in by_default c >>= λ _. args >>= λ ts. Ok (T.call k (T.exprs ts) (node_type c.returns) line))

-- a string that is written out, with its line; parentheses don't count
abbrev pub literal_of : U.Expr → Option (List ℕ × ℕ)
literal_of (U.string text line) = Some (text, line)
literal_of (U.paren e line) = literal_of e
literal_of _ = None

abbrev pub literal_space : W.Around → ℕ → Option (List ℕ × ℕ) → Found SpaceName
literal_space g line None = Err (T11, line)
literal_space g line (Some s) = space_at s.1 (space_named g.kind g.default s.0)

abbrev pub space_in : W.Around → ℕ → U.Expr → Found SpaceName
space_in g line e = literal_space g line (literal_of e)

-- the spaces from and into which `transform` and its like map; one alone is what they map into
abbrev pub both_spaces : W.Around → ℕ → U.Expr → U.Expr → Found (SpaceName × SpaceName)
both_spaces g line from into =
    if is_some (literal_of into) then (space_in g line from >>= λ a. space_in g line into >>= λ b. Ok (a, b)) else Err (T11, line)

abbrev pub spaces_of : W.Around → ℕ → List U.Expr → Found (SpaceName × SpaceName)
spaces_of g line (into ∷ e ∷ []) = space_in g line into >>= λ s. Ok (Current, s)
spaces_of g line (from ∷ into ∷ e ∷ []) = both_spaces g line from into
spaces_of g line _ = Ok (Current, Current)

-- what names a texture: a string that is written out, or a parameter that nothing assigns; parentheses don't count. A name that isn't known has
-- another fault, and so has what has a type other than a string's: the call's, or one of another argument.
abbrev pub is_movable : SlType → Bool → Bool
is_movable types.Str fixed = not fixed
is_movable kind fixed = false

abbrev pub named_by : ℕ → Option (ℕ × Local) → Found Bool
named_by line None = Ok true
named_by line (Some at) = if is_movable at.1.kind at.1.fixed then Err (T11, line) else Ok true

-- `other`: whether it has a type other than a string's
abbrev pub texture_named : List Local → ℕ → Bool → U.Expr → Found Bool
texture_named ls line other (U.string text at) = Ok true
texture_named ls line other (U.name name at) = named_by at (level_of name ls)
texture_named ls line other (U.paren e at) = texture_named ls line other e
texture_named ls line other _ = if other then Ok true else Err (T11, line)

abbrev pub first_named : List Local → ℕ → Bool → List U.Expr → Found Bool
first_named ls line other [] = Ok true
first_named ls line other (e ∷ es) = texture_named ls line other e

abbrev pub is_string : NodeType → Bool
is_string nodes.Str = true
is_string kind = false

abbrev pub is_other : Found T.Expr → Bool
is_other found = refuses found (λ t. not (is_string (kind_of t)))

-- an operation with the spaces that its arguments name, or the texture; `faceforward` of two arguments reads Ng, and `texture` of one s and t
abbrev pub operation_in : W.Around → List Local → Operation → ℕ → List U.Expr → Bool → Found Operation
operation_in g ls (operations.Value (ops.Transform a b)) line es other = spaces_of g line es >>= λ s. Ok (operations.Value (ops.Transform s.0 s.1))
operation_in g ls (operations.Value (ops.VTransform a b)) line es other = spaces_of g line es >>= λ s. Ok (operations.Value (ops.VTransform s.0 s.1))
operation_in g ls (operations.Value (ops.NTransform a b)) line es other = spaces_of g line es >>= λ s. Ok (operations.Value (ops.NTransform s.0 s.1))
operation_in g ls (operations.Look look) line es other = first_named ls line other es >>= λ _. Ok (operations.Look look)
operation_in g ls op line es other = Ok op

abbrev pub facing : List T.Expr → Operation
facing (a ∷ b ∷ []) = operations.FaceForwardNg
facing args = operations.Value ops.FaceForward

abbrev pub looking : Look → List T.Expr → Look
looking looks.At (a ∷ []) = looks.Here
looking look args = look

abbrev pub by_count : Operation → List T.Expr → Operation
by_count (operations.Value ops.FaceForward) args = facing args
by_count (operations.Look look) args = operations.Look (looking look args)
by_count op args = op

-- what can't be called at that place: `depth` in a default, `noise` directly after a type
abbrev pub is_noise : Operation → Bool
is_noise (operations.Value ops.Noise) = true
is_noise _ = false

abbrev pub is_barred : W.Around → Bool → Operation → Bool
is_barred g after_type op = (after_type && is_noise op) || (g.default && not (is_constant op))

-- whether an operation may stand there
abbrev pub allowed : W.Around → Bool → Operation → ℕ → Found Bool
allowed g after_type op line =
    if not (has_operation g.kind op) then Err (T6, line) else (if is_barred g after_type op then Err (T11, line) else Ok true)

-- the predefined normal, which a kind of shader without a surface and a parameter's default don't have
abbrev pub lacks : W.Around → Operation → Bool
lacks g operations.FaceForwardNg = g.default || not (has_surface g.kind)
lacks g op = false

-- no rule fits, or what would fit isn't there
abbrev pub is_amiss : W.Around → Operation → List T.Expr → Bool
is_amiss g op args = misfits (by_count op args) args || lacks g (by_count op args)

-- a call of a built-in: its own faults, the lower code first, then those of the spaces, then those of the arguments
abbrev pub operated : W.Around → Bool → List Local → ℕ → List U.Expr → Bool → Found (List T.Expr) → Operation → Found T.Expr
operated g after_type ls line es other args op =
    if refuses args (is_amiss g op) then Err (T2, line) else
    (allowed g after_type op line >>= λ _. operation_in g ls op line es other >>= λ o. args >>= λ ts. applied (by_count o ts) line ts)

abbrev pub built : W.Around → Bool → List Local → ℕ → List U.Expr → Bool → Found (List T.Expr) → Option Builtin → Found T.Expr
built g after_type ls line es other args None = Err (T1, line)
built g after_type ls line es other args (Some LeftOut) = Err (T11, line)
built g after_type ls line es other args (Some (Plain op)) = operated g after_type ls line es other args op

-- a function that calls itself
abbrev pub calls_itself : List Local → ℕ → Found (List T.Expr) → Found T.Expr
calls_itself formals line args = if refuses args (λ ts. not (fits formals ts)) then Err (T2, line) else Err (T7, line)

-- a function hides a built-in of its name
abbrev pub resolved : W.Around → Bool → List Local → List ℕ → ℕ → List U.Expr → Bool → Found (List T.Expr) → Option (ℕ × Callee) → Found T.Expr
resolved g after_type ls name line es other args (Some c) = called g.default c.0 c.1 line args
resolved g after_type ls name line es other args None = built g after_type ls line es other args (entry_of builtin_names name)

abbrev pub call_with : Around → Bool → List Local → List ℕ → ℕ → List U.Expr → Bool → Found (List T.Expr) → Option (List Local) → Found T.Expr
call_with g after_type ls name line es other args (Some formals) = calls_itself formals line args
call_with g after_type ls name line es other args None = resolved g.at after_type ls name line es other args (callee_named name g.known)

-- a call of a function that stands before, or of a built-in
abbrev pub call_of : Around → Bool → List Local → List ℕ → ℕ → List U.Expr → Bool → Found (List T.Expr) → Found T.Expr
call_of g after_type ls name line es other args = call_with g after_type ls name line es other args (formals_in name g.own)

abbrev pub three : Found T.Expr → Found T.Expr → Found T.Expr → Found (List T.Expr)
three x y z = x >>= λ a. y >>= λ b. z >>= λ c. Ok (a ∷ b ∷ c ∷ [])

-- the arguments of a call as a list
abbrev pub listed : U.Exprs → List U.Expr
listed U.none = []
listed (U.more e rest) = e ∷ listed rest

-- `after`: whether the expression stands directly after a type
abbrev mutual
  pub typed_expr : Around → Bool → List Local → U.Expr → Found T.Expr
  typed_expr g after_type ls (U.number text line) = Ok (T.number (number_value text) line)
  typed_expr g after_type ls (U.string text line) = Ok (T.word text line)
  typed_expr g after_type ls (U.name name line) = named g.at name line (level_of name ls)
  typed_expr g after_type ls (U.call name args line) = call_of g after_type ls name line (listed args) (first_is_other g ls args) (typed_args g ls args)
  typed_expr g after_type ls (U.paren e line) = typed_expr g false ls e
  typed_expr g after_type ls (U.triple kind space x y z line) =
      tripled g.at kind space line (three (typed_expr g false ls x) (typed_expr g false ls y) (typed_expr g false ls z))
  typed_expr g after_type ls (U.typed kind space e line) = converted g.at kind space (is_call_node e) line (typed_expr g true ls e)
  typed_expr g after_type ls (U.prefixed operator e line) = prefixed operator line (typed_expr g false ls e)
  typed_expr g after_type ls (U.chain row e rest) = typed_expr g false ls e >>= λ t. typed_links g ls t rest
  typed_expr g after_type ls (U.choice t a b line) =
      typed_expr g false ls t >>= λ x. typed_expr g false ls a >>= λ y. typed_expr g false ls b >>= λ z. applied (operations.Value ops.Select) line (x ∷ y ∷ z ∷ [])

  pub typed_args : Around → List Local → U.Exprs → Found (List T.Expr)
  typed_args g ls U.none = Ok []
  typed_args g ls (U.more e rest) = typed_expr g false ls e >>= λ t. typed_args g ls rest >>= λ ts. Ok (t ∷ ts)

  -- whether the first argument has a type other than a string's
  pub first_is_other : Around → List Local → U.Exprs → Bool
  first_is_other g ls U.none = false
  first_is_other g ls (U.more e rest) = is_other (typed_expr g false ls e)

  -- a chain groups to the left: `t` is what stands before
  pub typed_links : Around → List Local → T.Expr → U.Links → Found T.Expr
  typed_links g ls t U.end = Ok t
  typed_links g ls t (U.link operator line e rest) =
      typed_expr g false ls e >>= λ s. applied (operation_of operator) line (t ∷ s ∷ []) >>= λ r. typed_links g ls r rest
