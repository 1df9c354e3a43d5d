-- The typed statements that the rules relate to a statement with the scope after it, or the first fault in the order of the text
-- (Shading Language, RenderMan Interface 3.2, sections 12 and 14). `ls` is the scope, and `from` the level at which the block began.
use Rattle.std.specs.Prelude.{ℕ, Bool, true, false, not, nat_lt, List, [], ◌∷◌, ◌++◌, length, Option, Some, None, Ok, Err, if◌then◌else◌}
use Rattle.sl_ast.specs.Syntax as U
use Rattle.sl_ast.specs.WellTyped as W
use Rattle.sl_ast.specs.Names.{name_type, has_lights}
use Rattle.sl_ast.specs.Rules.{node_type, takes, is_test, put_into}
use Rattle.sl_ast.specs.declared.kinds.Class.{Class}
use Rattle.sl_ast.specs.declared.kinds.Class.TheVariants.{Uniform, Varying}
use Rattle.sl_ast.specs.declared.kinds.SlType.{SlType}
use Rattle.sl_ast.specs.declared.kinds.NodeType.{NodeType}
use Rattle.sl_ast.specs.declared.kinds.Predefined.{Predefined}
use Rattle.sl_ast.specs.declared.kinds.SetOperator.{SetOperator}
use Rattle.sl_ast.specs.declared.kinds.LightStmt.{LightStmt}
use Rattle.sl_ast.specs.declared.kinds.LightStmt.TheVariants.{Illuminance, Illuminate, Solar}
use Rattle.sl_ast.specs.declared.syntax.LightWord.{LightWord}
use Rattle.sl_ast.specs.declared.syntax.LightWord.TheVariants as words
use Rattle.sl_ast.specs.declared.typed.Variable.{Variable}
use Rattle.sl_ast.specs.declared.typed.Variable.TheVariants as variables
use Rattle.sl_expressions.specs.declared.faults.TypeCode.{TypeCode}
use Rattle.sl_expressions.specs.declared.faults.TypeCode.TheVariants.{T1, T2, T6, T8, T10, T11}
use Rattle.sl_expressions.specs.Found.{Found, ◌>>=◌, refuses}
use Rattle.sl_expressions.specs.Names.{entry_of}
use Rattle.sl_expressions.specs.Predefined.{predefined_names, is_own, is_written}
use Rattle.sl_expressions.specs.Typed as T
use Rattle.sl_expressions.specs.Typed.{kind_of}
use Rattle.sl_expressions.specs.Scope.{Local, level_of, Own, Around}
use Rattle.sl_expressions.specs.Exprs.{operands_of, typed_expr, typed_args}

-- typed statements and the scope after them, or the first fault
abbrev pub Rows : Type 0
Rows = Found (List T.Stmt × List Local)

-- statements after others
abbrev pub put_after : List T.Stmt → Rows → Rows
put_after ts rows = rows >>= λ r. Ok (ts ++ r.0, r.1)

-- statements, and those that follow in the scope that they leave
abbrev pub followed : Rows → (List Local → Rows) → Rows
followed rows next = rows >>= λ r. put_after r.0 (next r.1)

-- whether the last variable of a name was declared at that level or after it
abbrev pub is_since : ℕ → Option (ℕ × Local) → Bool
is_since from None = false
is_since from (Some at) = not (nat_lt at.0 from)

-- locals and formals are varying where nothing else is said, parameters uniform
abbrev pub is_uniform : Option Class → Bool
is_uniform (Some Uniform) = true
is_uniform _ = false

abbrev pub is_varying : Option Class → Bool
is_varying (Some Varying) = true
is_varying _ = false

-- what a variable of a type is set to
abbrev pub value_in : SlType → ℕ → Found T.Expr → Found T.Expr
value_in kind line value = value >>= λ t. if takes kind (kind_of t) then Ok t else Err (T2, line)

-- one name of a declaration; a value that doesn't fit is told at the equals sign before it
abbrev pub declared : Around → Bool → SlType → List Local → ℕ → ℕ → Option U.Expr → Found T.Stmt
declared g uniform kind ls line set_line None = Ok (T.start uniform kind line)
declared g uniform kind ls line set_line (Some e) = value_in kind set_line (typed_expr g false ls e) >>= λ t. Ok (T.declare uniform kind t line)

abbrev pub typed_name : Around → ℕ → Bool → SlType → List Local → U.Declared → Rows
typed_name g from uniform kind ls d =
    if is_since from (level_of d.name ls) then Err (T10, d.line) else
    (declared g uniform kind ls d.line d.set_line d.value >>= λ s. Ok (s ∷ [], ls ++ record { uniform = uniform; kind = kind; name = d.name; fixed = false; line = d.line } ∷ []))

abbrev pub typed_names : Around → ℕ → Bool → SlType → List Local → List U.Declared → Rows
typed_names g from uniform kind ls [] = Ok ([], ls)
typed_names g from uniform kind ls (d ∷ ds) = followed (typed_name g from uniform kind ls d) (λ left. typed_names g from uniform kind left ds)

-- the variable that is set, with its type: unknown where this kind of shader has none of that name, else only read
abbrev pub predefined_set : W.Around → ℕ → Option Predefined → Found (Variable × SlType)
predefined_set g line None = Err (T1, line)
predefined_set g line (Some x) =
    if is_written g x then Ok (variables.Predefined x, name_type x) else (if is_own g x then Err (T6, line) else Err (T1, line))

abbrev pub variable_set : W.Around → List ℕ → ℕ → Option (ℕ × Local) → Found (Variable × SlType)
variable_set g name line (Some at) = Ok (variables.Level at.0, at.1.kind)
variable_set g name line None = predefined_set g line (entry_of predefined_names name)

-- what an assignment puts into a variable of that type fits it
abbrev pub sets : SlType → SetOperator → NodeType → Bool
sets kind operator value = W.goes_into (node_type kind) (put_into (node_type kind) operator value)

-- an assignment; a value that doesn't fit is told at the operator
abbrev pub typed_set : Around → List Local → U.Assignment → Found T.Stmt
typed_set g ls a =
    variable_set g.at a.name a.line (level_of a.name ls) >>= λ v. typed_expr g false ls a.value >>= λ t.
    if sets v.1 a.operator (kind_of t) then Ok (T.assign v.0 a.operator v.1 t a.line) else Err (T2, a.set_line)

abbrev pub optional_set : Around → List Local → Option U.Assignment → Found (List T.Stmt)
optional_set g ls None = Ok []
optional_set g ls (Some a) = typed_set g ls a >>= λ s. Ok (s ∷ [])

abbrev pub no_test : T.Expr → Bool
no_test t = not (is_test (kind_of t))

-- an expression that is a condition, else T2
abbrev pub condition : ℕ → Found T.Expr → Found T.Expr
condition line found = found >>= λ t. if is_test (kind_of t) then Ok t else Err (T2, line)

-- a declaration of several names as a branch stands as a group
abbrev pub one_of : List T.Stmt → T.Stmt
one_of (s ∷ []) = s
one_of ss = T.group (T.stmts ss)

abbrev pub inner : Rows → Found (List T.Stmt)
inner rows = rows >>= λ r. Ok r.0

abbrev pub branch : Rows → Found T.Stmt
branch rows = rows >>= λ r. Ok (one_of r.0)

-- the fault of a `return` that isn't the last statement of a function: its value doesn't fit what the function returns, the lower code, else
-- its place; a shader's body returns nothing
abbrev pub misplaced : Option Own → Found T.Expr → TypeCode
misplaced None value = T8
misplaced (Some own) value = if refuses value (λ t. not (takes own.returns (kind_of t))) then T2 else T8

-- where the body of a loop stands, and that of a statement over lights
abbrev pub in_loop : Around → Around
in_loop g = record { at = W.in_loop g.at; own = g.own; known = g.known }

abbrev pub in_lights : Around → Around
in_lights g = record { at = W.in_lights g.at; own = g.own; known = g.known }

abbrev pub light_word : LightWord → LightStmt
light_word words.Illuminance = Illuminance
light_word words.Illuminate = Illuminate

abbrev pub light_args : U.Expr → Option (U.Expr × U.Expr) → U.Exprs
light_args place None = U.more place U.none
light_args place (Some cone) = U.more place (U.more cone.0 (U.more cone.1 U.none))

abbrev pub light_misfit : LightStmt → List T.Expr → Bool
light_misfit word args = not (W.lights_take word (operands_of args))

-- a statement over lights: its own faults, the lower code first, then those of its arguments
abbrev pub lights_of : W.Around → LightStmt → ℕ → Found (List T.Expr) → Found (List T.Expr)
lights_of g word line args =
    if refuses args (light_misfit word) then Err (T2, line) else
    (if not (has_lights g.kind word) then Err (T6, line) else (if g.default then Err (T11, line) else args))

-- a statement that leaves the scope as it is, from what its parts give: the first fault in their order, or the node
abbrev pub jumped : Bool → List Local → ℕ → T.Stmt → Rows
jumped looped ls line s = if looped then Ok (s ∷ [], ls) else Err (T8, line)

abbrev pub blocked : List Local → ℕ → Found (List T.Stmt) → Rows
blocked ls line body = body >>= λ b. Ok (T.block (T.stmts b) line ∷ [], ls)

abbrev pub tested : List Local → ℕ → Found T.Expr → Found T.Stmt → Rows
tested ls line test body = test >>= λ t. body >>= λ r. Ok (T.test t r line ∷ [], ls)

abbrev pub tested_else : List Local → ℕ → Found T.Expr → Found T.Stmt → Found T.Stmt → Rows
tested_else ls line test body otherwise = test >>= λ t. body >>= λ r. otherwise >>= λ q. Ok (T.test_else t r q line ∷ [], ls)

abbrev pub repeated : List Local → ℕ → Found T.Expr → Found T.Stmt → Rows
repeated ls line test body = test >>= λ t. body >>= λ r. Ok (T.repeat t r line ∷ [], ls)

-- the type of the condition is asked before the first assignment, and its own faults are told after it
abbrev pub stepped : List Local → ℕ → Found (List T.Stmt) → Found T.Expr → Found (List T.Stmt) → Found T.Stmt → Rows
stepped ls line first test step body =
    if refuses test no_test then Err (T2, line) else
    (first >>= λ x. test >>= λ t. step >>= λ y. body >>= λ r. Ok (T.steps (T.stmts x) t (T.stmts y) r line ∷ [], ls))

-- the same in two parts
abbrev pub Head : Type 0
Head = List T.Stmt × T.Expr

abbrev pub for_head : ℕ → Found T.Expr → Found (List T.Stmt) → Found Head
for_head line test first = if refuses test no_test then Err (T2, line) else (first >>= λ x. test >>= λ t. Ok (x, t))

abbrev pub for_of : List Local → ℕ → Found Head → Found (List T.Stmt) → Found T.Stmt → Rows
for_of ls line head step body = head >>= λ h. step >>= λ y. body >>= λ r. Ok (T.steps (T.stmts h.0) h.1 (T.stmts y) r line ∷ [], ls)

abbrev pub lighted : List Local → LightStmt → ℕ → Found (List T.Expr) → Found T.Stmt → Rows
lighted ls word line args body = args >>= λ xs. body >>= λ r. Ok (T.lights word (T.exprs xs) r line ∷ [], ls)

abbrev mutual
  pub typed_stmt : Around → ℕ → List Local → U.Stmt → Rows
  typed_stmt g from ls (U.empty line) = Ok (T.empty line ∷ [], ls)
  typed_stmt g from ls (U.leave line) = jumped g.at.looped ls line (T.leave line)
  typed_stmt g from ls (U.again line) = jumped g.at.looped ls line (T.again line)
  typed_stmt g from ls (U.block ss line) = blocked ls line (inner (typed_rows g (length ls) ls ss))
  typed_stmt g from ls (U.assign a) = typed_set g ls a >>= λ s. Ok (s ∷ [], ls)
  typed_stmt g from ls (U.give e line) = Err (misplaced g.own (typed_expr g false ls e), line)
  typed_stmt g from ls (U.declare class kind names line) = typed_names g from (is_uniform class) kind ls names
  typed_stmt g from ls (U.test e s line) = tested ls line (condition line (typed_expr g false ls e)) (branch (typed_stmt g (length ls) ls s))
  typed_stmt g from ls (U.test_else e s o line) =
      tested_else ls line (condition line (typed_expr g false ls e)) (branch (typed_stmt g (length ls) ls s)) (branch (typed_stmt g (length ls) ls o))
  typed_stmt g from ls (U.repeat e s line) =
      repeated ls line (condition line (typed_expr g false ls e)) (branch (typed_stmt (in_loop g) (length ls) ls s))
  typed_stmt g from ls (U.steps a e b s line) =
      stepped ls line (optional_set g ls a) (typed_expr g false ls e) (optional_set g ls b) (branch (typed_stmt (in_loop g) (length ls) ls s))
  typed_stmt g from ls (U.lights word e c s line) =
      lighted ls (light_word word) line (lights_of g.at (light_word word) line (typed_args g ls (light_args e c))) (branch (typed_stmt (in_lights g) (length ls) ls s))
  typed_stmt g from ls (U.solar e f s line) =
      lighted ls Solar line (lights_of g.at Solar line (typed_args g ls (U.more e (U.more f U.none)))) (branch (typed_stmt (in_lights g) (length ls) ls s))

  pub typed_rows : Around → ℕ → List Local → U.Stmts → Rows
  typed_rows g from ls U.done = Ok ([], ls)
  typed_rows g from ls (U.first s rest) = followed (typed_stmt g from ls s) (λ left. typed_rows g from left rest)
