-- The typed functions and parameters of a file, or the first fault: each function over those before it, its own faults told where it is first
-- called (Shading Language, RenderMan Interface 3.2, sections 11 and 16).
use Rattle.std.specs.Prelude.{ℕ, Bool, true, false, not, ◌||◌, List, [], ◌∷◌, ◌++◌, map, length, is_some, is_none, Option, Some, None, Ok, Err, if◌then◌else◌}
use Rattle.sl_ast.specs.Syntax as U
use Rattle.sl_ast.specs.WellTyped as W
use Rattle.sl_ast.specs.declared.kinds.SlKind.{SlKind}
use Rattle.sl_ast.specs.declared.kinds.SlType.{SlType}
use Rattle.sl_expressions.specs.declared.faults.TypeCode.TheVariants.{T2, T8, T10}
use Rattle.sl_expressions.specs.Found.{Found, ◌>>=◌}
use Rattle.sl_expressions.specs.Typed as T
use Rattle.sl_expressions.specs.Scope.{Local, level_of, Callee, callee_named, Around}
use Rattle.sl_expressions.specs.Exprs.{typed_expr}
use Rattle.fixed_math.specs.Names.{last_place}
use Rattle.sl_typing.specs.Assigned.{assigned_in}
use Rattle.sl_typing.specs.Stmts.{is_uniform, is_varying, value_in, typed_rows}

-- whether a `return` stands anywhere
abbrev mutual
  pub gives : U.Stmt → Bool
  gives (U.empty line) = false
  gives (U.leave line) = false
  gives (U.again line) = false
  gives (U.block ss line) = gives_any ss
  gives (U.assign a) = false
  gives (U.give e line) = true
  gives (U.declare class kind names line) = false
  gives (U.test e s line) = gives s
  gives (U.test_else e s o line) = gives s || gives o
  gives (U.repeat e s line) = gives s
  gives (U.steps a e b s line) = gives s
  gives (U.lights word e c s line) = gives s
  gives (U.solar e f s line) = gives s

  pub gives_any : U.Stmts → Bool
  gives_any U.done = false
  gives_any (U.first s rest) = gives s || gives_any rest

-- the `return` with which statements end, and what stands before the last
abbrev pub given : U.Stmt → Option (U.Expr × ℕ)
given (U.give e line) = Some (e, line)
given s = None

abbrev pub given_last : U.Stmts → Option (U.Expr × ℕ)
given_last U.done = None
given_last (U.first s U.done) = given s
given_last (U.first s (U.first x rest)) = given_last (U.first x rest)

abbrev pub but_last : U.Stmts → U.Stmts
but_last U.done = U.done
but_last (U.first s U.done) = U.done
but_last (U.first s (U.first x rest)) = U.first s (but_last (U.first x rest))

abbrev pub returned : Around → SlType → List T.Stmt → List Local → U.Expr × ℕ → Found T.Body
returned g kind ts ls x = value_in kind x.1 (typed_expr g false ls x.0) >>= λ t. Ok (record { stmts = T.stmts ts; returned = x.1; value = t })

-- what a function does: statements, and a `return` over their scope; `line` is that of the function's name
abbrev pub ended : Around → ℕ → SlType → ℕ → List Local → U.Stmts → Option (U.Expr × ℕ) → Found T.Body
ended g from kind line ls ss None = typed_rows g from ls ss >>= λ rows. Err (T8, line)
ended g from kind line ls ss (Some x) = typed_rows g from ls (but_last ss) >>= λ rows. returned g kind rows.0 rows.1 x

-- the typed body of a function, or its first fault
abbrev pub typed_body : Around → ℕ → SlType → ℕ → List Local → U.Stmts → Found T.Body
typed_body g from kind line ls ss = ended g from kind line ls ss (given_last ss)

-- formals are varying where nothing else is said
abbrev pub formals_named : Bool → SlType → List U.Declared → List Local
formals_named uniform kind [] = []
formals_named uniform kind (d ∷ ds) = record { uniform = uniform; kind = kind; name = d.name; fixed = false; line = d.line } ∷ formals_named uniform kind ds

abbrev pub formals_of : List U.Group → List Local
formals_of [] = []
formals_of (g ∷ gs) = formals_named (is_uniform g.class) g.kind g.names ++ formals_of gs

-- the scope of formals, each name of which stands once
abbrev pub scope_from : List Local → List Local → Found (List Local)
scope_from ls [] = Ok ls
scope_from ls (f ∷ fs) = if is_some (level_of f.name ls) then Err (T10, f.line) else scope_from (ls ++ f ∷ []) fs

-- the faults of a function: no `return` at all, then a formal's name that stands twice, then those of the body
abbrev pub body_of : Around → U.Function → Found T.Body
body_of g f =
    if gives_any f.body then (scope_from [] (formals_of f.formals) >>= λ ls. typed_body g (length ls) f.returns f.line ls f.body) else Err (T8, f.line)

abbrev pub FoundBody : Type 0
FoundBody = Found T.Body

abbrev pub spot_within : SlKind → Bool → W.Around
spot_within kind default = record { kind = kind; default = default; bare = true; lit = false; looped = false }

abbrev pub within : SlKind → Bool → List Callee → U.Function → Around
within kind default known f = record { at = spot_within kind default; own = Some (record { name = f.name; formals = formals_of f.formals; returns = f.returns }); known = known }

abbrev pub callee_in : SlKind → List Callee → U.Function → Callee
callee_in kind known f = record {
  name = f.name;
  formals = formals_of f.formals;
  returns = f.returns;
  body = body_of (within kind false known f) f;
  by_default = body_of (within kind true known f) f;
}

-- a function after those before it
abbrev pub learned : SlKind → List Callee → U.Function → Found (List Callee)
learned kind known f = if is_some (callee_named f.name known) then Err (T10, f.line) else Ok (known ++ callee_in kind known f ∷ [])

-- the functions in their order, each over those before it
abbrev pub known_from : SlKind → List Callee → List U.Function → Found (List Callee)
known_from kind known [] = Ok known
known_from kind known (f ∷ fs) =
    if is_some (callee_named f.name known) then Err (T10, f.line) else known_from kind (known ++ callee_in kind known f ∷ []) fs

-- a parameter with its default
pub record Param : Type 0 where
  pub local : Local
  pub value : T.Expr

abbrev pub locals_of : List Param → List Local
locals_of ps = map (λ p. p.local) ps

-- what surrounds a default
abbrev pub by_default : SlKind → List Callee → Around
by_default kind known = record { at = W.in_default kind; own = None; known = known }

-- a default sees no variable, and is told at its equals sign where it doesn't fit; a parameter without one isn't written
abbrev pub default_in : Around → SlType → ℕ → Option U.Expr → Found T.Expr
default_in g kind set_line None = Err (T2, set_line)
default_in g kind set_line (Some e) = value_in kind set_line (typed_expr g false [] e)

-- a parameter after others, in a shader whose body assigns the parameters of these names
abbrev pub typed_param : Around → List (List ℕ) → Bool → SlType → List Param → U.Declared → Found (List Param)
typed_param g assigned uniform kind ps d =
    if is_some (level_of d.name (locals_of ps)) then Err (T10, d.line) else
    (default_in g kind d.set_line d.value >>= λ t. Ok (ps ++ record { local = record { uniform = uniform; kind = kind; name = d.name; fixed = is_none (last_place d.name assigned); line = d.line }; value = t } ∷ []))

abbrev pub typed_params : Around → List (List ℕ) → Bool → SlType → List Param → List U.Declared → Found (List Param)
typed_params g assigned uniform kind ps [] = Ok ps
typed_params g assigned uniform kind ps (d ∷ ds) = typed_param g assigned uniform kind ps d >>= λ r. typed_params g assigned uniform kind r ds

abbrev pub typed_groups : Around → List (List ℕ) → List Param → List U.Group → Found (List Param)
typed_groups g assigned ps [] = Ok ps
typed_groups g assigned ps (x ∷ xs) = typed_params g assigned (not (is_varying x.class)) x.kind ps x.names >>= λ r. typed_groups g assigned r xs

-- a file: its functions, each with what it does or the first fault in it, and the parameters and the body of its shader
pub record Program : Type 0 where
  pub known : List Callee
  pub params : List Param
  pub body : List T.Stmt

-- what surrounds a shader's body
abbrev pub in_body : SlKind → List Callee → Around
in_body kind known = record { at = W.in_shader kind; own = None; known = known }

-- the parameters and the body of a shader, over its functions
abbrev pub params_and_body : U.Shader → List Callee → Found (List Param × List T.Stmt)
params_and_body s known =
    typed_groups (by_default s.kind known) (assigned_in s.body) [] s.params >>= λ params.
    typed_rows (in_body s.kind known) (length params) (locals_of params) s.body >>= λ rows. Ok (params, rows.0)

abbrev pub program : U.Shader → Found Program
program s =
    known_from s.kind [] s.functions >>= λ known. typed_groups (by_default s.kind known) (assigned_in s.body) [] s.params >>= λ params.
    typed_rows (in_body s.kind known) (length params) (locals_of params) s.body >>= λ rows.
    Ok (record { known = known; params = params; body = rows.0 })
