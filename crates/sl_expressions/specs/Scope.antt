-- Variables in scope, the functions that are known, and what the text around a place says.
use Rattle.std.specs.Prelude.{ℕ, suc, Bool, List, [], ◌∷◌, Option, Some, None, if◌then◌else◌}
use Rattle.std.specs.Option.{option_map, option_or}
use Rattle.std.specs.Str.{bytes_eq}
use Rattle.sl_ast.specs.declared.kinds.SlType.{SlType}
use Rattle.sl_ast.specs.WellTyped as W
use Rattle.sl_expressions.specs.Found.{Found}
use Rattle.sl_expressions.specs.Typed.{Body}

-- a parameter, formal or local, and whether it is a parameter that nothing assigns
pub record Local : Type 0 where
  pub uniform : Bool
  pub kind : SlType
  pub name : List ℕ
  pub fixed : Bool
  pub line : ℕ

-- the last of a name among things in the order of their declaration, with how many stand before it: the last of the rest, one further, else
-- the head; where names are distinct it is the only one
abbrev pub one_further : {A : Type 0} → ℕ × A → ℕ × A
one_further x = (suc x.0, x.1)

abbrev pub last_named : {A : Type 0} → (A → List ℕ) → List ℕ → List A → Option (ℕ × A)
last_named of name [] = None
last_named of name (x ∷ xs) = option_or (option_map one_further (last_named of name xs)) (if bytes_eq (of x) name then Some (0, x) else None)

-- the last variable of a name, with its level
abbrev pub level_of : List ℕ → List Local → Option (ℕ × Local)
level_of name scope = last_named (λ l. l.name) name scope

-- a function that stands before: what its calls need, and what it does, or the first fault in it: in the body of the shader, and in
-- the default of a parameter
pub record Callee : Type 0 where
  pub name : List ℕ
  pub formals : List Local
  pub returns : SlType
  pub body : Found Body
  pub by_default : Found Body

-- the function of a name, with how many stand before it
abbrev pub callee_named : List ℕ → List Callee → Option (ℕ × Callee)
callee_named name known = last_named (λ c. c.name) name known

-- the function that a place is in
pub record Own : Type 0 where
  pub name : List ℕ
  pub formals : List Local
  pub returns : SlType

-- what the text around a place says, with the function that the place is in, and the functions before
pub record Around : Type 0 where
  pub at : W.Around
  pub own : Option Own
  pub known : List Callee

-- the formals of the function that the place is in, where it has that name
abbrev pub formals_in : List ℕ → Option Own → Option (List Local)
formals_in name None = None
formals_in name (Some own) = if bytes_eq own.name name then Some own.formals else None

-- what a call of the function does at that place
abbrev pub body_in : Bool → Callee → Found Body
body_in by_default c = if by_default then c.by_default else c.body
