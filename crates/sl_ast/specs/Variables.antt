-- The predefined variables of each kind of shader in order: which are read in the body of a statement over lights alone,
-- which are written, and as what these start. Each kind reads `PI` besides.
use Rattle.std.specs.Prelude.{ℕ, Bool, true, false, not, ◌||◌, ◌==◌, List, [], ◌∷◌, ◌++◌, Option, Some, None, if◌then◌else◌}
use Rattle.sl_ast.specs.declared.kinds.SlKind.{SlKind}
use Rattle.sl_ast.specs.declared.kinds.SlKind.TheVariants.{Surface, Displacement, Light, Volume}
use Rattle.sl_ast.specs.declared.kinds.Predefined.{Predefined}
use Rattle.sl_ast.specs.declared.kinds.Predefined.TheVariants as names

-- what a variable starts as: what the shader is given, another variable, or 0
pub data Start : Type 0 where
  given zero : Start
  copied : Predefined → Start

-- a predefined variable of a kind of shader
pub record Row : Type 0 where
  pub name : Predefined
  pub lit : Bool
  pub written : Bool
  pub start : Start

abbrev read : Predefined → Row
read name = record { name = name; lit = false; written = false; start = given }

-- in the body of a statement over lights alone
abbrev read_lit : Predefined → Row
read_lit name = record { name = name; lit = true; written = false; start = given }

abbrev written_from : Start → Predefined → Row
written_from start name = record { name = name; lit = false; written = true; start = start }

-- what a point of a surface has beside its place and its normal
abbrev of_a_point : List Row
of_a_point =
    read names.Ng ∷ read names.I ∷ read names.E ∷ read names.U ∷ read names.V ∷ read names.Du ∷ read names.Dv ∷ read names.S ∷ read names.T ∷
    read names.Cs ∷ read names.Os ∷ read names.DPdu ∷ read names.DPdv ∷ []

-- the predefined variables of each kind of shader
abbrev pub variables : SlKind → List Row
variables Surface =
    read names.P ∷ read names.N ∷
    (of_a_point ++ (read_lit names.L ∷ read_lit names.Cl ∷ written_from (copied names.Cs) names.Ci ∷ written_from (copied names.Os) names.Oi ∷ []))
variables Displacement = written_from given names.P ∷ written_from given names.N ∷ of_a_point
variables Light = read names.Ps ∷ read names.E ∷ read_lit names.L ∷ written_from zero names.Cl ∷ []
variables Volume = read names.P ∷ read names.I ∷ read names.E ∷ written_from given names.Ci ∷ written_from given names.Oi ∷ []

abbrev place : Predefined → ℕ
place names.P = 0
place names.N = 1
place names.Ng = 2
place names.I = 3
place names.E = 4
place names.U = 5
place names.V = 6
place names.Du = 7
place names.Dv = 8
place names.S = 9
place names.T = 10
place names.Cs = 11
place names.Os = 12
place names.DPdu = 13
place names.DPdv = 14
place names.L = 15
place names.Cl = 16
place names.Ci = 17
place names.Oi = 18
place names.Ps = 19
place names.Pi = 20

-- the row of a variable
abbrev pub row_named : Predefined → List Row → Option Row
row_named name [] = None
row_named name (r ∷ rs) = if place name == place r.name then Some r else row_named name rs

abbrev pub is_read : Bool → Option Row → Bool
is_read lit None = false
is_read lit (Some r) = not r.lit || lit

abbrev pub is_written : Option Row → Bool
is_written None = false
is_written (Some r) = r.written
