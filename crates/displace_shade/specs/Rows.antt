-- The rows of variables and parameters that shaders are given and that they write.
use Rattle.std.specs.Prelude.{◌≡◌, ℕ, ◌+◌, ℤ, true, false, cond, List, [], ◌∷◌, ◌++◌, map}
use Rattle.sl_ast.specs.declared.kinds.SlKind.{SlKind}
use Rattle.sl_ast.specs.declared.kinds.SlKind.TheVariants.{Surface, Displacement, Light, Volume}
use Rattle.sl_ast.specs.declared.kinds.Predefined.{Predefined}
use Rattle.sl_ast.specs.declared.kinds.Predefined.TheVariants as names
use Rattle.sl_ast.specs.declared.typed.Value.{Value}
use Rattle.sl_ast.specs.Names.{name_type, has_surface}
use Rattle.builtins.specs.Values.{shape_of}
use Rattle.grid_code.specs.declared.slot.Slot.{Slot}
use Rattle.sl_meaning.specs.Core as core
use Rattle.sl_meaning.specs.Runs.{Names}
use Rattle.place_rows.specs.Layout.{height}
use Rattle.grid_rows.specs.Rows.{value_in, values_of}
use Rattle.grid_rows.specs.Wanted.{given_order}

-- the variables that a kind writes
abbrev pub written_order : SlKind → List Predefined
written_order Surface = names.Ci ∷ names.Oi ∷ []
written_order Displacement = names.P ∷ names.N ∷ []
written_order Light = names.Cl ∷ []
written_order Volume = names.Ci ∷ names.Oi ∷ []

-- what a run of a shader of that kind is given: uniform values, and varying ones at a point
abbrev pub uniform_values : SlKind → List Slot → List Value → Names → List Value
uniform_values kind params values named = values_of true params values ++ cond (has_surface kind) (named names.Du ∷ named names.Dv ∷ []) []

abbrev pub varying_values : SlKind → List Slot → List Value → Names → List Value
varying_values kind params values named = values_of false params values ++ map named (given_order kind)

-- place i of rows of length w, from row k on, holds these variables
abbrev pub HoldNames : Names → List Predefined → List ℤ → ℕ → ℕ → ℕ → Type 0
HoldNames named [] rows w k i = Unit {0}
HoldNames named (p ∷ ps) rows w k i = (named p ≡ value_in (shape_of (name_type p)) rows w k i) × HoldNames named ps rows w (k + height (shape_of (name_type p))) i

-- parameters as the core tree has them
abbrev pub slot_of : Slot → core.Slot
slot_of s = core.slot s.uniform s.kind
