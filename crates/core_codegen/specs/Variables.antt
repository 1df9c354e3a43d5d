-- The registers of variables. A frame is the variables in scope, from a register on: variable k of the frame is register b + k of its class and shape.
-- The registers below `first_free` are those of the predefined variables.
use Rattle.std.specs.Prelude.{ℕ, ◌+◌, List, get_or}
use Rattle.sl_ast.specs.declared.typed.Variable.{Variable}
use Rattle.sl_ast.specs.declared.typed.Variable.TheVariants as variables
use Rattle.builtins.specs.Values.{shape_of}
use Rattle.grid_code.specs.declared.code.Register.{Register}
use Rattle.grid_code.specs.Names.{reg, name_at}
use Rattle.sl_meaning.specs.Core.{Slot, no_slot}

-- the register of a slot with a number
abbrev pub slot_at : Slot → ℕ → Register
slot_at s r = reg s.uniform (shape_of s.kind) r

-- the register of a variable
abbrev pub variable : List Slot → ℕ → Variable → Register
variable ss b (variables.Predefined p) = name_at p
variable ss b (variables.Level k) = slot_at (get_or ss k no_slot) (b + k)
