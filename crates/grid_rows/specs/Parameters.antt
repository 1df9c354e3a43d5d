-- The parameters of a shader, one behind another: as they are declared, where its code has them, and what they are bound to.
use Rattle.std.specs.Prelude.{List}
use Rattle.sl_ast.specs.declared.typed.Value.{Value}
use Rattle.sl_ast.specs.Typed.{Local}
use Rattle.grid_code.specs.declared.slot.Slot.{Slot}

pub record ParameterValues : Type 0 where
  pub locals : List Local
  pub slots : List Slot
  pub values : List Value
