-- For contracts of the emission alone: the registers of values by those of their operands.
use Rattle.std.specs.Prelude.{ℕ, false, List}
use Rattle.sl_ast.specs.declared.operations.ValueOperation.{ValueOperation}
use Rattle.sl_ast.specs.declared.operations.Difference.{Difference}
use Rattle.builtins.specs.declared.shape.Shape.TheVariants as shapes
use Rattle.builtins.specs.Shapes.{shape_applied}
use Rattle.grid_code.specs.declared.code.Register.{Register}
use Rattle.grid_code.specs.Names.{reg}
use Rattle.grid_code.specs.Shapes.{register_class, register_shape, are_uniform_registers, register_shapes, difference_shape}

-- the value of register q, one of operation op on the values of registers qs, a difference of that of q, and a look-up by those of qs, each as
-- register r
abbrev pub like : Register → ℕ → Register
like q r = reg (register_class q) (register_shape q) r

-- the register of an operation's value, by those of its operands
abbrev pub applied_at : ValueOperation → List Register → ℕ → Register
applied_at op qs r = reg (are_uniform_registers qs) (shape_applied op (register_shapes qs)) r

-- the register of a difference
abbrev pub differed_at : Difference → Register → ℕ → Register
differed_at d q r = reg false (difference_shape d (register_shape q)) r

abbrev pub looked_at : List Register → ℕ → Register
looked_at qs r = reg (are_uniform_registers qs) shapes.Triple r
