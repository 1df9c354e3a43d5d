-- The class and the shape of registers, and of what instructions give.
use Rattle.std.specs.Prelude.{Bool, true, false, ◌&&◌, List, [], ◌∷◌}
use Rattle.sl_ast.specs.declared.operations.Difference.{Difference}
use Rattle.sl_ast.specs.declared.operations.Difference.TheVariants as differences
use Rattle.builtins.specs.declared.shape.Shape.{Shape}
use Rattle.builtins.specs.declared.shape.Shape.TheVariants as shapes
use Rattle.builtins.specs.Shapes.{shape, part_shape, shape_applied}
use Rattle.grid_code.specs.declared.code.Register.{Register}
use Rattle.grid_code.specs.declared.code.Register.TheVariants.{Uniform, Varying}
use Rattle.grid_code.specs.declared.code.Source.{Source}
use Rattle.grid_code.specs.declared.code.Source.TheVariants.{Constant, Copy, Into, Apply}

abbrev pub register_class : Register → Bool
register_class (Uniform s r) = true
register_class (Varying s r) = false

abbrev pub register_shape : Register → Shape
register_shape (Uniform s r) = s
register_shape (Varying s r) = s

abbrev pub are_uniform_registers : List Register → Bool
are_uniform_registers [] = true
are_uniform_registers (q ∷ qs) = register_class q && are_uniform_registers qs

-- the shapes of registers
abbrev pub register_shapes : List Register → List Shape
register_shapes [] = []
register_shapes (q ∷ qs) = register_shape q ∷ register_shapes qs

-- the shape of a difference of values of a shape
abbrev pub difference_shape : Difference → Shape → Shape
difference_shape differences.CalculateNormal s = shapes.Triple
difference_shape d s = part_shape s

-- the shape of what an instruction gives
abbrev pub source_shape : Source → Shape
source_shape (Constant v) = shape v
source_shape (Copy r) = register_shape r
source_shape (Into s r) = s
source_shape (Apply op qs) = shape_applied op (register_shapes qs)
