use Rattle.std.proofs.Common.{◌∙◌, ap, arith}
use Rattle.fixed_math.specs.Axes.{origin}
use Rattle.sl_ast.specs.declared.typed.Value.TheVariants.{Triple}
use Rattle.builtins.specs.declared.shape.Shape.TheVariants as shapes
use Rattle.place_values.specs.declared.cell.Cell.TheVariants as cells
use Rattle.grid_registers.proofs.Filled.{filled_next}
use Rattle.grid_registers.proofs.look_ups.blacken.Goals as goal

pub set-requires : goal.set-requires
set-requires c =
    let same = c.loop-place.invariant.0 shapes.Triple in
    let room = c.requires shapes.Triple in
    omega (arith, same, room, c.loop-place-test.true)

pub loop-place-preserved : goal.loop-place-preserved
loop-place-preserved c = (
  λ k. c.set.ensures.size k ∙ c.loop-place.invariant.0 k,
  λ ts. filled_next ts c.loop-place.row c.set.new.self (λ i. Triple origin) c.loop-place.place (cells.Triple c.default.result) (c.loop-place.invariant.1 ts) (ap Triple c.default.ensures) c.set.ensures.value,
)
