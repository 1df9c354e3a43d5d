use Rattle.std.proofs.Common.{◌≡◌, ◌<◌, ◌≤◌, length, ap, ◌∙◌, arith}
use Rattle.sl_ast.specs.declared.typed.Value.TheVariants as values
use Rattle.builtins.specs.Table.{image}
use Rattle.builtins.specs.declared.shape.Shape.TheVariants as shapes
use Rattle.number_rows.specs.Planes.{triple_at}
use Rattle.place_values.specs.declared.cell.Cell.TheVariants as cells
use Rattle.grid_registers.proofs.Filled.{filled_next}
use Rattle.grid_registers.proofs.spaces.image_row.Goals as goal

pub set-requires : goal.set-requires
set-requires c =
    let same : length c.loop-place.row.xs.items ≡ length c.args.row.now.xs.items = c.loop-place.invariant.size shapes.Triple in
    let room : c.args.count ≤ length c.args.row.now.xs.items = c.requires.room shapes.Triple in
    let less : c.loop-place.place < c.args.count = c.loop-place-test.true in omega arith

pub loop-place-preserved : goal.loop-place-preserved
loop-place-preserved c =
    let m = c.args.map.now in
    let t = c.args.triples.now in
    let n = c.loop-place.place in
    let inv = c.loop-place.invariant in record {
      size = λ s. c.set.ensures.size s ∙ inv.size s;
      each = λ ts. filled_next ts c.loop-place.row c.set.new.self (λ i. values.Triple (image c.args.kind m (triple_at t i))) n (cells.Triple c.image.result) (inv.each ts) (ap values.Triple (c.image.ensures ∙ ap (image c.args.kind m) c.at.ensures)) c.set.ensures.value;
    }
