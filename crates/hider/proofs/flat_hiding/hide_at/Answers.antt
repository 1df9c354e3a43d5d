use Rattle.std.proofs.Common.{false}
use Rattle.hider.specs.Flat.{flat_of}
use Rattle.hider.specs.CellValues.{values_of}
use Rattle.hider.proofs.Besides.{beside_put}
use Rattle.hider.proofs.flat_hiding.hide_at.Goals as goal

pub returns-then-is_beside : goal.returns-then-is_beside
returns-then-is_beside c = λ v h.
    let s = c.args.seen.now in
    beside_put v (values_of false s.grid) s.boxes.now c.args.cell _ c.args.one_sided c.args.flip c.args.places.now.grid c.args.lists.now c.args.places.now.valid h.boxes c.requires.cell (c.is_beside.ensures c.if-is_beside.true)

pub returns : goal.returns
returns c = λ v h.
    let k = values_of false c.args.seen.now.grid in
    let flat = c.flat_cell-flat.ensures v h.points in
    c.in_ok-hide_flat.ensures v k c.args.cell flat (h.boxes.each c.args.cell _ (flat_of c.flat_cell-flat.result) c.requires.cell flat.placed)
