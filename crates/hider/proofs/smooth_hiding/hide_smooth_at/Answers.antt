use Rattle.std.proofs.Common.{true, sym, subst, []}
use Rattle.std.specs.List.{cons_option}
use Rattle.std.specs.Option.{option_and_then}
use Rattle.hider.specs.declared.quad.Quad.{Quad}
use Rattle.hider.specs.Cells.{seen}
use Rattle.hider.specs.CellValues.{values_of}
use Rattle.hider.specs.Coverage.{covers}
use Rattle.hider.specs.Tiles.{HavePut}
use Rattle.hider.specs.Flat.{flat_of}
use Rattle.hider.proofs.Besides.{beside_put}
use Rattle.hider.proofs.Flats.{boxes_of_any, seen_placed_put, unseen_placed_put}
use Rattle.hider.proofs.smooth_hiding.hide_smooth_at.Goals as goal

pub returns-then-is_beside : goal.returns-then-is_beside
returns-then-is_beside c = λ v h.
    let s = c.args.seen.now in
    beside_put v (values_of true s.grid) s.boxes.now c.args.cell _ c.args.one_sided c.args.flip c.args.places.now.grid c.args.lists.now c.args.places.now.valid (boxes_of_any v s.grid s.boxes.now true h.boxes) c.requires.cell
    (c.is_beside.ensures c.if-is_beside.true)

pub returns-then-not-are_all_seen : goal.returns-then-not-are_all_seen
returns-then-not-are_all_seen c = λ v h.
    unseen_placed_put v (values_of true c.args.seen.now.grid) c.args.cell (flat_of c.flat_cell-flat.result) c.args.one_sided c.args.flip c.args.places.now.grid c.args.lists.now (c.flat_cell-flat.ensures v h.points).placed
    (sym c.if-not-are_all_seen.ensures)

pub returns : goal.returns
returns c = λ v h.
    let g = c.args.places.now.grid in
    let f = flat_of c.flat_cell-flat.result in
    let placed = (c.flat_cell-flat.ensures v h.points).placed in
    let all = sym c.if-not-are_all_seen.ensures in
    let put = subst (λ (q : Quad). HavePut g (λ s. cons_option (option_and_then (λ r. covers r s.place) (seen c.args.one_sided c.args.flip q)) []) c.args.lists.now c.hide_quad.new.lists)
    (c.smooth_quad-quad.ensures v placed all) c.in_ok-hide_quad.ensures in
    seen_placed_put v (values_of true c.args.seen.now.grid) c.args.cell f c.args.one_sided c.args.flip g c.args.lists.now c.hide_quad.new.lists placed all put
