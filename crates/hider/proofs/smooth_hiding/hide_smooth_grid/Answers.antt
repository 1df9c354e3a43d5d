use Rattle.std.proofs.Common.{true}
use Rattle.hider.specs.CellValues.{values_of, micropolygon_of}
use Rattle.hider.proofs.Flats.{same_at_all_times}
use Rattle.hider.proofs.Puts.{have_put_next}
use Rattle.hider.proofs.smooth_hiding.hide_smooth_grid.Goals as goal

pub loop-cell-preserved : goal.loop-cell-preserved
loop-cell-preserved c = λ v h.
    let g = c.args.seen.now.grid in
    let i = c.loop-cell.cell in
    have_put_next v c.args.places.now.grid (micropolygon_of (values_of true g) c.args.one_sided c.args.flip) i c.args.lists.now c.loop-cell.lists c.hide_smooth_at.new.lists (c.loop-cell.invariant v h)
    (same_at_all_times v true g.columns g.rows g.p.now g.ci.now g.oi.now i c.args.one_sided c.args.flip c.args.places.now.grid c.loop-cell.lists c.hide_smooth_at.new.lists
    (c.in_ok-hide_smooth_at.ensures v h))
