use Rattle.std.proofs.Common.{subst}
use Rattle.hider.specs.CellValues.{corners_when}
use Rattle.hider.specs.Extents.{IsBelowAll, IsAboveAll}
use Rattle.hider.proofs.CellsHeld.{enclosed, held_between}
use Rattle.hider.proofs.cells.Cells.moving_box.Goals as goal

pub returns : goal.returns
returns g c =
    let v = g.Self.Cells.values c.args.self.now in
    let i = c.args.cell in
    let lo = c.low_of_two-low.result in
    let hi = c.high_of_two-high.result in
    let below_first : IsBelowAll lo (corners_when v i 0) = subst (IsBelowAll lo) c.corners-first.ensures c.low_of_two-low.ensures.first in
    let below_last : IsBelowAll lo (corners_when v i 65535) = subst (IsBelowAll lo) c.corners-last.ensures c.low_of_two-low.ensures.last in
    let above_first : IsAboveAll hi (corners_when v i 0) = subst (IsAboveAll hi) c.corners-first.ensures c.high_of_two-high.ensures.first in
    let above_last : IsAboveAll hi (corners_when v i 65535) = subst (IsAboveAll hi) c.corners-last.ensures c.high_of_two-high.ensures.last in
    let held = held_between v i lo hi (g.met.Self.Cells.between c.args.self.now) c.requires below_first below_last above_first above_last in
    enclosed v i (record { low = lo; high = hi; closing_low = lo; closing_high = hi }) held held
