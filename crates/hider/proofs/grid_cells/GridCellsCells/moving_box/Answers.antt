use Rattle.std.proofs.Common.{subst}
use Rattle.std.specs.Prelude.{All}
use Rattle.fixed_math.specs.Axes.{IsInBox}
use Rattle.hider.specs.CellValues.{corners_when, values_of}
use Rattle.hider.proofs.Boxes.{four_held}
use Rattle.hider.proofs.CellsHeld.{enclosed}
use Rattle.hider.proofs.grid_cells.GridCellsCells.moving_box.Goals as goal

pub returns : goal.returns
returns c =
    let v = values_of c.args.self.now.smooth c.args.self.now.grid in
    let i = c.args.cell in
    let b = c.around.result in
    let first : All (IsInBox b.low b.high) (corners_when v i 0) = subst (All (IsInBox b.low b.high)) c.corners-corners.ensures c.around.ensures.opening in
    let last : All (IsInBox b.closing_low b.closing_high) (corners_when v i 0) = subst (All (IsInBox b.closing_low b.closing_high)) c.corners-corners.ensures c.around.ensures.closing in
    enclosed v i b
    (λ k t l h. four_held (IsInBox b.low b.high) (λ n. v.corner i n 0) first k l)
    (λ k t l h. four_held (IsInBox b.closing_low b.closing_high) (λ n. v.corner i n 0) last k l)
