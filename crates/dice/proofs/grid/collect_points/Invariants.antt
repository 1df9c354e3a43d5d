use Rattle.std.proofs.Common.{◌≡◌, ◌^◌, map}
use Rattle.std.specs.List.{range_with_len}
use Rattle.patches.specs.Boxes.{IsWithin}
use Rattle.patches.specs.Lists.{Each, grid}
use Rattle.dice.specs.Grids.{line_at, lines}
use Rattle.dice.proofs.grid.collect_points.Given as goal

abbrev pub invariant-loop-l : goal.invariant-loop-l
invariant-loop-l g l =
    (l.points.items ≡ grid (g.S.Surface.point_of l.s) (lines l.piece.a l.piece.i l.p) (map (line_at l.piece.b l.piece.j l.q) (range_with_len 0 l.l)))
    × Each (IsWithin (2 ^ 30)) l.points.items
