use Rattle.std.proofs.Common.{◌≡◌, ◌^◌, ◌++◌, map}
use Rattle.std.specs.List.{range_with_len}
use Rattle.patches.specs.Boxes.{IsWithin}
use Rattle.patches.specs.Lists.{Each}
use Rattle.dice.specs.Grids.{line_at, row_points}
use Rattle.dice.proofs.grid.push_row.Given as goal

abbrev pub invariant-loop-k : goal.invariant-loop-k
invariant-loop-k g l =
    (l.points.items ≡ l.initial.points.items ++ row_points (g.S.Surface.point_of l.s) l.v (map (line_at l.piece.a l.piece.i l.p) (range_with_len 0 l.k)))
    × Each (IsWithin (2 ^ 30)) l.points.items
