use Rattle.std.proofs.Common.{◌≡◌, ◌++◌, map}
use Rattle.std.specs.List.{range_with_len}
use Rattle.dice.specs.Grids.{line_at, row_points}
use Rattle.dice.specs.Normals.{normal}
use Rattle.dice.proofs.normals.push_normals.Given as goal

abbrev pub invariant-loop-k : goal.invariant-loop-k
invariant-loop-k g l =
    l.normals.items ≡ l.initial.normals.items ++ row_points (normal (g.S.Surface.du_of l.s) (g.S.Surface.dv_of l.s)) l.v (map (line_at l.piece.a l.piece.i l.p) (range_with_len 0 l.k))
