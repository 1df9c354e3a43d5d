use Rattle.std.proofs.Common.{◌≡◌, map}
use Rattle.std.specs.List.{range_with_len}
use Rattle.patches.specs.Lists.{grid}
use Rattle.dice.specs.Grids.{line_at, lines}
use Rattle.dice.specs.Normals.{normal}
use Rattle.dice.proofs.normals.collect_normals.Given as goal

abbrev pub invariant-loop-l : goal.invariant-loop-l
invariant-loop-l g l =
    l.normals.items ≡ grid (normal (g.S.Surface.du_of l.s) (g.S.Surface.dv_of l.s)) (lines l.piece.a l.piece.i l.p) (map (line_at l.piece.b l.piece.j l.q) (range_with_len 0 l.l))
