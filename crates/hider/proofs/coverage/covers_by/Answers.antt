use Rattle.std.proofs.Common.{arith}
use Rattle.std.proofs.lemmas.Int.{ints}
use Rattle.fixed_math.proofs.Around.{edge_turned}
use Rattle.hider.proofs.coverage.covers_by.Goals as goal

pub covers_by_facing-requires-then-area-lt0 : goal.covers_by_facing-requires-then-area-lt0
covers_by_facing-requires-then-area-lt0 c =
    let t = edge_turned c.args.a.now.place c.args.b.now.place c.args.c.now.place in
    let v = c.edge_at-area.ensures.value in
    omega (arith, ints, t, v)
