use Rattle.bound_split.specs.Extents.{pixels_of}
use Rattle.buckets.proofs.Gaps.{last_is, some_map}
use Rattle.buckets.proofs.Narrowed.{misses_part}
use Rattle.std.proofs.Common.{refl}
use Rattle.buckets.proofs.narrowing.behind.Goals as goal

pub returns-clause-missed : goal.returns-clause-missed
returns-clause-missed c =
    let xs = c.args.narrowed.now in
    let last = c.last_of-last.result.now in
    some_map c.behind.result
    (λ next missed f same are k from to. misses_part f (pixels_of c.args.tile) (pixels_of last.rect) k (c.lies_in.ensures c.if-not-lies_in.false) (missed f same (last_is f xs xs last refl are c.last_of-last.ensures) k from to))
    c.behind.ensures.missed
