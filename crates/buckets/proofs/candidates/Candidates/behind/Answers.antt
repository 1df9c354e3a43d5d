use Rattle.std.proofs.Common.{◌≡◌, ◌<◌, arith, length, get_or}
use Rattle.bound_split.specs.Extents.{pixels_of}
use Rattle.buckets.proofs.Gaps.{gap_behind}
use Rattle.buckets.proofs.candidates.Candidates.behind.Goals as goal

pub returns-clause-missed : goal.returns-clause-missed
returns-clause-missed c = λ f same are.
    let xs = c.args.self.now.numbers.items in
    let ys = c.as_slice-numbers.result.now in
    let low : c.args.place < length ys = omega (arith, c.if-place-numbers.false) in
    let at' : get_or ys c.args.place 0 ≡ c.args.number = omega (arith, c.if-numbers-place.false) in
    gap_behind f (pixels_of c.args.self.now.rect) xs ys c.args.place 0 c.args.number c.args.count c.next_at-next.result c.as_slice-numbers.ensures.value same are low at' c.next_at-next.ensures.value
