use Rattle.std.proofs.Common.{◌≤◌, List, length, subst, sym}
use Rattle.buckets.specs.declared.candidates.Candidates.{Candidates}
use Rattle.buckets.proofs.Gaps.{narrowed_less}
use Rattle.buckets.proofs.narrowing.narrow_to.Goals as goal

pub returns-in_err-narrow : goal.returns-in_err-narrow
returns-in_err-narrow c = λ f extents are.
    let some = c.holding-count.ensures (subst (λ (l : List Candidates). 1 ≤ length l) (sym c.as_slice.ensures.value) c.requires) in
    c.narrow.ensures.each f extents (c.loop.invariant.each f extents (narrowed_less f c.args.narrowed.now.items c.truncate.new.self.items c.holding-count.result c.truncate.ensures.items some are))

pub returns-then-not-branch : goal.returns-then-not-branch
returns-then-not-branch c = λ f extents are.
    let some = c.holding-count.ensures (subst (λ (l : List Candidates). 1 ≤ length l) (sym c.as_slice.ensures.value) c.requires) in
    c.narrow.ensures.each f extents (c.loop.invariant.each f extents (narrowed_less f c.args.narrowed.now.items c.truncate.new.self.items c.holding-count.result c.truncate.ensures.items some are))

pub returns : goal.returns
returns c = λ f extents are.
    let some = c.holding-count.ensures (subst (λ (l : List Candidates). 1 ≤ length l) (sym c.as_slice.ensures.value) c.requires) in
    c.loop.invariant.each f extents (narrowed_less f c.args.narrowed.now.items c.truncate.new.self.items c.holding-count.result c.truncate.ensures.items some are)
