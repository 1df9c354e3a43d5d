use Rattle.std.proofs.Common.{◌≡◌, ◌∙◌, ◌+◌, ◌<◌, ◌≤◌, arith, ap, subst, sym, length, get_or, List, ℕ}
use Rattle.bound_split.specs.Extents.{pixels_of}
use Rattle.buckets.proofs.Gaps.{AreTaken, in_range, taken_all, taken_more, taken_not}
use Rattle.buckets.proofs.candidates.Candidates.within.Goals as goal
use Rattle.buckets.proofs.candidates.Candidates.within.Goals.{then-is_kept+in_ok-push, else-is_kept}

pub loop-place-preserved : goal.loop-place-preserved
loop-place-preserved c = λ f extents are.
    let old = c.args.self.now.numbers.items in
    let new = c.loop-place.numbers.items in
    let ys = c.as_slice-old.result.now in
    let i = c.loop-place.place in
    let m = get_or ys i 0 in
    let part = pixels_of c.args.part in
    let whole = pixels_of c.args.self.now.rect in
    let same = c.as_slice-old.ensures.value in
    let long = ap (λ (l : List ℕ). length l) same in
    let low : i < length old = omega (arith, long, c.loop-place-test.true) in
    let at' : m ≡ get_or old i m = ap (λ (l : List ℕ). get_or l i 0) same ∙ in_range old i 0 m low in
    let before = c.loop-place.invariant f extents are in
    elim c.if-is_kept.branch [
      | then-is_kept+in_ok-push w ↦ (subst (λ (l : List ℕ). AreTaken f part old l (i + 1)) (sym (ap (λ r. r.items) w.numbers-is ∙ w.in_ok-push.ensures.items)) (taken_more f part whole old new i m c.requires are low at' before))
      | else-is_kept w ↦ (subst (λ (l : List ℕ). AreTaken f part old l (i + 1)) (sym (ap (λ r. r.items) w.numbers-is)) (taken_not f part whole old new i m c.requires are low at' (c.is_kept.ensures f extents w.if-is_kept.false) before))
    ]

pub returns : goal.returns
returns c = λ f extents are.
    let old = c.args.self.now.numbers.items in
    let long = ap (λ (l : List ℕ). length l) c.as_slice-old.ensures.value in
    let over : length old ≤ c.loop-place.place = omega (arith, long, c.loop-place-test.false) in
    taken_all f (pixels_of c.args.part) old c.loop-place.numbers.items c.loop-place.place over (c.loop-place.invariant f extents are)
