use Rattle.std.proofs.Common.{◌≡◌, ◌∙◌, ap, sym, refl, arith, ℕ, suc, ◌+◌, ◌<◌, ◌≤◌, List, [], ◌∷◌, ◌++◌, length, drop, append_assoc, drop_of_length-le, Option, Some, None, slice_index_or}
use Rattle.std.proofs.lemmas.List.{append-nil}
use Rattle.std.proofs.Math.Seq.{drop-cons}
use Rattle.fixed_math.specs.declared.decimal.Decimal.{Decimal}
use Rattle.fixed_math.specs.Decimal.{whole}
use Rattle.mesh_basis.specs.Ranges.{with_next}
use Rattle.mesh_basis.proofs.Runs.{with_front}
use Rattle.scene_parts.specs.Faces.{natural, naturals}
use Rattle.scene_parts.proofs.faces.naturals.Goals as goal

-- the numbers from one on
cut : (ds : List Decimal) (k : ℕ) (d : Decimal) → k < length ds → naturals (drop k ds) ≡ with_next (natural (whole (slice_index_or ds k d))) (naturals (drop (k + 1) ds))
cut ds k d h = ap naturals (drop-cons ds k d h) ∙ ap (λ n. with_next (natural (whole (slice_index_or ds k d))) (naturals (drop n ds))) (next k)
  where
    next : (k : ℕ) → suc k ≡ k + 1
    next k = omega arith

with_one : (xs : List ℕ) (n : ℕ) (o : Option (List ℕ)) → with_front xs (with_next (Some n) o) ≡ with_front (xs ++ n ∷ []) o
with_one xs n None = refl
with_one xs n (Some ys) = ap (λ l. Some l) (sym (append_assoc xs (n ∷ []) ys))

with_none : (xs : List ℕ) (o : Option (List ℕ)) → with_front xs (with_next None o) ≡ None
with_none xs None = refl
with_none xs (Some ys) = refl

one_more : (ds : List Decimal) (k : ℕ) (d : Decimal) (done more : List ℕ) (n : ℕ) (all : Option (List ℕ)) → k < length ds → natural (whole (slice_index_or ds k d)) ≡ Some n →
    more ≡ done ++ n ∷ [] → with_front done (naturals (drop k ds)) ≡ all → with_front more (naturals (drop (k + 1) ds)) ≡ all
one_more ds k d done more n all h e g inv =
    let rest = naturals (drop (k + 1) ds) in
    ap (λ xs. with_front xs rest) g ∙ sym (with_one done n rest) ∙ sym (ap (with_front done) (cut ds k d h ∙ ap (λ o. with_next o rest) e)) ∙ inv

one_none : (ds : List Decimal) (k : ℕ) (d : Decimal) (done : List ℕ) (all : Option (List ℕ)) → k < length ds → natural (whole (slice_index_or ds k d)) ≡ None →
    with_front done (naturals (drop k ds)) ≡ all → None ≡ all
one_none ds k d done all h e inv =
    let rest = naturals (drop (k + 1) ds) in
    sym (ap (with_front done) (cut ds k d h ∙ ap (λ o. with_next o rest) e) ∙ with_none done rest) ∙ inv

no_more : (ds : List Decimal) (k : ℕ) (done : List ℕ) (all : Option (List ℕ)) → length ds ≤ k → with_front done (naturals (drop k ds)) ≡ all → Some done ≡ all
no_more ds k done all h inv = ap (λ xs. Some xs) (sym (append-nil done)) ∙ sym (ap (λ rest. with_front done (naturals rest)) (drop_of_length-le ds h)) ∙ inv

pub loop-number-preserved : goal.loop-number-preserved
loop-number-preserved c =
    one_more c.args.numbers.now c.loop-number.number-index _ c.loop-number.all.items c.push.new.self.items c.in-Some.natural _ c.loop-number-test.true
    (sym c.natural.ensures ∙ c.in-Some.is) c.in_ok-push.ensures.items c.loop-number.invariant

pub returns-in_default : goal.returns-in_default
returns-in_default c =
    one_none c.args.numbers.now c.loop-number.number-index _ c.loop-number.all.items _ c.loop-number-test.true (sym c.natural.ensures ∙ c.in_default.is) c.loop-number.invariant

pub returns : goal.returns
returns c = no_more c.args.numbers.now c.loop-number.number-index c.loop-number.all.items _ c.loop-number-test.false c.loop-number.invariant
