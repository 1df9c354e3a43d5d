-- One digit more.
use Rattle.std.proofs.Common.{◌≡◌, ℕ, ◌+◌, ◌-◌, ◌*◌, ◌^◌, ◌≤◌, ◌<◌, ◌∷◌, [], ◌++◌, ◌⊎◌, inl, inr, List, length, take, drop, suc, Bool, true, false, cond, eqb, refl, sym, ap, ◌∙◌, subst, arith, length-append, length-take, min, lit<}
use Rattle.std.specs.List.{prefix_len}
use Rattle.std.proofs.Math.Nat.{pow-le-pow_right}
use Rattle.std.proofs.lemmas.List.{take-append-le, take_all}
use Rattle.std.proofs.lemmas.List.Sums.{fold-append}
use Rattle.fixed_math.specs.Digits.{significant, value_of, IsDigitsOf}
use Rattle.fixed_math.specs.declared.digits.Digits.{Digits}

pub pow_bound : (k : ℕ) → k < 18 → 10 ^ k ≤ 100000000000000000
pow_bound k h = pow-le-pow_right (lit< tt) {j = 17} (omega arith)

dropped : (t : Bool) (n d : ℕ) (ds : List ℕ) → drop (cond t (1 + n) 0) (d ∷ ds) ≡ cond t (drop n ds) (d ∷ ds)
dropped true n d ds = let e : 1 + n ≡ suc n = omega arith in ap (λ k. drop k (d ∷ ds)) e
dropped false n d ds = refl

step : (d : ℕ) (ds : List ℕ) → significant (d ∷ ds) ≡ cond (eqb d 48) (significant ds) (d ∷ ds)
step d ds = dropped (eqb d 48) (prefix_len (λ x. eqb x 48) ds) d ds

more : (t : Bool) (d b : ℕ) (ds : List ℕ) → ((0 < length (significant ds)) ⊎ (eqb b 48 ≡ false) → significant (ds ++ b ∷ []) ≡ significant ds ++ b ∷ [])
    → (0 < length (cond t (significant ds) (d ∷ ds))) ⊎ (eqb b 48 ≡ false)
    → cond t (significant (ds ++ b ∷ [])) (d ∷ (ds ++ b ∷ [])) ≡ cond t (significant ds) (d ∷ ds) ++ b ∷ []
more true d b ds hyp h = hyp h
more false d b ds hyp h = refl

pub significant-more : (ds : List ℕ) (b : ℕ) → (0 < length (significant ds)) ⊎ (eqb b 48 ≡ false) → significant (ds ++ b ∷ []) ≡ significant ds ++ b ∷ []
significant-more [] b (inl h) = absurd (omega arith)
significant-more [] b (inr h) = step b [] ∙ ap (λ t. cond t [] (b ∷ [])) h
significant-more (d ∷ ds) b h =
    step d (ds ++ b ∷ [])
    ∙ more (eqb d 48) d b ds (significant-more ds b) (subst (λ xs. (0 < length xs) ⊎ (eqb b 48 ≡ false)) (step d ds) h)
    ∙ ap (λ xs. xs ++ b ∷ []) (sym (step d ds))

zeros : (t : Bool) (d b : ℕ) (ds : List ℕ) → (length (significant ds) ≡ 0 → significant (ds ++ b ∷ []) ≡ [])
    → length (cond t (significant ds) (d ∷ ds)) ≡ 0 → cond t (significant (ds ++ b ∷ [])) (d ∷ (ds ++ b ∷ [])) ≡ []
zeros true d b ds hyp h = hyp h
zeros false d b ds hyp h = absurd (omega arith)

pub significant-zero : (ds : List ℕ) (b : ℕ) → eqb b 48 ≡ true → length (significant ds) ≡ 0 → significant (ds ++ b ∷ []) ≡ []
significant-zero [] b z h = step b [] ∙ ap (λ t. cond t [] (b ∷ [])) z
significant-zero (d ∷ ds) b z h =
    step d (ds ++ b ∷ []) ∙ zeros (eqb d 48) d b ds (significant-zero ds b z) (subst (λ xs. length xs ≡ 0) (step d ds) h)

none_left : (xs : List ℕ) → length xs ≡ 0 → xs ≡ []
none_left [] h = refl
none_left (x ∷ xs) h = absurd (omega arith)

module _ (ds : List ℕ) (b : ℕ) (d : Digits) (is : IsDigitsOf ds d) where
  kept_len : d.kept ≡ min 18 (length (significant ds))
  kept_len = is.kept ∙ length-take 18 (significant ds)

  pub add-zero : d.kept ≡ 0 → eqb b 48 ≡ true → IsDigitsOf (ds ++ b ∷ []) d
  add-zero none zero_b =
      let empty : length (significant ds) ≡ 0 = omega (arith, kept_len) in
      let e : significant ds ≡ significant (ds ++ b ∷ []) = none_left (significant ds) empty ∙ sym (significant-zero ds b zero_b empty) in
      record {
        value = is.value ∙ ap (λ xs. value_of (take 18 xs)) e;
        kept = is.kept ∙ ap (λ xs. length (take 18 xs)) e;
        dropped = is.dropped ∙ ap (λ xs. length xs - 18) e;
      }

  pub add-full : (e : Digits) → 18 ≤ d.kept → e.value ≡ d.value → e.kept ≡ d.kept → e.dropped ≡ d.dropped + 1 → IsDigitsOf (ds ++ b ∷ []) e
  add-full e full value kept drops =
      let grown : significant (ds ++ b ∷ []) ≡ significant ds ++ b ∷ [] = significant-more ds b (inl (omega (arith, kept_len))) in
      let same : take 18 (significant ds) ≡ take 18 (significant (ds ++ b ∷ [])) =
      sym (ap (take 18) grown ∙ take-append-le 18 (significant ds) (b ∷ []) (omega (arith, kept_len))) in
      let len : length (significant (ds ++ b ∷ [])) ≡ length (significant ds) + 1 = ap length grown ∙ length-append (significant ds) (b ∷ []) in
      record {
        value = value ∙ is.value ∙ ap value_of same;
        kept = kept ∙ is.kept ∙ ap length same;
        dropped = omega (arith, drops, is.dropped, len, kept_len);
      }

  pub add-more : (e : Digits) → d.kept < 18 → (0 < d.kept) ⊎ (eqb b 48 ≡ false) → e.value ≡ d.value * 10 + (b - 48) → e.kept ≡ d.kept + 1 → e.dropped ≡ d.dropped → IsDigitsOf (ds ++ b ∷ []) e
  add-more e few some value kept drops =
      let few_len : length (significant ds) < 18 = omega (arith, kept_len) in
      let grown : significant (ds ++ b ∷ []) ≡ significant ds ++ b ∷ [] = significant-more ds b (positive some) in
      let len : length (significant (ds ++ b ∷ [])) ≡ length (significant ds) + 1 = ap length grown ∙ length-append (significant ds) (b ∷ []) in
      let now : take 18 (significant ds) ≡ significant ds = take_all 18 (significant ds) (omega arith) in
      let then : take 18 (significant (ds ++ b ∷ [])) ≡ significant ds ++ b ∷ [] = take_all 18 (significant (ds ++ b ∷ [])) (omega arith) ∙ grown in
      record {
        value = value ∙ ap (λ v. v * 10 + (b - 48)) (is.value ∙ ap value_of now)
            ∙ sym (fold-append (λ n x. n * 10 + (x - 48)) 0 (significant ds) (b ∷ [])) ∙ ap value_of (sym then);
        kept = omega (arith, kept, kept_len, len, ap length then, length-append (significant ds) (b ∷ []));
        dropped = omega (arith, drops, is.dropped, len);
      }
    where
      positive : (0 < d.kept) ⊎ (eqb b 48 ≡ false) → (0 < length (significant ds)) ⊎ (eqb b 48 ≡ false)
      positive (inl h) = inl (omega (arith, kept_len))
      positive (inr h) = inr h
