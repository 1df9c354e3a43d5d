-- The samples that count for a pixel.
use Rattle.std.proofs.Common.{◌≡◌, ℕ, ◌+◌, ap, arith, sym, ◌∙◌, true, false, List, [], ◌∷◌, ◌++◌, map, filter, cond}
use Rattle.std.specs.Prelude.{ℤ, pos, not}
use Rattle.std.specs.Ordering.{int_eq}
use Rattle.std.specs.List.{range_with_len}
use Rattle.std.proofs.lemmas.Bool.Decides.{Decides-int_eq}
use Rattle.std.proofs.lemmas.List.{map_push, append-nil}
use Rattle.std.proofs.lemmas.List.FromFn.{filter_of_map_range_with_len_more}
use Rattle.scene.specs.Settings.{OptionValues}
use Rattle.hider.specs.declared.sample.Sample.{Sample}
use Rattle.hider.proofs.Cuts.{by_bool}
use Rattle.filter_ppm.specs.Weight.{weight_at}
use Rattle.pixel_account.specs.declared.stacks.Stack.{Stack}
use Rattle.pixel_account.specs.Account.{counts_for}

-- ---- the samples that count
eq_zero : (w : ℤ) → int_eq w (pos 0) ≡ true → w ≡ pos 0
eq_zero w e = (Decides-int_eq w (pos 0)).0 e

zero_eq : (w : ℤ) → w ≡ pos 0 → int_eq w (pos 0) ≡ true
zero_eq w e = (Decides-int_eq w (pos 0)).1 e

pub counts : (o : OptionValues) (x y : ℕ) (s : Sample) (w : ℤ) → w ≡ weight_at o x y s.place → (w ≡ pos 0 → ⊥) → counts_for o x y s ≡ true
unfolding counts_for
counts o x y s w is some =
    by_bool (int_eq (weight_at o x y s.place) (pos 0))
    (λ t. absurd (some (is ∙ eq_zero _ t)))
    (λ f. ap not f)

pub counts_not : (o : OptionValues) (x y : ℕ) (s : Sample) (w : ℤ) → w ≡ weight_at o x y s.place → w ≡ pos 0 → counts_for o x y s ≡ false
unfolding counts_for
counts_not o x y s w is none = ap not (zero_eq _ (sym is ∙ none))

-- the samples of a list of stacks, with one more that counts, and without one that doesn't
pub counting_more : (p : Sample → _) (g : ℕ → Sample) (n : ℕ) (ks : List Stack) (k : Stack) → map (λ j. j.sample) ks ≡ filter p (map g (range_with_len 0 n)) → k.sample ≡ g n → p (g n) ≡ true
    → map (λ j. j.sample) (ks ++ k ∷ []) ≡ filter p (map g (range_with_len 0 (n + 1)))
counting_more p g n ks k before is counted =
    let e : 0 + n ≡ n = omega arith in
    map_push (λ j. j.sample) ks k ∙ ap (λ l. l ++ k.sample ∷ []) before ∙ ap (λ (s : Sample). filter p (map g (range_with_len 0 n)) ++ s ∷ []) is
    ∙ ap (λ b. filter p (map g (range_with_len 0 n)) ++ cond b (g n ∷ []) []) (sym counted) ∙ sym (filter_of_map_range_with_len_more p g 0 n n e)

pub counting_same : (p : Sample → _) (g : ℕ → Sample) (n : ℕ) (ks : List Stack) → map (λ j. j.sample) ks ≡ filter p (map g (range_with_len 0 n)) → p (g n) ≡ false
    → map (λ j. j.sample) ks ≡ filter p (map g (range_with_len 0 (n + 1)))
counting_same p g n ks before left_out =
    let e : 0 + n ≡ n = omega arith in
    before ∙ sym (append-nil (filter p (map g (range_with_len 0 n)))) ∙ ap (λ b. filter p (map g (range_with_len 0 n)) ++ cond b (g n ∷ []) []) (sym left_out) ∙ sym (filter_of_map_range_with_len_more p g 0 n n e)
