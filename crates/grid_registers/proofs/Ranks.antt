-- The place of a number in a list whose numbers rise.
use Rattle.std.proofs.Common.{◌≡◌, ℕ, zero, suc, ◌<◌, ◌==◌, Bool, true, false, cond, List, [], ◌∷◌, length, get_or, refl, sym, ap, ◌∙◌, arith, ⊎_elim, true≢false}
use Rattle.std.specs.Prelude.{◌||◌}
use Rattle.std.specs.List.{list_any}
use Rattle.std.specs.List.Sorted.{IsStrictlyIncreasing}
use Rattle.std.proofs.lemmas.List.Kept.{AllPairs-from_increasing}
use Rattle.std.proofs.lemmas.Bool.{cond-true, cond-false, eq-eqb, ne_eqb, cases_eq}
use Rattle.builtins.specs.declared.shape.Shape.{Shape}
use Rattle.grid_code.specs.declared.register_set.RegisterSet.{RegisterSet}
use Rattle.grid_code.specs.Uses.{numbers_of, is_in}
use Rattle.grid_code.proofs.Found.{rises}
use Rattle.grid_registers.specs.Held.{rank}

rising : (xs : List ℕ) → IsStrictlyIncreasing xs → (i j : ℕ) → i < j → j < length xs → get_or xs i 0 < get_or xs j 0
rising xs up i j le below = grind (arith, AllPairs-from_increasing xs up i j 0)

rank_of_item : (xs : List ℕ) → ((i j : ℕ) → i < j → j < length xs → get_or xs i 0 < get_or xs j 0) → (i : ℕ) → i < length xs → rank xs (get_or xs i 0) ≡ i
rank_of_item [] up i l = absurd (omega arith)
rank_of_item (x ∷ xs) up zero l = cond-true (x == x) _ _ (eq-eqb x x refl)
rank_of_item (x ∷ xs) up (suc i) l =
    let below : x < get_or xs i 0 = up 0 (suc i) (omega arith) l in
    cond-false (x == get_or xs i 0) _ _ (ne_eqb x (get_or xs i 0) (λ e. let z = e in absurd (omega arith)))
    ∙ ap suc (rank_of_item xs (λ a b p q. up (suc a) (suc b) (omega arith) (omega arith)) i (omega arith))

pub rank_found : (s : RegisterSet) (shape : Shape) (k i : ℕ) → i < length (numbers_of s shape) → get_or (numbers_of s shape) i 0 ≡ k → i ≡ rank (numbers_of s shape) k
rank_found s shape k i l e = sym (ap (rank (numbers_of s shape)) (sym e) ∙ rank_of_item (numbers_of s shape) (rising _ (rises s shape)) i l)

rank_cons : (x : ℕ) (xs : List ℕ) (k : ℕ) (b : Bool) → (x == k) ≡ b → (b ≡ false → (rank xs k < length xs) × (get_or xs (rank xs k) 0 ≡ k)) → (cond b 0 (suc (rank xs k)) < length (x ∷ xs)) × (get_or (x ∷ xs) (cond b 0 (suc (rank xs k))) 0 ≡ k)
rank_cons x xs k true e rest = (omega arith, ⊎_elim (λ same. same) (λ other. absurd (true≢false (sym e ∙ ne_eqb x k other))) (cases_eq x k))
rank_cons x xs k false e rest = let r = rest refl in let l = r.0 in (omega arith, r.1)

right_one : (a b : Bool) → (a || b) ≡ true → a ≡ false → b ≡ true
right_one true b h e = absurd (true≢false e)
right_one false b h e = h

rank_in_list : (xs : List ℕ) (k : ℕ) → list_any (λ x. x == k) xs ≡ true → (rank xs k < length xs) × (get_or xs (rank xs k) 0 ≡ k)
rank_in_list [] k h = absurd (true≢false (sym h))
rank_in_list (x ∷ xs) k h = rank_cons x xs k (x == k) refl (λ e. rank_in_list xs k (right_one (x == k) (list_any (λ x. x == k) xs) h e))

pub rank_in : (s : RegisterSet) (shape : Shape) (k : ℕ) → is_in s shape k ≡ true → rank (numbers_of s shape) k < length (numbers_of s shape)
rank_in s shape k h = (rank_in_list (numbers_of s shape) k h).0

-- registers of a set are the same where their places are
pub rank_same : (s : RegisterSet) (shape : Shape) (k j : ℕ) → is_in s shape k ≡ true → is_in s shape j ≡ true → (rank (numbers_of s shape) k == rank (numbers_of s shape) j) ≡ (k == j)
rank_same s shape k j hk hj =
    let xs = numbers_of s shape in
    ⊎_elim
    (λ e. eq-eqb _ _ (ap (rank xs) e) ∙ sym (eq-eqb k j e))
    (λ ne. ne_eqb _ _ (λ e. ne (sym (rank_in_list xs k hk).1 ∙ ap (λ n. get_or xs n 0) e ∙ (rank_in_list xs j hj).1)) ∙ sym (ne_eqb k j ne))
    (cases_eq k j)
