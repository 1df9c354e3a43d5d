-- Lights that all lie below a bound: one at or past it isn't among them.
use Rattle.std.proofs.Common.{◌≡◌, refl, subst, sym, ap, ℕ, suc, ◌<◌, ◌≤◌, ◌==◌, nat_lt, nat_le, Bool, true, false, ◌&&◌, not, List, [], ◌∷◌, ◌++◌, Some, get_or, All, if◌then◌else◌, arith}
use Rattle.std.proofs.lemmas.List.Folds.{list_any_none}
use Rattle.std.proofs.lemmas.Bool.Decides.{nat_tests}
use Rattle.std.specs.List.{list_all}
use Rattle.scene_parts.specs.Lights.{is_among, without_light, made_before}

differs : (n k b : ℕ) → n < b → b ≤ k → (n == k) ≡ false
differs n k b low high = grind arith

pub none_past : (b k : ℕ) (ns : List ℕ) → All (λ n. n < b) ns → b ≤ k → is_among k ns ≡ false
none_past b k ns low high = list_any_none (λ n. n == k) ns (λ i d there. differs (get_or ns i d) k b (low i d there) high)

pub all_left : (b k : ℕ) (ns : List ℕ) → All (λ n. n < b) ns → b ≤ k → without_light k ns ≡ ns
all_left b k [] low high = refl
all_left b k (n ∷ ns) low high =
    subst (λ (t : Bool). (if not t then n ∷ without_light k ns else without_light k ns) ≡ n ∷ ns) (sym (differs n k b (low 0 n (omega arith)) high))
    (ap (λ ms. n ∷ ms) (all_left b k ns (λ i d there. low (suc i) d (omega (arith, there))) high))

is_before : (n k b : ℕ) → n < b → b ≤ k → nat_lt n k ≡ true
is_before n k b low high = grind (arith, nat_tests)

not_before : (n k : ℕ) → nat_le k n ≡ true → nat_lt n k ≡ false
not_before n k high = grind (arith, nat_tests, high)

both_true : (a b : Bool) → (a && b) ≡ true → (a ≡ true) × (b ≡ true)
both_true true true e = (refl, refl)
both_true true false e = cc
both_true false b e = cc

none_before : (k : ℕ) (ns : List ℕ) → list_all (λ n. nat_le k n) ns ≡ true → made_before (Some k) ns ≡ []
none_before k [] high = refl
none_before k (n ∷ ns) high =
    let e = both_true (nat_le k n) (list_all (λ m. nat_le k m) ns) high in
    subst (λ (t : Bool). (if t then n ∷ made_before (Some k) ns else made_before (Some k) ns) ≡ []) (sym (not_before n k e.0)) (none_before k ns e.1)

-- those below the bound were made before any light at or past it
pub earlier_first : (b k : ℕ) (es ls : List ℕ) → All (λ n. n < b) es → b ≤ k → list_all (λ n. nat_le k n) ls ≡ true → made_before (Some k) (es ++ ls) ≡ es
earlier_first b k [] ls low high late = none_before k ls late
earlier_first b k (n ∷ ns) ls low high late =
    subst (λ (t : Bool). (if t then n ∷ made_before (Some k) (ns ++ ls) else made_before (Some k) (ns ++ ls)) ≡ n ∷ ns) (sym (is_before n k b (low 0 n (omega arith)) high))
    (ap (λ ms. n ∷ ms) (earlier_first b k ns ls (λ i d there. low (suc i) d (omega (arith, there))) high late))
