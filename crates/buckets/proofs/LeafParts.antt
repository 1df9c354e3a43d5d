-- The leaves of a primitive: all are parts of it, and there are at most 65,536.
use Rattle.std.proofs.Common.{◌≡◌, ℕ, zero, suc, ◌+◌, ◌^◌, ◌≤◌, List, [], ◌∷◌, ◌++◌, length, refl, arith, length-append}
use Rattle.patches.specs.Parts.{Part, whole_of, low_u, high_u, low_v, high_v}
use Rattle.bound_split.specs.declared.splits.Decision.{Decision}
use Rattle.bound_split.specs.declared.splits.Decision.TheVariants.{SplitU, SplitV, Dice}
use Rattle.bound_split.specs.Leaves.{by_decision, leaves_to, leaves}

-- parts of primitive n
abbrev pub PartsOf : ℕ → List Part → Type 0
PartsOf n [] = Unit {0}
PartsOf n (p ∷ ps) = (p.prim ≡ n) × PartsOf n ps

both_of : (n : ℕ) (ps qs : List Part) → PartsOf n ps → PartsOf n qs → PartsOf n (ps ++ qs)
both_of n [] qs h k = k
both_of n (p ∷ ps) qs h k = (h.0, both_of n ps qs h.1 k)

by_any : (P : List Part → Type 0) (d : Decision) (u v l : List Part) → P u → P v → P l → P (by_decision d u v l)
by_any P SplitU u v l a b c = a
by_any P SplitV u v l a b c = b
by_any P (Dice p q) u v l a b c = c

parts_below : (n k : ℕ) (decide : Part → Decision) (p : Part) → p.prim ≡ n → PartsOf n (leaves_to k decide p)
unfolding leaves_to
parts_below n zero decide p is = (is, tt)
parts_below n (suc k) decide p is =
    by_any (PartsOf n) (decide p) _ _ _
    (both_of n (leaves_to k decide (low_u p)) (leaves_to k decide (high_u p)) (parts_below n k decide (low_u p) is) (parts_below n k decide (high_u p) is))
    (both_of n (leaves_to k decide (low_v p)) (leaves_to k decide (high_v p)) (parts_below n k decide (low_v p) is) (parts_below n k decide (high_v p) is))
    (is, tt)

pub leaves_are_parts : (n : ℕ) (decide : Part → Decision) → PartsOf n (leaves decide (whole_of n))
leaves_are_parts n decide = parts_below n 16 decide (whole_of n) refl

two_halves : (k : ℕ) (ps qs : List Part) → length ps ≤ 2 ^ k → length qs ≤ 2 ^ k → length (ps ++ qs) ≤ 2 ^ (suc k)
two_halves k ps qs a b =
    let n = length-append ps qs in
    let twice : 2 ^ (suc k) ≡ 2 ^ k + 2 ^ k = grind arith in
    omega (arith, n, twice, a, b)

some_power : (k : ℕ) → 1 ≤ 2 ^ k
some_power zero = omega arith
some_power (suc k) =
    let more = some_power k in
    let twice : 2 ^ (suc k) ≡ 2 ^ k + 2 ^ k = grind arith in
    omega (arith, twice, more)

few_below : (k : ℕ) (decide : Part → Decision) (p : Part) → length (leaves_to k decide p) ≤ 2 ^ k
unfolding leaves_to
few_below zero decide p = omega arith
few_below (suc k) decide p =
    by_any (λ ps. length ps ≤ 2 ^ (suc k)) (decide p) _ _ _
    (two_halves k (leaves_to k decide (low_u p)) (leaves_to k decide (high_u p)) (few_below k decide (low_u p)) (few_below k decide (high_u p)))
    (two_halves k (leaves_to k decide (low_v p)) (leaves_to k decide (high_v p)) (few_below k decide (low_v p)) (few_below k decide (high_v p)))
    (some_power (suc k))

pub few_leaves : (n : ℕ) (decide : Part → Decision) → length (leaves decide (whole_of n)) ≤ 65536
few_leaves n decide = few_below 16 decide (whole_of n)
