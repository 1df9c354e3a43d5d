-- The power of two by a table of four bits and twelve factors.
use Rattle.std.proofs.Common.{◌≡◌, refl, ap, ◌∙◌, ℕ, zero, suc, ◌+◌, ◌*◌, ◌/◌, ◌^◌, ◌≤◌, ◌<◌, arith, true, List, [], ◌∷◌, length, get_or}
use Rattle.std.specs.Prelude.{◌&&◌, ◌==◌, nat_le}
use Rattle.std.proofs.lemmas.Bool.{and_parts, eqb-true, leb-true}
use Rattle.std.proofs.Math.Nat.{div-div-eq-div-mul}
use Rattle.fixed_math.specs.Root.{isqrt, isqrt_from}
use Rattle.fixed_math.specs.Power.{exp_bits}
use Rattle.fixed_math.specs.PowerTable.{factor, high_power, with_middle, with_low, checked}

-- ---- the table

pub record IsPower (j x : ℕ) : Type 0 where
  pub value : x ≡ high_power j
  pub low : 1073741824 ≤ x
  pub high : x ≤ 2147483648

pub checked_at : (xs : List ℕ) (j k : ℕ) → checked xs j ≡ true → k < length xs → IsPower (j + k) (get_or xs k 0)
checked_at [] j k h le = absurd (omega arith)
checked_at (x ∷ xs) j zero h le =
    let parts = and_parts (x == high_power j && (nat_le 1073741824 x && nat_le x 2147483648)) (checked xs (j + 1)) h in
    let one = and_parts (x == high_power j) (nat_le 1073741824 x && nat_le x 2147483648) parts.0 in
    let two = and_parts (nat_le 1073741824 x) (nat_le x 2147483648) one.1 in
    let j_is : j + 0 ≡ j = omega arith in
    rw j_is (record { value = eqb-true x (high_power j) one.0; low = leb-true 1073741824 x two.0; high = leb-true x 2147483648 two.1 })
checked_at (x ∷ xs) j (suc k) h le =
    let parts = and_parts (x == high_power j && (nat_le 1073741824 x && nat_le x 2147483648)) (checked xs (j + 1)) h in
    let j_is : j + suc k ≡ j + 1 + k = omega arith in
    let less : k < length xs = omega arith in
    rw j_is (checked_at xs (j + 1) k parts.1 less)

pub table_at : (xs : List ℕ) (k : ℕ) → checked xs 0 ≡ true → k < length xs → IsPower k (get_or xs k 0)
table_at xs k h le = let k_is : 0 + k ≡ k = omega arith in rw k_is at (checked_at xs 0 k h le)

-- ---- the steps

step : (k f m r s : ℕ) → isqrt (r * 1073741824) ≡ s → exp_bits (suc k) f m r ≡ exp_bits k f (factor k f m s) s
unfolding exp_bits
step k f m r s e = rw e

root_1 : isqrt (2147483648 * 1073741824) ≡ 1518500249
unfolding isqrt isqrt_from
root_1 = refl

root_2 : isqrt (1518500249 * 1073741824) ≡ 1276901416
unfolding isqrt isqrt_from
root_2 = refl

root_3 : isqrt (1276901416 * 1073741824) ≡ 1170923761
unfolding isqrt isqrt_from
root_3 = refl

root_4 : isqrt (1170923761 * 1073741824) ≡ 1121280435
unfolding isqrt isqrt_from
root_4 = refl

root_5 : isqrt (1121280435 * 1073741824) ≡ 1097253707
unfolding isqrt isqrt_from
root_5 = refl

root_6 : isqrt (1097253707 * 1073741824) ≡ 1085434105
unfolding isqrt isqrt_from
root_6 = refl

root_7 : isqrt (1085434105 * 1073741824) ≡ 1079572135
unfolding isqrt isqrt_from
root_7 = refl

root_8 : isqrt (1079572135 * 1073741824) ≡ 1076653032
unfolding isqrt isqrt_from
root_8 = refl

root_9 : isqrt (1076653032 * 1073741824) ≡ 1075196442
unfolding isqrt isqrt_from
root_9 = refl

root_10 : isqrt (1075196442 * 1073741824) ≡ 1074468886
unfolding isqrt isqrt_from
root_10 = refl

root_11 : isqrt (1074468886 * 1073741824) ≡ 1074105293
unfolding isqrt isqrt_from
root_11 = refl

root_12 : isqrt (1074105293 * 1073741824) ≡ 1073923543
unfolding isqrt isqrt_from
root_12 = refl

root_13 : isqrt (1073923543 * 1073741824) ≡ 1073832679
unfolding isqrt isqrt_from
root_13 = refl

root_14 : isqrt (1073832679 * 1073741824) ≡ 1073787250
unfolding isqrt isqrt_from
root_14 = refl

root_15 : isqrt (1073787250 * 1073741824) ≡ 1073764536
unfolding isqrt isqrt_from
root_15 = refl

root_16 : isqrt (1073764536 * 1073741824) ≡ 1073753179
unfolding isqrt isqrt_from
root_16 = refl

-- the bits from the twelfth on are those of f / 4096
high_bit : (k f m s p q : ℕ) → p ≡ 4096 * q → 2 ^ (k + 12) ≡ p → 2 ^ k ≡ q → factor (k + 12) f m s ≡ factor k (f / 4096) m s
high_bit k f m s p q e a b = rw (a, b, e, ← div-div-eq-div-mul f 4096 q)

low_half : (f m : ℕ) → exp_bits 8 f m 1076653032 ≡ with_low f m
unfolding exp_bits
low_half f m =
    step 7 f m 1076653032 1075196442 root_9
    ∙ step 6 f _ 1075196442 1074468886 root_10
    ∙ step 5 f _ 1074468886 1074105293 root_11
    ∙ step 4 f _ 1074105293 1073923543 root_12
    ∙ step 3 f _ 1073923543 1073832679 root_13
    ∙ step 2 f _ 1073832679 1073787250 root_14
    ∙ step 1 f _ 1073787250 1073764536 root_15
    ∙ step 0 f _ 1073764536 1073753179 root_16

twelve : (f m : ℕ) → exp_bits 12 f m 1121280435 ≡ with_low f (with_middle f m)
twelve f m =
    step 11 f m 1121280435 1097253707 root_5
    ∙ step 10 f _ 1097253707 1085434105 root_6
    ∙ step 9 f _ 1085434105 1079572135 root_7
    ∙ step 8 f _ 1079572135 1076653032 root_8
    ∙ low_half f _

high_step : (k f m r s p q : ℕ) → p ≡ 4096 * q → 2 ^ (k + 12) ≡ p → 2 ^ k ≡ q → isqrt (r * 1073741824) ≡ s → exp_bits (suc (k + 12)) f m r ≡ exp_bits (k + 12) f (factor k (f / 4096) m s) s
high_step k f m r s p q e a b root = step (k + 12) f m r s root ∙ ap (λ x. exp_bits (k + 12) f x s) (high_bit k f m s p q e a b)

pub sixteen : (f : ℕ) → exp_bits 16 f 1073741824 2147483648 ≡ with_low f (with_middle f (high_power (f / 4096)))
sixteen f =
    high_step 3 f 1073741824 2147483648 1518500249 32768 8 refl refl refl root_1
    ∙ high_step 2 f _ 1518500249 1276901416 16384 4 refl refl refl root_2
    ∙ high_step 1 f _ 1276901416 1170923761 8192 2 refl refl refl root_3
    ∙ high_step 0 f _ 1170923761 1121280435 4096 1 refl refl refl root_4
    ∙ twelve f _
