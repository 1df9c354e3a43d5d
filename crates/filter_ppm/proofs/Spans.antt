-- The pixels for which a sample counts.
use Rattle.std.proofs.Common.{◌≡◌, arith, ℕ, ◌+◌, ◌*◌, ◌<◌, ◌≤◌, sym, ℤ, pos, ◌+ℤ◌, ◌-ℤ◌, ◌*ℤ◌, true, false, to_z, of_z}
use Rattle.std.specs.Int.{w64}
use Rattle.std.specs.Prelude.{◌≤ℤ◌, ◌<ℤ◌, neg_ℤ, int_le, int_lt, unsigned_abs}
use Rattle.std.proofs.lemmas.Int.{ints, by_lt_z}
use Rattle.std.proofs.lemmas.Bool.{and_from}
use Rattle.fixed_math.specs.Whole.{floor_by}
use Rattle.fixed_math.proofs.Floor.{floor_by_le, floor_by_gt}
use Rattle.filter_ppm.specs.Weight.{counts}
use Rattle.filter_ppm.proofs.Filters.{left_of, right_of}

pub by_lt : {P : Type 0} (a b : ℕ) → (a < b → P) → (b ≤ a → P) → P
by_lt a b f g = by_lt_z (pos a) (pos b) (λ l. f (omega (arith, ints))) (λ l. g (omega (arith, ints)))

pub by_place : {P : Type 0} (i x : ℕ) → (i < x → P) → (i ≡ x → P) → (x < i → P) → P
by_place i x f g h = by_lt i x f (λ le. by_lt x i h (λ ge. g (omega arith)))

pub pixels_small : (n : ℤ) → unsigned_abs n ≤ 536875264 → unsigned_abs (floor_by n 512) ≤ 1048600
pixels_small n h =
    let l = floor_by_le n 512 (omega arith) in
    let g = floor_by_gt n 512 (omega arith) in
    omega (arith, ints, l, g)

le_true : (x y : ℤ) → x ≤ℤ y → int_le x y ≡ true
le_true x y h = let e : true ≡ int_le x y = omega (arith, ints) in sym e

lt_true : (x y : ℤ) → x <ℤ y → int_lt x y ≡ true
lt_true x y h = let e : true ≡ int_lt x y = omega (arith, ints) in sym e

pub counts_true : (w : ℕ) (d : ℤ) → neg_ℤ (pos w) ≤ℤ (pos 2 *ℤ d) → (pos 2 *ℤ d) <ℤ pos w → counts w d ≡ true
counts_true w d l r = and_from (int_le (neg_ℤ (pos w)) (pos 2 *ℤ d)) (int_lt (pos 2 *ℤ d) (pos w)) (le_true _ _ l) (lt_true _ _ r)

pub reached : (w : ℕ) (s : ℤ) (x : ℕ) → (floor_by (pos 2 *ℤ s -ℤ pos 256 -ℤ pos w) 512 +ℤ pos 1) ≤ℤ pos x → pos x <ℤ (floor_by (pos 2 *ℤ s -ℤ pos 256 +ℤ pos w) 512 +ℤ pos 1)
    → counts w (s -ℤ pos (256 * x + 128)) ≡ true
reached w s x low high =
    let g = floor_by_gt (pos 2 *ℤ s -ℤ pos 256 -ℤ pos w) 512 (omega arith) in
    let l = floor_by_le (pos 2 *ℤ s -ℤ pos 256 +ℤ pos w) 512 (omega arith) in
    counts_true w (s -ℤ pos (256 * x + 128)) (omega (arith, ints, l, high)) (omega (arith, ints, g, low))

pub not_before : (w : ℕ) (s : ℤ) (x : ℕ) → pos x <ℤ (floor_by (pos 2 *ℤ s -ℤ pos 256 -ℤ pos w) 512 +ℤ pos 1) → counts w (s -ℤ pos (256 * x + 128)) ≡ false
not_before w s x low =
    let l = floor_by_le (pos 2 *ℤ s -ℤ pos 256 -ℤ pos w) 512 (omega arith) in
    right_of w (s -ℤ pos (256 * x + 128)) (omega (arith, ints, l, low))

pub not_behind : (w : ℕ) (s : ℤ) (x : ℕ) → (floor_by (pos 2 *ℤ s -ℤ pos 256 +ℤ pos w) 512 +ℤ pos 1) ≤ℤ pos x → counts w (s -ℤ pos (256 * x + 128)) ≡ false
not_behind w s x high =
    let g = floor_by_gt (pos 2 *ℤ s -ℤ pos 256 +ℤ pos w) 512 (omega arith) in
    left_of w (s -ℤ pos (256 * x + 128)) (omega (arith, ints, g, high))

pub one_more_read : (r f : ℤ) → unsigned_abs r ≤ 1048600 → r ≡ f → to_z w64 (of_z w64 (to_z w64 (of_z w64 r) +ℤ pos 1)) ≡ f +ℤ pos 1
one_more_read r f h e = rw (← e) (omega (arith, ints))
