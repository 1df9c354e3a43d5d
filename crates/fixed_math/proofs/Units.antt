-- Bounds of the unit vector.
use Rattle.std.proofs.Common.{◌≡◌, refl, sym, ap, ℕ, zero, suc, ℤ, pos, negsuc, neg_ℤ, Bool, ◌+◌, ◌*◌, ◌/◌, ◌^◌, ◌≤◌, ◌<◌, ◌≤ℤ◌, ◌*ℤ◌, true, false, arith}
use Rattle.std.proofs.lemmas.Int.{ints}
use Rattle.std.proofs.lemmas.Bool.Decides.{nat_tests}
use Rattle.std.specs.Int.RustNames.{unsigned_abs}
use borrow.Author.Tests.{lt-ltb}
use Rattle.std.proofs.Math.Nat.{mul-le-mul, div-one}
use Rattle.std.proofs.lemmas.Bool.{and_from}
use Rattle.fixed_math.specs.Whole.{floor_by}
use Rattle.fixed_math.specs.Unit.{fits_at, shift_for, shrunk, square, norm, part, unit_part}
use Rattle.fixed_math.proofs.Floor.{floor_by_ge, floor_by_lt}
use Rattle.fixed_math.proofs.Root.{isqrt_ge}
use Rattle.fixed_math.proofs.Logs.{first_passing_is}

pub fits_at_38 : (x y z : ℕ) → x < 2 ^ 100 → y < 2 ^ 100 → z < 2 ^ 100 → fits_at x y z 38 ≡ true
fits_at_38 x y z p q r =
    let hx : x / 2 ^ 38 < 2 ^ 62 = omega arith in
    let hy : y / 2 ^ 38 < 2 ^ 62 = omega arith in
    let hz : z / 2 ^ 38 < 2 ^ 62 = omega arith in
    rw (lt-ltb (x / 2 ^ 38) (2 ^ 62) hx, lt-ltb (y / 2 ^ 38) (2 ^ 62) hy, lt-ltb (z / 2 ^ 38) (2 ^ 62) hz)

pub fits_below : (x y z k : ℕ) → fits_at x y z k ≡ true → (x / 2 ^ k < 2 ^ 62) × (y / 2 ^ k < 2 ^ 62) × (z / 2 ^ k < 2 ^ 62)
fits_below x y z k h = grind (arith, nat_tests)

pub shift_for_is : (x y z k : ℕ) → k ≤ 38 → fits_at x y z k ≡ true → ((j : ℕ) → j < k → fits_at x y z j ≡ false) → k ≡ shift_for x y z
unfolding shift_for
shift_for_is x y z k h holds below = sym (first_passing_is 128 (fits_at x y z) k (omega arith) holds below)

-- ---- the parts are at most 1

abbrev pub sum_of_squares : ℤ → ℤ → ℤ → ℕ
sum_of_squares x y z = square x + square y + square z

square_small : (x : ℤ) → unsigned_abs x < 2 ^ 62 → square x < 2 ^ 124
square_small x h =
    let below : unsigned_abs x ≤ 4611686018427387903 = omega arith in
    let le : unsigned_abs x * unsigned_abs x ≤ 4611686018427387903 * 4611686018427387903 = mul-le-mul below below in omega arith

pub norm_ge : (x y z : ℤ) → unsigned_abs x < 2 ^ 62 → unsigned_abs y < 2 ^ 62 → unsigned_abs z < 2 ^ 62
    → (unsigned_abs x ≤ norm x y z) × (unsigned_abs y ≤ norm x y z) × (unsigned_abs z ≤ norm x y z)
unfolding norm
norm_ge x y z p q r =
    let small : sum_of_squares x y z < 2 ^ 128 = omega (arith, square_small x p, square_small y q, square_small z r) in (
      isqrt_ge (sum_of_squares x y z) (unsigned_abs x) small (omega arith),
      isqrt_ge (sum_of_squares x y z) (unsigned_abs y) small (omega arith),
      isqrt_ge (sum_of_squares x y z) (unsigned_abs z) small (omega arith),
    )

-- a whole number of magnitude at most n, over n
pub part_in_range : (c : ℤ) (n : ℕ) → unsigned_abs c ≤ n → (negsuc 65535 ≤ℤ part c n) × (part c n ≤ℤ pos 65536)
part_in_range c zero h = (omega (arith, ints), omega (arith, ints))
part_in_range c (suc n) h =
    let low = floor_by_ge (c *ℤ pos 65536) (negsuc 65535) (suc n) (omega arith) (omega (arith, ints)) in
    let high = floor_by_lt (c *ℤ pos 65536) (pos 65537) (suc n) (omega arith) (omega (arith, ints)) in
    (low, omega (arith, ints))

shrunk_none : (c : ℤ) → shrunk c 0 ≡ c
shrunk_none (pos a) = ap pos (div-one a)
shrunk_none (negsuc a) = ap (λ n. neg_ℤ (pos n)) (div-one (suc a))

fits_now : (x y z : ℕ) → x < 4611686018427387904 → y < 4611686018427387904 → z < 4611686018427387904 → fits_at x y z 0 ≡ true
fits_now x y z p q r =
    rw (div-one x, div-one y, div-one z) (and_from _ _ (lt-ltb x 4611686018427387904 p) (and_from _ _ (lt-ltb y 4611686018427387904 q) (lt-ltb z 4611686018427387904 r)))

none_below : (p : ℕ → Bool) (t : Bool) → (j : ℕ) → j < 0 → p j ≡ t
none_below p t j h = absurd (omega arith)

-- below 2 ^ 62 nothing is shifted
pub unit_part_is : (c x y z : ℤ) → unsigned_abs x < 4611686018427387904 → unsigned_abs y < 4611686018427387904 → unsigned_abs z < 4611686018427387904
    → part c (norm x y z) ≡ unit_part c x y z
unfolding unit_part
unit_part_is c x y z p q r =
    let now : 0 ≡ shift_for (unsigned_abs x) (unsigned_abs y) (unsigned_abs z) =
    shift_for_is (unsigned_abs x) (unsigned_abs y) (unsigned_abs z) 0 (omega arith) (fits_now _ _ _ p q r) (none_below _ _) in
    rw (← now, shrunk_none c, shrunk_none x, shrunk_none y, shrunk_none z)

pub part_is : (c : ℤ) (n : ℕ) → 0 < n → floor_by (c *ℤ pos 65536) n ≡ part c n
part_is c zero h = absurd (omega arith)
part_is c (suc n) h = refl

pub part_none : (c : ℤ) (n : ℕ) → n ≡ 0 → pos 0 ≡ part c n
part_none c n e = rw e refl
