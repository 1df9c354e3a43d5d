-- Unit vectors of vectors whose length is nearly 1, and of all whose numbers have 32 bits.
use Rattle.std.proofs.Common.{◌≡◌, sym, ap, ◌∙◌, ℕ, ◌+◌, ◌*◌, ◌<◌, ◌≤◌, ℤ, pos, neg_ℤ, negsuc, ◌+ℤ◌, ◌-ℤ◌, ◌*ℤ◌, ◌≤ℤ◌, ◌<ℤ◌, arith, w32, FitsSigned}
use Rattle.std.specs.Int.RustNames.{unsigned_abs}
use Rattle.std.proofs.lemmas.Int.{ints, unsigned_abs-mul}
use Rattle.std.proofs.Math.Nat.{mul-le-mul}
use Rattle.fixed_math.specs.Root.{isqrt}
use Rattle.fixed_math.specs.Unit.{norm, part, unit_part}
use Rattle.fixed_math.specs.Whole.{floor_by}
use Rattle.fixed_math.proofs.Floor.{floor_by-add, floor_by_unique}
use Rattle.fixed_math.proofs.Ring.{expand}
use Rattle.fixed_math.proofs.Root.{isqrt_is}
use Rattle.fixed_math.proofs.Units.{norm_ge, part_is, unit_part_is}

-- a quotient of a number that is at most twice as far from 0 as n
quotient_is : (t q : ℤ) (n : ℕ) → 0 < n → (q *ℤ pos n) ≤ℤ t → t <ℤ (q *ℤ pos n +ℤ pos n) → q ≡ floor_by t n
quotient_is t q n some low high = sym (floor_by_unique t q n some low high)

pub quotient_2 : (t n : ℤ) → pos 65534 ≤ℤ n → (n +ℤ n) ≤ℤ t → unsigned_abs t ≤ unsigned_abs n + unsigned_abs n → pos 2 ≡ floor_by t (unsigned_abs n)
quotient_2 t (pos m) some low near = quotient_is t (pos 2) m (omega (arith, ints, some)) (omega (arith, ints, low)) (omega (arith, ints, near, some))
quotient_2 t (negsuc m) some low near = absurd (omega (arith, ints, some))

pub quotient_0 : (t n : ℤ) → pos 65534 ≤ℤ n → pos 0 ≤ℤ t → t <ℤ n → pos 0 ≡ floor_by t (unsigned_abs n)
quotient_0 t (pos m) some low high = quotient_is t (pos 0) m (omega (arith, ints, some)) (omega (arith, ints, low)) (omega (arith, ints, high))
quotient_0 t (negsuc m) some low high = absurd (omega (arith, ints, some))

pub quotient_below : (t n : ℤ) → pos 65534 ≤ℤ n → neg_ℤ n ≤ℤ t → t <ℤ pos 0 → negsuc 0 ≡ floor_by t (unsigned_abs n)
quotient_below t (pos m) some low high = quotient_is t (negsuc 0) m (omega (arith, ints, some)) (omega (arith, ints, low)) (omega (arith, ints, high))
quotient_below t (negsuc m) some low high = absurd (omega (arith, ints, some))

pub quotient_least : (t n : ℤ) → pos 65534 ≤ℤ n → t <ℤ neg_ℤ n → unsigned_abs t ≤ unsigned_abs n + unsigned_abs n → negsuc 1 ≡ floor_by t (unsigned_abs n)
quotient_least t (pos m) some high near = quotient_is t (negsuc 1) m (omega (arith, ints, some)) (omega (arith, ints, near)) (omega (arith, ints, high))
quotient_least t (negsuc m) some high near = absurd (omega (arith, ints, some))

pub root_0 : (s : ℕ) → 4294705156 ≤ s → s < 4294836225 → 65534 ≡ isqrt s
root_0 s low high = isqrt_is s 65534 (omega arith) (omega arith) (omega arith)

pub root_1 : (s : ℕ) → 4294836225 ≤ s → s < 4294967296 → 65535 ≡ isqrt s
root_1 s low high = isqrt_is s 65535 (omega arith) (omega arith) (omega arith)

pub root_2 : (s : ℕ) → 4294967296 ≤ s → s < 4295098369 → 65536 ≡ isqrt s
root_2 s low high = isqrt_is s 65536 (omega arith) (omega arith) (omega arith)

pub root_3 : (s : ℕ) → 4295098369 ≤ s → s < 4295229444 → 65537 ≡ isqrt s
root_3 s low high = isqrt_is s 65537 (omega arith) (omega arith) (omega arith)

-- c over n is c and a little
pub part_near : (c q : ℤ) (n : ℕ) → 0 < n → q ≡ floor_by (c *ℤ (pos 65536 -ℤ pos n)) n → c +ℤ q ≡ part c n
part_near c q n some is =
    let spread : c *ℤ (pos 65536 -ℤ pos n) +ℤ c *ℤ pos n ≡ c *ℤ pos 65536 = simp expand (omega (arith, ints)) in
    let sum = floor_by-add (c *ℤ (pos 65536 -ℤ pos n)) c n some in
    let whole : floor_by (c *ℤ pos 65536) n ≡ floor_by (c *ℤ (pos 65536 -ℤ pos n)) n +ℤ c = ap (λ z. floor_by z n) (sym spread) ∙ sum in
    let over : c +ℤ q ≡ floor_by (c *ℤ pos 65536) n = omega (arith, ints, is, whole) in
    over ∙ part_is c n some

pub little_more : (c d : ℤ) (n : ℕ) → unsigned_abs c ≤ n → unsigned_abs d ≤ 2 → unsigned_abs (c *ℤ d) ≤ n + n
little_more c d n h k =
    let le : unsigned_abs c * unsigned_abs d ≤ n * 2 = mul-le-mul h k in
    rw (unsigned_abs-mul c d) (omega (arith, le))

-- ---- vectors of numbers of 32 bits

fits_shortly : (x : ℤ) → FitsSigned w32 x → unsigned_abs x < 4611686018427387904
fits_shortly x f = omega (arith, ints)

pub parts_within : (x y z : ℤ) (n : ℕ) → FitsSigned w32 x → FitsSigned w32 y → FitsSigned w32 z → n ≡ norm x y z → (unsigned_abs x ≤ n) × (unsigned_abs y ≤ n) × (unsigned_abs z ≤ n)
parts_within x y z n p q r is = rw is (norm_ge x y z (fits_shortly x p) (fits_shortly y q) (fits_shortly z r))

pub unit_is : (c x y z : ℤ) (n : ℕ) → FitsSigned w32 x → FitsSigned w32 y → FitsSigned w32 z → n ≡ norm x y z → part c n ≡ unit_part c x y z
unit_is c x y z n p q r is = ap (part c) is ∙ unit_part_is c x y z (fits_shortly x p) (fits_shortly y q) (fits_shortly z r)
