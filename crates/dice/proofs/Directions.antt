-- Laws of cross products and their units, and of a shader's parameters.
use Rattle.std.proofs.Common.{◌≡◌, ◌∙◌, refl, ℕ, zero, suc, ◌+◌, ◌*◌, ◌/◌, ◌^◌, ◌<◌, ◌≤◌, ℤ, pos, ◌*ℤ◌, ◌-ℤ◌, unsigned_abs, to_z, of_z, arith, List, [], ◌∷◌, slice_index_or}
use Rattle.std.specs.Int.{w64, w128}
use Rattle.patches.specs.Slopes.{AreBelow}
use Rattle.fixed_math.specs.declared.vec3.Vec3.{Vec3}
use Rattle.fixed_math.specs.Unit.{unit_part}
use Rattle.std.proofs.lemmas.Int.{ints, to_z-of_z, fits_signed_from_abs, unsigned_abs-mul}
use Rattle.std.proofs.Math.Nat.{div-le_of_le-mul, mul-le-mul}
use Rattle.std.proofs.lemmas.Nat.{pow_pos}
use Rattle.fixed_math.specs.Fixed.{sat}
use Rattle.dice.specs.Normals.{item, minor, cross, direction, AreShort}

three_below : (x y z : ℤ) → unsigned_abs x ≤ 2 ^ 81 → unsigned_abs y ≤ 2 ^ 81 → unsigned_abs z ≤ 2 ^ 81 →
    (i : ℕ) → i < 3 → unsigned_abs (slice_index_or (x ∷ y ∷ z ∷ []) i (pos 0)) < 2 ^ 100
three_below x y z a b c zero h = omega arith
three_below x y z a b c (suc zero) h = omega arith
three_below x y z a b c (suc (suc zero)) h = omega arith
three_below x y z a b c (suc (suc (suc i))) h = absurd (omega arith)

same : (z : ℤ) → unsigned_abs z ≤ 2 ^ 81 → to_z w128 (of_z w128 z) ≡ z
same z h = to_z-of_z w128 z (fits_signed_from_abs w128 z (omega arith))

-- three numbers of the code, read back
pub cross_below : (x y z : ℤ) → unsigned_abs x ≤ 2 ^ 81 → unsigned_abs y ≤ 2 ^ 81 → unsigned_abs z ≤ 2 ^ 81 →
    (i : ℕ) → i < 3 → unsigned_abs (slice_index_or (to_z w128 (of_z w128 x) ∷ to_z w128 (of_z w128 y) ∷ to_z w128 (of_z w128 z) ∷ []) i (pos 0)) < 2 ^ 100
cross_below x y z a b c = rw (same x a, same y b, same z c) (three_below x y z a b c)

-- a number of a list of derivatives, as the code reads it
abbrev read : List ℤ → ℕ → ℤ
read zs k = to_z w64 (of_z w64 (item zs k))

same_factor : (zs : List ℤ) (k : ℕ) → AreBelow (2 ^ 40) zs → read zs k ≡ item zs k
same_factor zs k h = let b : unsigned_abs (item zs k) ≤ 2 ^ 40 = h k in to_z-of_z w64 (item zs k) (fits_signed_from_abs w64 (item zs k) (omega arith))

pub factor_below : (zs : List ℤ) (k : ℕ) → AreBelow (2 ^ 40) zs → unsigned_abs (to_z w64 (of_z w64 (item zs k))) ≤ 2 ^ 40
factor_below zs k h = rw (same_factor zs k h) (h k)

minor_read : (a b : List ℤ) (i j : ℕ) → AreBelow (2 ^ 40) a → AreBelow (2 ^ 40) b → read a i *ℤ read b j -ℤ read a j *ℤ read b i ≡ minor a b i j
minor_read a b i j h k = rw (same_factor a i h, same_factor b j k, same_factor a j h, same_factor b i k) refl

-- the cross product, of its three numbers
pub cross_read : (a b : List ℤ) → AreBelow (2 ^ 40) a → AreBelow (2 ^ 40) b → (x y z : ℤ) → unsigned_abs x ≤ 2 ^ 81 → unsigned_abs y ≤ 2 ^ 81 → unsigned_abs z ≤ 2 ^ 81 →
    x ≡ read a 1 *ℤ read b 2 -ℤ read a 2 *ℤ read b 1 → y ≡ read a 2 *ℤ read b 0 -ℤ read a 0 *ℤ read b 2 → z ≡ read a 0 *ℤ read b 1 -ℤ read a 1 *ℤ read b 0 →
    to_z w128 (of_z w128 x) ∷ to_z w128 (of_z w128 y) ∷ to_z w128 (of_z w128 z) ∷ [] ≡ cross a b
unfolding cross
cross_read a b h k x y z l m n e f g =
    rw (same x l, same y m, same z n, e ∙ minor_read a b 1 2 h k, f ∙ minor_read a b 2 0 h k, g ∙ minor_read a b 0 1 h k) refl

-- ---- the same of short vectors
same_short : (zs : List ℤ) (k : ℕ) → k < 3 → AreShort zs → read zs k ≡ item zs k
same_short zs k h short = let b : unsigned_abs (item zs k) ≤ 2 ^ 22 = short k h in to_z-of_z w64 (item zs k) (fits_signed_from_abs w64 (item zs k) (omega arith))

pub short_product : (a b : ℤ) → unsigned_abs a ≤ 4194304 → unsigned_abs b ≤ 4194304 → unsigned_abs (a *ℤ b) ≤ 17592186044416
short_product a b h k = rw (unsigned_abs-mul a b) (mul-le-mul h k)

pub short_factor : (zs : List ℤ) (k : ℕ) → k < 3 → AreShort zs → unsigned_abs (to_z w64 (of_z w64 (item zs k))) ≤ 2 ^ 22
short_factor zs k h short = rw (same_short zs k h short) (short k h)

short_minor_read : (a b : List ℤ) (i j : ℕ) → i < 3 → j < 3 → AreShort a → AreShort b → read a i *ℤ read b j -ℤ read a j *ℤ read b i ≡ minor a b i j
short_minor_read a b i j f g h k = rw (same_short a i f h, same_short b j g k, same_short a j g h, same_short b i f k) refl

short_same : (z : ℤ) → unsigned_abs z < 2 ^ 46 → to_z w64 (of_z w64 z) ≡ z
short_same z h = to_z-of_z w64 z (fits_signed_from_abs w64 z (omega arith))

pub short_cross_read : (a b : List ℤ) → AreShort a → AreShort b → (x y z : ℤ) → unsigned_abs x < 2 ^ 46 → unsigned_abs y < 2 ^ 46 → unsigned_abs z < 2 ^ 46 →
    x ≡ read a 1 *ℤ read b 2 -ℤ read a 2 *ℤ read b 1 → y ≡ read a 2 *ℤ read b 0 -ℤ read a 0 *ℤ read b 2 → z ≡ read a 0 *ℤ read b 1 -ℤ read a 1 *ℤ read b 0 →
    to_z w64 (of_z w64 x) ∷ to_z w64 (of_z w64 y) ∷ to_z w64 (of_z w64 z) ∷ [] ≡ cross a b
unfolding cross
short_cross_read a b h k x y z l m n e f g =
    rw (
      short_same x l,
      short_same y m,
      short_same z n,
      e ∙ short_minor_read a b 1 2 (omega arith) (omega arith) h k,
      f ∙ short_minor_read a b 2 0 (omega arith) (omega arith) h k,
      g ∙ short_minor_read a b 0 1 (omega arith) (omega arith) h k,
    ) refl

of_three : (P : ℕ → Type 0) → P 0 → P 1 → P 2 → (k : ℕ) → k < 3 → P k
of_three P a b c zero h = a
of_three P a b c (suc zero) h = b
of_three P a b c (suc (suc zero)) h = c
of_three P a b c (suc (suc (suc k))) h = absurd (omega arith)

pub short_cross_below : (x y z : ℤ) → unsigned_abs x < 2 ^ 46 → unsigned_abs y < 2 ^ 46 → unsigned_abs z < 2 ^ 46 →
    (i : ℕ) → i < 3 → unsigned_abs (item (to_z w64 (of_z w64 x) ∷ to_z w64 (of_z w64 y) ∷ to_z w64 (of_z w64 z) ∷ []) i) < 2 ^ 46
short_cross_below x y z a b c =
    rw (short_same x a, short_same y b, short_same z c) (of_three (λ i. unsigned_abs (item (x ∷ y ∷ z ∷ []) i) < 2 ^ 46) a b c)

pub short_of_three : (zs : List ℤ) → unsigned_abs (item zs 0) ≤ 2 ^ 22 → unsigned_abs (item zs 1) ≤ 2 ^ 22 → unsigned_abs (item zs 2) ≤ 2 ^ 22 → AreShort zs
short_of_three zs a b c = of_three (λ k. unsigned_abs (item zs k) ≤ 2 ^ 22) a b c

same_point : (r s : Vec3) → r.x ≡ s.x → r.y ≡ s.y → r.z ≡ s.z → r ≡ s
same_point r s e f g = let h : vec3 r.x r.y r.z ≡ vec3 s.x s.y s.z = cc in h
  where
    vec3 : ℤ → ℤ → ℤ → Vec3
    vec3 x y z = record { x = x; y = y; z = z }

pub unit_is : (r : Vec3) (c : List ℤ) → r.x ≡ unit_part (item c 0) (item c 0) (item c 1) (item c 2) → r.y ≡ unit_part (item c 1) (item c 0) (item c 1) (item c 2) →
    r.z ≡ unit_part (item c 2) (item c 0) (item c 1) (item c 2) → r ≡ direction c
unfolding direction
unit_is r c e f g = same_point r (direction c) e f g

-- ---- a shader's parameter is at most 1
pub parameter_below : (c m n : ℕ) → c < m → n ≤ 4096 → (65536 * c + 16 * n) / m ≤ 65536
parameter_below c m n h k = let room : 65536 * c + 16 * n ≤ m * 65536 = omega arith in div-le_of_le-mul m room

pub parameter_read : (k : ℕ) → k ≤ 65536 → sat (to_z w128 k) ≡ pos k
parameter_read k h = grind (arith, ints)

-- ---- lines that bound 2 ^ p cells
pub cells_from : (p : ℕ) → 2 ≤ 2 ^ p + 1
cells_from p = let e = pow_pos p in omega (arith, e)

pub cells_to : (p : ℕ) → p ≤ 4 → 2 ^ p + 1 ≤ 17
cells_to zero h = omega arith
cells_to (suc zero) h = omega arith
cells_to (suc (suc zero)) h = omega arith
cells_to (suc (suc (suc zero))) h = omega arith
cells_to (suc (suc (suc (suc zero)))) h = omega arith
cells_to (suc (suc (suc (suc (suc p))))) h = absurd (omega arith)
