-- Boxes round cells in camera space.
use Rattle.std.proofs.Common.{◌≡◌, ◌<◌, ℕ, zero, suc, arith, List, [], ◌∷◌, length, slice_index_or}
use Rattle.std.specs.Prelude.{ℤ, ◌≤ℤ◌, All}
use Rattle.std.proofs.lemmas.Int.{ints}
use Rattle.fixed_math.specs.declared.vec3.Vec3.{Vec3}
use Rattle.fixed_math.specs.Axes.{part_of, origin, IsInBox}
use Rattle.hider.specs.Extents.{IsBelow, IsBelowAll, IsAboveAll}

through : (x y z : ℤ) → x ≤ℤ y → y ≤ℤ z → x ≤ℤ z
through x y z h g = omega (arith, ints)

pub below_through : (p q r : Vec3) → IsBelow p q → IsBelow q r → IsBelow p r
below_through p q r h g a = through (part_of a p) (part_of a q) (part_of a r) (h a) (g a)

-- what holds of four points holds of all
pub all_four : (P : Vec3 → Type 0) (xs : List Vec3) (a b c d : Vec3) → length xs ≡ 4 → P (slice_index_or xs 0 a) → P (slice_index_or xs 1 b) → P (slice_index_or xs 2 c) → P (slice_index_or xs 3 d) → All P xs
all_four P [] a b c d l pa pb pc pd n o k = absurd (omega (arith, l))
all_four P (x ∷ []) a b c d l pa pb pc pd n o k = absurd (omega (arith, l))
all_four P (x ∷ y ∷ []) a b c d l pa pb pc pd n o k = absurd (omega (arith, l))
all_four P (x ∷ y ∷ z ∷ []) a b c d l pa pb pc pd n o k = absurd (omega (arith, l))
all_four P (x ∷ y ∷ z ∷ w ∷ v ∷ vs) a b c d l pa pb pc pd n o k = absurd (omega (arith, l))
all_four P (x ∷ y ∷ z ∷ w ∷ []) a b c d l pa pb pc pd zero o k = pa
all_four P (x ∷ y ∷ z ∷ w ∷ []) a b c d l pa pb pc pd (suc zero) o k = pb
all_four P (x ∷ y ∷ z ∷ w ∷ []) a b c d l pa pb pc pd (suc (suc zero)) o k = pc
all_four P (x ∷ y ∷ z ∷ w ∷ []) a b c d l pa pb pc pd (suc (suc (suc zero))) o k = pd
all_four P (x ∷ y ∷ z ∷ w ∷ []) a b c d l pa pb pc pd (suc (suc (suc (suc n)))) o k = absurd (omega (arith, k))

pub below_all : (p q : Vec3) (xs : List Vec3) → IsBelow p q → IsBelowAll q xs → IsBelowAll p xs
below_all p q xs h i k d l = below_through p q (slice_index_or xs k d) h (i k d l)

pub above_all : (p q : Vec3) (xs : List Vec3) → IsBelow q p → IsAboveAll q xs → IsAboveAll p xs
above_all p q xs h i k d l = below_through (slice_index_or xs k d) q p (i k d l) h

-- and what holds of all four corners of a cell at a time holds of each
pub four_held : (P : Vec3 → Type 0) (corner : ℕ → Vec3) → All P (corner 0 ∷ corner 1 ∷ corner 2 ∷ corner 3 ∷ []) → (k : ℕ) → k < 4 → P (corner k)
four_held P corner h zero l = h 0 origin (omega arith)
four_held P corner h (suc zero) l = h 1 origin (omega arith)
four_held P corner h (suc (suc zero)) l = h 2 origin (omega arith)
four_held P corner h (suc (suc (suc zero))) l = h 3 origin (omega arith)
four_held P corner h (suc (suc (suc (suc k)))) l = absurd (omega (arith, l))

-- a box that holds a point has its corners in order
pub in_order : (lo hi p : Vec3) → IsInBox lo hi p → IsBelow lo hi
in_order lo hi p h a = through (part_of a lo) (part_of a p) (part_of a hi) (h a).0 (h a).1
