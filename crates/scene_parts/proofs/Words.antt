-- Whole numbers of 64 bits.
use Rattle.std.proofs.Common.{Fits, w32, unsigned_abs, ◌≤◌, ◌<◌, ◌≤ℤ◌, ℕ, ℤ, pos, negsuc, to_z, of_z, w64, arith, subst, sym}
use Rattle.std.proofs.lemmas.Int.{ints, to_z-of_z, fits_signed_from_abs}
use lib.Dec.{T}
use lib.Signed.{non_neg}

small : (n : ℕ) → pos n ≤ℤ pos 2147483647 → n < 9223372036854775808
small n high = grind (arith, high)

-- read back as it was written
pub above : (z : ℤ) → (pos 1 ≤ℤ z) × (z ≤ℤ pos 2147483647) → pos 1 ≤ℤ to_z w64 (of_z w64 z)
above (negsuc n) (low, high) = absurd low.le
above (pos n) (low, high) = subst (λ x. pos 1 ≤ℤ x) (sym (to_z-of_z w64 (pos n) (fits_signed_from_abs w64 (pos n) (small n high)))) low

pub fits_32 : (z : ℤ) → (pos 1 ≤ℤ z) × (z ≤ℤ pos 2147483647) → T (non_neg (to_z w64 (of_z w64 z))) × Fits w32 (unsigned_abs (to_z w64 (of_z w64 z)))
fits_32 (negsuc n) (low, high) = absurd low.le
fits_32 (pos n) (low, high) =
    let most = narrow n high in
    rw (to_z-of_z w64 (pos n) (fits_signed_from_abs w64 (pos n) (small n high))) (tt, record { fits = omega (arith, most) })
  where
    narrow : (n : ℕ) → pos n ≤ℤ pos 2147483647 → n ≤ 2147483647
    narrow n high = grind (arith, high)

pub some_32 : (z : ℤ) → (pos 1 ≤ℤ z) × (z ≤ℤ pos 2147483647) → 1 ≤ unsigned_abs (to_z w64 (of_z w64 z))
some_32 (negsuc n) (low, high) = absurd low.le
some_32 (pos n) (low, high) = rw (to_z-of_z w64 (pos n) (fits_signed_from_abs w64 (pos n) (small n high))) (grind (arith, low))

-- a size of a mesh is one of these
pub sized : (z : ℤ) → (pos 1 ≤ℤ z) × (z ≤ℤ pos 65536) → (pos 1 ≤ℤ z) × (z ≤ℤ pos 2147483647)
sized z (low, high) = (low, omega (arith, ints))
