-- A choice by the bits of a mask.
use Rattle.std.proofs.Common.{◌≡◌, ◌∙◌, ℕ, ◌<◌, ◌-◌, arith, ℤ, pos, negsuc, inl, inr, w32, FitsSigned, to_z, of_z, bit_and, bit_or, ◌⊎◌}
use Rattle.std.specs.Int.Bits.{or_zero_l, or_zero_r}
use Rattle.std.proofs.lemmas.Int.{ints, to_z-of_z}
use Rattle.std.proofs.lemmas.Nat.{and_mask, and_comm}
use Rattle.std.proofs.Math.Nat.{mod-eq_of_lt}
use Rattle.lanes.specs.Masks.{choose}

all_and : (n : ℕ) → n < 4294967296 → bit_and 4294967295 n ≡ n
all_and n h = and_comm 4294967295 n ∙ and_mask n 32 ∙ mod-eq_of_lt h

bits_below : (x : ℤ) → FitsSigned w32 x → of_z w32 x < 4294967296
bits_below x h = omega (arith, ints)

second : (a b : ℕ) → b < 4294967296 → bit_or (bit_and 0 a) (bit_and 4294967295 b) ≡ b
second a b h = or_zero_l (bit_and 4294967295 b) ∙ all_and b h

first : (a b : ℕ) → a < 4294967296 → bit_or (bit_and 4294967295 a) (bit_and 0 b) ≡ a
first a b h = or_zero_r (bit_and 4294967295 a) ∙ all_and a h

pub chosen_is : (m x y : ℤ) → (m ≡ pos 0) ⊎ (m ≡ negsuc 0) → FitsSigned w32 x → FitsSigned w32 y
    → to_z w32 (bit_or (bit_and (of_z w32 m) (of_z w32 x)) (bit_and (4294967295 - of_z w32 m) (of_z w32 y))) ≡ choose m x y
chosen_is m x y p fx fy =
    elim p [
      | inl e ↦ let is = second (of_z w32 x) (of_z w32 y) (bits_below y fy) in rw (e, is) (simp to_z-of_z)
      | inr e ↦ let is = first (of_z w32 x) (of_z w32 y) (bits_below x fx) in rw (e, is) (simp to_z-of_z)
    ]
