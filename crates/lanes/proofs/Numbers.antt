-- The word of 32 bits that is no raw, under formulas that don't tell it from the least raw.
use Rattle.std.proofs.Common.{◌≡◌, refl, ap, ℤ, negsuc, ◌⊎◌, inl, inr, arith, w32, FitsSigned}
use Rattle.std.proofs.lemmas.Int.{ints}
use Rattle.fixed_math.specs.Root.{isqrt, isqrt_from}
use Rattle.fixed_math.specs.Fixed.{sat}
use Rattle.fixed_math.specs.Power.{log2, exp2, exp_bits}

least_or_raw : (x : ℤ) → FitsSigned w32 x → (x ≡ negsuc 2147483647) ⊎ (sat x ≡ x)
least_or_raw x fits = grind (arith, ints)

exp2_least : exp2 (negsuc 2147483646) ≡ exp2 (negsuc 2147483647)
unfolding exp2 exp_bits isqrt isqrt_from
exp2_least = refl

pub exp2_sat : (x : ℤ) → FitsSigned w32 x → exp2 (sat x) ≡ exp2 x
exp2_sat x fits = elim (least_or_raw x fits) [
  | inl e ↦ rw e exp2_least
  | inr e ↦ ap exp2 e
]

pub log2_sat : (x : ℤ) → FitsSigned w32 x → log2 (sat x) ≡ log2 x
log2_sat x fits = elim (least_or_raw x fits) [
  | inl e ↦ rw e refl
  | inr e ↦ ap log2 e
]
