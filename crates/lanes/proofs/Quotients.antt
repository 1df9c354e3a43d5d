-- Quotients by a magnitude.
use Rattle.std.proofs.Common.{◌≡◌, refl, zero, suc, arith, ℤ, pos, negsuc, ◌*ℤ◌, cond}
use Rattle.std.specs.Prelude.{neg_ℤ, int_lt, unsigned_abs}
use Rattle.std.proofs.lemmas.Bool.{le-ltb}
use Rattle.fixed_math.specs.Whole.{floor_by}
use Rattle.fixed_math.specs.Fixed.{sat, div}
use Rattle.fixed_math.proofs.Ring.{neg-*ℤ}

pub div_none : (a b : ℤ) → b ≡ pos 0 → pos 0 ≡ div a b
div_none a b e = rw e

pub div_is : (a b : ℤ) → (b ≡ pos 0 → ⊥) → sat (floor_by (cond (int_lt b (pos 0)) (neg_ℤ a) a *ℤ pos 65536) (unsigned_abs b)) ≡ div a b
div_is a (pos zero) h = absurd (h refl)
div_is a (pos (suc n)) h = let no = le-ltb (suc n) 0 (omega arith) in rw no
div_is a (negsuc n) h = rw neg-*ℤ
