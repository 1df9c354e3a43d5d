-- A mean against a depth, without its division.
use Rattle.std.proofs.Common.{◌≡◌, arith, sym, ◌∙◌, false}
use Rattle.std.specs.Prelude.{ℤ, pos, negsuc, ◌*ℤ◌, ◌<ℤ◌, int_le}
use Rattle.std.proofs.lemmas.Int.{ints}
use Rattle.fixed_math.specs.Whole.{floor_div}
use Rattle.fixed_math.proofs.Floor.{floor_by_lt, floor_by_ge}
use Rattle.hider.proofs.Cuts.{by_bool}
use Rattle.hider.proofs.Placing.{le_true, le_false, le_from}

pub not_le : (a b : ℤ) → int_le a b ≡ false → b <ℤ a
not_le a b e = omega (arith, ints, e)

-- z is no greater than a quotient exactly where z times the divisor is no greater than what is divided
pub le_quotient : (z n e : ℤ) → pos 0 <ℤ e → int_le (e *ℤ z) n ≡ int_le z (floor_div n e)
le_quotient z n (pos e) h =
    let turned : pos e *ℤ z ≡ z *ℤ pos e = omega (arith, ints) in
    by_bool (int_le (pos e *ℤ z) n)
    (λ t. t ∙ sym (le_true z (floor_div n (pos e)) (floor_by_ge n z e (omega (arith, ints)) (rw (← turned) (le_from (pos e *ℤ z) n t)))))
    (λ f. f ∙ sym (le_false z (floor_div n (pos e)) (floor_by_lt n z e (omega (arith, ints)) (rw (← turned) (not_le (pos e *ℤ z) n f)))))
le_quotient z n (negsuc e) h = absurd (omega (arith, ints))
