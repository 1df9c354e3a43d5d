-- The edge test as one comparison.
use Rattle.std.proofs.Common.{◌≡◌, refl, ap, zero, suc, ◌≤◌, ℤ, pos, negsuc, ◌-ℤ◌, ◌*ℤ◌, Bool, true, false, cond, arith}
use Rattle.std.specs.Prelude.{int_le}
use Rattle.std.specs.Int.RustNames.{unsigned_abs}
use Rattle.std.proofs.lemmas.Int.{unsigned_abs-mul}
use Rattle.std.proofs.Math.Nat.{mul-le-mul}
use Rattle.std.proofs.lemmas.Bool.{le-leb}
use Rattle.fixed_math.specs.Edges.{edge, is_inside, owns, by_side}
use Rattle.lanes.specs.Masks.{mask_of}
use Rattle.lanes.specs.Edges.{spot, inside, value_at, from_step}

pub product_bound : (a b : ℤ) → unsigned_abs a ≤ 536870912 → unsigned_abs b ≤ 536870912 → unsigned_abs (a *ℤ b) ≤ 288230376151711744
product_bound a b h k = rw (unsigned_abs-mul a b) (mul-le-mul h k)

by_least : (e : ℤ) (o : Bool) → int_le (cond o (pos 0) (pos 1)) e ≡ by_side e o
by_least (pos zero) true = refl
by_least (pos zero) false = refl
by_least (pos (suc n)) true = let le = le-leb 0 (suc n) (omega arith) in rw le
by_least (pos (suc n)) false = let le = le-leb 1 (suc n) (omega arith) in rw le
by_least (negsuc n) true = refl
by_least (negsuc n) false = refl

pub inside_is : (ax ay bx by x y : ℤ) → from_step ax ay (bx -ℤ ax) (by -ℤ ay) x y ≡ inside (spot ax ay) (spot bx by) (spot x y)
unfolding is_inside edge value_at from_step
inside_is ax ay bx by x y = ap mask_of (by_least _ (owns (bx -ℤ ax) (by -ℤ ay)))
