-- The halves of a sphere.
use Rattle.std.proofs.Common.{◌≡◌, refl, ℕ, zero, suc, arith}
use Rattle.std.specs.Prelude.{ℤ, pos, neg_ℤ}
use Rattle.transforms.specs.Map.{Map}
use Rattle.primitives.specs.Quadrics.{circle, round_at, half_at}

pub is_south : (m : Map) (quarter half : ℕ) (r : ℤ) → half ≡ 0 → round_at m quarter (circle (pos 0) (neg_ℤ r)) (circle r (neg_ℤ r)) (circle r (pos 0)) ≡ half_at m quarter half r
is_south m quarter zero r e = refl
is_south m quarter (suc half) r e = absurd (omega (arith, e))

pub is_north : (m : Map) (quarter half : ℕ) (r : ℤ) → (half ≡ 0 → ⊥) → round_at m quarter (circle r (pos 0)) (circle r r) (circle (pos 0) r) ≡ half_at m quarter half r
is_north m quarter zero r n = absurd (n refl)
is_north m quarter (suc half) r n = refl
