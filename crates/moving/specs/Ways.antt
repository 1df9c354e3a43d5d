-- Places on the straight way from one point to another, which 65536 equal steps make.
use Rattle.std.specs.Prelude.{ℕ, ℤ, pos, neg_ℤ, ◌+ℤ◌, ◌-ℤ◌, ◌*ℤ◌, ◌≤ℤ◌, ◌≡◌, refl}
use Rattle.std.specs.Int.{int_min, int_max}
use Rattle.fixed_math.specs.declared.vec3.Vec3.{Vec3}
use Rattle.fixed_math.specs.Axes.{part_of, by_axes, origin}
use Rattle.fixed_math.specs.Whole.{floor_by}

-- n steps from p towards q: p + n / 65536 * (q - p), rounded down
abbrev pub on_way : ℕ → ℤ → ℤ → ℤ
on_way n p q = p +ℤ floor_by (pos n *ℤ (q -ℤ p)) 65536

-- the same in each coordinate
abbrev pub place_on_way : ℕ → Vec3 → Vec3 → Vec3
place_on_way n p q = by_axes (λ a. on_way n (part_of a p) (part_of a q))

-- z lies between x and y, whichever is less
abbrev pub IsBetween : ℤ → ℤ → ℤ → Type 0
IsBetween x y z = (int_min x y ≤ℤ z) × (z ≤ℤ int_max x y)

-- worked values: half of the way up and down, the whole of it, and the last step but one
half_way : place_on_way 32768 origin (record { x = pos 3; y = neg_ℤ (pos 3); z = pos 65536 }) ≡ record { x = pos 1; y = neg_ℤ (pos 2); z = pos 32768 }
half_way = refl

whole_way : on_way 65536 (neg_ℤ (pos 5)) (pos 70000) ≡ pos 70000
whole_way = refl

last_but_one : on_way 65535 (pos 10) (pos 65546) ≡ pos 65545
last_but_one = refl

-- back to a point that is less, the last step but one is there already
down_and_rounded : on_way 65535 (pos 10) (pos 0) ≡ pos 0
down_and_rounded = refl
