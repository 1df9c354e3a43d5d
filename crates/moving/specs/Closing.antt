-- Where a point of a moving surface is when its motion ends: displacement moves it from the closing surface by as much as from the
-- opening one.
use Rattle.std.specs.Prelude.{ℤ, pos, neg_ℤ, ◌+ℤ◌, ◌-ℤ◌, ◌≤ℤ◌, ◌≡◌, refl}
use Rattle.fixed_math.specs.declared.vec3.Vec3.{Vec3}
use Rattle.fixed_math.specs.declared.vec3.Axis.{Axis}
use Rattle.fixed_math.specs.Axes.{part_of, by_axes, origin}
use Rattle.fixed_math.specs.Fixed.{sat}
use Rattle.patches.specs.Boxes.{Box}

-- the closing surface's point and what displacement added to the opening one's, saturated
abbrev pub closing_place : Vec3 → Vec3 → Vec3 → Vec3
closing_place last before after = by_axes (λ a. sat (part_of a last +ℤ (part_of a after -ℤ part_of a before)))

-- each coordinate of q differs from that of p by at most the bound
abbrev pub IsNear : ℤ → Vec3 → Vec3 → Type 0
IsNear bound p q = (a : Axis) → ((part_of a p -ℤ bound) ≤ℤ part_of a q) × (part_of a q ≤ℤ (part_of a p +ℤ bound))

-- p lies in the box, or at most the bound from it in each coordinate
abbrev pub IsNearBox : ℤ → Box → Vec3 → Type 0
IsNearBox bound b p = (a : Axis) → ((part_of a b.low -ℤ bound) ≤ℤ part_of a p) × (part_of a p ≤ℤ (part_of a b.high +ℤ bound))

-- worked values: a point displaced by (1, -1, 0), and one that is at the limit already
displaced : closing_place (record { x = pos 7; y = pos 8; z = pos 9 }) origin (record { x = pos 1; y = neg_ℤ (pos 1); z = pos 0 }) ≡ record { x = pos 8; y = pos 7; z = pos 9 }
displaced = refl

at_the_limit : closing_place (by_axes (λ _. pos 2147483647)) origin (by_axes (λ _. pos 5)) ≡ by_axes (λ _. pos 2147483647)
at_the_limit = refl
