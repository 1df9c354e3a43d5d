-- The boxes of a surface that moves.
use Rattle.std.specs.Prelude.{ℤ, pos, neg_ℤ, ◌≡◌, refl}
use Rattle.std.specs.Int.{int_min, int_max}
use Rattle.fixed_math.specs.declared.vec3.Vec3.{Vec3}
use Rattle.fixed_math.specs.Axes.{part_of, by_axes}
use Rattle.patches.specs.Rects.{Rect}
use Rattle.patches.specs.Boxes.{Box}

-- the least box that holds two boxes
abbrev pub both : Box → Box → Box
both b c = record { low = by_axes (λ a. int_min (part_of a b.low) (part_of a c.low)); high = by_axes (λ a. int_max (part_of a b.high) (part_of a c.high)) }

-- the box over a rectangle of parameters, of a surface that moves: it holds the boxes of the opening and of the closing one
abbrev pub moving_box : {S : Type 0} → (S → Rect → Box) → S → S → Rect → Box
moving_box box first last r = both (box first r) (box last r)

-- worked values: two boxes side by side, of which neither holds the other
abbrev point : ℤ → ℤ → ℤ → Vec3
point x y z = record { x = x; y = y; z = z }

both_of_two : both (record { low = point (pos 0) (pos 1) (pos 2); high = point (pos 3) (pos 4) (pos 5) }) (record { low = point (pos 2) (neg_ℤ (pos 1)) (pos 2); high = point (pos 6) (pos 2) (pos 9) }) ≡
    record { low = point (pos 0) (neg_ℤ (pos 1)) (pos 2); high = point (pos 6) (pos 4) (pos 9) }
both_of_two = refl
