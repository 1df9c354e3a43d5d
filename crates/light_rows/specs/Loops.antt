-- For private contracts alone: what the loops of sums over lights compute at a place.
use Rattle.std.specs.Prelude.{ℤ, pos, Bool, int_le, cond, ◌&&◌}
use Rattle.fixed_math.specs.Fixed.{add, mul}
use Rattle.fixed_math.specs.Power.{pow}
use Rattle.fixed_math.specs.declared.vec3.Vec3.{Vec3}
use Rattle.builtins.specs.Numbers.{max}
use Rattle.builtins.specs.Triples.{each_two, dot, normalize}
use Rattle.builtins.specs.Values.{is_nonzero}

-- the vector of length 1 half way between two
abbrev pub half_way : Vec3 → Vec3 → Vec3
half_way a b = normalize (each_two add a b)

-- the product of two, where it isn't negative
unfoldable pub weight : Vec3 → Vec3 → ℤ
weight a b = max (pos 0) (dot a b)

-- a light is lit in front of a surface, by the units of the direction to it and of the normal
unfoldable pub is_before : ℤ → Vec3 → Vec3 → Bool
is_before lit u n = is_nonzero lit && int_le (pos 0) (dot u n)

-- a weight raised to a power where it is shown
abbrev pub raised : ℤ → ℤ → ℤ → ℤ
raised shown weight exponent = cond (is_nonzero shown) (pow weight exponent) (pos 0)

-- the weight of a highlight where it is shown, by the units of the normal and of the direction to the light, seen from v
unfoldable pub shown_highlight : ℤ → Vec3 → Vec3 → Vec3 → ℤ → ℤ
shown_highlight shown normal unit v exponent = raised shown (weight normal (half_way unit v)) exponent

-- a number with a share of another one, where that is shown
unfoldable pub with_share : ℤ → ℤ → ℤ → ℤ → ℤ
with_share shown total colour weight = cond (is_nonzero shown) (add total (mul colour weight)) total

-- a triple with a share of another one
abbrev pub with_shares : ℤ → Vec3 → Vec3 → ℤ → Vec3
with_shares shown total colour weight =
    record { x = with_share shown total.x colour.x weight; y = with_share shown total.y colour.y weight; z = with_share shown total.z colour.z weight }
