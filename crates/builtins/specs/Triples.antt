-- The built-in functions of points, vectors, normals and colours (RenderMan Interface 3.2, Shading Language, sections 15.2 to 15.4).
use Rattle.std.specs.Prelude.{zero, suc, ℤ, pos, neg_ℤ, ◌+◌, int_lt, cond, ◌≡◌, refl}
use Rattle.fixed_math.specs.Whole.{floor_by, clamp}
use Rattle.fixed_math.specs.Root.{isqrt, isqrt_from}
use Rattle.fixed_math.specs.Fixed.{sat, add, sub, mul, div}
use Rattle.fixed_math.specs.Unit.{square, unit_part}
use Rattle.fixed_math.specs.Axes.{part_of, by_axes}
use Rattle.fixed_math.specs.declared.vec3.Vec3.{Vec3}

-- a formula part by part
abbrev pub each : (ℤ → ℤ) → Vec3 → Vec3
each f a = by_axes (λ i. f (part_of i a))

-- a formula of two numbers on each part of two triples
abbrev pub each_two : (ℤ → ℤ → ℤ) → Vec3 → Vec3 → Vec3
each_two f a b = by_axes (λ i. f (part_of i a) (part_of i b))

-- the sum of the products of parts, each product and sum rounded and put into range
unfoldable pub dot : Vec3 → Vec3 → ℤ
dot a b = add (add (mul a.x b.x) (mul a.y b.y)) (mul a.z b.z)

-- the cross product, each part a difference of two products
unfoldable pub cross : Vec3 → Vec3 → Vec3
cross a b = record {
  x = sub (mul a.y b.z) (mul a.z b.y);
  y = sub (mul a.z b.x) (mul a.x b.z);
  z = sub (mul a.x b.y) (mul a.y b.x);
}

-- the root of the exact sum of squares, rounded down
unfoldable pub length : Vec3 → ℤ
length v = sat (pos (isqrt (square v.x + square v.y + square v.z)))

-- the length of the difference
unfoldable pub distance : Vec3 → Vec3 → ℤ
distance a b = length (each_two sub a b)

-- the vector of length 1 of its direction, and 0 for that of no length
unfoldable pub normalize : Vec3 → Vec3
normalize v = each (λ c. unit_part c v.x v.y v.z) v

-- the direction i thrown back by a surface of normal n: i - 2 (i . n) n
unfoldable pub reflect : Vec3 → Vec3 → Vec3
reflect i n = each_two sub i (each (mul (mul (pos 131072) (dot i n))) n)

-- each part negated
abbrev pub negated : Vec3 → Vec3
negated v = each neg_ℤ v

-- n turned so that it faces against i, as r says
unfoldable pub faceforward : Vec3 → Vec3 → Vec3 → Vec3
faceforward n i r = cond (int_lt (pos 0) (dot i r)) (negated n) n

abbrev pub by_place : ℤ → Vec3 → ℤ
by_place (pos zero) c = c.x
by_place (pos (suc zero)) c = c.y
by_place _ c = c.z

-- the channel of a number, which is rounded down and put into 0 to 2
unfoldable pub comp : Vec3 → ℤ → ℤ
comp c index = by_place (clamp (pos 0) (pos 2) (floor_by index 65536)) c

-- 0 at the near plane, 1 at the far one
unfoldable pub depth : Vec3 → ℤ → ℤ → ℤ
depth p near far = div (sub p.z near) (sub far near)

-- worked values
abbrev triple : ℤ → ℤ → ℤ → Vec3
triple x y z = record { x = x; y = y; z = z }

cross_of_axes : cross (triple (pos 65536) (pos 0) (pos 0)) (triple (pos 0) (pos 65536) (pos 0)) ≡ triple (pos 0) (pos 0) (pos 65536)
unfolding cross
cross_of_axes = refl

length_of_three_four : length (triple (pos 196608) (pos 0) (neg_ℤ (pos 262144))) ≡ pos 327680
unfolding length isqrt isqrt_from
length_of_three_four = refl

reflected_down : reflect (triple (pos 65536) (neg_ℤ (pos 65536)) (pos 0)) (triple (pos 0) (pos 65536) (pos 0)) ≡ triple (pos 65536) (pos 65536) (pos 0)
unfolding reflect dot
reflected_down = refl

turned_at_right_angle : faceforward (triple (pos 0) (pos 0) (pos 1)) (triple (pos 65536) (pos 0) (pos 0)) (triple (pos 0) (pos 0) (pos 65536)) ≡ triple (pos 0) (pos 0) (pos 1)
unfolding faceforward dot
turned_at_right_angle = refl

channel_past_end : comp (triple (pos 1) (pos 2) (pos 3)) (pos 655360) ≡ pos 3
unfolding comp
channel_past_end = refl

channel_below : comp (triple (pos 1) (pos 2) (pos 3)) (neg_ℤ (pos 1)) ≡ pos 1
unfolding comp
channel_below = refl
