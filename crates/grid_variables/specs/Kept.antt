-- What is kept of the points and opacities that shaders leave (Cook, Carpenter, Catmull 1987).
use Rattle.std.specs.Prelude.{◌≡◌, refl, ℤ, pos, neg_ℤ, ◌+ℤ◌, ◌-ℤ◌}
use Rattle.std.specs.Int.{int_max, int_min}
use Rattle.fixed_math.specs.declared.vec3.Vec3.{Vec3}
use Rattle.builtins.specs.Triples.{each, each_two}

-- a coordinate moves no further than the bound
abbrev pub kept_near : ℤ → ℤ → ℤ → ℤ
kept_near bound old new = int_max (old -ℤ bound) (int_min new (old +ℤ bound))

-- a point that displacement moves, with each coordinate within the bound of its old place
abbrev pub moved : ℤ → Vec3 → Vec3 → Vec3
moved bound old new = each_two (kept_near bound) old new

-- opacities are put into 0 to 1
abbrev pub share : ℤ → ℤ
share x = int_max (pos 0) (int_min x (pos 65536))

-- an opacity with each part put into 0 to 1
abbrev pub opacity : Vec3 → Vec3
opacity o = each share o

-- worked: displacement within the bound, past it on both sides, and without any; opacities below, within and above their range
abbrev within_the_bound : kept_near (pos 3) (pos 10) (pos 12) ≡ pos 12
within_the_bound = refl

abbrev past_the_bound : kept_near (pos 3) (pos 10) (pos 20) ≡ pos 13
past_the_bound = refl

abbrev past_it_downwards : kept_near (pos 3) (pos 1) (neg_ℤ (pos 20)) ≡ neg_ℤ (pos 2)
past_it_downwards = refl

abbrev with_no_bound : kept_near (pos 0) (pos 10) (pos 12) ≡ pos 10
with_no_bound = refl

abbrev less_than_none : share (neg_ℤ (pos 1)) ≡ pos 0
less_than_none = refl

abbrev half_of_all : share (pos 32768) ≡ pos 32768
half_of_all = refl

abbrev more_than_all : share (pos 65537) ≡ pos 65536
more_than_all = refl
