-- Looking a texture up: the four texels around a place of a level, mixed.
use Rattle.std.specs.Prelude.{ℕ, ◌-◌, ◌^◌, ℤ, pos, ◌*ℤ◌, ◌-ℤ◌, ◌+ℤ◌, unsigned_abs, ◌≡◌, refl}
use Rattle.fixed_math.specs.declared.vec3.Vec3.{Vec3}
use Rattle.fixed_math.specs.Fixed.{add, sub, mul}
use Rattle.fixed_math.specs.Whole.{floor_by, clamp}
use Rattle.texture.specs.declared.texel.Texel.{Texel}
use Rattle.texture.specs.Images.{Image}
use Rattle.texture.specs.Pyramid.{side_at, texel, four, texel_part, square_sum, sum_to, sample}

-- the mix of a and b, t of the way from a to b
abbrev pub blend : ℤ → ℤ → ℤ → ℤ
blend a b t = add (mul a (sub (pos 65536) t)) (mul b t)

-- two colours mixed
abbrev pub blend_all : Vec3 → Vec3 → ℤ → Vec3
blend_all a b t = record { x = blend a.x b.x t; y = blend a.y b.y t; z = blend a.z b.z t }

-- how far s, of a whole of 65536, lies from the middle of the first of `side` texels, in 65536ths of a texel
abbrev pub exact_of : ℤ → ℕ → ℤ
exact_of s side = pos side *ℤ s -ℤ pos 32768

-- the texel whose middle is at or before it
abbrev pub place_of : ℤ → ℕ → ℤ
place_of s side = floor_by (exact_of s side) 65536

-- how far it lies beyond that middle
abbrev pub rest_of : ℤ → ℕ → ℤ
rest_of s side = exact_of s side -ℤ pos 65536 *ℤ place_of s side

-- a place put into a level of `side` texels
abbrev pub put_into : ℤ → ℕ → ℕ
put_into z side = unsigned_abs (clamp (pos 0) (pos (side - 1)) z)

-- the colour of a texel
abbrev pub colour_of : Texel → Vec3
colour_of t = record { x = pos t.red; y = pos t.green; z = pos t.blue }

-- the mix of the four texels of level l in columns x and xx and rows y and yy
abbrev pub mixed : Image → ℕ → ℕ → ℕ → ℕ → ℕ → ℤ → ℤ → Vec3
mixed p l x xx y yy f g =
    let row : ℕ → Vec3 = λ y. blend_all (texel p l x y) (texel p l xx y) f in
    blend_all (row y) (row yy) g

-- the colour at s and t of level l
unfoldable pub look_of : Image → ℕ → ℤ → ℤ → Vec3
look_of p l s t =
    let w = side_at p.width (2 ^ l) in
    let h = side_at p.height (2 ^ l) in
    let x = place_of s w in
    let y = place_of t h in
    mixed p l (put_into x w) (put_into (x +ℤ pos 1) w) (put_into y h) (put_into (y +ℤ pos 1) h) (rest_of s w) (rest_of t h)

-- worked values: the four samples, at the middle of the first, at the middle of all, and past the corner; the last level's one texel
first_of_four : look_of four 0 (pos 16384) (pos 16384) ≡ record { x = pos 65536; y = pos 0; z = pos 0 }
unfolding look_of texel_part square_sum sum_to sample
first_of_four = refl

middle_of_four : look_of four 0 (pos 32768) (pos 32768) ≡ record { x = pos 32768; y = pos 32768; z = pos 32768 }
unfolding look_of texel_part square_sum sum_to sample
middle_of_four = refl

past_the_corner : look_of four 0 (pos 131072) (pos 131072) ≡ record { x = pos 65536; y = pos 65536; z = pos 65536 }
unfolding look_of texel_part square_sum sum_to sample
past_the_corner = refl

last_of_four : look_of four 1 (pos 262144) (pos 0) ≡ record { x = pos 32768; y = pos 32768; z = pos 32768 }
unfolding look_of texel_part square_sum sum_to sample
last_of_four = refl
