-- Textures as pyramids of means: level l has a texel for each block of 2 ^ l by 2 ^ l samples, cut to the texture.
use Rattle.std.specs.Prelude.{ℕ, zero, suc, ◌+◌, ◌-◌, ◌*◌, ◌/◌, ◌^◌, if◌then◌else◌, nat_lt, ◌&&◌, min, pos, [], ◌∷◌, get_or, ◌≡◌, refl}
use Rattle.texture.specs.Images.{Image}
use Rattle.fixed_math.specs.declared.vec3.Vec3.{Vec3}
use Rattle.fixed_math.specs.declared.vec3.Axis.{Axis}
use Rattle.fixed_math.specs.declared.vec3.Axis.TheVariants.{X, Y, Z}
use Rattle.fixed_math.specs.Axes.{by_axes}

-- the sample of channel c in column x and row y, and 0 outside of the texture
unfoldable pub sample : Image → ℕ → ℕ → ℕ → ℕ
sample p c x y = if nat_lt x p.width && nat_lt y p.height then get_or p.samples (3 * (p.width * y + x) + c) 0 else 0

-- f 0 + .. + f (n - 1)
unfoldable pub sum_to : ℕ → (ℕ → ℕ) → ℕ
sum_to zero f = 0
sum_to (suc n) f = sum_to n f + f n

-- the sum of the samples in columns from x * m and rows from y * m, m of each
unfoldable pub square_sum : Image → ℕ → ℕ → ℕ → ℕ → ℕ
square_sum p c m x y = sum_to m (λ j. sum_to m (λ i. sample p c (x * m + i) (y * m + j)))

-- the columns or rows of such a square that a side of the texture has
abbrev pub inside : ℕ → ℕ → ℕ → ℕ
inside side m x = min m (side - x * m)

-- the columns or rows of a level whose squares have side m
abbrev pub side_at : ℕ → ℕ → ℕ
side_at side m = (side + (m - 1)) / m

-- a channel of a texel: the mean of the samples in its square, of a whole of 65536
unfoldable pub texel_part : Image → ℕ → ℕ → ℕ → ℕ → ℕ
texel_part p m x y c = 65536 * square_sum p c m x y / (p.most * (inside p.width m x * inside p.height m y))

-- the number of a channel by its axis
abbrev pub channel : Axis → ℕ
channel X = 0
channel Y = 1
channel Z = 2

-- the texel of level l in column x and row y
abbrev pub texel : Image → ℕ → ℕ → ℕ → Vec3
texel p l x y = by_axes (λ a. pos (texel_part p (2 ^ l) x y (channel a)))

-- worked values: two by two samples, red, green, blue and white
abbrev pub four : Image
four = record { width = 2; height = 2; most = 255; samples = 255 ∷ 0 ∷ 0 ∷ 0 ∷ 255 ∷ 0 ∷ 0 ∷ 0 ∷ 255 ∷ 255 ∷ 255 ∷ 255 ∷ [] }

texel_of_four : texel four 0 1 0 ≡ record { x = pos 0; y = pos 65536; z = pos 0 }
unfolding texel_part square_sum sum_to sample
texel_of_four = refl

mean_of_four : texel four 1 0 0 ≡ record { x = pos 32768; y = pos 32768; z = pos 32768 }
unfolding texel_part square_sum sum_to sample
mean_of_four = refl
