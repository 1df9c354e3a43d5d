-- Noise: values that a hash gives to the points of the whole-number lattice, blended between them (RenderMan Interface 3.2, Shading
-- Language, section 15.1; the hash is this program's own).
use Rattle.std.specs.Prelude.{ℕ, ℤ, pos, neg_ℤ, ◌/◌, ◌^◌, ◌+ℤ◌, unsigned_abs, [], ◌∷◌, ◌≡◌, refl}
use Rattle.std.specs.Int.{int_rem_euclid}
use Rattle.fixed_math.specs.Whole.{floor_by}
use Rattle.fixed_math.specs.Hash.{hash32, with_word}
use Rattle.fixed_math.specs.declared.vec3.Vec3.{Vec3}
use Rattle.builtins.specs.Numbers.{mix, hermite}

-- a whole number as a word of 32 bits
abbrev pub word : ℤ → ℕ
word n = unsigned_abs (int_rem_euclid n (pos (2 ^ 32)))

-- the value at a point of the lattice: below 1
unfoldable pub lattice : ℤ → ℤ → ℤ → ℤ
lattice x y z = pos (hash32 (word x ∷ word y ∷ word z ∷ []) / 2 ^ 16)

-- the part behind the point
abbrev pub rest : ℤ → ℤ
rest x = int_rem_euclid x (pos 65536)

-- blended along x between a point of the lattice and the next
unfoldable pub along_x : ℤ → ℤ → ℤ → ℤ → ℤ
along_x w x y z = mix (lattice x y z) (lattice (x +ℤ pos 1) y z) w

-- the blend along x and y of four points
unfoldable pub along_y : ℤ → ℤ → ℤ → ℤ → ℤ → ℤ
along_y u v x y z = mix (along_x u x y z) (along_x u x (y +ℤ pos 1) z) v

-- the blend along x, y and z of eight points
unfoldable pub along_z : ℤ → ℤ → ℤ → ℤ → ℤ → ℤ → ℤ
along_z u v w x y z = mix (along_y u v x y z) (along_y u v x y (z +ℤ pos 1)) w

-- the blend of the eight points about p, by how far behind the first of them it lies
unfoldable pub noise : Vec3 → ℤ
noise p = along_z (hermite (rest p.x)) (hermite (rest p.y)) (hermite (rest p.z)) (floor_by p.x 65536) (floor_by p.y 65536) (floor_by p.z 65536)

-- for private contracts alone: the hash of the first two words of a point, and a value of the lattice by that
abbrev pub row_of : ℤ → ℤ → ℕ
row_of x y = with_word (with_word 0 (word x)) (word y)

abbrev pub of_row : ℕ → ℕ → ℤ
of_row row z = pos (with_word row z / 2 ^ 16)

-- at a point of the lattice it is the value there
noise_at_origin : noise (record { x = pos 0; y = pos 0; z = pos 0 }) ≡ lattice (pos 0) (pos 0) (pos 0)
unfolding noise along_x along_y along_z lattice mix hermite
noise_at_origin = refl

-- halfway to the next point of the lattice the weight is 3/4 - 2/8 = 1/2; the values there are 34683 and 40708 (three steps of the hash from
-- 0 over 0 0 0 and over 1 0 0, without their lower 16 bits), and the floors of their halves 17341 + 20354
noise_at_half : noise (record { x = pos 32768; y = pos 0; z = pos 0 }) ≡ pos 37695
unfolding noise along_x along_y along_z lattice mix hermite
noise_at_half = refl

-- a quarter before the origin it is three quarters behind the point -1, where the value is 41608: the weight is 27/16 - 54/64 = 27/32, and
-- the floors of 41608 * 5/32 and 34683 * 27/32 are 6501 + 29263
noise_before_origin : noise (record { x = neg_ℤ (pos 16384); y = pos 0; z = pos 0 }) ≡ pos 35764
unfolding noise along_x along_y along_z lattice mix hermite
noise_before_origin = refl
