-- The unit vector of three whole numbers.
use Rattle.std.specs.Prelude.{ℕ, zero, suc, ℤ, pos, negsuc, neg_ℤ, ◌+◌, ◌*◌, ◌/◌, ◌^◌, ◌*ℤ◌, Bool, nat_lt, ◌&&◌, unsigned_abs}
use Rattle.fixed_math.specs.Whole.{floor_by, first_passing}
use Rattle.fixed_math.specs.Root.{isqrt}

-- the three magnitudes are below 2 ^ 62 when shifted by k
abbrev pub fits_at : ℕ → ℕ → ℕ → ℕ → Bool
fits_at x y z k = nat_lt (x / 2 ^ k) (2 ^ 62) && (nat_lt (y / 2 ^ k) (2 ^ 62) && nat_lt (z / 2 ^ k) (2 ^ 62))

-- the least such k, for magnitudes below 2 ^ 100
unfoldable pub shift_for : ℕ → ℕ → ℕ → ℕ
shift_for x y z = first_passing 128 (fits_at x y z)

-- the magnitude shifted by k, with the sign of c
abbrev pub shrunk : ℤ → ℕ → ℤ
shrunk (pos a) k = pos (a / 2 ^ k)
shrunk (negsuc a) k = neg_ℤ (pos (suc a / 2 ^ k))

abbrev pub square : ℤ → ℕ
square c = unsigned_abs c * unsigned_abs c

-- the length of the vector
unfoldable pub norm : ℤ → ℤ → ℤ → ℕ
norm x y z = isqrt (square x + square y + square z)

-- the part c of a vector of length n
abbrev pub part : ℤ → ℕ → ℤ
part c zero = pos 0
part c (suc n) = floor_by (c *ℤ pos 65536) (suc n)

-- a part of the unit vector of three whole numbers, rounded down; 0 where all are 0
unfoldable pub unit_part : ℤ → ℤ → ℤ → ℤ → ℤ
unit_part c x y z =
    let k = shift_for (unsigned_abs x) (unsigned_abs y) (unsigned_abs z) in
    part (shrunk c k) (norm (shrunk x k) (shrunk y k) (shrunk z k))
