-- Inverses of lengths, and vectors that are nearly units.
use Rattle.std.specs.Prelude.{ℕ, ◌+◌, ◌*◌, ◌<◌, ◌≤◌, ◌^◌, ℤ}
use Rattle.fixed_math.specs.Unit.{square}

-- For private contracts alone: 2 ^ 83 over a length, brought to the top of 32 bits, is the factor or a little less
pub record IsFine (n factor zeros : ℕ) : Type 0 where
  pub small : n * 2 ^ zeros < 4294967296
  pub least : 9671406556917033397649408 ≤ n * 2 ^ zeros * factor
  pub most : n * 2 ^ zeros * factor < 9671406556917033397649408 + 17179869184 * 2 ^ zeros

-- the length, rounded down, is from 65534 to 65537
pub record IsNearUnit (x y z : ℤ) : Type 0 where
  pub least : 4294705156 ≤ square x + square y + square z
  pub most : square x + square y + square z < 4295229444
