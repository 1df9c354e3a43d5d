-- For private contracts alone: a whole number as a natural and a sign, so that its floor is one division of naturals.
use Rattle.std.specs.Prelude.{ℕ, ℤ, pos, negsuc}

unfoldable pub magnitude : ℤ → ℕ
magnitude (pos a) = a
magnitude (negsuc a) = a

unfoldable pub signed_as : ℤ → ℕ → ℤ
signed_as (pos a) q = pos q
signed_as (negsuc a) q = negsuc q
