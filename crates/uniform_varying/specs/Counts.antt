-- The sums in the count of rows: no part of what is counted.
use Rattle.std.specs.Prelude.{ℕ, min}

-- a count as 64 bits hold it: the last number stands for all above it
abbrev pub counted : ℕ → ℕ
counted n = min n 18446744073709551615
