-- Rows of numbers, one for each place.
use Rattle.std.specs.Prelude.{ℕ, ℤ, pos, List, slice_index_or}

-- the number at a place of a row
abbrev pub at : List ℤ → ℕ → ℤ
at row i = slice_index_or row i (pos 0)
