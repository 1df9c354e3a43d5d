-- For private contracts alone: the power of two as one factor for each bit of the fraction, the four high ones by a table.
use Rattle.std.specs.Prelude.{ℕ, ◌+◌, ◌*◌, ◌/◌, ◌%◌, ◌^◌, ◌==◌, cond, Bool, true, ◌&&◌, nat_le, List, [], ◌∷◌}

-- m times s / 2 ^ 30 where the bit k of f is set
abbrev pub factor : ℕ → ℕ → ℕ → ℕ → ℕ
factor k f m s = cond (f / 2 ^ k % 2 == 1) (m * s / 2 ^ 30) m

-- the factors of the four high bits, of which j is made, from the highest
abbrev pub high_power : ℕ → ℕ
high_power j = factor 0 j (factor 1 j (factor 2 j (factor 3 j 1073741824 1518500249) 1276901416) 1170923761) 1121280435

-- those of the four bits below them
abbrev pub with_middle : ℕ → ℕ → ℕ
with_middle f m = factor 8 f (factor 9 f (factor 10 f (factor 11 f m 1097253707) 1085434105) 1079572135) 1076653032

-- those of the eight low bits
abbrev pub with_low : ℕ → ℕ → ℕ
with_low f m =
    factor 0 f (factor 1 f (factor 2 f (factor 3 f (factor 4 f (factor 5 f (factor 6 f (factor 7 f m 1075196442) 1074468886) 1074105293) 1073923543) 1073832679) 1073787250) 1073764536) 1073753179

-- a table that has at place n the power of j + n, each in its range
abbrev pub checked : List ℕ → ℕ → Bool
checked [] j = true
checked (x ∷ xs) j = (x == high_power j && (nat_le 1073741824 x && nat_le x 2147483648)) && checked xs (j + 1)
