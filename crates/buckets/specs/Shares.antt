-- Shares of a picture's buckets: all of them, or those of one part of several.
use Rattle.std.specs.Prelude.{ℕ, ◌%◌, ◌<◌, ◌^◌, ◌==◌, ◌≡◌, refl, Bool, true, List, [], ◌∷◌, filter}
use Rattle.std.specs.List.{range_with_len}
use Rattle.buckets.specs.declared.share.Share.{Share}
use Rattle.buckets.specs.declared.share.Share.TheVariants.{Whole, Nth}

-- the bucket of a number is in a share: all are in the whole, and in part k of n those whose number modulo n is k
abbrev pub is_in : Share → ℕ → Bool
is_in Whole number = true
is_in (Nth part parts) number = number % parts == part

-- a share of all buckets, or of a part whose number is below the count of parts
abbrev pub IsShare : Share → Type 0
IsShare Whole = Unit {0}
IsShare (Nth part parts) = (part < parts) × (parts < 2 ^ 32)

-- the least of its numbers, and how far one lies behind another
abbrev pub first_in : Share → ℕ
first_in Whole = 0
first_in (Nth part parts) = part

-- how far apart the numbers of a share lie
abbrev pub step_in : Share → ℕ
step_in Whole = 1
step_in (Nth part parts) = parts

-- the numbers of its buckets, of so many
abbrev pub numbers_in : Share → ℕ → List ℕ
numbers_in s count = filter (is_in s) (range_with_len 0 count)

-- worked values: two of five buckets are in part 1 of 3
numbers_of_second : numbers_in (Nth 1 3) 5 ≡ 1 ∷ 4 ∷ []
numbers_of_second = refl
