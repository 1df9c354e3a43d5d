-- The kinds of bytes.
use Rattle.std.specs.Prelude.{ℕ, Bool, false, List, [], ◌∷◌, ◌&&◌, ◌||◌, ◌==◌, nat_le, not}

abbrev pub is_between : ℕ → ℕ → ℕ → Bool
is_between lo hi b = nat_le lo b && nat_le b hi

-- space, tab, line feed, carriage return
abbrev pub is_white : ℕ → Bool
is_white b = b == 32 || b == 9 || b == 10 || b == 13

abbrev pub is_digit : ℕ → Bool
is_digit b = is_between 48 57 b

-- a letter or _
abbrev pub is_letter : ℕ → Bool
is_letter b = is_between 65 90 b || is_between 97 122 b || b == 95

-- what goes on with a name
abbrev pub is_name : ℕ → Bool
is_name b = is_letter b || is_digit b

-- not a line feed
abbrev pub is_in_line : ℕ → Bool
is_in_line b = not (b == 10)

-- what may stand for itself in a string
abbrev pub is_plain : ℕ → Bool
is_plain b = is_between 32 126 b || b == 9 || b == 10

abbrev pub is_point : ℕ → Bool
is_point b = b == 46

abbrev pub is_equals : ℕ → Bool
is_equals b = b == 61

abbrev pub is_sign : ℕ → Bool
is_sign b = b == 43 || b == 45

abbrev pub is_e : ℕ → Bool
is_e b = b == 101 || b == 69

-- what may not stand directly after a number
abbrev pub is_stuck : ℕ → Bool
is_stuck b = is_name b || is_point b

-- the first byte is there and is such
abbrev pub head_byte : (ℕ → Bool) → List ℕ → Bool
head_byte p [] = false
head_byte p (b ∷ bs) = p b
