-- The kinds of bytes of a scene's text.
use Rattle.std.specs.Prelude.{ℕ, Bool, ◌&&◌, ◌||◌, ◌==◌, nat_le, not, List}
use Rattle.std.specs.List.{count_by}
use Rattle.fixed_math.specs.NumberBytes.{is_digit, is_sign, is_point}

abbrev pub is_between : ℕ → ℕ → ℕ → Bool
is_between low high b = nat_le low b && nat_le b high

-- space, tab, line feed, carriage return
abbrev pub is_white : ℕ → Bool
is_white b = b == 32 || b == 9 || b == 10 || b == 13

-- a letter or _
abbrev pub is_letter : ℕ → Bool
is_letter b = is_between 65 90 b || is_between 97 122 b || b == 95

-- what a name goes on with
abbrev pub is_name : ℕ → Bool
is_name b = is_letter b || is_digit b

-- not a line feed
abbrev pub is_in_line : ℕ → Bool
is_in_line b = not (b == 10)

-- what stands for itself in a string: 32 to 126, tab, line feed
abbrev pub is_plain : ℕ → Bool
is_plain b = is_between 32 126 b || b == 9 || b == 10

-- what a number begins with
abbrev pub begins_number : ℕ → Bool
begins_number b = is_digit b || is_sign b || is_point b

-- what may not stand directly behind a number
abbrev pub runs_on : ℕ → Bool
runs_on b = is_name b || is_sign b || is_point b

abbrev pub line_feeds : List ℕ → ℕ
line_feeds bs = count_by (λ b. b == 10) bs
