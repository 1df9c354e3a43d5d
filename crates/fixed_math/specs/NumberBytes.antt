-- The bytes of a number's text.
use Rattle.std.specs.Prelude.{ℕ, Bool, ◌==◌, ◌||◌, ◌&&◌, nat_le}

-- 0 to 9
abbrev pub is_digit : ℕ → Bool
is_digit b = nat_le 48 b && nat_le b 57

abbrev pub is_point : ℕ → Bool
is_point b = b == 46

abbrev pub is_minus : ℕ → Bool
is_minus b = b == 45

-- + or -
abbrev pub is_sign : ℕ → Bool
is_sign b = b == 43 || b == 45

-- the mark of an exponent, e or E
abbrev pub is_mark : ℕ → Bool
is_mark b = b == 101 || b == 69
