-- Truths as numbers, 1 or 0, and what is made of them.
use Rattle.std.specs.Prelude.{ℤ, pos, neg_ℤ, Bool, cond, not, int_lt, ◌&&◌, ◌||◌}
use Rattle.std.specs.Ordering.{int_eq}
use Rattle.builtins.specs.Values.{is_nonzero}

-- a truth as a number
abbrev pub truth : Bool → ℤ
truth holds = cond holds (pos 65536) (pos 0)

-- 1 where a number is 0
abbrev pub negation : ℤ → ℤ
negation x = truth (not (is_nonzero x))

-- 1 where both aren't 0
abbrev pub both : ℤ → ℤ → ℤ
both x y = truth (is_nonzero x && is_nonzero y)

-- 1 where one isn't 0
abbrev pub either : ℤ → ℤ → ℤ
either x y = truth (is_nonzero x || is_nonzero y)

abbrev pub same : ℤ → ℤ → ℤ
same x y = truth (int_eq x y)

-- 1 where two numbers differ
abbrev pub differs : ℤ → ℤ → ℤ
differs x y = truth (not (int_eq x y))

-- the second where the first isn't 0, else the third
abbrev pub chosen : ℤ → ℤ → ℤ → ℤ
chosen t x y = cond (is_nonzero t) x y

-- the second with the other sign where the first is above 0
abbrev pub turned : ℤ → ℤ → ℤ
turned x y = cond (int_lt (pos 0) x) (neg_ℤ y) y
