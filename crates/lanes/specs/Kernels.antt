-- What kernels of two numbers compute that `fixed_math` has no name for.
use Rattle.std.specs.Prelude.{ℤ, cond, int_lt}

-- the lesser of two
abbrev pub least : ℤ → ℤ → ℤ
least a b = cond (int_lt b a) b a

-- the greater of two
abbrev pub greatest : ℤ → ℤ → ℤ
greatest a b = cond (int_lt a b) b a
