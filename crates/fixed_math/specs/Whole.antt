-- Whole numbers, unbounded, and their division rounded down.
use Rattle.std.specs.Prelude.{ℕ, zero, suc, Bool, ℤ, pos, negsuc, neg_ℤ, ◌/◌, int_lt, cond}

-- the greatest whole number not above z / n, for a natural n that is not 0
abbrev pub floor_by : ℤ → ℕ → ℤ
floor_by (pos a) n = pos (a / n)
floor_by (negsuc a) n = negsuc (a / n)

-- the greatest whole number not above a / b, for b not 0
abbrev pub floor_div : ℤ → ℤ → ℤ
floor_div a (pos b) = floor_by a b
floor_div a (negsuc b) = floor_by (neg_ℤ a) (suc b)

-- x put into low to high
abbrev pub clamp : ℤ → ℤ → ℤ → ℤ
clamp low high x = cond (int_lt x low) low (cond (int_lt high x) high x)

-- the least k that passes the test, and n where none below n does
unfoldable pub first_passing : ℕ → (ℕ → Bool) → ℕ
first_passing zero p = 0
first_passing (suc n) p = cond (p 0) 0 (suc (first_passing n (λ k. p (suc k))))
