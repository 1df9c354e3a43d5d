-- One step after another.
use Rattle.std.proofs.Common.{ℕ, ◌≤◌, arith}
use Rattle.outside.specs.Causes.{Rose}

-- a count that rose in the second of two steps rose in both
pub rose_after : (a b c : ℕ) → a ≤ b → Rose b c → Rose a c
rose_after a b c first second = omega (arith, first, second)

-- and one that rose in the first
pub rose_before : (a b c : ℕ) → Rose a b → b ≤ c → Rose a c
rose_before a b c first second = omega (arith, first, second)
