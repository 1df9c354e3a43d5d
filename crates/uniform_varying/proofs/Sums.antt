-- Sums of counts as 64 bits hold them.
use Rattle.std.proofs.Common.{arith, ◌≡◌, ◌+◌, ◌≤◌, ℕ}
use Rattle.uniform_varying.specs.Counts.{counted}

pub counted_few : (n m : ℕ) → m ≤ 200000 → n ≡ counted m → n ≡ m
counted_few n m h e = omega (arith, h, e)

pub back : (x a : ℕ) → x ≡ counted a → counted x ≡ counted a
back x a p = omega (arith, p)

-- one part more in front of others
pub more : (x a n m : ℕ) → counted x ≡ counted a → counted n ≡ counted m → counted (x + n) ≡ counted (a + m)
more x a n m p q = omega (arith, p, q)

-- one turn of a loop: what is counted so far, and what is left
pub turn : (so_far part rest left n whole : ℕ) → counted (so_far + left) ≡ whole → left ≡ part + rest → n ≡ counted part → counted (counted (so_far + n) + rest) ≡ whole
turn so_far part rest left n whole inv split e = omega (arith, inv, split, e)

pub ended : (so_far left whole : ℕ) → so_far ≤ 18446744073709551615 → counted (so_far + left) ≡ whole → left ≡ 0 → so_far ≡ whole
ended so_far left whole small inv none = omega (arith, small, inv, none)
