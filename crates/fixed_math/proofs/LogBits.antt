-- The bits of a logarithm behind those before.
use Rattle.std.proofs.Common.{◌≡◌, ℕ, zero, suc, ◌+◌, ◌-◌, ◌*◌, ◌/◌, ◌^◌, ◌≤◌, ◌<◌, arith, Bool, true, false, cond}
use Rattle.std.specs.Prelude.{nat_le}
use Rattle.fixed_math.specs.Power.{log_bits}
use Rattle.fixed_math.proofs.Logs.{log_step, log_none, doubled}

pub before_none : (before m : ℕ) → before ≡ before * 2 ^ 0 + log_bits 0 m
before_none before m = let none = log_none m in omega (arith, none)

one_more : (t : Bool) (k before : ℕ) (a b c : ℕ) → 2 ^ k ≡ 2 ^ (k - 1) + 2 ^ (k - 1) → c ≡ cond t (2 ^ (k - 1)) 0 + b
    → (2 * before + cond t 1 0) * 2 ^ (k - 1) + b ≡ before * 2 ^ k + c
one_more true k before a b c twice is = rw (twice, is) (omega arith)
one_more false k before a b c twice is = rw (twice, is) (omega arith)

pub before_more : (k m before : ℕ) → 0 < k
    → (2 * before + cond (nat_le 2147483648 (m * m / 1073741824)) 1 0) * 2 ^ (k - 1)
    + log_bits (k - 1) (cond (nat_le 2147483648 (m * m / 1073741824)) (m * m / 1073741824 / 2) (m * m / 1073741824))
    ≡ before * 2 ^ k + log_bits k m
before_more k m before some =
    one_more (nat_le 2147483648 (m * m / 1073741824)) k before 0
    (log_bits (k - 1) (cond (nat_le 2147483648 (m * m / 1073741824)) (m * m / 1073741824 / 2) (m * m / 1073741824)))
    (log_bits k m) (doubled k some) (log_step k m some)

pub before_room : (k before bit n : ℕ) → 0 < k → bit ≤ 1 → before * 2 ^ k + 2 ^ k ≤ n → (2 * before + bit) * 2 ^ (k - 1) + 2 ^ (k - 1) ≤ n
before_room k before zero n some small room = let twice = doubled k some in let h = rw twice at room in omega (arith, h)
before_room k before (suc zero) n some small room = let twice = doubled k some in let h = rw twice at room in omega (arith, h)
before_room k before (suc (suc b)) n some small room = absurd (omega arith)
