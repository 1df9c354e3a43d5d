-- How many places grids have.
use Rattle.std.proofs.Common.{ℕ, ◌*◌, ◌≤◌}
use Rattle.std.proofs.Math.Nat.{mul-le-mul}

pub some_places : (a b : ℕ) → 2 ≤ a → 2 ≤ b → 4 ≤ a * b
some_places a b h k = mul-le-mul h k

pub few_places : (a b : ℕ) → a ≤ 17 → b ≤ 17 → a * b ≤ 289
few_places a b h k = mul-le-mul h k
