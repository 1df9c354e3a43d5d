use Rattle.std.proofs.Common.{◌≡◌, ℕ, ◌<◌, true}
use Rattle.number_rows.specs.Planes.{rows_at, IsNear}
use Rattle.number_rows.proofs.units.are_near.Given as goal

abbrev pub invariant-loop-i : goal.invariant-loop-i
invariant-loop-i l = l.near ≡ true → (k : ℕ) → k < l.i → IsNear (rows_at l.a k)
