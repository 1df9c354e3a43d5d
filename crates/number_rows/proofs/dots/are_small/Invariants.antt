use Rattle.std.proofs.Common.{◌≡◌, ℕ, ◌<◌, true}
use Rattle.number_rows.specs.Planes.{rows_at, AreSmall}
use Rattle.number_rows.proofs.dots.are_small.Given as goal

abbrev pub invariant-loop-i : goal.invariant-loop-i
invariant-loop-i l = l.small ≡ true → (k : ℕ) → k < l.i → AreSmall (rows_at l.a k)
