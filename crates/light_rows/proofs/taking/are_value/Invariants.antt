use Rattle.std.proofs.Common.{◌≡◌, ℕ, pos, ◌<◌, get_or, true}
use Rattle.light_rows.proofs.taking.are_value.Given as goal

abbrev pub invariant-loop-i : goal.invariant-loop-i
invariant-loop-i l = l.same ≡ true → (k : ℕ) → k < l.i → get_or l.a k (pos 0) ≡ l.x
