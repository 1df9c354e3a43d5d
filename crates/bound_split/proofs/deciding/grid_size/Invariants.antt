use Rattle.std.proofs.Common.{◌<◌, ◌*◌, ◌^◌, ℕ}
use Rattle.bound_split.proofs.deciding.grid_size.Given as goal

abbrev pub invariant-loop-p : goal.invariant-loop-p
invariant-loop-p l = (k : ℕ) → k < l.p → l.side * 2 ^ k < l.length
