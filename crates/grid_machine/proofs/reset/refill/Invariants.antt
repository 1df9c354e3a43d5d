use Rattle.std.proofs.Common.{◌≡◌, ℕ, ◌<◌, length, get_or}
use Rattle.grid_machine.proofs.reset.refill.Given as goal

abbrev pub invariant-loop-place : goal.invariant-loop-place
invariant-loop-place l = record {
  long : length l.own ≡ length l.initial.own;
  each : (i : ℕ) → i < l.place → get_or l.own i 0 ≡ 65536;
}
