use Rattle.std.proofs.Common.{◌≡◌, ℕ, pos, ◌<◌, ◌≤◌, length, get_or}
use Rattle.light_rows.specs.Loops.{with_share}
use Rattle.light_rows.proofs.loops.add_shares.Given as goal

abbrev pub invariant-loop-i : goal.invariant-loop-i
invariant-loop-i l = record {
  long : length l.totals ≡ length l.initial.totals;
  each : (k : ℕ) → k < l.i → get_or l.totals k (pos 0) ≡ with_share (get_or l.shown k (pos 0)) (get_or l.initial.totals k (pos 0)) (get_or l.colours k (pos 0)) (get_or l.weights k (pos 0));
  rest : (k : ℕ) → l.i ≤ k → get_or l.totals k (pos 0) ≡ get_or l.initial.totals k (pos 0);
}
