use Rattle.std.proofs.Common.{◌≡◌, ℕ, pos, ◌<◌, ◌≤◌, length, get_or}
use Rattle.fixed_math.specs.Fixed.{add}
use Rattle.light_rows.proofs.loops.add_whole.Given as goal

abbrev pub invariant-loop-i : goal.invariant-loop-i
invariant-loop-i l = record {
  long : length l.totals ≡ length l.initial.totals;
  each : (k : ℕ) → k < l.i → get_or l.totals k (pos 0) ≡ add (get_or l.initial.totals k (pos 0)) (get_or l.colours k (pos 0));
  rest : (k : ℕ) → l.i ≤ k → get_or l.totals k (pos 0) ≡ get_or l.initial.totals k (pos 0);
}
