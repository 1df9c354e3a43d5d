use Rattle.std.proofs.Common.{◌≡◌, ℕ, ◌<◌, ◌≤◌, length, get_or, false, cond}
use Rattle.place_rows.proofs.storing.blend.Given as goal

abbrev pub invariant-loop-i : goal.invariant-loop-i
invariant-loop-i T l = record {
  long : length l.target ≡ length l.initial.target;
  each : (d : _) (j : ℕ) → j < l.i → get_or l.target j d ≡ cond (get_or l.live j false) (get_or l.row j d) (get_or l.initial.target j d);
  rest : (d : _) (j : ℕ) → l.i ≤ j → get_or l.target j d ≡ get_or l.initial.target j d;
}
