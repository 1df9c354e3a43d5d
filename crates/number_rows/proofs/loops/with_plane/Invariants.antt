use Rattle.std.proofs.Common.{◌≡◌, ℕ, pos, ◌<◌, ◌≤◌, length, get_or}
use Rattle.number_rows.specs.Planes.{plane_at}
use Rattle.number_rows.proofs.loops.with_plane.Given as goal

abbrev pub invariant-loop-i : goal.invariant-loop-i
invariant-loop-i g l = record {
  long : length l.out ≡ length l.initial.out;
  each : (k : ℕ) → k < l.i → get_or l.out k (pos 0) ≡ g.K.Two.formula (get_or l.initial.out k (pos 0)) (plane_at l.b k);
  rest : (k : ℕ) → l.i ≤ k → get_or l.out k (pos 0) ≡ get_or l.initial.out k (pos 0);
}
