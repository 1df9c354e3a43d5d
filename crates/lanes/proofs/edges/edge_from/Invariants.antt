use Rattle.std.proofs.Common.{◌≡◌, ℕ, ◌<◌, length}
use Rattle.lanes.specs.Rows.{at}
use Rattle.lanes.specs.Edges.{from_step}
use Rattle.lanes.proofs.edges.edge_from.Given as goal

abbrev pub invariant-loop-i : goal.invariant-loop-i
invariant-loop-i l = record {
  long : length l.out ≡ length l.initial.out;
  each : (k : ℕ) → k < l.i → at l.out k ≡ from_step l.ax l.ay l.dx l.dy (at l.xs k) (at l.ys k);
}
