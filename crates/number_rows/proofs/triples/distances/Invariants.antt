use Rattle.std.proofs.Common.{◌≡◌, ℕ, pos, ◌<◌, length, get_or}
use Rattle.builtins.specs.Triples as t
use Rattle.number_rows.specs.Planes.{triple_at}
use Rattle.number_rows.proofs.triples.distances.Given as goal

abbrev pub invariant-loop-i : goal.invariant-loop-i
invariant-loop-i l = record {
  long : length l.out ≡ length l.initial.out;
  each : (k : ℕ) → k < l.i → get_or l.out k (pos 0) ≡ t.distance (triple_at l.a k) (triple_at l.b k);
}
