use Rattle.std.proofs.Common.{◌≡◌, ℕ, ◌<◌, length}
use Rattle.builtins.specs.Triples.{normalize}
use Rattle.number_rows.specs.Planes.{rows_at, triple_in}
use Rattle.number_rows.proofs.units.far_units.Given as goal

abbrev pub invariant-loop-i : goal.invariant-loop-i
invariant-loop-i l = record {
  x_long : length l.x ≡ length l.initial.x;
  y_long : length l.y ≡ length l.initial.y;
  z_long : length l.z ≡ length l.initial.z;
  each : (k : ℕ) → k < l.i → triple_in l.x l.y l.z k ≡ normalize (rows_at l.a k);
}
