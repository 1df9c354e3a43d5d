use Rattle.std.proofs.Common.{◌≡◌, ℕ, ◌<◌, length}
use Rattle.builtins.specs.Triples.{normalize}
use Rattle.number_rows.specs.Planes.{triple_at, triple_in}
use Rattle.light_rows.proofs.points.Points.take_each_unit.Given as goal

abbrev pub invariant-loop-place : goal.invariant-loop-place
invariant-loop-place l = record {
  x_long : length l.self.x.row ≡ 289;
  y_long : length l.self.y.row ≡ 289;
  z_long : length l.self.z.row ≡ 289;
  each : (k : ℕ) → k < l.place → triple_in l.self.x.row l.self.y.row l.self.z.row k ≡ normalize (triple_at l.planes k);
}
