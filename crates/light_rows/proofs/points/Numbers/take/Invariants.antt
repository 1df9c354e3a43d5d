use Rattle.std.proofs.Common.{◌≡◌, ℕ, pos, ◌<◌, length, get_or}
use Rattle.number_rows.specs.Planes.{plane_at}
use Rattle.light_rows.proofs.points.Numbers.take.Given as goal

abbrev pub invariant-loop-place : goal.invariant-loop-place
invariant-loop-place l = record {
  long : length l.self.row ≡ 289;
  each : (k : ℕ) → k < l.place → get_or l.self.row k (pos 0) ≡ plane_at l.plane k;
}
