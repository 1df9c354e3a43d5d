use Rattle.std.proofs.Common.{◌≡◌, ℕ, pos, ◌<◌, length, get_or}
use Rattle.fixed_math.specs.Sine.{cos}
use Rattle.light_rows.proofs.points.Numbers.take_each_cosine.Given as goal

abbrev pub invariant-loop-place : goal.invariant-loop-place
invariant-loop-place l = record {
  long : length l.self.row ≡ 289;
  each : (k : ℕ) → k < l.place → get_or l.self.row k (pos 0) ≡ cos (get_or l.row k (pos 0));
}
