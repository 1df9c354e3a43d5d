use Rattle.std.proofs.Common.{◌≡◌, ℕ, ◌<◌, length, get_or, false}
use Rattle.number_rows.specs.Planes.{triple_at}
use Rattle.light_rows.specs.Scopes.{one_at}
use Rattle.light_rows.proofs.cones.OneCone.mask.Given as goal

abbrev pub invariant-loop-place : goal.invariant-loop-place
invariant-loop-place l = record {
  long : length l.mask.places ≡ 289;
  each : (i : ℕ) → i < l.place → get_or l.mask.places i false ≡ one_at l.self (triple_at l.directions i);
}
