use Rattle.std.proofs.Common.{◌≡◌, ℕ, ◌<◌, length, get_or, false}
use Rattle.builtins.specs.Values.{is_nonzero}
use Rattle.number_rows.specs.Planes.{plane_at}
use Rattle.number_rows.proofs.comparing.nonzero_places.Given as goal

abbrev pub invariant-loop-i : goal.invariant-loop-i
invariant-loop-i l = record {
  long : length l.out ≡ length l.initial.out;
  each : (k : ℕ) → k < l.i → get_or l.out k false ≡ is_nonzero (plane_at l.a k);
}
