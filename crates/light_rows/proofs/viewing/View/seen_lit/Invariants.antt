use Rattle.std.proofs.Common.{◌≡◌, ℕ, ◌<◌, length, get_or, false}
use Rattle.std.specs.Prelude.{is_some}
use Rattle.builtins.specs.Lights.{Light}
use Rattle.light_rows.specs.Scopes.{cones_at}
use Rattle.light_rows.specs.Seen.{shown_by, IsShown}
use Rattle.light_rows.proofs.viewing.View.seen_lit.Given as goal

abbrev pub invariant-loop-place : goal.invariant-loop-place
invariant-loop-place l = record {
  long : length l.mask.places ≡ 289;
  each : (x : Light) (i : ℕ) → i < l.place → IsShown l.self i x → get_or l.mask.places i false ≡ is_some (shown_by (cones_at l.cones i) x);
}
