use Rattle.std.proofs.Common.{◌≡◌, ℕ, ◌<◌, length, get_or, false}
use Rattle.std.specs.Prelude.{not, ◌&&◌}
use Rattle.place_rows.proofs.mask.Mask.without.Given as goal

abbrev pub invariant-loop-place : goal.invariant-loop-place
invariant-loop-place l = (length l.mask.places ≡ 289) × ((i : ℕ) → i < l.place → get_or l.mask.places i false ≡ (get_or l.self.places i false && not (get_or l.other.places i false)))
