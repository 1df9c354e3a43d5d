use Rattle.std.proofs.Common.{◌≡◌, ℕ, ◌-◌, ◌<◌, ◌≤◌, length, get_or, false, cond}
use Rattle.grid_machine.proofs.control.spend.Given as goal

abbrev pub invariant-loop-place : goal.invariant-loop-place
invariant-loop-place l = (length l.own ≡ length l.initial.own) × (((i : ℕ) → i < l.place → get_or l.own i 0 ≡ cond (get_or l.mask.places i false) (get_or l.initial.own i 0 - 1) (get_or l.initial.own i 0)) × ((i : ℕ) → l.place ≤ i → get_or l.own i 0 ≡ get_or l.initial.own i 0))
