use Rattle.std.proofs.Common.{◌≡◌, ◌<◌, ℕ, List, true, slice_index_or}
use Rattle.hider.specs.declared.fragment.Fragment.{Fragment}
use Rattle.hider.specs.Kept.{blocks}
use Rattle.hider.proofs.rooms.all_block.Given as goal

abbrev pub invariant-loop-n : goal.invariant-loop-n
invariant-loop-n l = (m : ℕ) (d : List Fragment) → m < l.n → blocks l.z (slice_index_or l.lists m d) ≡ true
