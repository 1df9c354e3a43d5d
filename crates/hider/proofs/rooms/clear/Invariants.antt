use Rattle.std.proofs.Common.{◌≡◌, ◌<◌, ℕ, List, [], slice_index_or}
use Rattle.hider.specs.declared.fragment.Fragment.{Fragment}
use Rattle.hider.proofs.rooms.clear.Given as goal

abbrev pub invariant-loop-n : goal.invariant-loop-n
invariant-loop-n l = (m : ℕ) (d : List Fragment) → m < l.n → slice_index_or l.lists m d ≡ []
