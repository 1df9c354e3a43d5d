use Rattle.std.proofs.Common.{◌≡◌}
use Rattle.hider.specs.declared.fragment.Fragment.{Fragment}
use Rattle.pixel_account.specs.Traces.{fragments_in}
use Rattle.pixel_account.proofs.Placing.{IsBehind}
use Rattle.pixel_account.proofs.traces.place_of.Given as goal

abbrev pub invariant-loop-k : goal.invariant-loop-k
invariant-loop-k l = (f : Fragment) → f.depth ≡ l.depth → IsBehind f (fragments_in l.traces) l.k
