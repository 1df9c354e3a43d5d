use Rattle.std.proofs.Common.{◌≡◌, All, take}
use Rattle.pixel_account.specs.Account.{IsFragment, AreLaid, fragments_of}
use Rattle.pixel_account.specs.Laying.{IsLaid}
use Rattle.pixel_account.specs.Traces.{fragments_in}
use Rattle.pixel_account.proofs.accounts.sample_of.Given as goal

abbrev pub invariant-loop-trace : goal.invariant-loop-trace
invariant-loop-trace g l = record {
  laid : IsLaid (fragments_of l.fragments.items) l.laid;
  same : fragments_of l.fragments.items ≡ fragments_in (take l.trace-index l.stack.traces);
  each : All (IsFragment g.of.accepted l.frame l.stack.sample) l.fragments.items;
  each_laid : AreLaid l.fragments.items;
}

abbrev pub ghost-fragment_of : goal.ghost-fragment_of
ghost-fragment_of g a = g.of.accepted
