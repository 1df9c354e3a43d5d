use Rattle.std.proofs.Common.{◌≡◌, All, take, map}
use Rattle.pixel_account.specs.Account.{IsSample}
use Rattle.pixel_account.proofs.accounts.samples_of.Given as goal

abbrev pub invariant-loop-stack : goal.invariant-loop-stack
invariant-loop-stack g l = record {
  samples : map (λ s. s.sample) l.samples.items ≡ map (λ k. k.sample) (take l.stack-index l.stacks);
  each : All (IsSample g.of.accepted l.frame g.of.x g.of.y) l.samples.items;
}

abbrev pub ghost-sample_of : goal.ghost-sample_of
ghost-sample_of g a = g.of
