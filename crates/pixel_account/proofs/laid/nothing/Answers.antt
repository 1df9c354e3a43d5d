use Rattle.std.proofs.Common.{refl}
use Rattle.pixel_account.proofs.laid.nothing.Goals as goal
use Rattle.pixel_account.specs.Account.{passed_through}
use Rattle.hider.specs.Composite.{composite}

pub returns : goal.returns
unfolding composite passed_through
returns c = record { colour = c.default.ensures; passed = rw c.sat-whole.ensures refl }
