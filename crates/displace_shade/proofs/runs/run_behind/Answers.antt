use Rattle.std.proofs.Common.{sym, subst}
use Rattle.displace_shade.specs.Lamps.{IsGiven}
use Rattle.displace_shade.proofs.runs.run_behind.Goals as goal

pub run_on-requires-clause-given : goal.run_on-requires-clause-given
run_on-requires-clause-given c = subst (λ us. IsGiven c.args.leaf.now c.args.bound.now c.args.lamps.now us c.args.rows.now) (sym c.deref.ensures.value) c.requires.given
