use Rattle.std.proofs.Common.{◌+◌, ap, arith}
use Rattle.std.proofs.lemmas.Nat.{one_shl}
use Rattle.dice.proofs.Directions.{cells_from, cells_to}
use Rattle.dice.proofs.grid.lines_along.Goals as goal

pub returns-clause-value : goal.returns-clause-value
returns-clause-value c = ap (λ n. n + 1) (one_shl c.args.p 64 (omega arith))

pub returns-clause-from : goal.returns-clause-from
returns-clause-from c = rw (one_shl c.args.p 64 (omega arith)) (cells_from c.args.p)

pub returns-clause-to : goal.returns-clause-to
returns-clause-to c = rw (one_shl c.args.p 64 (omega arith)) (cells_to c.args.p c.requires)
