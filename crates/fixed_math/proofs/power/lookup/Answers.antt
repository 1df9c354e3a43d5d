use Rattle.fixed_math.proofs.PowerTable.{table_at}
use Rattle.fixed_math.proofs.power.lookup.Goals as goal

pub returns-clause-value : goal.returns-clause-value
returns-clause-value c = (table_at c.args.table.now c.args.j c.requires.checked c.requires.place).value

pub returns-clause-low : goal.returns-clause-low
returns-clause-low c = (table_at c.args.table.now c.args.j c.requires.checked c.requires.place).low

pub returns-clause-high : goal.returns-clause-high
returns-clause-high c = (table_at c.args.table.now c.args.j c.requires.checked c.requires.place).high
