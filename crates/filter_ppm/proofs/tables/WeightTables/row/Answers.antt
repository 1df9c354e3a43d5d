use Rattle.std.proofs.Common.{rules}
use Rattle.filter_ppm.proofs.tables.WeightTables.row.Goals as goal

pub returns : goal.returns
returns c = record {
  options = search rules;
  across = search rules;
  powers = search rules;
  down = search rules;
  bells = search rules;
}
