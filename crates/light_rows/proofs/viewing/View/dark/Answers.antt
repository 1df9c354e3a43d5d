use Rattle.std.proofs.Common.{rules}
use Rattle.light_rows.proofs.viewing.View.dark.Goals as goal

-- src/viewing.rt:103:5
pub returns : goal.returns
returns c = λ k. record {
  lit = search rules;
  towards = c.zeros.ensures k;
  units = c.zeros-2.ensures k;
  colours = c.zeros-3.ensures k;
}
