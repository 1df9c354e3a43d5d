use Rattle.std.proofs.Common.{rules}
use Rattle.light_rows.proofs.viewing.Cone.none.Goals as goal

-- src/viewing.rt:46:5
pub returns-clause-cone : goal.returns-clause-cone
returns-clause-cone c = λ k. record {
  axis = c.zeros.ensures k;
  angle = search rules;
}
