use Rattle.sl_expression_grammar.specs.Expressions.{expr_at}
use Rattle.sl_grammar.proofs.ExprReads.{whole_read, spelled_once}
use Rattle.sl_grammar.proofs.Got.{got_is}
use Rattle.sl_grammar.proofs.Rises.{Same}
use Rattle.sl_grammar.proofs.laws.expressions_spelled_once.Goals as goal

pub returns-clause-accepted : goal.returns-clause-accepted
returns-clause-accepted c = λ e g levels w ts ks t h. got_is (expr_at levels ts) (Same e ks) (whole_read e g levels w ks h ts t)

pub returns-clause-once : goal.returns-clause-once
returns-clause-once c = spelled_once
