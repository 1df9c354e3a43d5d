use Rattle.sl_grammar.proofs.ToldFiles.{bad_tokens, deep_tokens}
use Rattle.sl_grammar.proofs.laws.faults_placed.Goals as goal

pub returns-clause-bad : goal.returns-clause-bad
returns-clause-bad c = bad_tokens

pub returns-clause-deep : goal.returns-clause-deep
returns-clause-deep c = deep_tokens
