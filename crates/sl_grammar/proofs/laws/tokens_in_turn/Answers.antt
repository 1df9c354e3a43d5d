use Rattle.sl_grammar.proofs.Turns.{tokens_turn}
use Rattle.sl_grammar.proofs.laws.tokens_in_turn.Goals as goal

pub returns : goal.returns
returns c = tokens_turn
