use Rattle.std.proofs.Common.{ap, ◌∙◌}
use Rattle.builtins.specs.Values.{triple_of}
use Rattle.grid_machine.proofs.held.triples_of.Goals as goal

pub returns-clause-each : goal.returns-clause-each
returns-clause-each c i l = c.triples.ensures.each i l ∙ ap triple_of (c.operand.ensures.same i)
