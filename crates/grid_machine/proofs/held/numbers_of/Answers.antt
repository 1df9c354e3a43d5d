use Rattle.std.proofs.Common.{ap, ◌∙◌}
use Rattle.builtins.specs.Values.{number_of}
use Rattle.grid_machine.proofs.held.numbers_of.Goals as goal

pub returns-clause-each : goal.returns-clause-each
returns-clause-each c i l = c.numbers.ensures.each i l ∙ ap number_of (c.operand.ensures.same i)
