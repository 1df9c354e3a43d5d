use Rattle.builtins.specs.Table.{of_three}
use Rattle.grid_registers.proofs.registers.Registers.select.Goals as goal

pub returns-then-two_numbers-clause-each : goal.returns-then-two_numbers-clause-each
unfolding of_three
returns-then-two_numbers-clause-each c = c.chosen_numbers.ensures.each

pub returns-then-has_triple-clause-each : goal.returns-then-has_triple-clause-each
unfolding of_three
returns-then-has_triple-clause-each c = c.chosen_triples.ensures.each
