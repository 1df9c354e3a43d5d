use Rattle.std.proofs.Common.{ap, ◌∙◌}
use Rattle.builtins.specs.Values.{is_nonzero, number_of}
use Rattle.grid_machine.proofs.Shapes.{read_held}
use Rattle.grid_machine.proofs.machine.Machine.tests.Goals as goal

pub returns : goal.returns
returns c i l = c.nonzero_of.ensures i l ∙ ap (λ v. is_nonzero (number_of v)) (read_held c.args.self.now c.args.test i)
