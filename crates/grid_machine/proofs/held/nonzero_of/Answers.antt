use Rattle.std.proofs.Common.{ap, ◌∙◌}
use Rattle.builtins.specs.Values.{is_nonzero}
use Rattle.grid_code.specs.Masked.{read}
use Rattle.grid_registers.proofs.Parts.{first_part}
use Rattle.grid_machine.specs.State.{held_by}
use Rattle.grid_machine.proofs.held.nonzero_of.Goals as goal

pub returns : goal.returns
returns c i l =
    let r = c.args.registers.now in
    c.nonzero.ensures i l ∙ ap (λ t. is_nonzero t.x) (c.triples_of-x.ensures.each i l) ∙ ap is_nonzero (first_part (read (held_by r) c.args.register i))
