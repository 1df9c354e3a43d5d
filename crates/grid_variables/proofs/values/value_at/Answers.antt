use Rattle.std.proofs.Common.{ap, ◌∙◌}
use Rattle.scene.specs.Seats.{text_of}
use Rattle.grid_variables.specs.Variables.{value_by}
use Rattle.grid_variables.proofs.Results.{if_ok}
use Rattle.grid_variables.proofs.values.value_at.Goals as goal

pub returns : goal.returns
returns c =
    let x = c.args.variable.now in
    if_ok c.value_by.result _ _ (λ v h. h ∙ ap (λ p. value_by x.kind (text_of x.values) p) c.first_of.ensures) c.value_by.ensures
