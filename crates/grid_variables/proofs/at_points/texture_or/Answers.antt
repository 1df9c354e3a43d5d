use Rattle.std.proofs.Common.{◌≡◌, ◌∙◌, ap, sym, subst}
use Rattle.std.specs.Prelude.{IfOk}
use Rattle.grid_variables.specs.Variables.{setter, texture_or}
use Rattle.grid_variables.specs.Places.{point_count, over, parameter_at}
use Rattle.grid_variables.proofs.at_points.texture_or.Goals as goal

pub returns-in-Some : goal.returns-in-Some
returns-in-Some c =
    let l = c.args.leaf.now in
    let found = sym c.in-Some.is ∙ c.setter.ensures ∙ ap (setter c.args.name.now) c.variables.ensures in
    subst (λ o. IfOk c.texture_by.result (λ xs. xs.now ≡ over (point_count l) (λ i. texture_or c.args.axis l i o (parameter_at c.args.along l i)))) found c.texture_by.ensures
