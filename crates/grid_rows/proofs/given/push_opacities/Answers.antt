use Rattle.std.proofs.Common.{◌++◌, ap, ◌∙◌}
use Rattle.sl_ast.specs.declared.typed.Value.TheVariants.{Triple}
use Rattle.grid_variables.specs.Variables.{os_at}
use Rattle.grid_variables.specs.Places.{point_count}
use Rattle.grid_variables.proofs.Results.{if_ok}
use Rattle.grid_rows.specs.Rows.{value_rows}
use Rattle.grid_rows.proofs.UnderWay.{few, same_rows}
use Rattle.grid_rows.proofs.given.push_opacities.Goals as goal

pub push_triples-requires : goal.push_triples-requires
push_triples-requires c = few c.args.leaf.now _ c.in_ok-first_opacities-in-None.field-0.now (os_at c.args.leaf.now) c.in_ok-first_opacities-in-None.ensures c.point_count-points.ensures.value c.point_count-points.ensures.to

pub returns-in-Some : goal.returns-in-Some
returns-in-Some c =
    let l = c.args.leaf.now in
    if_ok c.push_triple.result _ _
    (λ x e. e ∙ ap (λ r. c.args.rows.now ++ r) (ap (λ n. value_rows n (Triple c.in-Some.opacity)) c.point_count-points.ensures.value ∙ same_rows (point_count l) c.in-Some.opacity (os_at l) c.in-Some.ensures)) c.push_triple.ensures
