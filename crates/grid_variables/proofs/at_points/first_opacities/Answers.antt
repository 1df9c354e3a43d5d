use Rattle.std.proofs.Common.{ap, codes, ◌∙◌}
use Rattle.grid_variables.specs.Variables.{triple_or, variable_named}
use Rattle.grid_variables.specs.Places.{point_count, over}
use Rattle.grid_variables.proofs.Results.{if_ok}
use Rattle.grid_variables.proofs.at_points.first_opacities.Goals as goal

pub returns : goal.returns
returns c = let l = c.args.leaf.now in if_ok c.triples_or.result _ _ (λ ts h. h ∙ ap (λ t. over (point_count l) (λ i. triple_or l i (variable_named (codes "Os") l.prim.vars) t)) c.os.ensures) c.triples_or.ensures
