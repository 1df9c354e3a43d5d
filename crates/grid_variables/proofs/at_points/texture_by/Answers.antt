use Rattle.std.proofs.Common.{map, pos, ap, ◌∙◌}
use Rattle.fixed_math.specs.Axes.{origin, part_of}
use Rattle.grid_variables.specs.Variables.{spread, is_pair, texture_part}
use Rattle.grid_variables.specs.Places.{point_count}
use Rattle.grid_variables.proofs.Results.{if_ok}
use Rattle.grid_variables.proofs.Over.{over_map}
use Rattle.grid_variables.proofs.at_points.texture_by.Goals as goal

pub returns : goal.returns
returns c =
    let l = c.args.leaf.now in
    let x = c.args.variable.now in
    if_ok c.parts.result _ _ (λ xs h. h ∙ ap (map (part_of c.texture_axis.result)) c.in_ok-values.ensures
    ∙ over_map (part_of c.texture_axis.result) (spread l x) (λ i. texture_part c.args.axis (is_pair x) (spread l x i)) (point_count l) origin (pos 0) (λ i. c.texture_axis.ensures (spread l x i) ∙ ap (λ b. texture_part c.args.axis b (spread l x i)) c.is_pair.ensures)) c.parts.ensures
