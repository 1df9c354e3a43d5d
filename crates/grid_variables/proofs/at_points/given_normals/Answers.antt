use Rattle.std.proofs.Common.{◌≡◌, map, refl, ap, Bool, ◌∙◌}
use Rattle.fixed_math.specs.Axes.{origin}
use Rattle.fixed_math.specs.declared.vec3.Vec3.{Vec3}
use Rattle.builtins.specs.Triples.{normalize}
use Rattle.grid_variables.specs.Points.{turned}
use Rattle.grid_variables.specs.Variables.{spread_by, given_normal}
use Rattle.grid_variables.specs.Places.{point_count, over}
use Rattle.grid_variables.proofs.Results.{if_ok}
use Rattle.grid_variables.proofs.Over.{over_map}
use Rattle.grid_variables.proofs.at_points.given_normals.Goals as goal

unit : Bool → Vec3 → Vec3
unit flip v = turned flip (normalize v)

pub returns : goal.returns
unfolding unit
returns c =
    let l = c.args.leaf.now in
    let x = c.args.variable.now in
    let mirrored : c.mirrored.result ≡ l.prim.object.mirrored = c.mirrored.ensures ∙ ap (λ m. m.mirrored) c.object-object.ensures in
    if_ok c.units.result _ _ (λ ns h. h ∙ ap (λ f. map (unit f) c.in_ok-vectors.vectors.now) c.flip.ensures ∙ ap (map (unit l.prim.flip)) (c.in_ok-vectors.ensures ∙ ap (λ m. over (point_count l) (spread_by m l x)) mirrored)
    ∙ over_map (unit l.prim.flip) (spread_by l.prim.object.mirrored l x) (given_normal l x) (point_count l) origin origin (λ i. refl)) c.units.ensures
