use Rattle.std.proofs.Common.{false, ap, ◌∙◌}
use Rattle.grid_variables.specs.Points.{own_u}
use Rattle.scene.specs.Seats.{numbers_of}
use Rattle.grid_variables.specs.Variables.{corners_of, between}
use Rattle.grid_variables.proofs.values.first_of.Goals as goal

pub returns : goal.returns
returns c =
    let l = c.args.leaf.now in
    let x = c.args.variable.now in
    let cs = corners_of false x.kind l.prim.object (numbers_of x.values) in
    c.between.ensures ∙ ap (λ b. between b c.corners_of-corners.result c.own_u.result c.own_v.result) c.is_varying.ensures
    ∙ ap (λ q. between x.varying q c.own_u.result c.own_v.result) (c.corners_of-corners.ensures ∙ ap (λ m. corners_of false x.kind m (numbers_of x.values)) c.object.ensures)
    ∙ ap (λ u. between x.varying cs u c.own_v.result) c.own_u.ensures ∙ ap (λ v. between x.varying cs (own_u l 0) v) c.own_v.ensures
