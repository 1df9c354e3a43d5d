use Rattle.std.proofs.Common.{ap, ◌∙◌}
use Rattle.grid_variables.specs.Points.{own_u}
use Rattle.scene.specs.Seats.{numbers_of}
use Rattle.grid_variables.specs.Variables.{corners_of, between, spread_by}
use Rattle.grid_variables.proofs.Over.{over_more}
use Rattle.grid_variables.proofs.at_points.spread.Goals as goal

pub loop-i-preserved : goal.loop-i-preserved
loop-i-preserved c =
    let l = c.args.leaf.now in
    let x = c.args.variable.now in
    let cs = corners_of c.args.turn x.kind l.prim.object (numbers_of x.values) in
    over_more (spread_by c.args.turn l x) c.loop-i.i c.loop-i.values.items c.push.new.self.items c.between.result c.in_ok-push.ensures.items
    (c.between.ensures ∙ ap (λ b. between b c.corners_of-corners.result c.own_u.result c.own_v.result) c.is_varying-varying.ensures ∙ ap (λ q. between x.varying q c.own_u.result c.own_v.result) (c.corners_of-corners.ensures ∙ ap (λ m. corners_of c.args.turn x.kind m (numbers_of x.values)) c.object.ensures) ∙ ap (λ u. between x.varying cs u c.own_v.result) c.own_u.ensures ∙ ap (λ v. between x.varying cs (own_u l c.loop-i.i) v) c.own_v.ensures)
    c.loop-i.invariant
