use Rattle.std.proofs.Common.{◌∙◌, ap}
use Rattle.patches.specs.Parts.{Part}
use Rattle.dice.specs.Grids.{line_at}
use Rattle.dice.proofs.Grids.{row_step, Each-pushed}
use Rattle.dice.proofs.grid.push_row.Goals as goal

pub loop-k-preserved : goal.loop-k-preserved
loop-k-preserved g c =
    let column = c.line_at-u.ensures ∙ ap (λ (t : Part). line_at t.a t.i c.args.p c.loop-k.k) c.piece.view_is in (
      row_step (g.S.Surface.point_of c.args.s.now) c.args.v (line_at c.args.piece.now.a c.args.piece.now.i c.args.p) c.loop-k.k
          c.args.points.now.items c.loop-k.points.items c.push.new.self.items c.point_on.result
          c.in_ok-push.ensures.items (c.point_on.ensures.value ∙ ap (λ u. g.S.Surface.point_of c.args.s.now u c.args.v) column) c.loop-k.invariant.0,
      Each-pushed c.loop-k.points.items c.push.new.self.items c.point_on.result c.in_ok-push.ensures.items c.loop-k.invariant.1 c.point_on.ensures.small,
    )
