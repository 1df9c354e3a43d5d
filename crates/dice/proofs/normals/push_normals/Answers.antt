use Rattle.std.proofs.Common.{◌∙◌, ap}
use Rattle.patches.specs.Parts.{Part}
use Rattle.dice.specs.Grids.{line_at}
use Rattle.dice.specs.Normals.{normal}
use Rattle.dice.proofs.Grids.{row_step}
use Rattle.dice.proofs.normals.push_normals.Goals as goal

pub loop-k-preserved : goal.loop-k-preserved
loop-k-preserved g c =
    let column = c.line_at-u.ensures ∙ ap (λ (t : Part). line_at t.a t.i c.args.p c.loop-k.k) c.piece.view_is in
    let point = normal (g.S.Surface.du_of c.args.s.now) (g.S.Surface.dv_of c.args.s.now) in
    row_step point c.args.v (line_at c.args.piece.now.a c.args.piece.now.i c.args.p) c.loop-k.k
    c.args.normals.now.items c.loop-k.normals.items c.push.new.self.items c.normal_on.result
    c.in_ok-push.ensures.items (c.normal_on.ensures ∙ ap (λ u. point u c.args.v) column) c.loop-k.invariant
