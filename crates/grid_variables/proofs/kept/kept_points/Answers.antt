use Rattle.std.proofs.Common.{ap, arith, get_or, ◌∙◌}
use Rattle.std.proofs.lemmas.List.{get_or_read}
use Rattle.fixed_math.specs.Axes.{origin}
use Rattle.grid_variables.specs.Kept.{moved}
use Rattle.grid_variables.proofs.Over.{over_more}
use Rattle.grid_variables.proofs.kept.kept_points.Goals as goal

pub loop-i-preserved : goal.loop-i-preserved
loop-i-preserved c =
    let old = get_or_read c.args.old.now c.loop-i.i c.index-old-i.result (omega arith) c.index-old-i.is origin in
    let new = get_or_read c.args.new.now c.loop-i.i c.index-new-i.result (omega arith) c.index-new-i.is origin in
    over_more (λ i. moved c.args.bound (get_or c.args.old.now i origin) (get_or c.args.new.now i origin)) c.loop-i.i c.loop-i.points.items c.push.new.self.items c.moved.result c.in_ok-push.ensures.items
    (c.moved.ensures ∙ ap (λ x. moved c.args.bound x c.index-new-i.result) old ∙ ap (λ y. moved c.args.bound (get_or c.args.old.now c.loop-i.i origin) y) new) c.loop-i.invariant
