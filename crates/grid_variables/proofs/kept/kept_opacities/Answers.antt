use Rattle.std.proofs.Common.{ap, ◌∙◌, arith}
use Rattle.std.proofs.lemmas.List.{get_or_read}
use Rattle.fixed_math.specs.Axes.{origin}
use Rattle.grid_variables.specs.Kept.{opacity}
use Rattle.grid_variables.proofs.Over.{taken_more}
use Rattle.grid_variables.proofs.kept.kept_opacities.Goals as goal

pub loop-each-preserved : goal.loop-each-preserved
loop-each-preserved c =
    let read = get_or_read c.args.opacities.now c.loop-each.each-index c.each-item.result (omega arith) c.each-item.is origin in
    taken_more opacity c.args.opacities.now c.loop-each.each-index c.loop-each.shares.items c.push.new.self.items c.opacity.result origin (omega arith) c.in_ok-push.ensures.items (c.opacity.ensures ∙ ap opacity read) c.loop-each.invariant
