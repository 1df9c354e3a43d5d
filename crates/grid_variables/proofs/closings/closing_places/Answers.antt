use Rattle.std.proofs.Common.{ap, arith, get_or, ◌∙◌}
use Rattle.std.proofs.lemmas.List.{get_or_read}
use Rattle.fixed_math.specs.Axes.{origin}
use Rattle.moving.specs.Closing.{closing_place}
use Rattle.grid_variables.proofs.Over.{over_more}
use Rattle.grid_variables.proofs.closings.closing_places.Goals as goal

pub loop-i-preserved : goal.loop-i-preserved
loop-i-preserved c =
    let last = get_or_read c.args.last.now c.loop-i.i c.index-last-i.result (omega arith) c.index-last-i.is origin in
    let before = get_or_read c.args.before.now c.loop-i.i c.index-before-i.result (omega arith) c.index-before-i.is origin in
    let after = get_or_read c.args.after.now c.loop-i.i c.index-after-i.result (omega arith) c.index-after-i.is origin in
    over_more (λ i. closing_place (get_or c.args.last.now i origin) (get_or c.args.before.now i origin) (get_or c.args.after.now i origin)) c.loop-i.i c.loop-i.places.items c.push.new.self.items c.closing_place.result c.in_ok-push.ensures.items
    (c.closing_place.ensures.value ∙ ap (λ x. closing_place x c.index-before-i.result c.index-after-i.result) last ∙ ap (λ y. closing_place (get_or c.args.last.now c.loop-i.i origin) y c.index-after-i.result) before
    ∙ ap (λ z. closing_place (get_or c.args.last.now c.loop-i.i origin) (get_or c.args.before.now c.loop-i.i origin) z) after) c.loop-i.invariant
