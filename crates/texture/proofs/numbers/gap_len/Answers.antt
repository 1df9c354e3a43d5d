use Rattle.std.proofs.Common.{◌∙◌, sym, ap, refl, get_or, ◌+◌, arith}
use Rattle.std.specs.Prelude.{drop}
use Rattle.texture.specs.Scans.{behind_gap}
use Rattle.texture.proofs.Scans.{gap_more, gap_stop, gap_end}
use Rattle.texture.proofs.numbers.gap_len.Goals as goal

pub loop-i-preserved : goal.loop-i-preserved
loop-i-preserved c =
    let bs = c.args.bytes.now in
    c.loop-i.invariant ∙ gap_more c.loop-i.comment bs c.loop-i.i (get_or bs c.loop-i.i 0) c.loop-i-test.true refl (sym c.stays.ensures ∙ c.if-not-stays.false)
    ∙ ap (λ t. behind_gap t (drop (c.loop-i.i + 1) bs)) (sym c.turns-comment.ensures)

pub returns-then-not-stays-clause-value : goal.returns-then-not-stays-clause-value
returns-then-not-stays-clause-value c =
    let bs = c.args.bytes.now in
    sym (c.loop-i.invariant ∙ gap_stop c.loop-i.comment bs c.loop-i.i (get_or bs c.loop-i.i 0) c.loop-i-test.true refl (sym c.stays.ensures ∙ c.if-not-stays.true))

pub returns-clause-value : goal.returns-clause-value
returns-clause-value c =
    let low = c.loop-i-test.false in
    let high = c.loop-i.auto.i-end in
    sym (c.loop-i.invariant ∙ gap_end c.loop-i.comment c.args.bytes.now c.loop-i.i (omega (arith, low, high)))
