use Rattle.std.proofs.Common.{◌≡◌, ◌∙◌, ap, rules, arith, map, Some, slice_get}
use Rattle.std.specs.List.{range_with_len}
use Rattle.mesh_basis.proofs.Runs.{list_next}
use Rattle.primitives.specs.Spread.{corners_in}
use Rattle.primitives.proofs.Spreading.{texts_from}
use Rattle.primitives.proofs.spread.corner_texts.Goals as goal

pub loop-preserved : goal.loop-preserved
loop-preserved c =
    list_next (λ _. c.in-Some.text.now) c.loop.counter c.loop.spread.items _ c.in_ok-copied.field-0 c.in_ok-push.ensures.items c.in_ok-copied.ensures c.loop.invariant

pub returns : goal.returns
returns c =
    let low = c.loop-test.false in
    let high = c.loop.auto.counter-end in
    let end = c.corners_in-end.ensures in
    let last : c.loop.counter ≡ corners_in c.args.halves = omega (arith, low, high, end) in
    let there : slice_get c.args.texts.now 0 ≡ Some c.in-Some.text.now = search rules in
    c.loop.invariant ∙ ap (λ n. map (λ _. c.in-Some.text.now) (range_with_len 0 n)) last ∙ texts_from c.args.halves c.args.texts.now c.in-Some.text.now there
