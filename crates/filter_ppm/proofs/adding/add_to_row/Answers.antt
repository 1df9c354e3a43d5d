use Rattle.std.proofs.Common.{◌≡◌, ◌∙◌, inl, inr, ap, arith, get_or, ℤ}
use Rattle.filter_ppm.specs.Weight.{weight_at}
use Rattle.filter_ppm.specs.Sums.{none, with_weighed}
use Rattle.filter_ppm.proofs.Rows.{row_begun, row_more, row_added, row_over}
use Rattle.filter_ppm.proofs.adding.add_to_row.Goals as goal

pub loop-x-init : goal.loop-x-init
loop-x-init c = row_begun c.args.weights.now c.args.sample.now c.args.r.now c.args.y c.args.n c.args.columns.first c.args.totals.now

pub with_weighed-requires-clause-over : goal.with_weighed-requires-clause-over
with_weighed-requires-clause-over c =
    let x = c.loop-x.x in
    let at = c.place_of-p.ensures.value in
    let left = c.requires.left in
    let right = c.requires.right in
    let more = c.loop-x-test.true in
    let e = c.loop-x.invariant.rest c.place_of-p.result (inr (omega (arith, at))) in
    rw (e, at) (c.requires.over x (omega (arith, left)) (omega (arith, more, right)))

pub loop-x-preserved : goal.loop-x-preserved
loop-x-preserved c =
    let o = c.args.weights.now in
    let s = c.args.sample.now in
    let p = c.place_of-p.result in
    let x = c.loop-x.x in
    let inside = c.place_of-p.ensures.inside in
    let long = c.requires.totals in
    let is : c.with_weighed.result ≡ with_weighed (get_or c.loop-x.totals p none) (weight_at o x c.args.y s.place) s.colour =
    c.with_weighed.ensures.value ∙ ap (λ (w : ℤ). with_weighed (get_or c.loop-x.totals p none) w s.colour) c.weight_of-w.ensures.value in
    row_more o s c.args.r.now c.args.y c.args.n c.args.columns.first x p c.args.totals.now c.loop-x.totals c.with_weighed.result c.loop-x.invariant
    c.requires.left (omega arith) c.place_of-p.ensures.value (omega (arith, inside, long)) is c.with_weighed.ensures.over

pub returns-clause-row : goal.returns-clause-row
returns-clause-row c =
    let past = c.loop-x-test.false in
    row_added c.args.weights.now c.args.sample.now c.args.r.now c.args.y c.args.n c.args.columns.first c.loop-x.x c.args.totals.now c.loop-x.totals c.loop-x.invariant
    c.requires.left (omega arith) (λ i a b o. c.requires.outside i a b (elim o [ inl l ↦ inl l | inr l ↦ inr (omega (arith, l, past)) ]))

pub returns-clause-over : goal.returns-clause-over
returns-clause-over c =
    row_over c.args.weights.now c.args.sample.now c.args.r.now c.args.y c.args.n c.args.columns.first c.loop-x.x c.args.totals.now c.loop-x.totals c.loop-x.invariant
    c.requires.left (omega arith) c.requires.over

pub returns-clause-others : goal.returns-clause-others
returns-clause-others c = λ p h.
    let last = c.loop-x.auto.x-end c.requires.order in
    let right = c.requires.right in
    let left = c.requires.left in
    c.loop-x.invariant.rest p (elim h [ inl l ↦ inl (omega (arith, l)) | inr l ↦ inr (omega (arith, l, last, right, left)) ])
