use Rattle.std.proofs.Common.{inl, inr, arith}
use Rattle.filter_ppm.proofs.Rows.{rows_begun, rows_next, sample_added, sample_over}
use Rattle.filter_ppm.proofs.adding.add_sample.Goals as goal

pub loop-y-init : goal.loop-y-init
loop-y-init c =
    let r = c.rows_of-rows.ensures in
    let order = r.order in
    let high = r.high in
    rows_begun c.args.weights.now c.args.sample.now c.args.r.now c.args.n c.rows_of-rows.result.first c.args.totals.now (omega (arith, order, high)) c.requires.over
    (λ j a b lt. r.outside j a b (inl lt))

pub add_to_row-requires-clause-over : goal.add_to_row-requires-clause-over
add_to_row-requires-clause-over c = λ x a b.
    let r = c.rows_of-rows.ensures in
    let low = r.low in
    let high = r.high in
    let more = c.loop-y-test.true in
    let e = c.loop-y.invariant.rest x c.loop-y.y a b (omega (arith, low)) (omega arith) in
    rw e (c.requires.over x c.loop-y.y a b (omega (arith, low)) (omega (arith, more, high)))

pub loop-y-preserved : goal.loop-y-preserved
loop-y-preserved c =
    let low = c.rows_of-rows.ensures.low in
    rows_next c.args.weights.now c.args.sample.now c.args.r.now c.args.n c.loop-y.y c.args.totals.now c.loop-y.totals c.add_to_row.new.totals c.loop-y.invariant (omega (arith, low))
    (record { long = c.add_to_row.ensures.long; row = c.add_to_row.ensures.row; over = c.add_to_row.ensures.over; others = c.add_to_row.ensures.others })

pub returns-clause-sample : goal.returns-clause-sample
returns-clause-sample c =
    let past = c.loop-y-test.false in
    sample_added c.args.weights.now c.args.sample.now c.args.r.now c.args.n c.loop-y.y c.args.totals.now c.loop-y.totals c.loop-y.invariant
    (λ j a b ge. c.rows_of-rows.ensures.outside j a b (inr (omega (arith, ge, past))))

pub returns-clause-over : goal.returns-clause-over
returns-clause-over c = sample_over c.args.weights.now c.args.sample.now c.args.r.now c.args.n c.loop-y.y c.args.totals.now c.loop-y.totals c.loop-y.invariant c.requires.over
