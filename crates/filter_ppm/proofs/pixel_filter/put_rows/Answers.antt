use Rattle.std.proofs.Common.{◌∙◌, ◌-◌, inl, inr, arith}
use Rattle.filter_ppm.proofs.Rows.{earlier_row, later_row}
use Rattle.filter_ppm.proofs.Spans.{by_place}
use Rattle.filter_ppm.proofs.pixel_filter.put_rows.Goals as goal

pub loop-y-preserved : goal.loop-y-preserved
loop-y-preserved c =
    let r = c.args.r.now in
    let first = c.args.columns.first in
    let w = c.args.columns.end - first in
    let y = c.loop-y.y in
    let from = c.requires.left in
    let wide = c.requires.right in
    let some = c.requires.rect.across in
    record {
      done = λ x j a b t h. by_place j y
          (λ lt. let e = earlier_row (j - r.top) (y - r.top) w (x - first) (omega (arith, t, lt)) (omega (arith, a, b, from, wide)) in
          c.put_row.ensures.others _ (inl (omega (arith, e))) ∙ c.loop-y.invariant.done x j a b t lt)
          (λ e. rw e (c.put_row.ensures.inside x a b))
          (λ gt. absurd (omega (arith, h, gt)));
      beside = λ x j o g k t. by_place j y
          (λ lt. let e = earlier_row (j - r.top) (y - r.top) w (x - first) (omega (arith, t, lt)) (omega (arith, g, k)) in
          c.put_row.ensures.others _ (inl (omega (arith, e))) ∙ c.loop-y.invariant.beside x j o g k t)
          (λ e. let q = c.loop-y.invariant.beside x j o g k t in
          rw e (c.put_row.ensures.others _ (elim o [ inl l ↦ inl (omega (arith, l, g, from)) | inr l ↦ inr (omega (arith, l, from, some)) ])) ∙ q)
          (λ gt. let e = later_row (j - r.top) (y - r.top) w (x - first) (omega (arith, gt)) in
          c.put_row.ensures.others _ (inr (omega (arith, e, wide, from, some))) ∙ c.loop-y.invariant.beside x j o g k t);
    }
