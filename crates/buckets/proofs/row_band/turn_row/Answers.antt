use Rattle.std.proofs.Common.{◌≡◌, ◌∙◌, ◌+◌, ◌%◌, sym, ap, subst, arith, ℕ}
use Rattle.buckets.specs.Rows.{IsRowTo}
use Rattle.buckets.proofs.BucketRows.{columns, columns_as, in_same_row, at_row_end}
use Rattle.buckets.proofs.StepsOn.{row_goes_on}
use Rattle.buckets.proofs.row_band.turn_row.Goals as goal

pub returns-then-at-columns-ne0 : goal.returns-then-at-columns-ne0
returns-then-at-columns-ne0 g c =
    let d = g.begun.drawing in
    let q = c.requires in
    let same : c.columns_of-columns.result ≡ columns d = c.columns_of-columns.ensures.value ∙ columns_as d c.args.shown.now.limits.bucket c.args.shown.now.frame.now q.0.drawn.side q.0.drawn.frame in
    let low = q.0.at' in
    row_goes_on d c.args.at c.args.row.now.items (in_same_row d c.args.at q.0.drawn.drawable (omega (arith, low)) (λ e. c.if-at-columns-ne0.true (ap (λ (k : ℕ). (c.args.at + 1) % k) same ∙ e))) q.1

pub returns : goal.returns
returns g c =
    let d = g.begun.drawing in
    let q = c.requires in
    let same : c.columns_of-columns.result ≡ columns d = c.columns_of-columns.ensures.value ∙ columns_as d c.args.shown.now.limits.bucket c.args.shown.now.frame.now q.0.drawn.side q.0.drawn.frame in
    let low = q.0.at' in
    let ends = at_row_end d c.args.at q.0.drawn.drawable (omega (arith, low)) (ap (λ (k : ℕ). (c.args.at + 1) % k) (sym same) ∙ c.if-at-columns-ne0.false) in
    subst (λ (left : ℕ). IsRowTo d (c.args.at + 1) left c.in_ok-row.field-0.items) (sym ends.left) c.in_ok-row.ensures
