use Rattle.std.proofs.Common.{◌≡◌, ◌∙◌, ap, arith, ◌+◌, ◌^◌, slice_index_or}
use Rattle.fixed_math.specs.Axes.{part_of, origin}
use Rattle.fixed_math.proofs.Fits.{read_back}
use Rattle.patches.specs.Nets.{control}
use Rattle.quadrics.proofs.Quadratics.{once, product_through, step_through}
use Rattle.quadrics.proofs.ruled.rise.Goals as goal

pub returns-clause-value : goal.returns-clause-value
returns-clause-value c =
    let P = control 3 c.args.points.now c.args.axis in
    let k = c.args.k in
    let first : k ≡ 0 + k = omega arith in
    let a = c.control_at-a.ensures.value ∙ ap (λ i. part_of c.args.axis (slice_index_or c.args.points.now i origin)) first ∙ once (P k 0) in
    let b = c.control_at-b.ensures.value ∙ once (P k 1) in
    let step = step_through c.control_at-b.result c.control_at-a.result _ _ c.minus-step.result c.control_at-b.type_inv c.control_at-a.type_inv c.minus-step.ensures.value b a in
    read_back c.scaled.result c.scaled.type_inv ∙ product_through (2 ^ 48) c.minus-step.result _ c.scaled.result c.minus-step.type_inv c.scaled.ensures.value step
