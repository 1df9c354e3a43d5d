use Rattle.std.proofs.Common.{◌≡◌, ◌∙◌, ap, arith, [], ◌∷◌, ◌+◌, pos, ◌*ℤ◌, to_z, of_z, slice_index_or}
use Rattle.std.specs.Int.{w128}
use Rattle.fixed_math.specs.Axes.{part_of, origin}
use Rattle.fixed_math.specs.Blossom.{blossom}
use Rattle.fixed_math.proofs.Fits.{read_back}
use Rattle.patches.specs.Nets.{control}
use Rattle.quadrics.specs.Rational.{quarter}
use Rattle.quadrics.proofs.Quadratics.{blossom_same_2, once}
use Rattle.quadrics.proofs.rows.column.Goals as goal

pub returns-clause-value : goal.returns-clause-value
returns-clause-value c =
    let P = control 3 c.args.points.now c.args.axis in
    let k = c.args.k in
    let first : k ≡ 0 + k = omega arith in
    let a = read_back c.control_at-a.result c.control_at-a.type_inv ∙ c.control_at-a.ensures.value ∙ ap (λ i. part_of c.args.axis (slice_index_or c.args.points.now i origin)) first ∙ once (P k 0) in
    let b = read_back c.control_at-b.result c.control_at-b.type_inv ∙ c.control_at-b.ensures.value ∙ once (P k 1) in
    let d = read_back c.scaled-twice.result c.scaled-twice.type_inv ∙ c.scaled-twice.ensures.value ∙ ap (λ z. pos 2 *ℤ z) (read_back c.control_at-c.result c.control_at-c.type_inv ∙ c.control_at-c.ensures.value) in
    read_back c.blossom_2.result c.blossom_2.type_inv ∙ c.blossom_2.ensures.value
    ∙ blossom_same_2 c.equal.result.first c.equal.result.second
    (λ k. slice_index_or (to_z w128 (of_z w128 c.control_at-a.result) ∷ to_z w128 (of_z w128 c.control_at-b.result) ∷ to_z w128 (of_z w128 c.scaled-twice.result) ∷ []) k (pos 0))
    (λ y. pos (quarter y) *ℤ P k y) a b d
    ∙ ap (λ ss. blossom ss (λ y. pos (quarter y) *ℤ P k y) 0) c.equal.ensures
