use Rattle.std.proofs.Common.{◌≡◌, ◌∙◌, ap, arith, ◌+◌, ◌^◌, slice_index_or}
use Rattle.fixed_math.specs.Axes.{part_of, origin}
use Rattle.fixed_math.specs.Blossom.{blossom}
use Rattle.fixed_math.proofs.Fits.{read_back}
use Rattle.patches.specs.Nets.{control}
use Rattle.quadrics.proofs.Mixes.{mixed, mixed_below}
use Rattle.quadrics.proofs.Quadratics.{once}
use Rattle.quadrics.proofs.ruled.column.Goals as goal

pub returns-clause-value : goal.returns-clause-value
unfolding blossom
returns-clause-value c =
    let P = control 3 c.args.points.now c.args.axis in
    let k = c.args.k in
    let first : k ≡ 0 + k = omega arith in
    let a = c.control_at-a.ensures.value ∙ ap (λ i. part_of c.args.axis (slice_index_or c.args.points.now i origin)) first ∙ once (P k 0) in
    let b = c.control_at-b.ensures.value ∙ once (P k 1) in
    read_back c.mix.result c.mix.type_inv ∙ mixed c.args.v c.control_at-a.result c.control_at-b.result _ _ c.mix.result c.control_at-a.type_inv c.control_at-b.type_inv c.mix.ensures.value a b

pub returns-clause-bound : goal.returns-clause-bound
returns-clause-bound c =
    let below = mixed_below c.control_at-a.result c.control_at-b.result c.mix.result (2 ^ 31) c.control_at-a.type_inv c.control_at-b.type_inv c.mix.ensures.bound c.control_at-a.ensures.bound c.control_at-b.ensures.bound in
    rw (read_back c.mix.result c.mix.type_inv) (omega (arith, below))
