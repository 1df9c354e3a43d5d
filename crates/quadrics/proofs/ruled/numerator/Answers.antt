use Rattle.std.proofs.Common.{◌≡◌, ◌∙◌, sym, [], ◌∷◌, ◌^◌, pos, ◌*ℤ◌, arith}
use Rattle.fixed_math.specs.Blossom.{blossom}
use Rattle.fixed_math.proofs.Fits.{read_back}
use Rattle.patches.specs.Nets.{control}
use Rattle.quadrics.proofs.Mixes.{mixed, mixed_below}
use Rattle.quadrics.specs.Rational.{quarter, even}
use Rattle.quadrics.specs.RationalLaws.{numerator_rows}
use Rattle.quadrics.proofs.Quadratics.{once}
use Rattle.quadrics.proofs.ruled.numerator.Goals as goal

pub returns-clause-value : goal.returns-clause-value
unfolding blossom
returns-clause-value c =
    let us = c.args.us.first ∷ c.args.us.second ∷ [] in
    let P = control 3 c.args.points.now c.args.axis in
    let a = c.row-a.ensures.value ∙ once (blossom us (λ x. pos (quarter x) *ℤ P x 0) 0) in
    let b = c.row-b.ensures.value ∙ once (blossom us (λ x. pos (quarter x) *ℤ P x 1) 0) in
    let m : c.mix.result ≡ blossom (c.args.v ∷ []) (λ y. pos (even y) *ℤ blossom us (λ x. pos (quarter x) *ℤ P x y) 0) 0 =
    mixed c.args.v c.row-a.result c.row-b.result _ _ c.mix.result c.row-a.type_inv c.row-b.type_inv c.mix.ensures.value a b in
    read_back c.mix.result c.mix.type_inv ∙ m ∙ sym (numerator_rows us (c.args.v ∷ []) quarter even P)

pub returns-clause-bound : goal.returns-clause-bound
returns-clause-bound c =
    let m = mixed_below c.row-a.result c.row-b.result c.mix.result (2 ^ 56) c.row-a.type_inv c.row-b.type_inv c.mix.ensures.bound c.row-a.ensures.bound c.row-b.ensures.bound in
    rw (read_back c.mix.result c.mix.type_inv) (omega (arith, m))
