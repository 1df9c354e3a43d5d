use Rattle.std.proofs.Common.{refl, arith, lit<, [], ◌∷◌, ◌^◌}
use Rattle.fixed_math.specs.Blossom.{denominator}
use Rattle.patches.specs.BoxLaws.{blossom_point-within}
use Rattle.patches.proofs.bilinear.point_at.Goals as goal

pub returns-clause-small : goal.returns-clause-small
returns-clause-small c =
    rw (c.coordinate_at.ensures, c.coordinate_at-2.ensures, c.coordinate_at-3.ensures)
    (blossom_point-within 1 2 (denominator ^ 2) (2 ^ 30) c.args.points.now (c.args.u ∷ []) (c.args.v ∷ []) (lit< tt) refl refl refl
    (omega arith, c.requires.across, tt) (omega arith, c.requires.up, tt) c.requires.small)
