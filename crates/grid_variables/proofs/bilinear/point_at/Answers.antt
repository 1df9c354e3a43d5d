use Rattle.std.proofs.Common.{refl}
use Rattle.patches.specs.BoxLaws.{bilinear_point-blossom}
use Rattle.grid_variables.proofs.bilinear.point_at.Goals as goal

pub returns : goal.returns
returns c = rw (bilinear_point-blossom c.args.points.now c.args.u c.args.v, c.coordinate_at.ensures, c.coordinate_at-2.ensures, c.coordinate_at-3.ensures) refl
