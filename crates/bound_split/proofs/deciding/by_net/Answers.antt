use Rattle.std.proofs.Common.{◌≡◌, ◌-ℤ◌, int_lt, false}
use Rattle.fixed_math.specs.declared.vec3.Axis.TheVariants.{Z}
use Rattle.fixed_math.specs.Axes.{least}
use Rattle.bound_split.proofs.Seen.{all_seen}
use Rattle.bound_split.proofs.deciding.by_net.Goals as goal

pub places_of-places-requires-clause-seen : goal.places_of-places-requires-clause-seen
places_of-places-requires-clause-seen c =
    let crosses : int_lt (least Z c.args.points.now -ℤ c.args.bound) c.args.camera.now.near ≡ false = cc in
    all_seen c.args.camera.now.near c.args.bound c.args.points.now c.requires.low crosses
