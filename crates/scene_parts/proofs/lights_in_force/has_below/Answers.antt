use Rattle.std.proofs.Common.{sym}
use Rattle.scene_parts.proofs.BoundedLights.{none_past}
use Rattle.scene_parts.proofs.lights_in_force.has_below.Goals as goal

pub returns-else-light-bound : goal.returns-else-light-bound
returns-else-light-bound c = sym (none_past c.args.bound c.args.light c.args.lights.now c.requires c.if-light-bound.false)
