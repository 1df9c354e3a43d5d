use Rattle.std.proofs.Common.{◌∙◌, ap}
use Rattle.dice.specs.Normals.{direction}
use Rattle.dice.proofs.normals.cross_direction.Goals as goal

pub returns : goal.returns
returns c = c.short_unit.ensures ∙ ap direction c.short_cross.ensures.value
