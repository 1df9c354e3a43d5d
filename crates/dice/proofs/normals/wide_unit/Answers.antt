use Rattle.dice.proofs.Directions.{unit_is}
use Rattle.dice.proofs.normals.wide_unit.Goals as goal

pub returns : goal.returns
returns c = unit_is c.unit.result c.args.c c.unit.ensures.x c.unit.ensures.y c.unit.ensures.z
