use Rattle.mesh_basis.proofs.Near.{four_near}
use Rattle.mesh_basis.proofs.bezier.row.Goals as goal

pub returns-clause-range : goal.returns-clause-range
returns-clause-range c = four_near _ _ _ _ c.in_ok-point.ensures.range c.in_ok-point-2.ensures.range c.in_ok-point-3.ensures.range c.in_ok-point-4.ensures.range
