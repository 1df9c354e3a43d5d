use Rattle.std.proofs.Common.{◌∙◌}
use Rattle.grid_machine.proofs.held.scope_of.Goals as goal

pub returns-clause-points : goal.returns-clause-points
returns-clause-points c i l = c.of.ensures.points i l ∙ c.triples_of-x.ensures.each i l

pub returns-clause-cone : goal.returns-clause-cone
returns-clause-cone c i d l = c.of.ensures.cone i d l ∙ c.cone_of-cone.ensures.each i d l
