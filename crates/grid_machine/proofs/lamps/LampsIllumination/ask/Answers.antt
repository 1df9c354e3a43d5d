use Rattle.grid_machine.proofs.lamps.LampsIllumination.ask.Goals as goal

pub returns-clause-asked : goal.returns-clause-asked
returns-clause-asked c = c.light.ensures.given
