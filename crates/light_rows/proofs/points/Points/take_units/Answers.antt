use Rattle.light_rows.proofs.points.Points.take_units.Goals as goal

pub take-requires-clause-planes : goal.take-requires-clause-planes
take-requires-clause-planes c = c.one_unit.ensures.planes c.args.count
