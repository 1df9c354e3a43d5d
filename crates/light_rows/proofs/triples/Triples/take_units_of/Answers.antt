use Rattle.light_rows.specs.Seen.{size}
use Rattle.light_rows.proofs.triples.Triples.take_units_of.Goals as goal

pub take_units_by-requires-clause-first : goal.take_units_by-requires-clause-first
take_units_by-requires-clause-first c = c.first-x.ensures (size c.args.self.now)
