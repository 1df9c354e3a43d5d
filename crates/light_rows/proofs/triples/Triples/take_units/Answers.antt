use Rattle.light_rows.specs.Seen.{size}
use Rattle.light_rows.proofs.triples.Triples.take_units.Goals as goal

pub take-requires : goal.take-requires
take-requires c = c.one_unit.ensures.planes (size c.args.self.now)
