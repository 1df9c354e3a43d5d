use Rattle.std.proofs.Common.{rules}
use Rattle.rib_reader.proofs.Fits.{number_stands, at_least, between, rising}
use Rattle.rib_reader.proofs.request.Request.number.Goals as goal

pub unreachable-requires : goal.unreachable-requires
unreachable-requires c =
    number_stands c.args.self.now.name c.args.self.now.args c.args.self.now.params c.args.place c.args.self.now.fits_row c.requires (search rules)

pub returns-clause-limits : goal.returns-clause-limits
returns-clause-limits c =
    at_least c.args.self.now.name c.args.self.now.args c.args.self.now.params c.args.place c.in-Some.number c.args.self.now.fits_row (search rules)

pub returns-clause-between : goal.returns-clause-between
returns-clause-between c =
    between c.args.self.now.name c.args.self.now.args c.args.self.now.params c.args.place c.in-Some.number c.args.self.now.fits_row (search rules)

pub returns-clause-rising : goal.returns-clause-rising
returns-clause-rising c =
    rising c.args.self.now.name c.args.self.now.args c.args.self.now.params c.args.place c.in-Some.number c.args.self.now.fits_row (search rules)
