use Rattle.std.proofs.Common.{rules}
use Rattle.rib_reader.proofs.Fits.{whole_stands, within_limits}
use Rattle.rib_reader.proofs.request.Request.whole.Goals as goal

pub unreachable-requires : goal.unreachable-requires
unreachable-requires c =
    whole_stands c.args.self.now.name c.args.self.now.args c.args.self.now.params c.args.place c.args.self.now.fits_row c.requires (search rules)

pub returns-clause-limits : goal.returns-clause-limits
returns-clause-limits c =
    within_limits c.args.self.now.name c.args.self.now.args c.args.self.now.params c.args.place _ c.args.self.now.fits_row (search rules)
