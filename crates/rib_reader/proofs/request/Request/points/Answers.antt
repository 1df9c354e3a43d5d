use Rattle.std.proofs.Common.{rules}
use Rattle.rib_reader.proofs.Fits.{points_stand}
use Rattle.rib_reader.proofs.request.Request.points.Goals as goal

pub unreachable-requires : goal.unreachable-requires
unreachable-requires c =
    points_stand c.args.self.now.name c.args.self.now.args c.args.self.now.params c.args.self.now.fits_row c.requires (search rules)
