use Rattle.rib_reader.proofs.Fits.{list_holds, param_holds}
use Rattle.rib_reader.specs.Rules.{follows_of}
use Rattle.rib_reader.proofs.request.Request.variables.Goals as goal

pub returns-clause-whole : goal.returns-clause-whole
returns-clause-whole c =
    rw c.as_slice.ensures (list_holds c.args.self.now.name c.args.self.now.args c.args.self.now.params c.args.self.now.fits_row).0

pub returns-clause-kinds : goal.returns-clause-kinds
returns-clause-kinds c =
    rw c.as_slice.ensures λ k p there.
    (param_holds (follows_of c.args.self.now.name c.args.self.now.args) p ((list_holds c.args.self.now.name c.args.self.now.args c.args.self.now.params c.args.self.now.fits_row).1 k p there)).0

pub returns-clause-each : goal.returns-clause-each
returns-clause-each c =
    rw c.as_slice.ensures λ k p there.
    (param_holds (follows_of c.args.self.now.name c.args.self.now.args) p ((list_holds c.args.self.now.name c.args.self.now.args c.args.self.now.params c.args.self.now.fits_row).1 k p there)).1
