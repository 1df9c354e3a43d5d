use Rattle.std.proofs.Common.{length}
use Rattle.rib_reader.proofs.arguments.+shapes_fit.Given as goal

abbrev pub decreases-shapes_fit : goal.decreases-shapes_fit
decreases-shapes_fit l = length l.shapes.now
