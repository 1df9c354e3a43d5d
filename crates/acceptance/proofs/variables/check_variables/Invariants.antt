use Rattle.std.proofs.Common.{◌≡◌, drop, map}
use Rattle.acceptance.specs.Causes.{first_of}
use Rattle.acceptance.specs.PrimFit.{frame_refused}
use Rattle.acceptance.specs.Reading.{tree_read}
use Rattle.acceptance.proofs.variables.check_variables.Given as goal

abbrev pub invariant-loop-frame : goal.invariant-loop-frame
invariant-loop-frame l =
    let refused = frame_refused (map tree_read l.shaders.read) l.shaders.of_use in
    first_of (map refused (drop l.frame-index l.frames)) ≡ first_of (map refused l.frames)
