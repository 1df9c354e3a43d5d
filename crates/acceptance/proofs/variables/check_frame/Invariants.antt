use Rattle.std.proofs.Common.{◌≡◌, drop, map}
use Rattle.acceptance.specs.Causes.{first_of}
use Rattle.acceptance.specs.PrimFit.{prim_refused}
use Rattle.acceptance.specs.Reading.{tree_read}
use Rattle.acceptance.proofs.variables.check_frame.Given as goal

abbrev pub invariant-loop-prim : goal.invariant-loop-prim
invariant-loop-prim l =
    let refused = prim_refused (map tree_read l.shaders.read) l.shaders.of_use in
    first_of (map refused (drop l.prim-index l.prims)) ≡ first_of (map refused l.prims)
