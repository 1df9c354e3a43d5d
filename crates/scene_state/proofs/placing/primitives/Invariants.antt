use Rattle.std.proofs.Common.{◌≡◌, map}
use Rattle.rib_reader.specs.Reading.{plain}
use Rattle.scene_state.specs.State.{prim_of}
use Rattle.scene_state.proofs.placing.primitives.Given as goal

abbrev pub invariant-loop-patch : goal.invariant-loop-patch
invariant-loop-patch l = l.prims.items ≡ map (prim_of (plain l.request) l.object l.look l.worn) l.yielded
