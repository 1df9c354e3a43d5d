use Rattle.std.proofs.Common.{◌≡◌, map, take}
use Rattle.std.specs.Prelude.{slice_get}
use Rattle.acceptance.specs.Reading.{name_of, named_use}
use Rattle.acceptance.proofs.SoFar.{SoFar}
use Rattle.acceptance.proofs.shaders.read_shaders.Given as goal

abbrev pub invariant-loop-shader : goal.invariant-loop-shader
invariant-loop-shader g l = record {
  table : l.names ≡ map name_of l.shaders.items;
  placed : map (slice_get (map name_of l.shaders.items)) l.of_use.items ≡ map named_use (take l.shader-index l.uses);
  read : SoFar l.uses l.shader-index l.shaders.items (g.L.Library.held l.initial.library) (g.L.Library.held l.library)
      (g.L.Library.asked l.initial.library) (g.L.Library.asked l.library) (g.L.Library.faults l.initial.library) (g.L.Library.faults l.library);
}
