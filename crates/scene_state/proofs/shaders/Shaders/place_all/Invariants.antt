use Rattle.std.proofs.Common.{◌≡◌, drop}
use Rattle.scene_state.specs.Shaders.{all_placed}
use Rattle.scene_state.proofs.Places.{behind}
use Rattle.scene_state.proofs.shaders.Shaders.place_all.Given as goal

abbrev pub invariant-loop-shader : goal.invariant-loop-shader
invariant-loop-shader l = behind l.places.items (all_placed l.self (drop l.shader-index l.shaders)) ≡ all_placed l.initial.self l.shaders
