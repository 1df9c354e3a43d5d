use Rattle.std.proofs.Common.{◌≡◌, drop}
use Rattle.std.specs.Option.{option_or}
use Rattle.scene_state.specs.Shaders.{light_of}
use Rattle.scene_state.proofs.shaders.light_of.Given as goal

abbrev pub invariant-loop-handle : goal.invariant-loop-handle
invariant-loop-handle l = option_or (light_of (drop l.handle-index l.handles) l.number) l.found ≡ light_of l.handles l.number
