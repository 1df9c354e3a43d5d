use Rattle.std.proofs.Common.{◌≡◌, map, take}
use Rattle.acceptance.specs.Reading.{declared_by}
use Rattle.acceptance.proofs.use_fit.all_declared.Given as goal

abbrev pub invariant-loop-shader : goal.invariant-loop-shader
invariant-loop-shader l = l.declared.items ≡ map declared_by (take l.shader-index l.shaders)
