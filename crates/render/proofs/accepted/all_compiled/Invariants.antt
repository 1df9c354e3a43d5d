use Rattle.std.proofs.Common.{◌≡◌, map}
use Rattle.acceptance.specs.Reading.{tree_read}
use Rattle.render.specs.Coded.{tree_compiled}
use Rattle.render.proofs.accepted.all_compiled.Given as goal

abbrev pub invariant-loop-shader : goal.invariant-loop-shader
invariant-loop-shader l = map tree_compiled l.codes.items ≡ map tree_read l.yielded
