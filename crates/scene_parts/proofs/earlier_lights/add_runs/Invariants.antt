use Rattle.std.proofs.Common.{◌≡◌, ◌++◌, drop}
use Rattle.std.specs.List.{concat}
use Rattle.scene_parts.proofs.earlier_lights.add_runs.Given as goal

abbrev pub invariant-loop-run : goal.invariant-loop-run
invariant-loop-run l = l.lights.items ++ concat (drop l.run-index l.runs) ≡ l.initial.lights.items ++ concat l.runs
