use Rattle.std.proofs.Common.{◌≡◌, take}
use Rattle.scene_parts.proofs.earlier_lights.shared_runs.Given as goal

abbrev pub invariant-loop-run : goal.invariant-loop-run
invariant-loop-run l = l.all.items ≡ take l.run-index l.runs
