use Rattle.std.proofs.Common.{arith}
use Rattle.std.proofs.lemmas.Grind.{common_steps}
use Rattle.scene_parts.proofs.LightRuns.{run_more}
use Rattle.scene_parts.proofs.earlier_lights.EarlierLights.and.Goals as goal

pub invariant_of-result : goal.invariant_of-result
invariant_of-result c = grind (arith, common_steps, run_more)
