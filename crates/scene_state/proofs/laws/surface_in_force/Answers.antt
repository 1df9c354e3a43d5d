use Rattle.scene_state.proofs.InForce.{surface_in_force as law}
use Rattle.scene_state.proofs.laws.surface_in_force.Goals as goal

pub returns : goal.returns
returns c = law
