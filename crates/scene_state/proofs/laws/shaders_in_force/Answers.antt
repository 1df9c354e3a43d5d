use Rattle.scene_state.proofs.InForce.{shaders_in_force as law}
use Rattle.scene_state.proofs.laws.shaders_in_force.Goals as goal

pub returns : goal.returns
returns c = law
