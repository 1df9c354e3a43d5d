use Rattle.grid_code.proofs.Resting.{rests}
use Rattle.grid_code.proofs.laws.rest_law.Goals as goal

pub returns-clause-place : goal.returns-clause-place
returns-clause-place c = rests
