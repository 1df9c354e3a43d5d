use Rattle.bound_split.proofs.Stacks.{leaves-some}
use Rattle.bound_split.proofs.walk.Walk.new.Goals as goal

pub returns-clause-some : goal.returns-clause-some
returns-clause-some c = λ decide. leaves-some decide c.args.piece
