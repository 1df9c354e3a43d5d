use Rattle.parts.proofs.Pictured.{division_is}
use Rattle.parts.proofs.joined.join.Goals as goal

pub returns-clause-division : goal.returns-clause-division
returns-clause-division c = division_is (λ v. v.items) c.args.parts.now c.joined.result c.requires.some c.joined.ensures
