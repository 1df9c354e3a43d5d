use Rattle.std.proofs.Common.{subst}
use Rattle.std.specs.List.{Contains}
use Rattle.mask_codegen.proofs.sets.numbers.Goals as goal

pub returns-clause-adds_none : goal.returns-clause-adds_none
returns-clause-adds_none c = λ x h. subst (λ l. Contains l x) c.in_ok-numbers.ensures (c.rising.ensures.adds_none x h)
