use Rattle.sl_expressions.proofs.ScopeNames.{names_left}
use Rattle.sl_expressions.proofs.scope.Scope.truncate.Goals as goal

pub invariant_of-self : goal.invariant_of-self
invariant_of-self c = names_left c.args.count c.self.inside.locals.items _ _ _ c.truncate-2.ensures c.self.invariant c.truncate.ensures.items
