use Rattle.std.proofs.Common.{◌≡◌, IfOk, subst}
use Rattle.sl_ast.specs.TypedView.{default_of}
use Rattle.sl_meaning.specs.CoreView.{expr_of}
use Rattle.sl_evaluation.specs.ScopeView.{env_of}
use Rattle.sl_evaluation.proofs.DefaultsThere.{evaluated_is}
use Rattle.sl_evaluation.proofs.defaults.evaluated.Goals as goal

pub returns : goal.returns
returns c =
    subst (λ r. IfOk c.in_kind.result (λ v. v ≡ r))
    (evaluated_is c.args.kind (default_of c.args.default.now).value c.args.spaces.now (expr_of c.in_ok-expression.expression) (env_of c.new-scope.result) (env_of c.value.new.scope) c.in_ok-found.found
    c.in_ok-expression.ensures c.new-scope.ensures c.in_ok-found.ensures)
    c.in_kind.ensures
