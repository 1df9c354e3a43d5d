use Rattle.std.proofs.Common.{◌≡◌, IfOk, true, false, map, ap, subst, ◌∙◌}
use Rattle.sl_ast.specs.SyntaxView.{function_of, group_of}
use Rattle.sl_expressions.specs.Views.{body_of, callee_of}
use Rattle.sl_typing.specs.Functions as F
use Rattle.sl_typing.proofs.Learned.{callee_kept}
use Rattle.sl_typing.proofs.functions.learned.Goals as goal

pub returns-in-Ok-kept_body : goal.returns-in-Ok-kept_body
returns-in-Ok-kept_body c =
    let known = map callee_of c.args.known.now in
    let f = function_of c.args.f.now in
    let body = subst (λ r. IfOk r (λ b. body_of b ≡ F.body_of (F.within c.args.kind false known f) f)) c.in-Ok.is c.kept_body.ensures in
    let by_default = subst (λ r. IfOk r (λ b. body_of b ≡ F.body_of (F.within c.args.kind true known f) f)) c.in-Ok-kept_body.is c.kept_body-in-Ok.ensures in
    callee_kept c.args.kind known f _ _ _ (c.in_ok-formals.ensures ∙ ap (λ gs. F.formals_of (map group_of gs)) c.as_slice.ensures) body by_default
