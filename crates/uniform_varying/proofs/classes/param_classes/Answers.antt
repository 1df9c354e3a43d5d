use Rattle.std.proofs.Common.{rules, map, drop, ◌∷◌, [], ◌+◌}
use Rattle.std.proofs.lemmas.List.{at_drop_more, at_drop_all}
use Rattle.sl_ast.specs.TypedView.{local_of}
use Rattle.sl_ast.specs.Classes.{local_classes}
use Rattle.uniform_varying.proofs.Scopes.{joined}
use Rattle.uniform_varying.proofs.classes.param_classes.Goals as goal

pub loop-param-preserved : goal.loop-param-preserved
loop-param-preserved c =
    let rest = drop (c.loop-param.param-index + 1) c.args.params.now in
    let at = at_drop_more (λ r. local_classes (map local_of r)) c.args.params.now c.loop-param.param-index c.param-item.result c.loop-param-test.true in
    let order = joined c.loop-param.us.items (c.param-item.result.uniform ∷ []) (local_classes (map local_of rest)) in
    search rules

pub returns : goal.returns
returns c =
    let end = at_drop_all (λ r. local_classes (map local_of r)) c.args.params.now c.loop-param.param-index c.loop-param-test.false in
    search rules
