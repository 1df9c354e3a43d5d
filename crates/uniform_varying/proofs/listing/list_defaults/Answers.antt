use Rattle.std.proofs.Common.{rules, map, drop, ◌∷◌, [], true, ◌+◌}
use Rattle.std.proofs.lemmas.List.{at_drop_more, at_drop_all}
use Rattle.sl_ast.specs.TypedView.{tree_expr, default_of}
use Rattle.sl_ast.specs.Classes as spec
use Rattle.uniform_varying.proofs.Scopes.{joined}
use Rattle.uniform_varying.proofs.listing.list_defaults.Goals as goal

pub loop-default-preserved : goal.loop-default-preserved
loop-default-preserved c =
    let rest = drop (c.loop-default.default-index + 1) c.args.defaults.now in
    let at = at_drop_more (λ r. spec.classes_defaults (map default_of r)) c.args.defaults.now c.loop-default.default-index c.default-item.result c.loop-default-test.true in
    let own = spec.classes (tree_expr c.default-item.result.value) [] true in
    let order = joined c.loop-default.list.items (true ∷ []) (own) in
    let later = joined c.loop-default.list.items (true ∷ own) (spec.classes_defaults (map default_of rest)) in
    search rules

pub returns : goal.returns
returns c =
    let end = at_drop_all (λ r. spec.classes_defaults (map default_of r)) c.args.defaults.now c.loop-default.default-index c.loop-default-test.false in
    search rules
