use Rattle.std.proofs.Common.{◌≡◌, ◌∙◌, length, map, sym, ap, arith}
use Rattle.std.proofs.lemmas.List.{length-map}
use Rattle.sl_ast.specs.Textures.{texture_nodes}
use Rattle.sl_ast.specs.TreeView.{tree_of}
use Rattle.sl_ast.specs.TypedView.{local_of}
use Rattle.sl_look_ups.specs.Naming.{naming_from}
use Rattle.sl_look_ups.proofs.Naming.{naming_count, bound_next}
use Rattle.sl_look_ups.proofs.parameters.binding_params.Goals as goal

pub index-requires : goal.index-requires
index-requires c =
    let t = tree_of c.args.tree.now in
    let ps = c.args.tree.now.params in
    let named = c.in_ok-named.named in
    let count : length named.items ≡ length ps = ap length c.in_ok-named.ensures ∙ naming_count (texture_nodes t) 0 t.params ∙ length-map ps local_of in
    omega (arith, count, named.ok.0, ap length c.as_slice-param-items.ensures, c.loop-k-test.true)

pub loop-k-preserved : goal.loop-k-preserved
loop-k-preserved c =
    let t = tree_of c.args.tree.now in
    let ps = c.as_slice-param-items.result.now in
    bound_next (texture_nodes t) ps c.loop-k.k c.param-item.result c.loop-k.made.items c.push.new.self.items c.in_ok-bindable.field-0 c.in_ok-named.named.items c.index.result.now _
    c.loop-k-test.true c.param-item.is (c.in_ok-named.ensures ∙ ap (λ xs. naming_from (texture_nodes t) 0 (map local_of xs)) (sym c.as_slice-param-items.ensures)) c.index.ensures
    c.in_ok-bindable.ensures c.in_ok-push.ensures.items c.loop-k.invariant
