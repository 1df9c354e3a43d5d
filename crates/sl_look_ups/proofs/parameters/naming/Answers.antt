use Rattle.std.proofs.Common.{◌≡◌, ◌∙◌, false, length, drop, replicate, sym, ap, arith}
use Rattle.std.proofs.lemmas.List.{at_drop_all, with_items_is, length-map}
use Rattle.sl_ast.specs.Textures.{texture_nodes}
use Rattle.sl_ast.specs.TreeView.{tree_of}
use Rattle.sl_ast.specs.TypedView.{local_of}
use Rattle.sl_look_ups.specs.Nodes.{nodes}
use Rattle.sl_look_ups.proofs.Naming.{answered, answered_none, answered_all, answered_next}
use Rattle.sl_look_ups.proofs.parameters.naming.Goals as goal

pub loop-look_up-init : goal.loop-look_up-init
loop-look_up-init c =
    let t = tree_of c.args.tree.now in
    let ps = c.args.tree.now.params in
    let none = c.in_ok-named.ensures.items_if_clones_equal (λ y h. h) ∙ ap (λ n. replicate n false) (c.len.ensures ∙ sym (length-map ps local_of)) in
    ap (λ ls. answered (nodes ls) 0 c.in_ok-named.named.items) c.deref-look_up-items.ensures.value ∙ ap (λ ns. answered ns 0 c.in_ok-named.named.items) c.in_ok-found.ensures.nodes
    ∙ ap (answered (texture_nodes t) 0) none ∙ answered_none (texture_nodes t) 0 t.params

pub loop-look_up-preserved : goal.loop-look_up-preserved
loop-look_up-preserved c =
    let ls = c.deref-look_up-items.result.now in
    let i = c.loop-look_up.look_up-index in
    let named = c.loop-look_up.named in
    let same : length c.note.new.named ≡ named.len = omega (arith, c.note.auto.named, ap length c.deref_mut.ensures.value, named.ok.0) in
    answered_next ls i c.look_up-item.result c.deref_mut.result.now _ _ c.loop-look_up-test.true c.look_up-item.is (with_items_is named c.note.new.named same ∙ c.note.ensures)
    (ap (answered (nodes (drop i ls)) 0) c.deref_mut.ensures.value ∙ c.loop-look_up.invariant)

pub returns : goal.returns
returns c =
    let bs = c.loop-look_up.named.items in
    sym (answered_all 0 bs) ∙ sym (at_drop_all (λ ls. answered (nodes ls) 0 bs) c.deref-look_up-items.result.now c.loop-look_up.look_up-index c.loop-look_up-test.false) ∙ c.loop-look_up.invariant
