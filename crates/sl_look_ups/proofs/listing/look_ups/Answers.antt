use Rattle.std.proofs.Common.{◌≡◌, ◌++◌, map, sym, ap, subst, ◌∙◌}
use Rattle.std.specs.List.Sorted.{IsStrictlyIncreasing}
use Rattle.sl_ast.specs.TreeView.{tree_of}
use Rattle.sl_ast.specs.Typed.{stmts}
use Rattle.sl_ast.specs.TypedView.{tree_stmt}
use Rattle.sl_ast.specs.Textures.{look_ups_stmts, texture_nodes}
use Rattle.sl_look_ups.specs.Nodes.{nodes}
use Rattle.sl_look_ups.proofs.Rising.{nodes_rise}
use Rattle.sl_look_ups.proofs.listing.look_ups.Goals as goal

pub returns-clause-rise : goal.returns-clause-rise
returns-clause-rise c =
    let t = tree_of c.args.tree.now in
    let is : nodes c.list_stmts.new.list.items ≡ texture_nodes t =
    c.in_ok-list_stmts.ensures ∙ ap (λ l. nodes l ++ look_ups_stmts (stmts (map tree_stmt c.as_slice.result.now))) c.new-list.ensures.items ∙ ap (λ b. look_ups_stmts (stmts (map tree_stmt b))) c.as_slice.ensures in
    subst (λ ns. IsStrictlyIncreasing (map (λ n. n.number) ns)) (sym is) (nodes_rise t c.args.tree.now.numbered)
