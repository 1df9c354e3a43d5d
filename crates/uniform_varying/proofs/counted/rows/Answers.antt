use Rattle.std.proofs.Common.{arith, ◌≤◌, ◌∙◌, ap, map}
use Rattle.sl_ast.specs.Typed.{stmts}
use Rattle.sl_ast.specs.TypedView.{tree_stmt, local_of, default_of}
use Rattle.sl_ast.specs.TreeView.{tree_of}
use Rattle.sl_ast.specs.Classes.{local_classes}
use Rattle.sl_ast.specs.Registers as spec
use Rattle.sl_ast.specs.declared.tree.Tree.{Tree}
use Rattle.uniform_varying.specs.Counts.{counted}
use Rattle.uniform_varying.proofs.Bounded.{tree_within}
use Rattle.uniform_varying.proofs.Sums.{back, more, counted_few}
use Rattle.uniform_varying.proofs.counted.rows.Goals as goal

few : (t : Tree) → spec.rows_of (tree_of t) ≤ 200000
few t = let within = tree_within (tree_of t) t.typed in let nodes = t.counted in let least = t.few in omega (arith, within, nodes, least)

pub returns : goal.returns
returns c =
    let t = c.args.tree.now in
    let classes = ap (λ l. local_classes (map local_of l)) c.as_slice.ensures in
    let us = c.in_ok-us.ensures ∙ classes in
    let kind = ap counted c.predefined_rows.ensures in
    let params = c.rows_of_classes-params.ensures ∙ ap (λ vs. counted (spec.rows_of_classes vs)) (c.deref.ensures.value ∙ us) in
    let defaults = c.in_ok-defaults.ensures ∙ ap (λ l. counted (spec.rows_defaults (map default_of l))) c.as_slice-2.ensures in
    let body = c.in_ok-body.ensures.rows ∙ ap (λ l. counted (spec.rows_stmts (stmts (map tree_stmt l)) c.in_ok-us.us.items)) c.as_slice-3.ensures ∙
    ap (λ vs. counted (spec.rows_stmts (tree_of t).body vs)) us in
    counted_few _ _ (few t) (c.looped_rows.ensures ∙ more _ _ _ _ kind (more _ _ _ _ (back _ _ params) (more _ _ _ _ (back _ _ defaults) (back _ _ body))))
