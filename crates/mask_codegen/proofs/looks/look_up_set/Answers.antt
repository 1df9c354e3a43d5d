use Rattle.std.proofs.Common.{◌≡◌, ◌++◌, map, sym, ap, subst, ◌∙◌, append-nil}
use Rattle.std.specs.List.Sorted.{IsStrictlyIncreasing}
use Rattle.std.proofs.lemmas.List.{at_drop_all}
use Rattle.sl_ast.specs.TreeView.{tree_of}
use Rattle.sl_look_ups.specs.Nodes.{nodes}
use Rattle.mask_codegen.specs.Compiled.{look_up_numbers}
use Rattle.mask_codegen.proofs.looks.look_up_set.Goals as goal

pub invariant_of-result : goal.invariant_of-result
invariant_of-result c =
    let found = c.loop-look_up.nodes.items in
    let left = at_drop_all (λ l. map (λ n. n.number) (nodes l)) c.deref-look_up-items.result.now c.loop-look_up.look_up-index c.loop-look_up-test.false in
    let are : found ≡ look_up_numbers (tree_of c.args.tree.now) = sym (append-nil found) ∙ ap (λ l. found ++ l) (sym left) ∙ c.loop-look_up.invariant in
    record { rise = subst IsStrictlyIncreasing (sym are) (subst (λ ns. IsStrictlyIncreasing (map (λ n. n.number) ns)) c.in_ok-found.ensures.nodes c.in_ok-found.ensures.rise) }
