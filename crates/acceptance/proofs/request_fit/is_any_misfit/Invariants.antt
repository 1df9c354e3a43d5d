use Rattle.std.proofs.Common.{◌≡◌, drop, map}
use Rattle.std.specs.List.{list_any}
use Rattle.sl_ast.specs.TreeView.{tree_of}
use Rattle.acceptance.specs.RequestFit.{is_misfit}
use Rattle.acceptance.proofs.request_fit.is_any_misfit.Given as goal

abbrev pub invariant-loop-param : goal.invariant-loop-param
invariant-loop-param l =
    let test = is_misfit (tree_of l.tree).params in
    list_any test (map (λ p. p.now) (drop l.param-index l.params)) ≡ list_any test (map (λ p. p.now) l.params)
