use Rattle.std.proofs.Common.{◌∙◌, sym, rules}
use Rattle.sl_ast.specs.TreeView.{tree_of}
use Rattle.acceptance.proofs.BoundValues.{bound_fits}
use Rattle.acceptance.proofs.request_fit.bind.Goals as goal

pub returns-in_ok-bound_values-in-None-clause-binds : goal.returns-in_ok-bound_values-in-None-clause-binds
returns-in_ok-bound_values-in-None-clause-binds c = record {
  values = c.in_ok-bound_values-in-None.ensures;
  fits = bound_fits (tree_of c.args.tree.now) c.args.request.now c.in_ok-bound_values-in-None.field-0 (sym c.in_ok-binding_fault.ensures ∙ c.in-None.is) c.in_ok-bound_values-in-None.ensures;
  alone = search rules;
}
