use Rattle.std.proofs.Common.{◌≡◌, drop, map}
use Rattle.sl_ast.specs.SyntaxView.{declared_of}
use Rattle.sl_expressions.specs.Views.{around_of, local_of}
use Rattle.sl_typing.specs.Functions.{typed_params, locals_of}
use Rattle.sl_typing.specs.Views.{param_of}
use Rattle.sl_typing.proofs.params.group.Given as goal

abbrev pub invariant-loop-d : goal.invariant-loop-d
invariant-loop-d l = record {
  same : typed_params (around_of l.g) l.assigned l.uniform l.kind (map param_of l.params.items) (map declared_of (drop l.d-index l.ds))
      ≡ typed_params (around_of l.g) l.assigned l.uniform l.kind (map param_of l.initial.params.items) (map declared_of l.ds);
  scope : map local_of l.scope ≡ locals_of (map param_of l.params.items);
}
