use Rattle.std.proofs.Common.{◌≡◌, drop, map}
use Rattle.sl_ast.specs.SyntaxView.{group_of}
use Rattle.sl_expressions.specs.Views.{around_of, local_of}
use Rattle.sl_typing.specs.Functions.{typed_groups, locals_of}
use Rattle.sl_typing.specs.Views.{param_of}
use Rattle.sl_typing.proofs.params.groups.Given as goal

abbrev pub invariant-loop-one : goal.invariant-loop-one
invariant-loop-one l = record {
  same : typed_groups (around_of l.g) l.assigned (map param_of l.params.items) (map group_of (drop l.one-index l.groups))
      ≡ typed_groups (around_of l.g) l.assigned (map param_of l.initial.params.items) (map group_of l.groups);
  scope : map local_of l.scope ≡ locals_of (map param_of l.params.items);
}
