use Rattle.std.proofs.Common.{◌≡◌, drop, map}
use Rattle.sl_ast.specs.SyntaxView.{declared_of}
use Rattle.sl_expressions.specs.TypedView.{tstmt_of}
use Rattle.sl_expressions.specs.Views.{around_of, local_of}
use Rattle.sl_typing.specs.Stmts.{put_after, typed_names}
use Rattle.sl_typing.specs.Views.{Extends}
use Rattle.sl_typing.proofs.sets.names.Given as goal

abbrev pub invariant-loop-d : goal.invariant-loop-d
invariant-loop-d l = record {
  same : put_after (map tstmt_of l.done.items) (typed_names (around_of l.g) l.from l.uniform l.kind (map local_of l.scope) (map declared_of (drop l.d-index l.ds)))
      ≡ put_after (map tstmt_of l.initial.done.items) (typed_names (around_of l.g) l.from l.uniform l.kind (map local_of l.initial.scope) (map declared_of l.ds));
  extends : Extends l.initial.scope l.scope;
}
