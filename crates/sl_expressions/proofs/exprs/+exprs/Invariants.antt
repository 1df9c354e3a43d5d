use Rattle.std.proofs.Common.{◌≡◌, [], ◌∷◌, drop, map}
use Rattle.sl_ast.specs.Syntax as U
use Rattle.sl_ast.specs.SyntaxView.{expr_of, link_of}
use Rattle.sl_expressions.specs.Exprs.{typed_args, typed_links}
use Rattle.sl_expressions.specs.Measures.{size, size_args, size_links}
use Rattle.sl_expressions.specs.Typed as T
use Rattle.sl_expressions.specs.TypedView.{typed_of, tlink_of}
use Rattle.sl_expressions.specs.Views.{around_of, local_of, args_after}
use Rattle.sl_expressions.proofs.exprs.+exprs.Given as goal

abbrev pub decreases-expr : goal.decreases-expr
decreases-expr l = size (expr_of l.e.now)

abbrev pub decreases-typed_args : goal.decreases-typed_args
decreases-typed_args l = size_args (U.exprs (map expr_of l.es.now))

abbrev pub decreases-typed_after : goal.decreases-typed_after
decreases-typed_after l = size_args (U.exprs (map expr_of l.es.now))

abbrev pub decreases-typed_links : goal.decreases-typed_links
decreases-typed_links l = size_links (U.links (map link_of l.links.now))

abbrev pub invariant-typed_after-loop-e : goal.invariant-typed_after-loop-e
invariant-typed_after-loop-e l =
    args_after (map typed_of l.before.items) (typed_args (around_of l.g) (map local_of l.scope) (U.exprs (map expr_of (drop l.e-index l.es))))
    ≡ args_after (typed_of l.fn.first ∷ []) (typed_args (around_of l.g) (map local_of l.scope) (U.exprs (map expr_of l.es)))

abbrev pub invariant-typed_links-loop-link : goal.invariant-typed_links-loop-link
invariant-typed_links-loop-link l = record {
  kind : T.kind_of (T.chained (typed_of l.first) (map tlink_of l.typed.items)) ≡ l.kind;
  same : typed_links (around_of l.g) (map local_of l.scope) (T.chained (typed_of l.first) (map tlink_of l.typed.items)) (U.links (map link_of (drop l.link-index l.links)))
      ≡ typed_links (around_of l.g) (map local_of l.scope) (typed_of l.first) (U.links (map link_of l.links));
}
