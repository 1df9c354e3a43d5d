use Rattle.std.proofs.Common.{Ok, map, ap, sym, subst, ◌∙◌}
use Rattle.sl_expressions.specs.Typed as T
use Rattle.sl_expressions.specs.TypedView.{typed_of, tlink_of}
use Rattle.sl_expressions.specs.Views.{Gives, operated}
use Rattle.sl_expressions.proofs.Chains.{grown_chain}
use Rattle.sl_expressions.proofs.operations.add_link.Goals as goal

pub returns : goal.returns
returns c first found kind is =
    let before = T.chained first (map tlink_of c.args.links.now.items) in
    let operand = subst (λ r. Gives typed_of r found) c.in_ok-operand.was is in
    let grown = grown_chain first c.args.links.now.items _ c.in_ok-link.link c.in_ok-push.ensures.items in
    (ap (operated c.args.operation c.args.line before) operand ∙ c.in_ok-link.ensures before kind ∙ ap (λ e. Ok e) (sym grown), ap T.kind_of grown)
