use Rattle.std.proofs.Common.{◌+◌, drop, map, arith, ap, sym, ◌∙◌}
use Rattle.sl_ast.specs.SyntaxView.{function_of}
use Rattle.sl_expressions.specs.Found.{◌>>=◌}
use Rattle.sl_expressions.specs.Views.{callee_of}
use Rattle.sl_typing.specs.Functions.{known_from}
use Rattle.sl_typing.proofs.Learned.{known_step}
use Rattle.sl_typing.proofs.functions.learn_all.Goals as goal

pub loop-f-preserved : goal.loop-f-preserved
loop-f-preserved c =
    let step = known_step c.args.kind (map callee_of c.loop-f.known) c.args.functions.now c.loop-f.f-index c.f-item.result (omega arith) c.f-item.is in
    let rest = map function_of (drop (c.loop-f.f-index + 1) c.args.functions.now) in
    sym (ap (λ r. r >>= λ k. known_from c.args.kind k rest) c.in_ok-learn.ensures) ∙ sym step ∙ c.loop-f.invariant
