use Rattle.std.proofs.Common.{rules, ◌++◌, true, map, arith, ◌∙◌}
use Rattle.std.proofs.lemmas.List.{at_drop_all}
use Rattle.sl_ast.specs.TypedView.{default_of}
use Rattle.sl_types.specs.Inline.{count_params, defaults_at}
use Rattle.sl_types.specs.Placing.{functions}
use Rattle.sl_typing.specs.Views.{param_of}
use Rattle.sl_types.proofs.Defaulted.{default_step, params_split}
use Rattle.sl_types.proofs.inline.defaults.Goals as goal

pub place-at-requires : goal.place-at-requires
place-at-requires c =
    let fs = functions true c.args.known.now in
    let s = params_split (λ ps. count_params fs (map param_of ps)) c.args.params.now c.loop-param.param-index c.param-item.result c.loop-param-test.true c.param-item.is in
    omega (arith, c.requires, s, c.loop-param.invariant.next)

pub expr-requires : goal.expr-requires
expr-requires c =
    let fs = functions true c.args.known.now in
    let s = params_split (λ ps. count_params fs (map param_of ps)) c.args.params.now c.loop-param.param-index c.param-item.result c.loop-param-test.true c.param-item.is in
    omega (arith, c.requires, s, c.loop-param.invariant.next, c.place-at.ensures.next)

pub loop-param-preserved : goal.loop-param-preserved
loop-param-preserved c =
    let fs = functions true c.args.known.now in
    let s = params_split (λ ps. count_params fs (map param_of ps)) c.args.params.now c.loop-param.param-index c.param-item.result c.loop-param-test.true c.param-item.is in
    record {
      tree = default_step fs c.loop-param.made.items _ _ c.args.params.now c.loop-param.param-index c.param-item.result c.loop-param.next c.place-at.new.next c.expr.new.next c.loop-param-test.true c.param-item.is
          c.in_ok-push.ensures.items c.place-at.ensures.place c.place-at.ensures.next c.in_ok-value.ensures.tree c.in_ok-value.ensures.next ∙ c.loop-param.invariant.tree;
      next = omega (arith, s, c.loop-param.invariant.next, c.place-at.ensures.next, c.in_ok-value.ensures.next);
    }

pub returns-clause-tree : goal.returns-clause-tree
returns-clause-tree c =
    let fs = functions true c.args.known.now in
    let end = at_drop_all (λ ps. map default_of c.loop-param.made.items ++ defaults_at fs c.loop-param.next (map param_of ps)) c.args.params.now c.loop-param.param-index c.loop-param-test.false in
    search rules

pub returns-clause-next : goal.returns-clause-next
returns-clause-next c =
    let fs = functions true c.args.known.now in
    omega (arith, c.loop-param.invariant.next, at_drop_all (λ ps. count_params fs (map param_of ps)) c.args.params.now c.loop-param.param-index c.loop-param-test.false)
