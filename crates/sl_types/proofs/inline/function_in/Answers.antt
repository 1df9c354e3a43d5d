use Rattle.std.proofs.Common.{Ok, map, take, ap, sym, ◌∙◌, arith}
use Rattle.sl_types.specs.Inline.{built_in}
use Rattle.sl_types.specs.Placing.{functions}
use Rattle.sl_expressions.specs.Scope.{body_in}
use Rattle.sl_expressions.specs.Views.{body_of, callee_of, local_of, stmts_of}
use Rattle.sl_types.proofs.Placed.{function_at, lighter_at}
use Rattle.sl_types.proofs.inline.function_in.Goals as goal

pub returns-in-Err-clause-puts : goal.returns-in-Err-clause-puts
returns-in-Err-clause-puts c =
    let d = c.args.by_default in
    let known = c.args.known.now in
    let x = c.index-known-k.result in
    let before = functions d (take c.args.k known) in
    function_at d known c.args.k x (omega (arith, c.if-k-known.false))
    ∙ ap (λ y. built_in before (map local_of y.formals.items) (body_in d (callee_of y))) (sym c.index-known-k.is)
    ∙ ap (built_in before (map local_of x.formals.items)) (sym c.body_at.ensures ∙ ap body_of c.in-Err.is)

pub returns-in-Ok-clause-puts : goal.returns-in-Ok-clause-puts
returns-in-Ok-clause-puts c =
    let d = c.args.by_default in
    let known = c.args.known.now in
    let x = c.index-known-k.result in
    let before = functions d (take c.args.k known) in
    function_at d known c.args.k x (omega (arith, c.if-k-known.false))
    ∙ ap (λ y. built_in before (map local_of y.formals.items) (body_in d (callee_of y))) (sym c.index-known-k.is)
    ∙ ap (built_in before (map local_of x.formals.items)) (sym c.body_at.ensures ∙ ap body_of c.in-Ok.is)
    ∙ ap (λ ls. built_in before (map local_of ls) (Ok (stmts_of c.in-Ok.body))) (sym c.as_slice.ensures.value)

pub returns-in-Ok-clause-lighter : goal.returns-in-Ok-clause-lighter
returns-in-Ok-clause-lighter c =
    let d = c.args.by_default in
    let known = c.args.known.now in
    let x = c.index-known-k.result in
    lighter_at d known c.args.k x (stmts_of c.in-Ok.body) (omega (arith, c.if-k-known.false))
    (ap (λ y. body_in d (callee_of y)) (sym c.index-known-k.is) ∙ sym c.body_at.ensures ∙ ap body_of c.in-Ok.is)
