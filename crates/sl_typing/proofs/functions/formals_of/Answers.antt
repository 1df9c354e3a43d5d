use Rattle.std.proofs.Common.{◌++◌, ◌+◌, drop, map, arith, ap, ap₂, sym, ◌∙◌}
use Rattle.sl_ast.specs.SyntaxView.{declared_of, group_of}
use Rattle.sl_expressions.specs.Views.{local_of}
use Rattle.sl_typing.specs.Functions.{formals_named, formals_of}
use Rattle.sl_typing.proofs.Learned.{formals_step}
use Rattle.sl_typing.proofs.functions.formals_of.Goals as goal

pub loop-group-preserved : goal.loop-group-preserved
loop-group-preserved c =
    let x = c.group-item.result in
    let before = map local_of c.loop-group.formals.items in
    let rest = formals_of (map group_of (drop (c.loop-group.group-index + 1) c.args.groups.now)) in
    let step = formals_step before c.args.groups.now c.loop-group.group-index x (omega arith) c.group-item.is in
    let named = c.in_ok-formals_named.ensures ∙ ap₂ (λ u ds. before ++ formals_named u x.kind (map declared_of ds)) c.is_uniform.ensures c.as_slice.ensures in
    ap (λ ls. ls ++ rest) named ∙ sym step ∙ c.loop-group.invariant
