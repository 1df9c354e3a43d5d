use Rattle.std.proofs.Common.{◌+◌, drop, map, rules, refl, arith, ap, sym, ◌∙◌}
use Rattle.std.proofs.lemmas.List.{drop_all}
use Rattle.sl_ast.specs.SyntaxView.{declared_of}
use Rattle.sl_expressions.specs.Found.{◌>>=◌}
use Rattle.sl_expressions.specs.Views.{around_of}
use Rattle.sl_typing.specs.Functions.{typed_params}
use Rattle.sl_typing.specs.Views.{param_of}
use Rattle.sl_typing.proofs.Learned.{params_step}
use Rattle.sl_typing.proofs.params.group.Goals as goal

pub loop-d-preserved : goal.loop-d-preserved
loop-d-preserved c =
    let g = around_of c.args.g.now in
    let step = params_step g c.args.assigned.now c.args.uniform c.args.kind (map param_of c.loop-d.params.items) c.args.ds.now c.loop-d.d-index c.d-item.result (omega arith) c.d-item.is in
    let rest = map declared_of (drop (c.loop-d.d-index + 1) c.args.ds.now) in
    record {
      same = sym (ap (λ r. r >>= λ ps. typed_params g c.args.assigned.now c.args.uniform c.args.kind ps rest) c.in_ok-param.ensures.0) ∙ sym step ∙ c.loop-d.invariant.same;
      scope = c.in_ok-param.ensures.1;
    }

pub loop-d-init : goal.loop-d-init
loop-d-init c = record { same = refl; scope = c.requires }

pub returns-in_err-param : goal.returns-in_err-param
returns-in_err-param c =
    let g = around_of c.args.g.now in
    let step = params_step g c.args.assigned.now c.args.uniform c.args.kind (map param_of c.loop-d.params.items) c.args.ds.now c.loop-d.d-index c.d-item.result (omega arith) c.d-item.is in
    let whole = sym c.loop-d.invariant.same ∙ step in
    search rules

pub returns : goal.returns
returns c =
    let g = around_of c.args.g.now in
    let params = map param_of c.loop-d.params.items in
    (sym c.loop-d.invariant.same ∙ ap (λ ys. typed_params g c.args.assigned.now c.args.uniform c.args.kind params (map declared_of ys)) (drop_all c.loop-d.d-index c.args.ds.now (omega arith)), c.loop-d.invariant.scope)
