use Rattle.std.proofs.Common.{◌≡◌, ℕ, ◌+◌, ◌-◌, pos, true, false, ◌++◌, length, get_or, ap, ◌∙◌, arith, length-append}
use Rattle.sl_ast.specs.declared.typed.Value.TheVariants.{Number}
use Rattle.builtins.specs.Differences.{Lines}
use Rattle.builtins.specs.Values.{number_of}
use Rattle.grid_code.specs.Names.{first_free}
use Rattle.grid_machine.specs.Run.{params_of, step_names}
use Rattle.grid_machine.proofs.Begins.{joined_before}
use Rattle.grid_machine.proofs.preparing.prepare.Goals as goal

pub overflow_sub-first_step : goal.overflow_sub-first_step
overflow_sub-first_step c =
    let code = c.args.code.now in
    let e = c.in_ok-uniforms.ensures ∙ ap (λ ss. params_of true first_free ss ++ c.steps.result.now) c.as_slice-params.ensures ∙ ap (λ rs. params_of true first_free code.params ++ rs) c.steps.ensures in
    let a = ap length e in
    let b = ap length c.steps-2.ensures in
    let n = length-append (params_of true first_free code.params) (step_names code.kind) in
    omega arith

pub returns-clause-lines : goal.returns-clause-lines
returns-clause-lines c =
    let code = c.args.code.now in
    let given = c.args.inputs.now in
    let vs = given.uniforms.now in
    let none = Number (pos 0) in
    let e = c.in_ok-uniforms.ensures ∙ ap (λ ss. params_of true first_free ss ++ c.steps.result.now) c.as_slice-params.ensures ∙ ap (λ rs. params_of true first_free code.params ++ rs) c.steps.ensures in
    let at : length c.in_ok-uniforms.uniforms.now - length c.steps-2.result.now ≡ length (params_of true first_free code.params) =
    joined_before (params_of true first_free code.params) (step_names code.kind) (length c.in_ok-uniforms.uniforms.now) (length c.steps-2.result.now) (ap length e) (ap length c.steps-2.ensures) in
    let lines_by : ℕ → Lines = λ k. record { columns = given.columns; rows = given.rows; du = number_of (get_or vs k none); dv = number_of (get_or vs (k + 1) none) } in
    c.in_ok-frame.ensures.lines ∙ ap lines_by at

pub returns-clause-uniforms : goal.returns-clause-uniforms
returns-clause-uniforms c =
    let code = c.args.code.now in
    c.in_ok-uniforms.ensures ∙ ap (λ ss. params_of true first_free ss ++ c.steps.result.now) c.as_slice-params.ensures ∙ ap (λ rs. params_of true first_free code.params ++ rs) c.steps.ensures

pub returns-clause-varyings : goal.returns-clause-varyings
returns-clause-varyings c =
    let code = c.args.code.now in
    c.in_ok-varyings.ensures ∙ ap (λ ss. params_of false first_free ss ++ c.given.result.now) c.as_slice-params.ensures ∙ ap (λ rs. params_of false first_free code.params ++ rs) c.given.ensures
