use Rattle.std.proofs.Common.{map, sym, ap₂, subst, ◌∙◌}
use Rattle.sl_ast.specs.ShaderView.{shader_of}
use Rattle.sl_ast.specs.SyntaxView.{function_of}
use Rattle.sl_expressions.specs.Views.{Gives, callee_of}
use Rattle.sl_typing.specs.Functions.{known_from, program}
use Rattle.sl_typing.specs.Views.{program_of}
use Rattle.sl_typing.proofs.Programs.{program_found, program_fault}
use Rattle.sl_typing.proofs.params.program.Goals as goal

pub returns-in-Err-params_and_body : goal.returns-in-Err-params_and_body
returns-in-Err-params_and_body c =
    let s = shader_of c.args.shader.now in
    let known = map callee_of c.learn_all.new.known in
    let learned = sym (ap₂ (λ ks fs. known_from s.kind (map callee_of ks) (map function_of fs)) c.new-known.ensures c.as_slice.ensures) ∙ c.in_default.ensures in
    subst (λ r. Gives program_of r (program s)) (sym c.left-in-Err-params_and_body.ensures)
    (program_fault c.in-Err-params_and_body.fault s known learned c.in-Err-params_and_body.ensures)

pub returns-in-Ok : goal.returns-in-Ok
returns-in-Ok c =
    let s = shader_of c.args.shader.now in
    let known = map callee_of c.learn_all.new.known in
    let learned = sym (ap₂ (λ ks fs. known_from s.kind (map callee_of ks) (map function_of fs)) c.new-known.ensures c.as_slice.ensures) ∙ c.in_default.ensures in
    program_found s known _ learned c.in-Ok.ensures
