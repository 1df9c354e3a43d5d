use Rattle.std.proofs.Common.{Ok, Err, cond, ap, sym, subst, ◌∙◌}
use Rattle.sl_ast.specs.ShaderView.{shader_of}
use Rattle.sl_types.specs.Checked.{limited}
use Rattle.sl_expressions.specs.Found.{◌>>=◌}
use Rattle.sl_expressions.specs.Views.{Gives}
use Rattle.sl_expressions.specs.declared.faults.TypeCode.TheVariants.{M8}
use Rattle.sl_typing.specs.Views.{program_of}
use Rattle.sl_types.proofs.checking.sized.Goals as goal

pub returns : goal.returns
returns c =
    let s = shader_of c.args.shader.now in
    let p = program_of c.in_ok-program.program in
    subst (λ r. Gives program_of c.limited.result r)
    (sym (ap (λ r. r >>= limited s) c.in_ok-program.ensures ∙ ap (λ b. cond b (Ok p) (Err (M8, c.args.shader.now.line))) (sym (c.in_ok-within.ensures s))))
    c.limited.ensures
