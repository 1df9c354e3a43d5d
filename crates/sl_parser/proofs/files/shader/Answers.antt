use Rattle.std.proofs.Common.{arith, ◌≤◌, map}
use Rattle.sl_ast.specs.Syntax.{stmts}
use Rattle.sl_ast.specs.SyntaxView.{stmt_of, group_of}
use Rattle.sl_ast.specs.Levels.{levels_groups, levels_stmts}
use Rattle.sl_parser.specs.declared.declarations.Valued.TheVariants.{Always}
use Rattle.sl_parser.proofs.FileTexts.{groups_shallow, body_shallow}
use Rattle.sl_parser.proofs.files.shader.Goals as goal

pub invariant_of-result : goal.invariant_of-result
invariant_of-result c =
    let params : levels_groups (map group_of c.in_ok-params.params.groups.items) ≤ c.args.levels =
    groups_shallow c.args.levels Always _ _ _ _ c.in_ok-params.ensures.gives in
    let body : levels_stmts (stmts (map stmt_of c.in_ok-body.body.items)) ≤ c.args.levels =
    body_shallow c.args.levels c.in_ok-params.rest.now _ _ c.in_ok-body.ensures.gives in
    record { shallow = omega (arith, params, body, c.requires.few, c.requires.shallow) }
