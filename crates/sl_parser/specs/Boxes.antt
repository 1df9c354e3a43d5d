-- What stands in boxes, without them.
use Rattle.std.specs.Prelude.{Option, option_map}
use Rattle.std.specs.Global.{Box}
use Rattle.sl_ast.specs.Syntax as S
use Rattle.sl_ast.specs.SyntaxView.{stmt_of, assignment_of, cone_of}
use Rattle.sl_ast.specs.declared.syntax.Stmt as s
use Rattle.sl_ast.specs.declared.syntax.Assignment.{Assignment}
use Rattle.sl_ast.specs.declared.syntax.Cone.{Cone}
use Rattle.sl_expression_grammar.specs.Boxes.{boxed_expr}
use Rattle.sl_parser.specs.declared.statement_heads.ForHead.{ForHead}
use Rattle.sl_parser.specs.declared.statement_heads.LightsHead.{LightsHead}
use Rattle.sl_parser.specs.Statements.{For}

abbrev pub boxed_stmt : Box s.Stmt → S.Stmt
boxed_stmt b = stmt_of b.value

abbrev pub boxed_assignment : Box Assignment → S.Assignment
boxed_assignment b = assignment_of b.value

abbrev pub boxed_cone : Box Cone → S.Expr × S.Expr
boxed_cone b = cone_of b.value

-- what stands in the parentheses of a `for`, and of a statement over lights
abbrev pub for_of : Box ForHead → For
for_of b = (option_map boxed_assignment b.value.first, boxed_expr b.value.test, option_map boxed_assignment b.value.step)

abbrev pub lights_of : Box LightsHead → S.Expr × Option (S.Expr × S.Expr)
lights_of b = (boxed_expr b.value.place, option_map boxed_cone b.value.cone)
