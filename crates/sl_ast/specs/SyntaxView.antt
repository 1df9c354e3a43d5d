-- The trees of the code without pointers.
use Rattle.std.specs.Prelude.{map, option_map}
use Rattle.sl_ast.specs.Syntax as S
use Rattle.sl_ast.specs.declared.syntax.Expr as e
use Rattle.sl_ast.specs.declared.syntax.Link as l
use Rattle.sl_ast.specs.declared.syntax.Stmt as s
use Rattle.sl_ast.specs.declared.syntax.Assignment.{Assignment}
use Rattle.sl_ast.specs.declared.syntax.Declared.{Declared}
use Rattle.sl_ast.specs.declared.syntax.Cone.{Cone}
use Rattle.sl_ast.specs.declared.syntax.Group.{Group}
use Rattle.sl_ast.specs.declared.syntax.Function.{Function}

abbrev mutual
  pub expr_of : e.Expr → S.Expr
  expr_of (e.Number text line) = S.number text line
  expr_of (e.Str text line) = S.string text line
  expr_of (e.Name name line) = S.name name line
  expr_of (e.Call' name n args line) = S.call name (row_exprs args) line
  expr_of (e.Paren' p inner line) = S.paren (expr_of inner) line
  expr_of (e.Triple' kind space p x q y r z line) = S.triple kind space (expr_of x) (expr_of y) (expr_of z) line
  expr_of (e.Typed' kind space p value line) = S.typed kind space (expr_of value) line
  expr_of (e.Prefixed' operator p operand line) = S.prefixed operator (expr_of operand) line
  expr_of (e.Chain' row p first n links) = S.chain row (expr_of first) (row_links links)
  expr_of (e.Choice' p test q first r second line) = S.choice (expr_of test) (expr_of first) (expr_of second) line

  pub row_exprs : {m : _} → e.Row_of-Expr m → S.Exprs
  row_exprs e.end_of-Expr = S.none
  row_exprs (e.more_of-Expr x rest) = S.more (expr_of x) (row_exprs rest)

  pub row_links : {m : _} → e.Row_of-Link m → S.Links
  row_links e.end_of-Link = S.end
  row_links (e.more_of-Link operator line operand rest) = S.link operator line (expr_of operand) (row_links rest)

abbrev pub assignment_of : Assignment → S.Assignment
assignment_of a = record { name = a.name; operator = a.operator; value = expr_of a.value; line = a.line; set_line = a.set_line }

abbrev pub declared_of : Declared → S.Declared
declared_of d = record { name = d.name; value = option_map expr_of d.value; line = d.line; set_line = d.set_line }

abbrev pub cone_of : Cone → S.Expr × S.Expr
cone_of c = (expr_of c.axis, expr_of c.angle)

abbrev mutual
  pub stmt_of : s.Stmt → S.Stmt
  stmt_of (s.Empty line) = S.empty line
  stmt_of (s.Block' n body line) = S.block (row_stmts body) line
  stmt_of (s.Set set) = S.assign (assignment_of set)
  stmt_of (s.Break line) = S.leave line
  stmt_of (s.Continue line) = S.again line
  stmt_of (s.Return value line) = S.give (expr_of value) line
  stmt_of (s.Declare class kind names line) = S.declare class kind (map declared_of names) line
  stmt_of (s.If' test p then line) = S.test (expr_of test) (stmt_of then) line
  stmt_of (s.IfElse' test p then q otherwise line) = S.test_else (expr_of test) (stmt_of then) (stmt_of otherwise) line
  stmt_of (s.While' test p body line) = S.repeat (expr_of test) (stmt_of body) line
  stmt_of (s.For' first test step p body line) = S.steps (option_map assignment_of first) (expr_of test) (option_map assignment_of step) (stmt_of body) line
  stmt_of (s.Lights' word place cone p body line) = S.lights word (expr_of place) (option_map cone_of cone) (stmt_of body) line
  stmt_of (s.Solar' axis angle p body line) = S.solar (expr_of axis) (expr_of angle) (stmt_of body) line

  pub row_stmts : {m : _} → s.Row_of-Stmt m → S.Stmts
  row_stmts s.end_of-Stmt = S.done
  row_stmts (s.more_of-Stmt x rest) = S.first (stmt_of x) (row_stmts rest)

abbrev pub link_of : l.Link → S.Link
link_of x = record { operator = x.operator; line = x.line; operand = expr_of x.operand }

abbrev pub group_of : Group → S.Group
group_of g = record { class = g.class; kind = g.kind; names = map declared_of g.names }

abbrev pub function_of : Function → S.Function
function_of f = record {
  returns = f.returns;
  name = f.name;
  formals = map group_of f.formals;
  ended = f.ended;
  body = S.stmts (map stmt_of f.body);
  line = f.line;
}
