-- The typed tree of the code without pointers.
use Rattle.std.specs.Prelude.{List, map}
use Rattle.sl_ast.specs.Typed as T
use Rattle.sl_ast.specs.declared.typed.TreeExpr as e
use Rattle.sl_ast.specs.declared.typed.TreeStmt as s
use Rattle.sl_ast.specs.declared.kinds.SlKind.{SlKind}
use Rattle.sl_ast.specs.declared.typed.ParamDecl.{ParamDecl}
use Rattle.sl_ast.specs.declared.typed.ParamDefault.{ParamDefault}
use Rattle.sl_ast.specs.declared.typed.Place.{Place}

abbrev mutual
  pub tree_expr : e.TreeExpr → T.Expr
  tree_expr (e.Number value place) = T.number value place
  tree_expr (e.Word text place) = T.word text place
  tree_expr (e.Variable variable kind place) = T.variable variable kind place
  tree_expr (e.Apply' operation n args kind place) = T.apply operation (row_exprs args) kind place
  tree_expr (e.Call' n args formals m body returned p value kind place) = T.call (row_exprs args) formals (row_stmts body) returned (tree_expr value) kind place

  pub row_exprs : {m : _} → e.Row_of-TreeExpr m → T.Exprs
  row_exprs e.end_of-TreeExpr = T.none
  row_exprs (e.more_of-TreeExpr x rest) = T.more (tree_expr x) (row_exprs rest)

  pub tree_stmt : s.TreeStmt → T.Stmt
  tree_stmt (s.Empty place) = T.empty place
  tree_stmt (s.Block' n body place) = T.block (row_stmts body) place
  tree_stmt (s.Group' n body) = T.group (row_stmts body)
  tree_stmt (s.Declare uniform kind value place) = T.declare uniform kind (tree_expr value) place
  tree_stmt (s.Start uniform kind place) = T.start uniform kind place
  tree_stmt (s.Set variable operator kind value place) = T.assign variable operator kind (tree_expr value) place
  tree_stmt (s.Break place) = T.leave place
  tree_stmt (s.Continue place) = T.again place
  tree_stmt (s.If' test p then place) = T.test (tree_expr test) (tree_stmt then) place
  tree_stmt (s.IfElse' test p then q otherwise place) = T.test_else (tree_expr test) (tree_stmt then) (tree_stmt otherwise) place
  tree_stmt (s.While' test p body place) = T.repeat (tree_expr test) (tree_stmt body) place
  tree_stmt (s.For' n first test m step p body place) = T.steps (row_stmts first) (tree_expr test) (row_stmts step) (tree_stmt body) place
  tree_stmt (s.Lights' word n args p body place) = T.lights word (row_exprs args) (tree_stmt body) place

  pub row_stmts : {m : _} → e.Row_of-TreeStmt m → T.Stmts
  row_stmts e.end_of-TreeStmt = T.done
  row_stmts (e.more_of-TreeStmt x rest) = T.first (tree_stmt x) (row_stmts rest)

abbrev pub default_of : ParamDefault → T.Default
default_of d = record { value = tree_expr d.value; place = d.place }

abbrev pub local_of : ParamDecl → T.Local
local_of p = record { name = p.name; kind = p.kind; uniform = p.uniform }

-- the tree of these parts
abbrev pub tree_with : SlKind → List ParamDecl → List ParamDefault → List s.TreeStmt → Place → T.Tree
tree_with kind params defaults body place = record {
  kind = kind;
  params = map local_of params;
  defaults = map default_of defaults;
  body = T.stmts (map tree_stmt body);
  place = place;
}
