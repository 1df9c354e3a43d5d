-- The core tree of the code without pointers.
use Rattle.std.specs.Prelude.{List, [], ◌∷◌}
use Rattle.sl_meaning.specs.Core as C
use Rattle.sl_meaning.specs.declared.core_tree.CoreExpr as e
use Rattle.sl_meaning.specs.declared.core_tree.CoreStmt as s
use Rattle.sl_meaning.specs.declared.core_tree.Argument.{Argument}
use Rattle.sl_meaning.specs.declared.core_tree.CoreLoop.{CoreLoop}

abbrev mutual
  pub expr_of : e.CoreExpr → C.Expr
  expr_of (e.Literal v) = C.literal v
  expr_of (e.Read x) = C.read x
  expr_of (e.Apply' operation n args) = C.apply operation (row_exprs args)
  expr_of (e.Differ' difference p x) = C.differ difference (expr_of x)
  expr_of (e.Sum' sum n args) = C.sum sum (row_exprs args)
  expr_of (e.Texture' number n args) = C.texture number (row_exprs args)
  expr_of (e.Call' n args m body kind p value) = C.call (row_args args) (row_stmts body) kind (expr_of value)

  pub row_exprs : {m : _} → e.Row_of-CoreExpr m → C.Exprs
  row_exprs e.end_of-CoreExpr = C.none
  row_exprs (e.more_of-CoreExpr x rest) = C.more (expr_of x) (row_exprs rest)

  pub row_args : {m : _} → e.Row_of-Argument m → C.Arguments
  row_args e.end_of-Argument = C.no_arguments
  row_args (e.more_of-Argument uniform kind value rest) = C.argument uniform kind (expr_of value) (row_args rest)

  pub stmt_of : s.CoreStmt → C.Stmt
  stmt_of (s.Declare uniform kind value) = C.declare uniform kind (expr_of value)
  stmt_of (s.Assign variable kind value) = C.assign variable kind (expr_of value)
  stmt_of (s.Block' n body) = C.block (row_stmts body)
  stmt_of (s.Test' test n then m otherwise) = C.test (expr_of test) (row_stmts then) (row_stmts otherwise)
  stmt_of (s.Repeat' uniform test n step m body) = C.repeat uniform (expr_of test) (row_stmts step) (row_stmts body)
  stmt_of (s.Lights' word n args m body) = C.lights word (row_exprs args) (row_stmts body)
  stmt_of s.Break = C.leave
  stmt_of s.Continue = C.again

  pub row_stmts : {m : _} → e.Row_of-CoreStmt m → C.Stmts
  row_stmts e.end_of-CoreStmt = C.done
  row_stmts (e.more_of-CoreStmt x rest) = C.first (stmt_of x) (row_stmts rest)

abbrev pub exprs_of : List e.CoreExpr → C.Exprs
exprs_of [] = C.none
exprs_of (x ∷ xs) = C.more (expr_of x) (exprs_of xs)

abbrev pub args_of : List Argument → C.Arguments
args_of [] = C.no_arguments
args_of (a ∷ rest) = C.argument a.uniform a.kind (expr_of a.value) (args_of rest)

abbrev pub stmts_of : List s.CoreStmt → C.Stmts
stmts_of [] = C.done
stmts_of (x ∷ xs) = C.first (stmt_of x) (stmts_of xs)

abbrev pub loop_of : CoreLoop → C.Stmt
loop_of l = C.repeat l.uniform (expr_of l.test) (stmts_of l.step) (stmts_of l.body)
