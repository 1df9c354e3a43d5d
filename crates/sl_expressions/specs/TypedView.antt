-- The typed tree of the code without pointers.
use Rattle.std.specs.Prelude.{map}
use Rattle.sl_expressions.specs.Typed as T
use Rattle.sl_expressions.specs.declared.typed.TypedExpr as e
use Rattle.sl_expressions.specs.declared.typed.TypedLink as l
use Rattle.sl_expressions.specs.declared.typed.TypedStmt as s

abbrev mutual
  pub typed_of : e.TypedExpr → T.Expr
  typed_of (e.Number value line) = T.number value line
  typed_of (e.Word text line) = T.word text line
  typed_of (e.Variable variable kind line) = T.variable variable kind line
  typed_of (e.Apply' operation n args kind line) = T.apply operation (row_typed args) kind line
  typed_of (e.Chain' p first n links operation q operand kind line) =
      T.apply operation (T.more (row_chain (typed_of first) links) (T.more (typed_of operand) T.none)) kind line
  typed_of (e.Call' function n args kind line) = T.call function (row_typed args) kind line

  pub row_typed : {m : _} → e.Row_of-TypedExpr m → T.Exprs
  row_typed e.end_of-TypedExpr = T.none
  row_typed (e.more_of-TypedExpr x rest) = T.more (typed_of x) (row_typed rest)

  -- after what stands before
  pub row_chain : {m : _} → T.Expr → e.Row_of-TypedLink m → T.Expr
  row_chain t e.end_of-TypedLink = t
  row_chain t (e.more_of-TypedLink operation operand kind line rest) = row_chain (T.apply operation (T.more t (T.more (typed_of operand) T.none)) kind line) rest

abbrev pub tlink_of : l.TypedLink → T.Link
tlink_of x = record { operation = x.operation; operand = typed_of x.operand; kind = x.kind; line = x.line }

abbrev mutual
  pub tstmt_of : s.TypedStmt → T.Stmt
  tstmt_of (s.Empty line) = T.empty line
  tstmt_of (s.Block' n body line) = T.block (row_tstmts body) line
  tstmt_of (s.Group' n body) = T.group (row_tstmts body)
  tstmt_of (s.Declare uniform kind value line) = T.declare uniform kind (typed_of value) line
  tstmt_of (s.Start uniform kind line) = T.start uniform kind line
  tstmt_of (s.Set variable operator kind value line) = T.assign variable operator kind (typed_of value) line
  tstmt_of (s.Break line) = T.leave line
  tstmt_of (s.Continue line) = T.again line
  tstmt_of (s.If' test p then line) = T.test (typed_of test) (tstmt_of then) line
  tstmt_of (s.IfElse' test p then q otherwise line) = T.test_else (typed_of test) (tstmt_of then) (tstmt_of otherwise) line
  tstmt_of (s.While' test p body line) = T.repeat (typed_of test) (tstmt_of body) line
  tstmt_of (s.For' n first test m step p body line) = T.steps (row_tstmts first) (typed_of test) (row_tstmts step) (tstmt_of body) line
  tstmt_of (s.Lights' word args p body line) = T.lights word (T.exprs (map typed_of args)) (tstmt_of body) line

  pub row_tstmts : {m : _} → s.Row_of-TypedStmt m → T.Stmts
  row_tstmts s.end_of-TypedStmt = T.done
  row_tstmts (s.more_of-TypedStmt x rest) = T.first (tstmt_of x) (row_tstmts rest)
