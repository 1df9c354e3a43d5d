-- What typed nodes that hold lists show.
use Rattle.std.proofs.Common.{◌≡◌, ℕ, List, map, ap, ◌∙◌}
use Rattle.std.specs.declared.alloc.Global.{Global}
use Rattle.std.specs.declared.boxed.Box.{Box}
use Rattle.sl_ast.specs.declared.kinds.NodeType.{NodeType}
use Rattle.sl_ast.specs.declared.operations.Operation.{Operation}
use Rattle.sl_expressions.specs.Typed as T
use Rattle.sl_expressions.specs.TypedView.{typed_of, tstmt_of, row_tstmts}
use Rattle.sl_expressions.specs.declared.typed.TypedExpr.{TypedExpr, Apply, Call}
use Rattle.sl_expressions.specs.declared.typed.TypedStmt.{TypedStmt, Block, Group, For}
use Rattle.sl_expressions.specs.declared.typed.TypedStmt.TheBlock.{hidden-the_row-TypedStmt-0}
use Rattle.sl_expressions.proofs.Rows.{held_typed, held_tstmts}

pub apply_shown : (e : TypedExpr) (operation : Operation) (args : List TypedExpr) (kind : NodeType) (line : ℕ)
    → e ≡ Apply operation args kind line → typed_of e ≡ T.apply operation (T.exprs (map typed_of args)) kind line
apply_shown e operation args kind line h = ap typed_of h ∙ ap (λ x. T.apply operation x kind line) (held_typed args)

pub call_shown : (e : TypedExpr) (function : ℕ) (args : List TypedExpr) (kind : NodeType) (line : ℕ)
    → e ≡ Call function args kind line → typed_of e ≡ T.call function (T.exprs (map typed_of args)) kind line
call_shown e function args kind line h = ap typed_of h ∙ ap (λ x. T.call function x kind line) (held_typed args)

pub block_shown : (s : TypedStmt) (body : List TypedStmt) (line : ℕ) → s ≡ Block body line → tstmt_of s ≡ T.block (T.stmts (map tstmt_of body)) line
block_shown s body line h = ap tstmt_of h ∙ ap (λ x. T.block x line) (held_tstmts body)

pub group_shown : (s : TypedStmt) (body : List TypedStmt) → s ≡ Group body → tstmt_of s ≡ T.group (T.stmts (map tstmt_of body))
group_shown s body h = ap tstmt_of h ∙ ap (λ x. T.group x) (held_tstmts body)

pub for_shown : (s : TypedStmt) (first : List TypedStmt) (test : TypedExpr) (step : List TypedStmt) (body : Box TypedStmt Global) (line : ℕ)
    → s ≡ For first test step body line
    → tstmt_of s ≡ T.steps (T.stmts (map tstmt_of first)) (typed_of test) (T.stmts (map tstmt_of step)) (tstmt_of body.value) line
for_shown s first test step body line h =
    ap tstmt_of h
    ∙ ap (λ x. T.steps x (typed_of test) (row_tstmts (hidden-the_row-TypedStmt-0 step)) (tstmt_of body.value) line) (held_tstmts first)
    ∙ ap (λ x. T.steps (T.stmts (map tstmt_of first)) (typed_of test) x (tstmt_of body.value) line) (held_tstmts step)
