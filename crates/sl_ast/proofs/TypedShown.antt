-- What the nodes that hold lists show.
use Rattle.std.proofs.Common.{◌≡◌, List, map, ap, ◌∙◌}
use Rattle.std.specs.declared.alloc.Global.{Global}
use Rattle.std.specs.declared.boxed.Box.{Box}
use Rattle.sl_ast.specs.Typed as T
use Rattle.sl_ast.specs.Typed.{exprs, stmts}
use Rattle.sl_ast.specs.TypedView.{tree_expr, tree_stmt, row_stmts}
use Rattle.sl_ast.specs.declared.kinds.NodeType.{NodeType}
use Rattle.sl_ast.specs.declared.operations.Operation.{Operation}
use Rattle.sl_ast.specs.declared.kinds.LightStmt.{LightStmt}
use Rattle.sl_ast.specs.declared.typed.Place.{Place}
use Rattle.sl_ast.specs.declared.typed.TreeFormal.{TreeFormal}
use Rattle.sl_ast.specs.declared.typed.TreeExpr.{TreeExpr, Apply, Call}
use Rattle.sl_ast.specs.declared.typed.TreeStmt.{TreeStmt, Block, Group, For, Lights}
use Rattle.sl_ast.specs.declared.typed.TreeExpr.TheBlock.{hidden-the_row-TreeStmt-1}
use Rattle.sl_ast.proofs.TypedRows.{held_exprs, held_stmts}

pub apply_shown : (e : TreeExpr) (operation : Operation) (args : List TreeExpr) (kind : NodeType) (place : Place) →
    e ≡ Apply operation args kind place → tree_expr e ≡ T.apply operation (exprs (map tree_expr args)) kind place
apply_shown e operation args kind place h = ap tree_expr h ∙ ap (λ x. T.apply operation x kind place) (held_exprs args)

pub call_shown : (e : TreeExpr) (args : List TreeExpr) (formals : List TreeFormal) (body : List TreeStmt) (returned : Place)
    (value : Box TreeExpr Global) (kind : NodeType) (place : Place) →
    e ≡ Call args formals body returned value kind place →
    tree_expr e ≡ T.call (exprs (map tree_expr args)) formals (stmts (map tree_stmt body)) returned (tree_expr value.value) kind place
call_shown e args formals body returned value kind place h =
    ap tree_expr h ∙
    ap (λ x. T.call x formals (row_stmts (hidden-the_row-TreeStmt-1 body)) returned (tree_expr value.value) kind place) (held_exprs args) ∙
    ap (λ x. T.call (exprs (map tree_expr args)) formals x returned (tree_expr value.value) kind place) (held_stmts body)

pub block_shown : (s : TreeStmt) (body : List TreeStmt) (place : Place) →
    s ≡ Block body place → tree_stmt s ≡ T.block (stmts (map tree_stmt body)) place
block_shown s body place h = ap tree_stmt h ∙ ap (λ x. T.block x place) (held_stmts body)

pub group_shown : (s : TreeStmt) (body : List TreeStmt) →
    s ≡ Group body → tree_stmt s ≡ T.group (stmts (map tree_stmt body))
group_shown s body h = ap tree_stmt h ∙ ap (λ x. T.group x) (held_stmts body)

pub for_shown : (s : TreeStmt) (first : List TreeStmt) (test : TreeExpr) (step : List TreeStmt) (body : Box TreeStmt Global) (place : Place) →
    s ≡ For first test step body place →
    tree_stmt s ≡ T.steps (stmts (map tree_stmt first)) (tree_expr test) (stmts (map tree_stmt step)) (tree_stmt body.value) place
for_shown s first test step body place h =
    ap tree_stmt h ∙
    ap (λ x. T.steps x (tree_expr test) (row_stmts (hidden-the_row-TreeStmt-1 step)) (tree_stmt body.value) place) (held_stmts first) ∙
    ap (λ x. T.steps (stmts (map tree_stmt first)) (tree_expr test) x (tree_stmt body.value) place) (held_stmts step)

pub lights_shown : (s : TreeStmt) (word : LightStmt) (args : List TreeExpr) (body : Box TreeStmt Global) (place : Place) →
    s ≡ Lights word args body place → tree_stmt s ≡ T.lights word (exprs (map tree_expr args)) (tree_stmt body.value) place
lights_shown s word args body place h = ap tree_stmt h ∙ ap (λ x. T.lights word x (tree_stmt body.value) place) (held_exprs args)
