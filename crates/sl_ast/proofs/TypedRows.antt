-- What a node of the typed tree that holds a list shows is what the list's items show.
use Rattle.std.proofs.Common.{◌≡◌, List, map, refl, ap, ◌∙◌}
use Rattle.sl_ast.specs.Typed as T
use Rattle.sl_ast.specs.TypedView.{tree_expr, tree_stmt, row_exprs, row_stmts}
use Rattle.sl_ast.specs.declared.typed.TreeExpr.{TreeExpr, Row_of-TreeExpr, end_of-TreeExpr, more_of-TreeExpr, items-the_row-TreeExpr}
use Rattle.sl_ast.specs.declared.typed.TreeStmt.{TreeStmt, Row_of-TreeStmt, end_of-TreeStmt, more_of-TreeStmt, items-the_row-TreeStmt}
use Rattle.sl_ast.specs.declared.typed.TreeExpr.TheBlock.{hidden-the_row-TreeExpr-0, items_hidden-the_row-TreeExpr-0, hidden-the_row-TreeStmt-1, items_hidden-the_row-TreeStmt-1}

abbrev shown_exprs : List TreeExpr → T.Exprs
shown_exprs xs = T.exprs (map tree_expr xs)

abbrev shown_stmts : List TreeStmt → T.Stmts
shown_stmts xs = T.stmts (map tree_stmt xs)

row_exprs-items : (m : _) (k : Row_of-TreeExpr m) → row_exprs k ≡ shown_exprs (items-the_row-TreeExpr m k)
row_exprs-items m end_of-TreeExpr = refl
row_exprs-items m (more_of-TreeExpr x rest) = ap (T.more (tree_expr x)) (row_exprs-items _ rest)

row_stmts-items : (m : _) (k : Row_of-TreeStmt m) → row_stmts k ≡ shown_stmts (items-the_row-TreeStmt m k)
row_stmts-items m end_of-TreeStmt = refl
row_stmts-items m (more_of-TreeStmt x rest) = ap (T.first (tree_stmt x)) (row_stmts-items _ rest)

pub held_exprs : (xs : List TreeExpr) → row_exprs (hidden-the_row-TreeExpr-0 xs) ≡ T.exprs (map tree_expr xs)
held_exprs xs = row_exprs-items _ (hidden-the_row-TreeExpr-0 xs) ∙ ap shown_exprs (items_hidden-the_row-TreeExpr-0 xs)

pub held_stmts : (xs : List TreeStmt) → row_stmts (hidden-the_row-TreeStmt-1 xs) ≡ T.stmts (map tree_stmt xs)
held_stmts xs = row_stmts-items _ (hidden-the_row-TreeStmt-1 xs) ∙ ap shown_stmts (items_hidden-the_row-TreeStmt-1 xs)
