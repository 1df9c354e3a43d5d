-- What a node that holds a list shows is what the list's items show.
use Rattle.std.proofs.Common.{◌≡◌, List, map, refl, ap, ◌∙◌}
use Rattle.sl_ast.specs.Syntax as S
use Rattle.sl_ast.specs.SyntaxView.{expr_of, link_of, stmt_of, row_exprs, row_links, row_stmts}
use Rattle.sl_ast.specs.declared.syntax.Expr.{Expr, Row_of-Expr, end_of-Expr, more_of-Expr, items-the_row-Expr, Row_of-Link, end_of-Link, more_of-Link, items-the_row-Link}
use Rattle.sl_ast.specs.declared.syntax.Link.{Link}
use Rattle.sl_ast.specs.declared.syntax.Stmt.{Stmt, Row_of-Stmt, end_of-Stmt, more_of-Stmt, items-the_row-Stmt}
use Rattle.sl_ast.specs.declared.syntax.Expr.TheBlock.{hidden-the_row-Expr-0, items_hidden-the_row-Expr-0, hidden-the_row-Link-1, items_hidden-the_row-Link-1}
use Rattle.sl_ast.specs.declared.syntax.Stmt.TheBlock.{hidden-the_row-Stmt-0, items_hidden-the_row-Stmt-0}

abbrev shown_exprs : List Expr → S.Exprs
shown_exprs xs = S.exprs (map expr_of xs)

abbrev shown_links : List Link → S.Links
shown_links xs = S.links (map link_of xs)

abbrev shown_stmts : List Stmt → S.Stmts
shown_stmts xs = S.stmts (map stmt_of xs)

row_exprs-items : (m : _) (k : Row_of-Expr m) → row_exprs k ≡ shown_exprs (items-the_row-Expr m k)
row_exprs-items m end_of-Expr = refl
row_exprs-items m (more_of-Expr x rest) = ap (S.more (expr_of x)) (row_exprs-items _ rest)

row_links-items : (m : _) (k : Row_of-Link m) → row_links k ≡ shown_links (items-the_row-Link m k)
row_links-items m end_of-Link = refl
row_links-items m (more_of-Link operator line operand rest) = ap (S.link operator line (expr_of operand)) (row_links-items _ rest)

row_stmts-items : (m : _) (k : Row_of-Stmt m) → row_stmts k ≡ shown_stmts (items-the_row-Stmt m k)
row_stmts-items m end_of-Stmt = refl
row_stmts-items m (more_of-Stmt x rest) = ap (S.first (stmt_of x)) (row_stmts-items _ rest)

pub held_exprs : (xs : List Expr) → row_exprs (hidden-the_row-Expr-0 xs) ≡ S.exprs (map expr_of xs)
held_exprs xs = row_exprs-items _ (hidden-the_row-Expr-0 xs) ∙ ap shown_exprs (items_hidden-the_row-Expr-0 xs)

pub held_links : (xs : List Link) → row_links (hidden-the_row-Link-1 xs) ≡ S.links (map link_of xs)
held_links xs = row_links-items _ (hidden-the_row-Link-1 xs) ∙ ap shown_links (items_hidden-the_row-Link-1 xs)

pub held_stmts : (xs : List Stmt) → row_stmts (hidden-the_row-Stmt-0 xs) ≡ S.stmts (map stmt_of xs)
held_stmts xs = row_stmts-items _ (hidden-the_row-Stmt-0 xs) ∙ ap shown_stmts (items_hidden-the_row-Stmt-0 xs)
