-- What a typed node that holds a list shows is what the list's items show.
use Rattle.std.proofs.Common.{◌≡◌, List, map, refl, ap, ◌∙◌}
use Rattle.sl_expressions.specs.Typed as T
use Rattle.sl_expressions.specs.TypedView.{typed_of, tlink_of, tstmt_of, row_typed, row_chain, row_tstmts}
use Rattle.sl_expressions.specs.declared.typed.TypedExpr.{TypedExpr, Row_of-TypedExpr, end_of-TypedExpr, more_of-TypedExpr, items-the_row-TypedExpr, Row_of-TypedLink, end_of-TypedLink, more_of-TypedLink, items-the_row-TypedLink}
use Rattle.sl_expressions.specs.declared.typed.TypedLink.{TypedLink}
use Rattle.sl_expressions.specs.declared.typed.TypedStmt.{TypedStmt, Row_of-TypedStmt, end_of-TypedStmt, more_of-TypedStmt, items-the_row-TypedStmt}
use Rattle.sl_expressions.specs.declared.typed.TypedExpr.TheBlock.{hidden-the_row-TypedExpr-0, items_hidden-the_row-TypedExpr-0, hidden-the_row-TypedLink-1, items_hidden-the_row-TypedLink-1}
use Rattle.sl_expressions.specs.declared.typed.TypedStmt.TheBlock.{hidden-the_row-TypedStmt-0, items_hidden-the_row-TypedStmt-0}

abbrev shown_typed : List TypedExpr → T.Exprs
shown_typed xs = T.exprs (map typed_of xs)

abbrev shown_chain : T.Expr → List TypedLink → T.Expr
shown_chain t xs = T.chained t (map tlink_of xs)

abbrev shown_stmts : List TypedStmt → T.Stmts
shown_stmts xs = T.stmts (map tstmt_of xs)

row_typed-items : (m : _) (k : Row_of-TypedExpr m) → row_typed k ≡ shown_typed (items-the_row-TypedExpr m k)
row_typed-items m end_of-TypedExpr = refl
row_typed-items m (more_of-TypedExpr x rest) = ap (T.more (typed_of x)) (row_typed-items _ rest)

row_chain-items : (m : _) (t : T.Expr) (k : Row_of-TypedLink m) → row_chain t k ≡ shown_chain t (items-the_row-TypedLink m k)
row_chain-items m t end_of-TypedLink = refl
row_chain-items m t (more_of-TypedLink operation operand kind line rest) =
    row_chain-items _ (T.apply operation (T.more t (T.more (typed_of operand) T.none)) kind line) rest

row_tstmts-items : (m : _) (k : Row_of-TypedStmt m) → row_tstmts k ≡ shown_stmts (items-the_row-TypedStmt m k)
row_tstmts-items m end_of-TypedStmt = refl
row_tstmts-items m (more_of-TypedStmt x rest) = ap (T.first (tstmt_of x)) (row_tstmts-items _ rest)

pub held_typed : (xs : List TypedExpr) → row_typed (hidden-the_row-TypedExpr-0 xs) ≡ T.exprs (map typed_of xs)
held_typed xs = row_typed-items _ (hidden-the_row-TypedExpr-0 xs) ∙ ap shown_typed (items_hidden-the_row-TypedExpr-0 xs)

pub held_chain : (t : T.Expr) (xs : List TypedLink) → row_chain t (hidden-the_row-TypedLink-1 xs) ≡ T.chained t (map tlink_of xs)
held_chain t xs = row_chain-items _ t (hidden-the_row-TypedLink-1 xs) ∙ ap (shown_chain t) (items_hidden-the_row-TypedLink-1 xs)

pub held_tstmts : (xs : List TypedStmt) → row_tstmts (hidden-the_row-TypedStmt-0 xs) ≡ T.stmts (map tstmt_of xs)
held_tstmts xs = row_tstmts-items _ (hidden-the_row-TypedStmt-0 xs) ∙ ap shown_stmts (items_hidden-the_row-TypedStmt-0 xs)
