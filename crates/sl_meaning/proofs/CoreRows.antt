-- What a node of the core tree that holds a list shows is what the list's items show.
use Rattle.std.proofs.Common.{◌≡◌, ℕ, List, refl, ap, ◌∙◌}
use Rattle.std.specs.declared.alloc.Global.{Global}
use Rattle.std.specs.declared.boxed.Box.{Box}
use Rattle.sl_ast.specs.declared.kinds.SlType.{SlType}
use Rattle.sl_ast.specs.declared.kinds.LightStmt.{LightStmt}
use Rattle.sl_ast.specs.declared.operations.ValueOperation.{ValueOperation}
use Rattle.sl_ast.specs.declared.operations.LightSum.{LightSum}
use Rattle.sl_meaning.specs.Core as C
use Rattle.sl_meaning.specs.CoreView.{expr_of, stmt_of, row_exprs, row_args, row_stmts, exprs_of, args_of, stmts_of, loop_of}
use Rattle.sl_meaning.specs.declared.core_tree.Argument.{Argument}
use Rattle.sl_meaning.specs.declared.core_tree.CoreLoop.{CoreLoop}
use Rattle.sl_meaning.specs.declared.core_tree.CoreExpr.{CoreExpr, Apply, Sum, Texture, Call, Row_of-CoreExpr, end_of-CoreExpr, more_of-CoreExpr, items-the_row-CoreExpr, Row_of-Argument, end_of-Argument, more_of-Argument, items-the_row-Argument}
use Rattle.sl_meaning.specs.declared.core_tree.CoreStmt.{CoreStmt, Block, Test, Repeat, Lights, Row_of-CoreStmt, end_of-CoreStmt, more_of-CoreStmt, items-the_row-CoreStmt}
use Rattle.sl_meaning.specs.declared.core_tree.CoreExpr.TheBlock.{hidden-the_row-CoreExpr-0, items_hidden-the_row-CoreExpr-0, hidden-the_row-CoreStmt-2, items_hidden-the_row-CoreStmt-2, hidden-the_row-Argument-1, items_hidden-the_row-Argument-1}

row_exprs-items : (m : _) (k : Row_of-CoreExpr m) → row_exprs k ≡ exprs_of (items-the_row-CoreExpr m k)
row_exprs-items m end_of-CoreExpr = refl
row_exprs-items m (more_of-CoreExpr x rest) = ap (C.more (expr_of x)) (row_exprs-items _ rest)

row_args-items : (m : _) (k : Row_of-Argument m) → row_args k ≡ args_of (items-the_row-Argument m k)
row_args-items m end_of-Argument = refl
row_args-items m (more_of-Argument u kind x rest) = ap (C.argument u kind (expr_of x)) (row_args-items _ rest)

row_stmts-items : (m : _) (k : Row_of-CoreStmt m) → row_stmts k ≡ stmts_of (items-the_row-CoreStmt m k)
row_stmts-items m end_of-CoreStmt = refl
row_stmts-items m (more_of-CoreStmt x rest) = ap (C.first (stmt_of x)) (row_stmts-items _ rest)

pub held_exprs : (xs : List CoreExpr) → row_exprs (hidden-the_row-CoreExpr-0 xs) ≡ exprs_of xs
held_exprs xs = row_exprs-items _ (hidden-the_row-CoreExpr-0 xs) ∙ ap exprs_of (items_hidden-the_row-CoreExpr-0 xs)

pub held_args : (xs : List Argument) → row_args (hidden-the_row-Argument-1 xs) ≡ args_of xs
held_args xs = row_args-items _ (hidden-the_row-Argument-1 xs) ∙ ap args_of (items_hidden-the_row-Argument-1 xs)

pub held_stmts : (xs : List CoreStmt) → row_stmts (hidden-the_row-CoreStmt-2 xs) ≡ stmts_of xs
held_stmts xs = row_stmts-items _ (hidden-the_row-CoreStmt-2 xs) ∙ ap stmts_of (items_hidden-the_row-CoreStmt-2 xs)

pub apply_shown : (e : CoreExpr) (op : ValueOperation) (args : List CoreExpr) → e ≡ Apply op args → expr_of e ≡ C.apply op (exprs_of args)
apply_shown e op args h = ap expr_of h ∙ ap (C.apply op) (held_exprs args)

pub sum_shown : (e : CoreExpr) (s : LightSum) (args : List CoreExpr) → e ≡ Sum s args → expr_of e ≡ C.sum s (exprs_of args)
sum_shown e s args h = ap expr_of h ∙ ap (C.sum s) (held_exprs args)

pub texture_shown : (e : CoreExpr) (k : ℕ) (args : List CoreExpr) → e ≡ Texture k args → expr_of e ≡ C.texture k (exprs_of args)
texture_shown e k args h = ap expr_of h ∙ ap (C.texture k) (held_exprs args)

pub call_shown : (e : CoreExpr) (args : List Argument) (body : List CoreStmt) (kind : SlType) (r : Box CoreExpr Global) →
    e ≡ Call args body kind r → expr_of e ≡ C.call (args_of args) (stmts_of body) kind (expr_of r.value)
call_shown e args body kind r h =
    ap expr_of h ∙
    ap (λ x. C.call x (row_stmts (hidden-the_row-CoreStmt-2 body)) kind (expr_of r.value)) (held_args args) ∙
    ap (λ x. C.call (args_of args) x kind (expr_of r.value)) (held_stmts body)

pub block_shown : (s : CoreStmt) (body : List CoreStmt) → s ≡ Block body → stmt_of s ≡ C.block (stmts_of body)
block_shown s body h = ap stmt_of h ∙ ap C.block (held_stmts body)

pub test_shown : (s : CoreStmt) (t : CoreExpr) (a b : List CoreStmt) → s ≡ Test t a b → stmt_of s ≡ C.test (expr_of t) (stmts_of a) (stmts_of b)
test_shown s t a b h =
    ap stmt_of h ∙
    ap (λ x. C.test (expr_of t) x (row_stmts (hidden-the_row-CoreStmt-2 b))) (held_stmts a) ∙
    ap (λ x. C.test (expr_of t) (stmts_of a) x) (held_stmts b)

pub repeat_shown : (s : CoreStmt) (l : CoreLoop) → s ≡ Repeat l → stmt_of s ≡ loop_of l
repeat_shown s l h =
    ap stmt_of h ∙
    ap (λ x. C.repeat l.uniform (expr_of l.test) x (row_stmts (hidden-the_row-CoreStmt-2 l.body))) (held_stmts l.step) ∙
    ap (λ x. C.repeat l.uniform (expr_of l.test) (stmts_of l.step) x) (held_stmts l.body)

pub lights_shown : (s : CoreStmt) (word : LightStmt) (args : List CoreExpr) (body : List CoreStmt) → s ≡ Lights word args body → stmt_of s ≡ C.lights word (exprs_of args) (stmts_of body)
lights_shown s word args body h =
    ap stmt_of h ∙
    ap (λ x. C.lights word x (row_stmts (hidden-the_row-CoreStmt-2 body))) (held_exprs args) ∙
    ap (λ x. C.lights word (exprs_of args) x) (held_stmts body)
