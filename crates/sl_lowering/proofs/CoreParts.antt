-- Operands and statements that were made, before what is left; the first and the last of some operands.
use Rattle.std.proofs.Common.{◌≡◌, ◌<◌, List, [], ◌∷◌, ◌++◌, length, refl, ap, sym, ◌∙◌, arith, slice_index_or}
use Rattle.sl_ast.specs.declared.operations.Difference.{Difference}
use Rattle.sl_meaning.specs.Core as C
use Rattle.sl_meaning.specs.CoreView.{expr_of, exprs_of, args_of, stmt_of, stmts_of}
use Rattle.sl_meaning.specs.Lowered.{difference_of, last, with_last}
use Rattle.sl_meaning.specs.declared.core_tree.Argument.{Argument}
use Rattle.sl_meaning.specs.declared.core_tree.CoreExpr.{CoreExpr}
use Rattle.sl_meaning.specs.declared.core_tree.CoreStmt.{CoreStmt}

abbrev pub exprs_before : List CoreExpr → C.Exprs → C.Exprs
exprs_before [] rest = rest
exprs_before (x ∷ xs) rest = C.more (expr_of x) (exprs_before xs rest)

abbrev pub args_before : List Argument → C.Arguments → C.Arguments
args_before [] rest = rest
args_before (a ∷ more) rest = C.argument a.uniform a.kind (expr_of a.value) (args_before more rest)

abbrev pub stmts_before : List CoreStmt → C.Stmts → C.Stmts
stmts_before [] rest = rest
stmts_before (x ∷ xs) rest = C.first (stmt_of x) (stmts_before xs rest)

pub exprs_push : (xs : List CoreExpr) (x : CoreExpr) (rest : C.Exprs) → exprs_before (xs ++ x ∷ []) rest ≡ exprs_before xs (C.more (expr_of x) rest)
exprs_push [] x rest = refl
exprs_push (y ∷ xs) x rest = ap (C.more (expr_of y)) (exprs_push xs x rest)

pub args_push : (xs : List Argument) (a : Argument) (rest : C.Arguments) →
    args_before (xs ++ a ∷ []) rest ≡ args_before xs (C.argument a.uniform a.kind (expr_of a.value) rest)
args_push [] a rest = refl
args_push (y ∷ xs) a rest = ap (C.argument y.uniform y.kind (expr_of y.value)) (args_push xs a rest)

pub stmts_push : (xs : List CoreStmt) (x : CoreStmt) (rest : C.Stmts) → stmts_before (xs ++ x ∷ []) rest ≡ stmts_before xs (C.first (stmt_of x) rest)
stmts_push [] x rest = refl
stmts_push (y ∷ xs) x rest = ap (C.first (stmt_of y)) (stmts_push xs x rest)

pub exprs_alone : (xs : List CoreExpr) → exprs_before xs C.none ≡ exprs_of xs
exprs_alone [] = refl
exprs_alone (x ∷ xs) = ap (C.more (expr_of x)) (exprs_alone xs)

pub args_alone : (xs : List Argument) → args_before xs C.no_arguments ≡ args_of xs
args_alone [] = refl
args_alone (a ∷ xs) = ap (C.argument a.uniform a.kind (expr_of a.value)) (args_alone xs)

pub stmts_alone : (xs : List CoreStmt) → stmts_before xs C.done ≡ stmts_of xs
stmts_alone [] = refl
stmts_alone (x ∷ xs) = ap (C.first (stmt_of x)) (stmts_alone xs)

-- what was made of some operands alone, and of one more
pub first_operand : (d : Difference) (xs : List CoreExpr) (x : CoreExpr) → 0 < length xs → x ≡ slice_index_or xs 0 x → difference_of d (exprs_of xs) ≡ C.differ d (expr_of x)
first_operand d [] x h k = absurd (omega (arith, h))
first_operand d (y ∷ xs) x h k = ap (λ z. C.differ d (expr_of z)) (sym k)

last_of : (y : C.Expr) (xs : List CoreExpr) (x : CoreExpr) → last (C.more y (exprs_of (xs ++ x ∷ []))) ≡ C.more (expr_of x) C.none
last_of y [] x = refl
last_of y (z ∷ xs) x = last_of (expr_of z) xs x

last_is : (xs : List CoreExpr) (x : CoreExpr) → last (exprs_of (xs ++ x ∷ [])) ≡ C.more (expr_of x) C.none
last_is [] x = refl
last_is (y ∷ xs) x = last_of (expr_of y) xs x

pub last_operand : (all xs : List CoreExpr) (x : CoreExpr) → all ≡ xs ++ x ∷ [] → last (exprs_of all) ≡ C.more (expr_of x) C.none
last_operand all xs x h = ap (λ l. last (exprs_of l)) h ∙ last_is xs x

pub with_last_operand : (xs : List CoreExpr) (x : CoreExpr) → exprs_of (xs ++ x ∷ []) ≡ with_last (exprs_of xs) (expr_of x)
with_last_operand [] x = refl
with_last_operand (y ∷ xs) x = ap (C.more (expr_of y)) (with_last_operand xs x)

pub with_last_two : (xs : List CoreExpr) (x y : CoreExpr) → exprs_of ((xs ++ x ∷ []) ++ y ∷ []) ≡ with_last (with_last (exprs_of xs) (expr_of x)) (expr_of y)
with_last_two xs x y = with_last_operand (xs ++ x ∷ []) y ∙ ap (λ es. with_last es (expr_of y)) (with_last_operand xs x)
