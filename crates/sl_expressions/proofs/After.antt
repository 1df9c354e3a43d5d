-- Arguments that are typed after others.
use Rattle.std.proofs.Common.{◌≡◌, ◌≤◌, ◌<◌, ℕ, ◌+◌, false, List, [], ◌∷◌, ◌++◌, append_assoc, append-nil, drop, map, length, get_or, Ok, Err, refl, sym, ap, ◌∙◌}
use Rattle.std.proofs.lemmas.List.{at_drop_more, drop_all}
use Rattle.sl_ast.specs.Syntax as U
use Rattle.sl_ast.specs.SyntaxView.{expr_of}
use Rattle.sl_ast.specs.declared.syntax.Expr.{Expr}
use Rattle.sl_expressions.specs.Found.{Found, ◌>>=◌}
use Rattle.sl_expressions.specs.Typed as T
use Rattle.sl_expressions.specs.Scope.{Local, Around}
use Rattle.sl_expressions.specs.Exprs.{typed_expr, typed_args}
use Rattle.sl_expressions.specs.TypedView.{typed_of}
use Rattle.sl_expressions.specs.Views.{Gives, GivesAll, args_after}
use Rattle.sl_expressions.specs.declared.faults.TypeFault.{TypeFault}
use Rattle.sl_expressions.specs.declared.faults.TypeFault.TheVariants.{At, NoMemory}

args_push : (before : List T.Expr) (r : Found T.Expr) (rest : Found (List T.Expr))
    → args_after before (r >>= λ t. rest >>= λ ts. Ok (t ∷ ts)) ≡ r >>= λ t. args_after (before ++ t ∷ []) rest
args_push before (Err e) rest = refl
args_push before (Ok t) (Err e) = refl
args_push before (Ok t) (Ok ts) = ap (λ x. Ok x) (sym (append_assoc before (t ∷ []) ts))

pub args_step : (g : Around) (ls : List Local) (before : List T.Expr) (xs : List Expr) (i : ℕ) (x : Expr) → i < length xs → x ≡ get_or xs i x
    → args_after before (typed_args g ls (U.exprs (map expr_of (drop i xs))))
    ≡ typed_expr g false ls (expr_of x) >>= λ t. args_after (before ++ t ∷ []) (typed_args g ls (U.exprs (map expr_of (drop (i + 1) xs))))
args_step g ls before xs i x low is =
    let rest = U.exprs (map expr_of (drop (i + 1) xs)) in
    at_drop_more (λ ys. args_after before (typed_args g ls (U.exprs (map expr_of ys)))) xs i x low
    ∙ ap (λ y. args_after before (typed_args g ls (U.more (expr_of y) rest))) (sym is)
    ∙ args_push before (typed_expr g false ls (expr_of x)) (typed_args g ls rest)

pub args_end : (g : Around) (ls : List Local) (before : List T.Expr) (xs : List Expr) (i : ℕ) → length xs ≤ i
    → args_after before (typed_args g ls (U.exprs (map expr_of (drop i xs)))) ≡ Ok before
args_end g ls before xs i high =
    ap (λ ys. args_after before (typed_args g ls (U.exprs (map expr_of ys)))) (drop_all i xs high) ∙ ap (λ x. Ok x) (append-nil before)

-- a fault at one of the arguments is that of all
pub arg_fault : (fault : TypeFault) (one : Found T.Expr) (all : Found (List T.Expr)) (rest : T.Expr → Found (List T.Expr))
    → all ≡ one >>= rest → Gives typed_of (Err fault) one → GivesAll typed_of (Err fault) all
arg_fault (At code line) one all rest is h = is ∙ ap (λ r. r >>= rest) h
arg_fault NoMemory one all rest is h = tt
