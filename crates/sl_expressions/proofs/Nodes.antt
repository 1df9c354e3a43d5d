-- What expressions of the untyped tree show, and how great their parts are.
use Rattle.std.proofs.Common.{◌≡◌, ◌≤◌, ◌<◌, ℕ, zero, suc, ◌+◌, List, [], ◌∷◌, length, map, drop, get_or, refl, sym, ap, ◌∙◌, arith}
use Rattle.std.specs.declared.alloc.Global.{Global}
use Rattle.std.specs.declared.boxed.Box.{Box}
use Rattle.sl_ast.specs.Syntax as U
use Rattle.sl_ast.specs.SyntaxView.{expr_of, link_of}
use Rattle.sl_ast.specs.declared.kinds.Row.{Row}
use Rattle.sl_ast.specs.declared.syntax.Expr.{Expr, Call, Chain}
use Rattle.sl_ast.specs.declared.syntax.Link.{Link}
use Rattle.sl_ast.proofs.Rows.{held_exprs, held_links}
use Rattle.sl_expressions.specs.Exprs.{listed}
use Rattle.sl_expressions.specs.Measures.{size, size_args, size_links}

pub call_is : (e : Expr) (name : List ℕ) (xs : List Expr) (line : ℕ) → e ≡ Call name xs line → expr_of e ≡ U.call name (U.exprs (map expr_of xs)) line
call_is e name xs line h = ap expr_of h ∙ ap (λ x. U.call name x line) (held_exprs xs)

pub chain_is : (e : Expr) (row : Row) (first : Box Expr Global) (xs : List Link) → e ≡ Chain row first xs → expr_of e ≡ U.chain row (expr_of first.value) (U.links (map link_of xs))
chain_is e row first xs h = ap expr_of h ∙ ap (λ x. U.chain row (expr_of first.value) x) (held_links xs)

pub listed_all : (xs : List U.Expr) → listed (U.exprs xs) ≡ xs
listed_all [] = refl
listed_all (x ∷ xs) = ap (λ r. x ∷ r) (listed_all xs)

pub small_arg : (xs : List Expr) (i : ℕ) (x : Expr) → i < length xs → x ≡ get_or xs i x → size (expr_of x) < size_args (U.exprs (map expr_of xs))
small_arg [] i x low is = absurd (omega (arith, low))
small_arg (y ∷ ys) zero x low is = let q = ap (λ e. size (expr_of e)) is in omega arith
small_arg (y ∷ ys) (suc i) x low is = omega (arith, small_arg ys i x (omega (arith, low)) is)

pub small_link : (xs : List Link) (i : ℕ) (x : Link) → i < length xs → x ≡ get_or xs i x → size (expr_of x.operand) < size_links (U.links (map link_of xs))
small_link [] i x low is = absurd (omega (arith, low))
small_link (y ∷ ys) zero x low is = let q = ap (λ e. size (expr_of e.operand)) is in omega arith
small_link (y ∷ ys) (suc i) x low is = omega (arith, small_link ys i x (omega (arith, low)) is)

-- one operator of a chain and those after it
pub chain_split : (xs : List Link) (i : ℕ) (x : Link) → i < length xs → x ≡ get_or xs i x
    → U.links (map link_of (drop i xs)) ≡ U.link x.operator x.line (expr_of x.operand) (U.links (map link_of (drop (i + 1) xs)))
chain_split [] i x low is = absurd (omega (arith, low))
chain_split (y ∷ ys) zero x low is = ap (λ z. U.link z.operator z.line (expr_of z.operand) (U.links (map link_of ys))) (sym is)
chain_split (y ∷ ys) (suc i) x low is =
    let e : suc (i + 1) ≡ suc i + 1 = omega arith in
    chain_split ys i x (omega (arith, low)) is ∙ ap (λ k. U.link x.operator x.line (expr_of x.operand) (U.links (map link_of (drop k (y ∷ ys))))) e

pub chain_end : (xs : List Link) (i : ℕ) → length xs ≤ i → U.links (map link_of (drop i xs)) ≡ U.end
chain_end [] zero high = refl
chain_end [] (suc i) high = refl
chain_end (y ∷ ys) zero high = absurd (omega (arith, high))
chain_end (y ∷ ys) (suc i) high = chain_end ys i (omega (arith, high))
