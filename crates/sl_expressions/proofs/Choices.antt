-- A triple and a choice, as the code holds their three parts.
use Rattle.std.proofs.Common.{◌≡◌, ℕ, [], ◌∷◌, Ok, Err, refl, sym, ap, ap₂, ◌∙◌}
use Rattle.sl_ast.specs.Syntax as U
use Rattle.sl_ast.specs.SyntaxView.{expr_of}
use Rattle.sl_ast.specs.declared.operations.Operation.TheVariants.{Value}
use Rattle.sl_ast.specs.declared.operations.ValueOperation.TheVariants.{Select}
use Rattle.sl_ast.specs.declared.syntax.Expr.{Expr}
use Rattle.sl_expressions.specs.Exprs.{applied, chosen, three}
use Rattle.sl_expressions.specs.Found.{Found, ◌>>=◌}
use Rattle.sl_expressions.specs.Typed as T
use Rattle.sl_expressions.specs.Views.{one_more}

chosen_three : (line : ℕ) (x y z : Found T.Expr)
    → x >>= (λ a. y >>= λ b. z >>= λ c. applied (Value Select) line (a ∷ b ∷ c ∷ [])) ≡ chosen line (three x y z)
chosen_three line (Err e) y z = refl
chosen_three line (Ok a) (Err e) z = refl
chosen_three line (Ok a) (Ok b) (Err e) = refl
chosen_three line (Ok a) (Ok b) (Ok c) = refl

pub three_is : (f : U.Expr → Found T.Expr) (x y z a b c : Expr) → a ≡ x → b ≡ y → c ≡ z
    → three (f (expr_of x)) (f (expr_of y)) (f (expr_of z)) ≡ three (f (expr_of a)) (f (expr_of b)) (f (expr_of c))
three_is f x y z a b c p q r =
    ap₂ (λ u v. three (f (expr_of u)) (f (expr_of v)) (f (expr_of z))) (sym p) (sym q)
    ∙ ap (λ w. three (f (expr_of a)) (f (expr_of b)) (f (expr_of w))) (sym r)

pub choice_is : (line : ℕ) (f : U.Expr → Found T.Expr) (x y z a b c : Expr) → a ≡ x → b ≡ y → c ≡ z
    → f (expr_of x) >>= (λ p. f (expr_of y) >>= λ q. f (expr_of z) >>= λ r. applied (Value Select) line (p ∷ q ∷ r ∷ []))
    ≡ chosen line (three (f (expr_of a)) (f (expr_of b)) (f (expr_of c)))
choice_is line f x y z a b c p q r =
    chosen_three line (f (expr_of x)) (f (expr_of y)) (f (expr_of z)) ∙ ap (chosen line) (three_is f x y z a b c p q r)

-- three parts, one after the other
pub three_more : (x y z : Found T.Expr) → one_more (one_more (one_more (Ok []) x) y) z ≡ three x y z
three_more (Err e) y z = refl
three_more (Ok a) (Err e) z = refl
three_more (Ok a) (Ok b) (Err e) = refl
three_more (Ok a) (Ok b) (Ok c) = refl
