-- The arguments of statements over lights, as the code puts them together.
use Rattle.std.proofs.Common.{◌≡◌, [], ◌∷◌, Ok, Err, refl}
use Rattle.sl_ast.specs.Syntax as U
use Rattle.sl_expressions.specs.Exprs.{three, typed_expr, typed_args}
use Rattle.sl_expressions.specs.Found.{Found, ◌>>=◌}
use Rattle.sl_expressions.specs.Scope.{Local, Around}
use Rattle.sl_expressions.specs.Typed as T
use Rattle.sl_expressions.specs.Views.{one_more}
use Rattle.std.specs.Prelude.{List, false}

alone : (x : Found T.Expr) → one_more (Ok []) x ≡ x >>= λ t. Ok (t ∷ [])
alone (Ok a) = refl
alone (Err e) = refl

pair : (x y : Found T.Expr) → one_more (one_more (Ok []) x) y ≡ x >>= λ t. (y >>= λ s. Ok (s ∷ [])) >>= λ ts. Ok (t ∷ ts)
pair (Err e) y = refl
pair (Ok a) (Err e) = refl
pair (Ok a) (Ok b) = refl

triple : (x y z : Found T.Expr) → three x y z ≡ x >>= λ t. (y >>= λ s. (z >>= λ r. Ok (r ∷ [])) >>= λ ts. Ok (s ∷ ts)) >>= λ ts. Ok (t ∷ ts)
triple (Err e) y z = refl
triple (Ok a) (Err e) z = refl
triple (Ok a) (Ok b) (Err e) = refl
triple (Ok a) (Ok b) (Ok c) = refl

pub one_arg : (g : Around) (ls : List Local) (x : U.Expr) → one_more (Ok []) (typed_expr g false ls x) ≡ typed_args g ls (U.more x U.none)
one_arg g ls x = alone (typed_expr g false ls x)

pub two_args : (g : Around) (ls : List Local) (x y : U.Expr)
    → one_more (one_more (Ok []) (typed_expr g false ls x)) (typed_expr g false ls y) ≡ typed_args g ls (U.more x (U.more y U.none))
two_args g ls x y = pair (typed_expr g false ls x) (typed_expr g false ls y)

pub three_args : (g : Around) (ls : List Local) (x y z : U.Expr)
    → three (typed_expr g false ls x) (typed_expr g false ls y) (typed_expr g false ls z) ≡ typed_args g ls (U.more x (U.more y (U.more z U.none)))
three_args g ls x y z = triple (typed_expr g false ls x) (typed_expr g false ls y) (typed_expr g false ls z)
