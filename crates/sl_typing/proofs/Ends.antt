-- The last of statements, and those before it.
use Rattle.std.proofs.Common.{◌≡◌, List, [], ◌∷◌, ◌++◌, map, refl, ap, ◌∙◌}
use Rattle.sl_ast.specs.Syntax as U
use Rattle.sl_ast.specs.SyntaxView.{stmt_of}
use Rattle.sl_ast.specs.declared.syntax.Stmt.{Stmt}
use Rattle.sl_typing.specs.Functions.{given, given_last, but_last}

last_given : (xs : List Stmt) (x : Stmt) → given_last (U.stmts (map stmt_of (xs ++ x ∷ []))) ≡ given (stmt_of x)
last_given [] x = refl
last_given (y ∷ []) x = refl
last_given (y ∷ z ∷ xs) x = last_given (z ∷ xs) x

front_left : (xs : List Stmt) (x : Stmt) → but_last (U.stmts (map stmt_of (xs ++ x ∷ []))) ≡ U.stmts (map stmt_of xs)
front_left [] x = refl
front_left (y ∷ []) x = refl
front_left (y ∷ z ∷ xs) x = ap (λ ss. U.first (stmt_of y) ss) (front_left (z ∷ xs) x)

pub ends_with : (body front : List Stmt) (x : Stmt) → body ≡ front ++ x ∷ [] → given_last (U.stmts (map stmt_of body)) ≡ given (stmt_of x)
ends_with body front x is = ap (λ ys. given_last (U.stmts (map stmt_of ys))) is ∙ last_given front x

pub before_last : (body front : List Stmt) (x : Stmt) → body ≡ front ++ x ∷ [] → but_last (U.stmts (map stmt_of body)) ≡ U.stmts (map stmt_of front)
before_last body front x is = ap (λ ys. but_last (U.stmts (map stmt_of ys))) is ∙ front_left front x
