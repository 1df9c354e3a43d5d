-- A branch of one statement, and of another number of them.
use Rattle.std.proofs.Common.{◌≡◌, ◌≢◌, List, [], ◌∷◌, ◌++◌, length, map, refl, sym, ap, arith, length-append}
use Rattle.sl_expressions.specs.Typed as T
use Rattle.sl_expressions.specs.TypedView.{tstmt_of}
use Rattle.sl_expressions.specs.declared.typed.TypedStmt.{TypedStmt}
use Rattle.sl_typing.specs.Stmts.{one_of}

pub one_is : (xs front : List TypedStmt) (x : TypedStmt) → xs ≡ front ++ x ∷ [] → length xs ≡ 1 → tstmt_of x ≡ one_of (map tstmt_of xs)
one_is xs [] x is one = sym (ap (λ ys. one_of (map tstmt_of ys)) is)
one_is xs (y ∷ front) x is one = let q = ap length is in absurd (omega (arith, q, one, length-append front (x ∷ [])))

pub several_are : (xs : List TypedStmt) → length xs ≢ 1 → T.group (T.stmts (map tstmt_of xs)) ≡ one_of (map tstmt_of xs)
several_are [] other = refl
several_are (x ∷ []) other = absurd (other refl)
several_are (x ∷ y ∷ xs) other = refl
