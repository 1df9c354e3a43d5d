-- Operands and arguments by their number.
use Rattle.std.proofs.Common.{◌≡◌, ◌≢◌, ◌≤◌, ◌<◌, ℕ, zero, suc, ◌+◌, Bool, true, false, ◌&&◌, get_or, ap, ap₂, sym, ◌∙◌, List, [], ◌∷◌, Ok, length, map, drop, refl, arith}
use Rattle.sl_expressions.specs.TypedView.{typed_of}
use Rattle.sl_ast.specs.Rules.{takes}
use Rattle.sl_expressions.specs.Exprs.{operands_of, spaces_of, space_in, both_spaces, fits}
use Rattle.sl_expressions.specs.Found.{◌>>=◌}
use Rattle.sl_expressions.specs.Typed.{kind_of}
use Rattle.sl_expressions.specs.Views.{local_of}
use Rattle.sl_expressions.specs.declared.places.Local.{Local}
use Rattle.sl_ast.specs.WellTyped.{Around}
use Rattle.sl_ast.specs.SyntaxView.{expr_of}
use Rattle.sl_ast.specs.declared.syntax.Expr.{Expr}
use Rattle.sl_ast.specs.declared.kinds.SpaceName.TheVariants.{Current}
use Rattle.sl_expressions.specs.declared.typed.TypedExpr.{TypedExpr}
use Rattle.sl_ast.specs.declared.operands.Operands.TheVariants.{Many}

pub many_operands : (xs : List TypedExpr) → 4 ≤ length xs → Many ≡ operands_of (map typed_of xs)
many_operands [] h = absurd (omega (arith, h))
many_operands (a ∷ []) h = absurd (omega (arith, h))
many_operands (a ∷ b ∷ []) h = absurd (omega (arith, h))
many_operands (a ∷ b ∷ c ∷ []) h = absurd (omega (arith, h))
many_operands (a ∷ b ∷ c ∷ d ∷ rest) h = refl

pub other_counts : (g : Around) (line : ℕ) (xs : List Expr) → length xs ≢ 2 → length xs ≢ 3 → spaces_of g line (map expr_of xs) ≡ Ok (Current, Current)
other_counts g line [] p q = refl
other_counts g line (a ∷ []) p q = refl
other_counts g line (a ∷ b ∷ []) p q = absurd (p refl)
other_counts g line (a ∷ b ∷ c ∷ []) p q = absurd (q refl)
other_counts g line (a ∷ b ∷ c ∷ d ∷ rest) p q = refl

pub two_args : (g : Around) (line : ℕ) (xs : List Expr) (a : Expr) → 2 ≤ length xs → length xs < 3 → a ≡ get_or xs 0 a
    → spaces_of g line (map expr_of xs) ≡ space_in g line (expr_of a) >>= λ s. Ok (Current, s)
two_args g line [] a low high p = absurd (omega (arith, low))
two_args g line (x ∷ []) a low high p = absurd (omega (arith, low))
two_args g line (x ∷ y ∷ []) a low high p = ap (λ r. space_in g line (expr_of r) >>= λ s. Ok (Current, s)) (sym p)
two_args g line (x ∷ y ∷ z ∷ rest) a low high p = absurd (omega (arith, high))

pub three_args : (g : Around) (line : ℕ) (xs : List Expr) (a b : Expr) → 3 ≤ length xs → length xs < 4 → a ≡ get_or xs 0 a → b ≡ get_or xs 1 b
    → spaces_of g line (map expr_of xs) ≡ both_spaces g line (expr_of a) (expr_of b)
three_args g line [] a b low high p q = absurd (omega (arith, low))
three_args g line (x ∷ []) a b low high p q = absurd (omega (arith, low))
three_args g line (x ∷ y ∷ []) a b low high p q = absurd (omega (arith, low))
three_args g line (x ∷ y ∷ z ∷ []) a b low high p q = ap₂ (λ r s. both_spaces g line (expr_of r) (expr_of s)) (sym p) (sym q)
three_args g line (x ∷ y ∷ z ∷ w ∷ rest) a b low high p q = absurd (omega (arith, high))

-- values and formals, one by one
pub fits_unlike : (fs : List Local) (xs : List TypedExpr) → length fs ≢ length xs → false ≡ fits (map local_of fs) (map typed_of xs)
fits_unlike [] [] other = absurd (other refl)
fits_unlike [] (x ∷ xs) other = refl
fits_unlike (f ∷ fs) [] other = refl
fits_unlike (f ∷ fs) (x ∷ xs) other = unlike (takes f.kind (kind_of (typed_of x))) (fits_unlike fs xs (λ same. other (ap suc same)))
  where
    unlike : (a : Bool) → false ≡ fits (map local_of fs) (map typed_of xs) → false ≡ (a && fits (map local_of fs) (map typed_of xs))
    unlike true h = h
    unlike false h = refl

pub fits_split : (fs : List Local) (xs : List TypedExpr) (i : ℕ) (f : Local) (x : TypedExpr) → i < length fs → i < length xs → f ≡ get_or fs i f → x ≡ get_or xs i x
    → fits (map local_of (drop i fs)) (map typed_of (drop i xs)) ≡ (takes f.kind (kind_of (typed_of x)) && fits (map local_of (drop (i + 1) fs)) (map typed_of (drop (i + 1) xs)))
fits_split [] xs i f x low less p q = absurd (omega (arith, low))
fits_split (g ∷ fs) [] i f x low less p q = absurd (omega (arith, less))
fits_split (g ∷ fs) (y ∷ xs) zero f x low less p q = ap₂ (λ a b. takes a.kind (kind_of (typed_of b)) && fits (map local_of fs) (map typed_of xs)) (sym p) (sym q)
fits_split (g ∷ fs) (y ∷ xs) (suc i) f x low less p q =
    let e : suc (i + 1) ≡ suc i + 1 = omega arith in
    fits_split fs xs i f x (omega (arith, low)) (omega (arith, less)) p q
    ∙ ap (λ k. takes f.kind (kind_of (typed_of x)) && fits (map local_of (drop k (g ∷ fs))) (map typed_of (drop k (y ∷ xs)))) e

pub fits_end : (fs : List Local) (xs : List TypedExpr) (i : ℕ) → length fs ≡ length xs → length fs ≤ i → true ≡ fits (map local_of (drop i fs)) (map typed_of (drop i xs))
fits_end [] [] zero same high = refl
fits_end [] [] (suc i) same high = refl
fits_end [] (x ∷ xs) i same high = absurd (omega (arith, same))
fits_end (f ∷ fs) [] i same high = absurd (omega (arith, same))
fits_end (f ∷ fs) (x ∷ xs) zero same high = absurd (omega (arith, high))
fits_end (f ∷ fs) (x ∷ xs) (suc i) same high = fits_end fs xs i (omega (arith, same)) (omega (arith, high))
