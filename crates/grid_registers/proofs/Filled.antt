-- Rows that are filled place by place, and the shapes of what instructions give.
use Rattle.std.proofs.Common.{◌≡◌, ℕ, ◌+◌, ◌<◌, ◌==◌, true, cond, List, refl, sym, ap, ◌∙◌, arith, ⊎_elim}
use Rattle.std.specs.Prelude.{◌&&◌}
use Rattle.std.specs.Borrow.{Bor}
use Rattle.std.proofs.lemmas.Bool.{cond-true, cond-false, and_from, and_right, eq-eqb, ne_eqb, cases_eq}
use Rattle.sl_ast.specs.declared.typed.Value.{Value}
use Rattle.builtins.specs.declared.shape.Shape.{Shape}
use Rattle.builtins.specs.declared.shape.Shape.TheVariants as shapes
use Rattle.builtins.specs.Shapes.{shape}
use Rattle.grid_code.specs.Masked.{same_shape}
use Rattle.place_values.specs.declared.cell.Cell.{Cell}
use Rattle.place_values.specs.declared.cell.Cell.TheVariants.{Number, Triple, Word}
use Rattle.place_rows.specs.declared.bank.Bank.{Bank}
use Rattle.place_values.specs.Cells.{value_of}
use Rattle.place_rows.specs.Banks.{held, shape_of_cell}

pub shape_is : (ts : List (Bor (List ℕ))) (c : Cell) → shape (value_of ts c) ≡ shape_of_cell c
shape_is ts (Number x) = refl
shape_is ts (Triple t) = refl
shape_is ts (Word k) = refl

pub same_self : (s : Shape) → same_shape s s ≡ true
same_self shapes.Number = refl
same_self shapes.Triple = refl
same_self shapes.Word = refl

-- the values f stand in a row at the places below n
abbrev pub Filled : List (Bor (List ℕ)) → Bank → (ℕ → Value) → ℕ → Type 0
Filled ts b f n = (j : ℕ) → j < n → value_of ts (held b (shape (f j)) j) ≡ f j

pub filled_next : (ts : List (Bor (List ℕ))) (b b' : Bank) (f : ℕ → Value) (n : ℕ) (c : Cell) → Filled ts b f n → value_of ts c ≡ f n → ((t : Shape) (k : ℕ) → held b' t k ≡ cond (same_shape t (shape_of_cell c) && k == n) c (held b t k)) → Filled ts b' f (n + 1)
filled_next ts b b' f n c h is set j l =
    ⊎_elim
    (λ e.
    let at : shape (f j) ≡ shape_of_cell c = ap (λ k. shape (f k)) e ∙ ap shape (sym is) ∙ shape_is ts c in
    let here = and_from (same_shape (shape (f j)) (shape_of_cell c)) (j == n) (ap (λ s. same_shape s (shape_of_cell c)) at ∙ same_self (shape_of_cell c)) (eq-eqb j n e) in
    ap (value_of ts) (set (shape (f j)) j ∙ cond-true _ _ _ here) ∙ is ∙ ap f (sym e))
    (λ ne. ap (value_of ts) (set (shape (f j)) j ∙ cond-false _ _ _ (and_right (same_shape (shape (f j)) (shape_of_cell c)) (j == n) (ne_eqb j n ne))) ∙ h j (omega arith))
    (cases_eq j n)
