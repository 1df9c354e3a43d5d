-- Registers after a write, by their places.
use Rattle.std.proofs.Common.{◌≡◌, ℕ, ◌+◌, ◌*◌, ◌<◌, Bool, true, false, cond, List, get_or, refl, sym, ap, ◌∙◌, ⊎_elim, subst, true≢false}
use Rattle.std.specs.Prelude.{◌&&◌, ◌==◌}
use Rattle.std.specs.Borrow.{Bor}
use Rattle.std.proofs.lemmas.Bool.{and_left, cases_Bool}
use Rattle.sl_ast.specs.declared.typed.Value.{Value}
use Rattle.builtins.specs.declared.shape.Shape.{Shape}
use Rattle.builtins.specs.declared.shape.Shape.TheVariants as shapes
use Rattle.grid_code.specs.declared.register_set.RegisterSet.{RegisterSet}
use Rattle.grid_code.specs.Uses.{numbers_of, is_in}
use Rattle.grid_code.specs.Masked.{same_shape}
use Rattle.place_values.specs.declared.cell.Cell.{Cell}
use Rattle.place_rows.specs.declared.bank.Bank.{Bank}
use Rattle.place_values.specs.Cells.{value_of}
use Rattle.place_rows.specs.Banks.{held, shape_of_cell}
use Rattle.grid_registers.specs.Held.{rank}
use Rattle.grid_registers.proofs.Ranks.{rank_same}

pub held_shape : (b : Bank) (s : Shape) (k : ℕ) → shape_of_cell (held b s k) ≡ s
held_shape b shapes.Number k = refl
held_shape b shapes.Triple k = refl
held_shape b shapes.Word k = refl

pub shape_eq : (s t : Shape) → same_shape s t ≡ true → s ≡ t
shape_eq shapes.Number shapes.Number h = refl
shape_eq shapes.Triple shapes.Triple h = refl
shape_eq shapes.Word shapes.Word h = refl
shape_eq shapes.Number shapes.Triple h = absurd (true≢false (sym h))
shape_eq shapes.Number shapes.Word h = absurd (true≢false (sym h))
shape_eq shapes.Triple shapes.Number h = absurd (true≢false (sym h))
shape_eq shapes.Triple shapes.Word h = absurd (true≢false (sym h))
shape_eq shapes.Word shapes.Number h = absurd (true≢false (sym h))
shape_eq shapes.Word shapes.Triple h = absurd (true≢false (sym h))

value_cond : (ts : List (Bor (List ℕ))) (b : Bool) (x y : Cell) → value_of ts (cond b x y) ≡ cond b (value_of ts x) (value_of ts y)
value_cond ts true x y = refl
value_cond ts false x y = refl

test_same : (r : RegisterSet) (shape : Shape) (number row : ℕ) (m : Bool) → is_in r shape number ≡ true → row ≡ rank (numbers_of r shape) number → (s : Shape) (k : ℕ) → is_in r s k ≡ true → (same_shape s shape && (rank (numbers_of r s) k == row && m)) ≡ (same_shape s shape && (k == number && m))
test_same r shape number row m has at s k hk =
    ⊎_elim
    (λ e. subst (λ t. is_in r t k ≡ true → (same_shape t shape && (rank (numbers_of r t) k == row && m)) ≡ (same_shape t shape && (k == number && m))) (sym (shape_eq s shape e))
    (λ hs. ap (λ n. same_shape shape shape && (rank (numbers_of r shape) k == n && m)) at ∙ ap (λ b. same_shape shape shape && (b && m)) (rank_same r shape k number hs has)) hk)
    (λ e. and_left _ _ e ∙ sym (and_left _ _ e))
    (cases_Bool (same_shape s shape))

-- a cell behind a write of x holds the value behind the write of v
pub written : (ts : List (Bor (List ℕ))) (r : RegisterSet) (shape : Shape) (number row : ℕ) (m : Bool) (x : Cell) (v : Value) → is_in r shape number ≡ true → row ≡ rank (numbers_of r shape) number → value_of ts x ≡ v → (s : Shape) (k : ℕ) → is_in r s k ≡ true → (old new : Cell) → new ≡ cond (same_shape s shape && (rank (numbers_of r s) k == row && m)) x old → cond (same_shape s shape && (k == number && m)) v (value_of ts old) ≡ value_of ts new
written ts r shape number row m x v has at is s k hk old new e =
    sym (ap (value_of ts) e ∙ value_cond ts _ x old ∙ ap (λ b. cond b (value_of ts x) (value_of ts old)) (test_same r shape number row m has at s k hk) ∙ ap (λ y. cond (same_shape s shape && (k == number && m)) y (value_of ts old)) is)

and_true : (b m : Bool) → m ≡ true → b ≡ (b && m)
and_true true m h = sym h
and_true false m h = refl

-- the same where a cell of that shape was written into one place
pub written_one : (ts : List (Bor (List ℕ))) (r : RegisterSet) (shape : Shape) (number row : ℕ) (m : Bool) (x : Cell) (v : Value) → m ≡ true → shape_of_cell x ≡ shape → is_in r shape number ≡ true → row ≡ rank (numbers_of r shape) number → value_of ts x ≡ v → (s : Shape) (k : ℕ) → is_in r s k ≡ true → (old new : Cell) → new ≡ cond (same_shape s (shape_of_cell x) && rank (numbers_of r s) k == row) x old → cond (same_shape s shape && (k == number && m)) v (value_of ts old) ≡ value_of ts new
written_one ts r shape number row m x v live same has at is s k hk old new e =
    written ts r shape number row m x v has at is s k hk old new (e ∙ ap (λ t. cond (same_shape s t && rank (numbers_of r s) k == row) x old) same ∙ ap (λ b. cond (same_shape s shape && b) x old) (and_true (rank (numbers_of r s) k == row) m live))

-- what a store under a mask did, by the number of places
pub stored_at : (old new row : Bank) (shape : Shape) (at n c : ℕ) (live : List Bool) → n ≡ c → ((t : Shape) (r j : ℕ) → j < n → held new t (r * n + j) ≡ cond (same_shape t shape && (r == at && get_or live j false)) (held row shape j) (held old t (r * n + j))) → (t : Shape) (r j : ℕ) → j < c → held new t (r * c + j) ≡ cond (same_shape t shape && (r == at && get_or live j false)) (held row shape j) (held old t (r * c + j))
stored_at old new row shape at n c live long h =
    subst (λ n. (t : Shape) (r j : ℕ) → j < n → held new t (r * n + j) ≡ cond (same_shape t shape && (r == at && get_or live j false)) (held row shape j) (held old t (r * n + j))) long h
