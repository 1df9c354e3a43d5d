-- For private contracts alone: what registers hold as a state of the code, and rows that hold a function's values.
use Rattle.std.specs.Prelude.{◌≡◌, ℕ, ◌+◌, ◌*◌, ◌<◌, ◌≤◌, ◌==◌, suc, false, List, [], ◌∷◌, length, cond}
use Rattle.std.specs.Borrow.{Bor}
use Rattle.sl_ast.specs.declared.typed.Value.{Value}
use Rattle.builtins.specs.Shapes.{shape}
use Rattle.builtins.specs.declared.shape.Shape.{Shape}
use Rattle.grid_code.specs.Masked.{State}
use Rattle.grid_code.specs.Uses.{numbers_of}
use Rattle.place_values.specs.Cells.{value_of}
use Rattle.place_rows.specs.Banks.{size, held}
use Rattle.place_rows.specs.declared.bank.Bank.{Bank}
use Rattle.grid_registers.specs.Rooms.{counted}
use Rattle.grid_registers.specs.declared.registers.Registers.{Registers}

-- the place of a number in a list, and the list's length where it isn't there
abbrev pub rank : List ℕ → ℕ → ℕ
rank [] k = 0
rank (x ∷ xs) k = cond (x == k) 0 (suc (rank xs k))

-- the texts of a run
abbrev pub texts_of : Registers → List (Bor (List ℕ))
texts_of r = r.frame.now.setting.texts.now

-- what registers hold, with no budget and no place that is live
abbrev pub held_by : Registers → State
held_by r =
    record {
      rows = λ s k i. value_of (texts_of r) (held r.rows s (rank (numbers_of r.frame.now.varying.now s) k * r.frame.now.places + i));
      shared = λ s k. value_of (texts_of r) (held r.shared s (rank (numbers_of r.frame.now.uniform.now s) k));
      turns = 0;
      own = λ i. 0;
      live = λ i. false;
      staying = λ i. false;
    }

-- there is a value for each register and each place
pub record Full (r : Registers) : Type 0 where
  pub rows : (s : Shape) → length (numbers_of r.frame.now.varying.now s) * r.frame.now.places ≤ size r.rows s
  pub shared : (s : Shape) → length (numbers_of r.frame.now.uniform.now s) ≤ size r.shared s

-- and they are as many as the frame tells
pub record Sized (r : Registers) : Type 0 where
  pub rows : (s : Shape) → size r.rows s ≡ counted r.frame.now.room.rows s
  pub shared : (s : Shape) → size r.shared s ≡ counted r.frame.now.room.shared s

-- the row of a shape in a bank holds a function's values at the first places
abbrev pub HoldsRow : List (Bor (List ℕ)) → Bank → Shape → ℕ → (ℕ → Value) → Type 0
HoldsRow ts row s c f = (j : ℕ) → j < c → value_of ts (held row s j) ≡ f j

-- the same, each value in the row of its own shape
abbrev pub HoldsEach : List (Bor (List ℕ)) → Bank → ℕ → (ℕ → Value) → Type 0
HoldsEach ts row c f = (j : ℕ) → j < c → value_of ts (held row (shape (f j)) j) ≡ f j
