-- Operations on registers, of which there are one to three.
use Rattle.std.proofs.Common.{◌≡◌, ℕ, zero, suc, ◌<◌, Bool, true, List, [], ◌∷◌, length, get_or, refl, arith}
use Rattle.transforms.specs.declared.spaces.Spaces.{Spaces}
use Rattle.sl_ast.specs.declared.operations.ValueOperation.{ValueOperation}
use Rattle.sl_ast.specs.declared.typed.Value.{Value}
use Rattle.builtins.specs.declared.shape.Shape.TheVariants as shapes
use Rattle.builtins.specs.Table.{applied}
use Rattle.grid_code.specs.declared.code.Register.{Register}
use Rattle.grid_code.specs.declared.code.Register.TheVariants.{Uniform, Varying}
use Rattle.std.specs.List.{list_all}
use Rattle.grid_code.specs.Masked.{State, read, reads}
use Rattle.grid_code.proofs.Both.{left, right}
use Rattle.grid_registers.specs.Operands.{reach, applied_to}

pub applied_reads : (op : ValueOperation) (sp : Spaces) (s : State) (qs : List Register) (i : ℕ) → applied_to op sp (λ r. read s r i) qs ≡ applied op sp (reads s qs i)
applied_reads op sp s [] i = refl
applied_reads op sp s (a ∷ []) i = refl
applied_reads op sp s (a ∷ b ∷ []) i = refl
applied_reads op sp s (a ∷ b ∷ d ∷ []) i = refl
applied_reads op sp s (a ∷ b ∷ d ∷ e ∷ qs) i = refl

-- one to three registers by their places
module _ (op : ValueOperation) (sp : Spaces) (f : Register → Value) where
  pub applied_one : (rs : List Register) → length rs ≡ 1 → applied op sp (f (get_or rs 0 (Uniform shapes.Number 0)) ∷ []) ≡ applied_to op sp f rs
  applied_one [] h = absurd (omega arith)
  applied_one (p ∷ []) h = refl
  applied_one (p ∷ q ∷ rs) h = absurd (omega arith)

  pub applied_two : (rs : List Register) → length rs ≡ 2 → applied op sp (f (get_or rs 0 (Uniform shapes.Number 0)) ∷ f (get_or rs 1 (Uniform shapes.Number 0)) ∷ []) ≡ applied_to op sp f rs
  applied_two [] h = absurd (omega arith)
  applied_two (p ∷ []) h = absurd (omega arith)
  applied_two (p ∷ q ∷ []) h = refl
  applied_two (p ∷ q ∷ t ∷ rs) h = absurd (omega arith)

  pub applied_three : (rs : List Register) → length rs ≡ 3 → applied op sp (f (get_or rs 0 (Uniform shapes.Number 0)) ∷ f (get_or rs 1 (Uniform shapes.Number 0)) ∷ f (get_or rs 2 (Uniform shapes.Number 0)) ∷ []) ≡ applied_to op sp f rs
  applied_three [] h = absurd (omega arith)
  applied_three (p ∷ []) h = absurd (omega arith)
  applied_three (p ∷ q ∷ []) h = absurd (omega arith)
  applied_three (p ∷ q ∷ t ∷ []) h = refl
  applied_three (p ∷ q ∷ t ∷ r ∷ rs) h = absurd (omega arith)

-- a place of a row that goes into a register lies on the grid
pub reach_in : (to : Register) (c j : ℕ) → 0 < c → j < reach to c → j < c
reach_in (Uniform s k) c j h l = omega arith
reach_in (Varying s k) c j h l = l

-- an item of a list of which all pass
pub item_passes : {A : Type 0} (p : A → Bool) (xs : List A) (k : ℕ) (d : A) → k < length xs → list_all p xs ≡ true → p (get_or xs k d) ≡ true
item_passes p [] k d l h = absurd (omega arith)
item_passes p (x ∷ xs) zero d l h = left (p x) _ h
item_passes p (x ∷ xs) (suc k) d l h = item_passes p xs k d (omega arith) (right (p x) _ h)
