-- For private contracts alone: the registers that code names, in order, and those of one class and shape among some.
use Rattle.std.specs.Prelude.{ℕ, Bool, true, false, cond, List, [], ◌∷◌, ◌++◌}
use Rattle.std.specs.List.{Contains}
use Rattle.builtins.specs.declared.shape.Shape.{Shape}
use Rattle.grid_code.specs.declared.code.Register.{Register}
use Rattle.grid_code.specs.declared.code.Register.TheVariants.{Uniform, Varying}
use Rattle.grid_code.specs.declared.code.Source.{Source}
use Rattle.grid_code.specs.declared.code.Source.TheVariants.{Constant, Copy, Into, Apply}
use Rattle.grid_code.specs.declared.register_set.RegisterSet.{RegisterSet}
use Rattle.grid_code.specs.Code.{Block, end, put, differ, sum, texture, branch, loops, lights, breaks, continues}
use Rattle.grid_code.specs.Masked.{same_shape}
use Rattle.grid_code.specs.Uses.{numbers_of}

abbrev pub source_registers : Source → List Register
source_registers (Constant v) = []
source_registers (Copy q) = q ∷ []
source_registers (Into s q) = q ∷ []
source_registers (Apply op qs) = qs

-- the registers that a block names, in order
abbrev pub registers_of : Block → List Register
registers_of end = []
registers_of (put r o x) = (r ∷ source_registers o) ++ registers_of x
registers_of (differ r d q x) = (r ∷ q ∷ []) ++ registers_of x
registers_of (sum r which qs x) = (r ∷ qs) ++ registers_of x
registers_of (texture r k qs x) = (r ∷ qs) ++ registers_of x
registers_of (branch t a b x) = (t ∷ (registers_of a ++ registers_of b)) ++ registers_of x
registers_of (loops u d t e a x) = (registers_of d ++ (t ∷ (registers_of e ++ registers_of a))) ++ registers_of x
registers_of (lights w qs a x) = (qs ++ registers_of a) ++ registers_of x
registers_of (breaks x) = registers_of x
registers_of (continues x) = registers_of x

abbrev pub is_of : Bool → Shape → Register → Bool
is_of true shape (Uniform s r) = same_shape shape s
is_of false shape (Varying s r) = same_shape shape s
is_of _ shape q = false

abbrev pub number_of : Register → ℕ
number_of (Uniform s r) = r
number_of (Varying s r) = r

-- the numbers of those of that class and shape
abbrev pub numbers_among : Bool → Shape → List Register → List ℕ
numbers_among u shape [] = []
numbers_among u shape (q ∷ qs) = cond (is_of u shape q) (number_of q ∷ numbers_among u shape qs) (numbers_among u shape qs)

-- the set of the registers of that class among some
pub record IsSetOf (set : RegisterSet) (u : Bool) (qs : List Register) : Type 0 where
  pub keeps : (s : Shape) (r : ℕ) → Contains (numbers_among u s qs) r → Contains (numbers_of set s) r
  pub adds_none : (s : Shape) (r : ℕ) → Contains (numbers_of set s) r → Contains (numbers_among u s qs) r
