-- For private contracts alone: what instructions work on, where each operand has been found.
use Rattle.std.specs.Prelude.{◌≡◌, ℕ, ℤ, ◌+◌, ◌<◌, ◌≤◌, pos, Bool, true, false, ◌&&◌, ◌||◌, List, [], ◌∷◌}
use Rattle.fixed_math.specs.declared.vec3.Vec3.{Vec3}
use Rattle.transforms.specs.declared.spaces.Spaces.{Spaces}
use Rattle.sl_ast.specs.declared.operations.ValueOperation.{ValueOperation}
use Rattle.sl_ast.specs.declared.typed.Value.TheVariants.{Number}
use Rattle.sl_ast.specs.declared.typed.Value.{Value}
use Rattle.builtins.specs.Values.{as_shape, number_of, triple_of}
use Rattle.builtins.specs.declared.shape.Shape.{Shape}
use Rattle.builtins.specs.declared.shape.Shape.TheVariants as shapes
use Rattle.builtins.specs.Table.{applied}
use Rattle.grid_code.specs.declared.code.Register.{Register}
use Rattle.grid_code.specs.declared.code.Register.TheVariants.{Uniform, Varying}
use Rattle.place_values.specs.declared.cell.Cell.{Cell}
use Rattle.grid_registers.specs.declared.registers.Registers.{Registers}
use Rattle.grid_registers.specs.declared.operand.Operand.{Operand}
use Rattle.grid_registers.specs.declared.operand.Operand.TheVariants.{Row, Shared}
use Rattle.grid_registers.specs.declared.operand.Work.{Work}
use Rattle.grid_registers.specs.declared.operand.Work.TheVariants.{Constant, Copy, Into, One, Two, Three}
use Rattle.place_values.specs.Cells.{value_of}
use Rattle.place_rows.specs.Banks.{size, held}
use Rattle.place_rows.specs.declared.bank.Bank.{Bank}
use Rattle.grid_registers.specs.Held.{texts_of, HoldsEach}

-- the cell of an operand at place i
abbrev pub cell_at : Registers → Operand → ℕ → Cell
cell_at r (Row s k) i = held r.rows s (k + i)
cell_at r (Shared s k) i = held r.shared s k

-- the value of an operand at place i
abbrev pub operand_at : Registers → Operand → ℕ → Value
operand_at r q i = value_of (texts_of r) (cell_at r q i)

-- its number, or its triple
abbrev pub operand_number : Registers → Operand → ℕ → ℤ
operand_number r q i = number_of (operand_at r q i)

abbrev pub operand_triple : Registers → Operand → ℕ → Vec3
operand_triple r q i = triple_of (operand_at r q i)

-- the three parts of each of its values are the same
abbrev pub AreGrey : Registers → Operand → Type 0
AreGrey r q = (i : ℕ) → ((operand_triple r q i).y ≡ (operand_triple r q i).x) × ((operand_triple r q i).z ≡ (operand_triple r q i).x)

-- a row holds at each place what a function gives
abbrev pub Fills : Registers → Bank → (ℕ → Value) → Type 0
Fills r row f = HoldsEach (texts_of r) row r.frame.now.places f

-- the shape of an operand's values
abbrev pub shape_at : Operand → Shape
shape_at (Row s k) = s
shape_at (Shared s k) = s

abbrev pub is_number : Shape → Bool
is_number shapes.Number = true
is_number _ = false

abbrev pub is_triple : Shape → Bool
is_triple shapes.Triple = true
is_triple _ = false

abbrev pub is_number_at : Operand → Bool
is_number_at p = is_number (shape_at p)

-- both give numbers, and all three; one of two gives triples
abbrev pub two_numbers : Operand → Operand → Bool
two_numbers p q = is_number_at p && is_number_at q

abbrev pub three_numbers : Operand → Operand → Operand → Bool
three_numbers p q t = is_number_at p && two_numbers q t

abbrev pub has_triple : Operand → Operand → Bool
has_triple p q = is_triple (shape_at p) || is_triple (shape_at q)

abbrev pub OperandIn : Registers → Operand → Type 0
OperandIn r (Row s k) = k + r.frame.now.places ≤ size r.rows s
OperandIn r (Shared s k) = k < size r.shared s

-- the value of an instruction's work at place i
abbrev pub work_at : Registers → Work → ℕ → Value
work_at r (Constant c) i = value_of (texts_of r) c
work_at r (Copy q) i = operand_at r q i
work_at r (Into s q) i = as_shape s (operand_at r q i)
work_at r (One op p) i = applied op r.frame.now.setting.spaces.now (operand_at r p i ∷ [])
work_at r (Two op p q) i = applied op r.frame.now.setting.spaces.now (operand_at r p i ∷ operand_at r q i ∷ [])
work_at r (Three op p q t) i = applied op r.frame.now.setting.spaces.now (operand_at r p i ∷ operand_at r q i ∷ operand_at r t i ∷ [])

abbrev pub WorkIn : Registers → Work → Type 0
WorkIn r (Constant c) = Unit {0}
WorkIn r (Copy q) = OperandIn r q
WorkIn r (Into s q) = OperandIn r q
WorkIn r (One op p) = OperandIn r p
WorkIn r (Two op p q) = OperandIn r p × OperandIn r q
WorkIn r (Three op p q t) = OperandIn r p × (OperandIn r q × OperandIn r t)

-- how many places of a row go into a register
abbrev pub reach : Register → ℕ → ℕ
reach (Uniform s k) c = 1
reach (Varying s k) c = c

-- an operation on the values that a function gives for one to three registers
abbrev pub applied_to : ValueOperation → Spaces → (Register → Value) → List Register → Value
applied_to op sp f (p ∷ []) = applied op sp (f p ∷ [])
applied_to op sp f (p ∷ q ∷ []) = applied op sp (f p ∷ f q ∷ [])
applied_to op sp f (p ∷ q ∷ t ∷ []) = applied op sp (f p ∷ f q ∷ f t ∷ [])
applied_to op sp f _ = Number (pos 0)
