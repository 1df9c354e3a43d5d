-- What a run of code is given, the state that it begins with, and what it leaves. Rows of numbers have the least multiple of eight elements
-- that holds the points of the grid; a triple takes three, and any other value one.
use Rattle.std.specs.Prelude.{ℕ, ◌+◌, ◌*◌, ◌<◌, ◌≡◌, ℤ, pos, Bool, true, false, not, ◌&&◌, cond, List, [], ◌∷◌, ◌++◌, map, length, get_or, refl}
use Rattle.std.specs.List.{filter}
use Rattle.fixed_math.specs.Axes.{origin}
use Rattle.sl_ast.specs.declared.kinds.Predefined.TheVariants as names
use Rattle.sl_ast.specs.declared.kinds.SlKind.{SlKind}
use Rattle.sl_ast.specs.declared.kinds.SlKind.TheVariants.{Surface, Displacement, Volume}
use Rattle.sl_ast.specs.declared.typed.Value.{Value}
use Rattle.sl_ast.specs.declared.typed.Value.TheVariants.{Number, Triple, Word}
use Rattle.sl_ast.specs.Classes.{is_uniform_name}
use Rattle.sl_ast.specs.Names.{has_surface}
use Rattle.sl_ast.specs.Variables.{Row, Start, given, zero, copied, variables}
use Rattle.builtins.specs.declared.shape.Shape.{Shape}
use Rattle.builtins.specs.declared.shape.Shape.TheVariants as shapes
use Rattle.builtins.specs.Differences.{Lines}
use Rattle.builtins.specs.Values.{number_of, shape_of}
use Rattle.grid_code.specs.declared.code.Register.{Register}
use Rattle.grid_code.specs.declared.slot.Slot.{Slot}
use Rattle.grid_code.specs.Names.{reg, name_at, first_free}
use Rattle.grid_code.specs.Shapes.{register_shape}
use Rattle.grid_code.specs.Masked.{State, read, write}
use Rattle.place_rows.specs.Layout.{row_length, height, same_class}

abbrev pub rows_of : List Register → ℕ
rows_of [] = 0
rows_of (r ∷ rs) = height (register_shape r) + rows_of rs

-- the value of a shape at an element of rows of length w; no text stands in rows
abbrev pub value_in : Shape → List ℤ → ℕ → ℕ → Value
value_in shapes.Number rows w at = Number (get_or rows at (pos 0))
value_in shapes.Triple rows w at = Triple (record { x = get_or rows at (pos 0); y = get_or rows (at + w) (pos 0); z = get_or rows (at + 2 * w) (pos 0) })
value_in shapes.Word rows w at = Word []

-- the registers of the parameters of a class in order, the first of all parameters in register n
abbrev pub params_of : Bool → ℕ → List Slot → List Register
params_of u n [] = []
params_of u n (s ∷ ss) = cond (same_class s.uniform u) (reg u (shape_of s.kind) n ∷ []) [] ++ params_of u (n + 1) ss

abbrev pub is_given : Start → Bool
is_given given = true
is_given zero = false
is_given (copied other) = false

-- the varying variables of a kind that it is given: those that it reads alone, and then those that it writes
abbrev pub is_input : Bool → Row → Bool
is_input written row = (is_given row.start && not row.lit) && (not (is_uniform_name row.name) && cond written row.written (not row.written))

abbrev pub given_names : SlKind → List Register
given_names kind = map (λ row. name_at row.name) (filter (is_input false) (variables kind) ++ filter (is_input true) (variables kind))

-- the variables that it writes
abbrev pub written_names : SlKind → List Register
written_names kind = map (λ row. name_at row.name) (filter (λ row. row.written) (variables kind))

-- the steps of the parameters of a surface
abbrev pub step_names : SlKind → List Register
step_names kind = cond (has_surface kind) (name_at names.Du ∷ name_at names.Dv ∷ []) []

-- the registers that are given uniform values and rows
abbrev pub uniform_inputs : SlKind → List Slot → List Register
uniform_inputs kind params = params_of true first_free params ++ step_names kind

-- the registers that a run is given rows for
abbrev pub varying_inputs : SlKind → List Slot → List Register
varying_inputs kind params = params_of false first_free params ++ given_names kind

abbrev pub assigned : ℕ → List Register → List Value → State → State
assigned c [] vs s = s
assigned c (r ∷ rs) [] s = s
assigned c (r ∷ rs) (v ∷ vs) s = assigned c rs vs (write c r (λ i. v) s)

-- registers that take values from rows of length w, from an element on
abbrev pub loaded : ℕ → ℕ → List ℤ → List Register → ℕ → State → State
loaded c w rows [] at s = s
loaded c w rows (r ∷ rs) at s = loaded c w rows rs (at + height (register_shape r) * w) (write c r (λ i. value_in (register_shape r) rows w (at + i)) s)

-- a variable that starts as another one
abbrev pub started : ℕ → List Row → State → State
started c [] s = s
started c (row ∷ rest) s = started c rest (by_start row.start)
  where
    by_start : Start → State
    by_start given = s
    by_start zero = s
    by_start (copied other) = write c (name_at row.name) (λ i. read s (name_at other) i) s

abbrev pub zero_of : Shape → Value
zero_of shapes.Number = Number (pos 0)
zero_of shapes.Triple = Triple origin
zero_of shapes.Word = Word []

-- everything 0, both budgets whole, and all places live
abbrev pub fresh : State
fresh = record { rows = λ s k i. zero_of s; shared = λ s k. zero_of s; turns = 65536; own = λ i. 65536; live = λ i. true; staying = λ i. true }

-- the state of a run's beginning
abbrev pub begun : SlKind → List Slot → ℕ → List Value → List ℤ → State
begun kind params c uniforms varyings =
    started c (variables kind) (loaded c (row_length c) varyings (varying_inputs kind params) 0 (assigned c (uniform_inputs kind params) uniforms fresh))

-- the lines of the grid: its steps follow the uniform parameters
abbrev pub lines_given : ℕ → ℕ → List Slot → List Value → Lines
lines_given columns rows params uniforms =
    let n = length (params_of true first_free params) in
    record { columns = columns; rows = rows; du = number_of (get_or uniforms n (Number (pos 0))); dv = number_of (get_or uniforms (n + 1) (Number (pos 0))) }

-- rows hold the values of registers at a place
abbrev pub HoldRows : ℕ → List ℤ → ℕ → List Register → ℕ → State → Type 0
HoldRows w rows i [] at s = Unit {0}
HoldRows w rows i (r ∷ rs) at s = (value_in (register_shape r) rows w (at + i) ≡ read s r i) × HoldRows w rows i rs (at + height (register_shape r) * w) s

-- the rows that a run leaves hold what its kind of shader writes
abbrev pub Leaves : SlKind → ℕ → List ℤ → State → Type 0
Leaves kind c out s = (i : ℕ) → i < c → HoldRows (row_length c) out i (written_names kind) 0 s

-- worked: a surface is given P, N, Ng, I, u, v, s, t, Cs, Os, dPdu and dPdv; a displacement P and N behind the others
abbrev of_surface : length (given_names Surface) ≡ 12
of_surface = refl

abbrev of_displacement : length (given_names Displacement) ≡ 12
of_displacement = refl

abbrev of_volume : rows_of (given_names Volume) ≡ 12
of_volume = refl
