-- For private contracts alone: the machine's state as that of the code, and when two states are the same on a grid.
use Rattle.std.specs.Prelude.{◌≡◌, ℕ, ◌<◌, Bool, true, false, List, [], ◌∷◌, length, get_or}
use Rattle.std.specs.List.{list_all}
use Rattle.std.specs.Borrow.{Bor}
use Rattle.texture.specs.Images.{Image}
use Rattle.sl_ast.specs.declared.kinds.LightStmt.{LightStmt}
use Rattle.sl_ast.specs.declared.kinds.LightStmt.TheVariants.{Illuminance, Illuminate, Solar}
use Rattle.sl_ast.specs.declared.kinds.Predefined.TheVariants as names
use Rattle.builtins.specs.declared.shape.Shape.{Shape}
use Rattle.builtins.specs.declared.shape.Shape.TheVariants as shapes
use Rattle.grid_code.specs.declared.code.Register.{Register}
use Rattle.grid_code.specs.declared.code.Register.TheVariants.{Uniform, Varying}
use Rattle.grid_code.specs.declared.register_set.RegisterSet.{RegisterSet}
use Rattle.grid_code.specs.Code.{Block, end, put, differ, sum, texture, branch, loops, lights, breaks, continues}
use Rattle.grid_code.specs.Shapes.{register_shape, difference_shape, source_shape}
use Rattle.grid_code.specs.Uses.{has}
use Rattle.grid_code.specs.Valid.{are_three}
use Rattle.grid_code.specs.Masked.{Asked, State, Ground, turns_of, masked}
use Rattle.grid_code.specs.Names.{name_at, lit_at}
use Rattle.place_rows.specs.Banks.{size}
pub use Rattle.grid_registers.specs.Held.{rank, texts_of, held_by, Full, Sized}
pub use Rattle.grid_registers.specs.Frames.{lines_of, ground_of, images_of}
pub use Rattle.grid_registers.specs.Sources.{SourceReady, source_known}
use Rattle.grid_registers.specs.declared.frame.Frame.{Frame}
use Rattle.grid_machine.specs.declared.machine.Machine.{Machine}

-- the machine's state, as that of the code
abbrev pub state_of : Machine → State
state_of m =
    record (held_by m.registers) {
      turns = m.turns;
      own = λ i. get_or m.own.items i 0;
      live = λ i. get_or m.live.places i false;
      staying = λ i. get_or m.staying.places i false;
    }

-- what stands beside a machine: lights, and the images of textures
pub record Beside : Type 0 where
  pub lights : List Asked
  pub images : List Image

abbrev pub beside : List Asked → List Image → Beside
beside ls ps = record { lights = ls; images = ps }

-- where code stands beside these
abbrev pub lit_ground : Beside → Frame → Ground
lit_ground b f = record { lines = lines_of f; spaces = f.setting.spaces.now; lights = b.lights; images = images_of f b.images }

-- the same registers, at places below a number
pub record Near (c : ℕ) (varying uniform : RegisterSet) (g h : State) : Type 0 where
  pub rows : (s : Shape) (k i : ℕ) → has varying uniform (Varying s k) ≡ true → i < c → g.rows s k i ≡ h.rows s k i
  pub shared : (s : Shape) (k : ℕ) → has varying uniform (Uniform s k) ≡ true → g.shared s k ≡ h.shared s k
  pub turns : g.turns ≡ h.turns
  pub own : (i : ℕ) → i < c → g.own i ≡ h.own i
  pub live : (i : ℕ) → i < c → g.live i ≡ h.live i
  pub staying : (i : ℕ) → i < c → g.staying i ≡ h.staying i

pub record Whole (m : Machine) : Type 0 where
  pub full : Full m.registers
  pub sized : Sized m.registers
  pub scratch : (s : Shape) → size m.scratch s ≡ m.registers.frame.now.places
  pub own : length m.own.items ≡ 289

-- what a step keeps
pub record Kept (m k : Machine) : Type 0 where
  pub frame : k.registers.frame ≡ m.registers.frame
  pub whole : Whole k

-- the registers that a statement over lights reads or writes by itself
abbrev pub lights_registers : LightStmt → List Register
lights_registers Illuminance = name_at names.L ∷ name_at names.Cl ∷ []
lights_registers Illuminate = name_at names.L ∷ lit_at ∷ name_at names.Ps ∷ []
lights_registers Solar = name_at names.L ∷ lit_at ∷ []

-- what a machine needs of a block: its registers, their shapes, and the texts of its constants
abbrev pub Ready : RegisterSet → RegisterSet → List (Bor (List ℕ)) → Block → Type 0
Ready v u ts end = Unit {0}
Ready v u ts (put r o x) = (has v u r ≡ true) × (SourceReady v u ts o × ((source_shape o ≡ register_shape r) × Ready v u ts x))
Ready v u ts (differ r d q x) = (has v u r ≡ true) × ((has v u q ≡ true) × ((difference_shape d (register_shape q) ≡ register_shape r) × Ready v u ts x))
Ready v u ts (sum r which qs x) = (has v u r ≡ true) × ((list_all (has v u) qs ≡ true) × ((has v u (name_at names.P) ≡ true) × ((shapes.Triple ≡ register_shape r) × Ready v u ts x)))
Ready v u ts (texture r k qs x) = (has v u r ≡ true) × ((list_all (has v u) qs ≡ true) × ((are_three qs ≡ true) × ((shapes.Triple ≡ register_shape r) × Ready v u ts x)))
Ready v u ts (branch t a b x) = (has v u t ≡ true) × (Ready v u ts a × (Ready v u ts b × Ready v u ts x))
Ready v u ts (loops w d t e a x) = Ready v u ts d × ((has v u t ≡ true) × (Ready v u ts e × (Ready v u ts a × Ready v u ts x)))
Ready v u ts (lights w qs a x) = (list_all (has v u) qs ≡ true) × ((list_all (has v u) (lights_registers w) ≡ true) × (Ready v u ts a × Ready v u ts x))
Ready v u ts (breaks x) = Ready v u ts x
Ready v u ts (continues x) = Ready v u ts x

-- a step of the machine is a step of the code's meaning
abbrev pub Performs : Ground → ℕ → RegisterSet → RegisterSet → ℕ → Block → State → State → Type 0
Performs w c v u n x m m' = (g : State) → Near c v u g m → Near c v u (masked x w c n g) m'

-- the same of the turns of a loop
abbrev pub PerformsTurns : Ground → ℕ → RegisterSet → RegisterSet → ℕ → Bool → Block → Register → Block → Block → State → State → Type 0
PerformsTurns w c v u n uniform ask test step body m m' = (g : State) → Near c v u g m → Near c v u (turns_of n c uniform (masked ask w c n) test (masked step w c n) (masked body w c n) g) m'

abbrev pub ReadyIn : Machine → Block → Type 0
ReadyIn m x = Ready m.registers.frame.now.varying.now m.registers.frame.now.uniform.now (texts_of m.registers) x

abbrev pub HasRegister : Machine → Register → Type 0
HasRegister m r = has m.registers.frame.now.varying.now m.registers.frame.now.uniform.now r ≡ true

abbrev pub NearIn : Machine → State → State → Type 0
NearIn m g h = Near m.registers.frame.now.places m.registers.frame.now.varying.now m.registers.frame.now.uniform.now g h

-- a machine that performs a block over these lights
abbrev pub Runs : Beside → ℕ → Block → Machine → Machine → Type 0
Runs ls n x m k = Performs (lit_ground ls m.registers.frame.now) m.registers.frame.now.places m.registers.frame.now.varying.now m.registers.frame.now.uniform.now n x (state_of m) (state_of k)

-- a machine that performs the turns of a loop
abbrev pub RunsTurns : Beside → ℕ → Bool → Block → Register → Block → Block → Machine → Machine → Type 0
RunsTurns ls n uniform ask test step body m k = PerformsTurns (lit_ground ls m.registers.frame.now) m.registers.frame.now.places m.registers.frame.now.varying.now m.registers.frame.now.uniform.now n uniform ask test step body (state_of m) (state_of k)
