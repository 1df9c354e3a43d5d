-- For private contracts alone: what the parts of the machine write, where the machine's state stands for states of the code's meaning that are the
-- same on the grid.
use Rattle.std.specs.Prelude.{◌≡◌, ℕ, ◌<◌, ℤ, Bool, true, false, List, Option, Some, get_or}
use Rattle.fixed_math.specs.declared.vec3.Vec3.{Vec3}
use Rattle.sl_ast.specs.declared.kinds.SlKind.{SlKind}
use Rattle.sl_ast.specs.declared.typed.Value.{Value}
use Rattle.grid_code.specs.declared.code.Register.{Register}
use Rattle.grid_code.specs.declared.shader_code.Code.{Code}
use Rattle.grid_code.specs.declared.slot.Slot.{Slot}
use Rattle.grid_code.specs.Code.{Block}
use Rattle.grid_code.specs.Masked.{State, write, take_turn, entered, kindled, illuminated, masked}
use Rattle.light_rows.specs.Seen.{AtPlaces, IsAnswer}
use Rattle.light_rows.specs.declared.answers.Answers.{Answers}
use Rattle.light_rows.specs.declared.viewing.View.{View}
use Rattle.number_rows.specs.Planes.{triple_at, triple_in}
use Rattle.place_rows.specs.declared.bank.Bank.{Bank}
pub use Rattle.grid_registers.specs.Held.{HoldsRow, HoldsEach}
use Rattle.grid_machine.specs.declared.machine.Machine.{Machine}
use Rattle.grid_machine.specs.Asked.{asked}
use Rattle.grid_machine.specs.Run.{begun}
use Rattle.grid_machine.specs.State.{Beside, state_of, lines_of, lit_ground, NearIn}

-- a register takes a function's values
abbrev pub Writes : Machine → Register → (ℕ → Value) → Machine → Type 0
Writes m to f k = NearIn m (write m.registers.frame.now.places to f (state_of m)) (state_of k)

-- from each state that is the same as the machine's on the grid, what leads to one that is the same again
abbrev pub Leads : Machine → (State → State) → Machine → Type 0
Leads m f k = (g : State) → NearIn m g (state_of m) → NearIn m (f g) (state_of k)

-- the triple at a place of a row, and of the scratch row
abbrev pub row_at : Bank → ℕ → Vec3
row_at b i = triple_in b.xs.items b.ys.items b.zs.items i

abbrev pub aimed_at : Machine → ℕ → Vec3
aimed_at m i = row_at m.scratch i

-- L and Cl take what is seen of a light; and L directions, of a light that is lit
abbrev pub Enters : Machine → View → Machine → Type 0
Enters m view k = (g : State) (f : ℕ → Option (Vec3 × Vec3)) → NearIn m g (state_of m) → ((i : ℕ) → i < m.registers.frame.now.places → (state_of m).live i ≡ true → f i ≡ Some (triple_at view.towards i, triple_at view.colours i)) → NearIn m (entered m.registers.frame.now.places f g) (state_of k)

abbrev pub Kindles : Machine → Machine → Type 0
Kindles m k = (g : State) (f : ℕ → Vec3) → NearIn m g (state_of m) → AtPlaces m.registers.frame.now.places f (aimed_at m) → NearIn m (kindled m.registers.frame.now.places f g) (state_of k)

-- a block that runs under a light's own directions, where they are seen
abbrev pub RunsLit : Beside → ℕ → Block → List Bool → Machine → Machine → Type 0
RunsLit ls n x seen m k =
    (g : State) (p : ℕ → Bool) (f : ℕ → Vec3) → NearIn m g (state_of m) → AtPlaces m.registers.frame.now.places p (λ i. get_or seen i false) → AtPlaces m.registers.frame.now.places f (aimed_at m) → NearIn m (illuminated m.registers.frame.now.places p f (masked x (lit_ground ls m.registers.frame.now) m.registers.frame.now.places n) g) (state_of k)

-- a turn is paid by the places that take it
abbrev pub BeginsTurn : Bool → List Bool → Machine → Machine → Type 0
BeginsTurn u going m k = (g : State) (p : ℕ → Bool) → NearIn m g (state_of m) → AtPlaces m.registers.frame.now.places p (λ i. get_or going i false) → NearIn m (take_turn u record g { live = p; staying = p }) (state_of k)

-- a light's answers, by its code on a machine
abbrev pub AnswersAsked : Machine → Code → List Value → (ℕ → Vec3) → Answers → Type 0
AnswersAsked m code values points out =
    (q : ℕ → Vec3) → AtPlaces m.registers.frame.now.places q points → (i : ℕ) → i < m.registers.frame.now.places → IsAnswer out i (asked (lines_of m.registers.frame.now) m.registers.frame.now.places m.registers.frame.now.setting.spaces.now code values q i)

-- a run of a kind's code with its values and rows
abbrev pub RunsWhole : Beside → SlKind → List Slot → Block → List Value → List ℤ → Machine → Machine → Type 0
RunsWhole ls kind params x values rows m k =
    NearIn m (masked x (lit_ground ls m.registers.frame.now) m.registers.frame.now.places 65536 (begun kind params m.registers.frame.now.places values rows)) (state_of k)
