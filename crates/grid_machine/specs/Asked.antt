-- What lights answer: the code of each runs at all places at once, with the points in Ps, budgets of its own, all places live, no lights and no textures.
use Rattle.std.specs.Prelude.{ℕ, Bool, true, false, cond, List, [], map, None, ◌≡◌}
use Rattle.std.specs.List.{range_with_len}
use Rattle.fixed_math.specs.declared.vec3.Vec3.{Vec3}
use Rattle.transforms.specs.declared.spaces.Spaces.{Spaces}
use Rattle.sl_ast.specs.declared.kinds.Predefined.TheVariants as names
use Rattle.sl_ast.specs.declared.typed.Value.{Value}
use Rattle.sl_ast.specs.declared.typed.Value.TheVariants.{Triple}
use Rattle.sl_ast.specs.Names.{is_light}
use Rattle.builtins.specs.Differences.{Lines}
use Rattle.builtins.specs.Lights.{Light, ambient, unlit, lit}
use Rattle.builtins.specs.Shapes.{shape}
use Rattle.builtins.specs.Values.{is_true, triple_of}
use Rattle.grid_code.specs.declared.shader_code.Code.{Code}
use Rattle.grid_code.specs.declared.slot.Slot.{Slot}
use Rattle.grid_code.specs.Masked.{Asked, State, read, write, masked}
use Rattle.grid_code.specs.Names.{name_at, lit_at, first_free}
use Rattle.grid_code.specs.Shapes.{register_shape}
use Rattle.grid_code.specs.Uses.{registers_from}
use Rattle.grid_code.specs.Valid.{has_light_statement}
use Rattle.grid_code.specs.View.{block_of}
use Rattle.grid_machine.specs.Run.{assigned, fresh}

-- the answer of a light by what its code left at a place; one with neither `illuminate` nor `solar` is ambient
abbrev pub answer_at : Bool → State → ℕ → Light
answer_at false s i = ambient (triple_of (read s (name_at names.Cl) i))
answer_at true s i = cond (is_true (read s lit_at i)) (lit (triple_of (read s (name_at names.L) i)) (triple_of (read s (name_at names.Cl) i))) unlit

-- the state that a light's code begins with, asked at the points q
abbrev pub begun_at : List Slot → ℕ → List Value → (ℕ → Vec3) → State
begun_at params c values q =
    write c (name_at names.Ps) (λ i. Triple (q i)) (assigned c (registers_from first_free params) values fresh)

-- what a light answers at place i, where its code is run by itself over the points q, with whole budgets and no lights
abbrev pub asked : Lines → ℕ → Spaces → Code → List Value → Asked
asked lines c spaces code values q i =
    answer_at (has_light_statement (block_of code.nodes)) (masked (block_of code.nodes) record { lines = lines; spaces = spaces; lights = []; images = λ k. None } c 65536 (begun_at code.params c values q)) i

-- so many lights, each by its spaces, its code and the values of its parameters
abbrev pub asked_all : Lines → ℕ → ℕ → (ℕ → Spaces) → (ℕ → Code) → (ℕ → List Value) → List Asked
asked_all lines c many spaces codes values = map (λ n. asked lines c (spaces n) (codes n) (values n)) (range_with_len 0 many)

-- a light's code, and a value of its shape for each parameter
pub record IsLight (code : Code) (values : List Value) : Type 0 where
  pub kind : is_light code.kind ≡ true
  pub shapes : map shape values ≡ map register_shape (registers_from first_free code.params)
