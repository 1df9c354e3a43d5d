-- A run of a shader: what its variables hold at the beginning, what a grid is shaded as, and what a light answers at a point.
use Rattle.std.specs.Prelude.{ℕ, Bool, true, false, cond, List, Option, Some, None, Ok, Err}
use Rattle.fixed_math.specs.declared.vec3.Vec3.{Vec3}
use Rattle.transforms.specs.declared.spaces.Spaces.{Spaces}
use Rattle.sl_ast.specs.declared.kinds.Predefined.{Predefined}
use Rattle.sl_ast.specs.declared.kinds.Predefined.TheVariants as names
use Rattle.sl_ast.specs.declared.kinds.SlKind.{SlKind}
use Rattle.sl_ast.specs.declared.kinds.SlKind.TheVariants.{Light}
use Rattle.sl_ast.specs.declared.typed.Value.{Value}
use Rattle.sl_ast.specs.declared.typed.Value.TheVariants.{Triple}
use Rattle.sl_ast.specs.Classes.{local_classes}
use Rattle.sl_ast.specs.Settled.{Settles, settles}
use Rattle.sl_ast.specs.Typed.{Tree}
use Rattle.sl_ast.specs.Names.{name_type, writes}
use Rattle.sl_ast.specs.Variables.{Row, Start, given, zero, copied, variables, row_named}
use Rattle.builtins.specs.Values.{as_kind, triple_of}
use Rattle.builtins.specs.Lights as answers
use Rattle.sl_meaning.specs.Environment.{Env, Around, zero_value}
use Rattle.sl_meaning.specs.Alone.{run_all}
use Rattle.sl_meaning.specs.Grid.{inside_all, grid_all}
use Rattle.sl_meaning.specs.Dark.{dark}

-- the values of the predefined variables at a point
abbrev pub Names : Type 0
Names = Predefined → Value

-- a variable that a kind of shader doesn't have is 0
abbrev pub nothing : Names
nothing name = as_kind (name_type name) zero_value

abbrev pub begun_as : Start → Names → Names
begun_as given around name = around name
begun_as zero around name = nothing name
begun_as (copied other) around name = around other

abbrev pub begun_by : Option Row → Names → Names
begun_by None around name = nothing name
begun_by (Some row) around name = begun_as row.start around name

-- what a shader of that kind begins with, of what it is given
abbrev pub begun : SlKind → Names → Names
begun kind around name = begun_by (row_named name (variables kind)) around name

-- a run has so many turns of uniform loops, and each point so many of others
abbrev pub most_turns : ℕ
most_turns = 65536

-- a point as a run begins with it: its variables, its parameters' values and both budgets full
abbrev pub beginning : SlKind → Names → List Value → Env
beginning kind around values = record { named = begun kind around; values = values; turns = most_turns; own = most_turns; lit = false }

-- the variables at the points of a grid behind a run: those that the shader writes as it left them
abbrev pub left_by : SlKind → Names → Names → Names
left_by kind around after name = cond (writes kind name) (after name) (around name)

-- what a shader leaves at place i of a grid
abbrev pub ran : Tree → Around → (ℕ → List Value) → (ℕ → Names) → ℕ → Names
ran t a values around i =
    let after = (inside_all (grid_all t.body (local_classes t.params) a most_turns) (λ j. beginning t.kind (around j) (values j))).1 in
    left_by t.kind (around i) (after i).named

-- whether an `illuminate` or `solar` stands in a settled shader
abbrev pub is_lit : Settles → Bool
is_lit (Ok lit) = lit
is_lit (Err fault) = false

-- a light is asked at a point: its shader runs there by itself, in the dark
abbrev pub asked_at : Vec3 → Names
asked_at q name = cond (is_place name) (Triple q) (nothing name)
  where
    is_place : Predefined → Bool
    is_place names.Ps = true
    is_place _ = false

-- it answers with its colour where it has neither `illuminate` nor `solar`, else with the direction from it and its colour where one of these ran lit
abbrev pub answer_of : Bool → Env → answers.Light
answer_of false e = answers.ambient (triple_of (e.named names.Cl))
answer_of true e = cond e.lit (answers.lit (triple_of (e.named names.L)) (triple_of (e.named names.Cl))) answers.unlit

-- what a light's shader answers at a point, run there by itself
abbrev pub light_answer : Tree → Spaces → List Value → Vec3 → answers.Light
light_answer t spaces values q = answer_of (is_lit (settles t)) (run_all t.body (local_classes t.params) true (dark spaces) most_turns (beginning Light (asked_at q) values)).1
