-- What it is for code to mean a tree: at each place of a grid it gives what the tree means there.
use Rattle.std.specs.Prelude.{◌≡◌, ℕ, ◌*◌, ◌<◌, ◌≤◌, true, List, [], ◌∷◌, length, get_or}
use Rattle.fixed_math.specs.declared.vec3.Vec3.{Vec3}
use Rattle.sl_ast.specs.declared.kinds.Predefined.{Predefined}
use Rattle.sl_ast.specs.declared.typed.Variable.TheVariants as variables
use Rattle.builtins.specs.Values.{truth}
use Rattle.builtins.specs.Lights.{Light}
use Rattle.grid_code.specs.Names.{name_at, lit_at, first_free}
use Rattle.grid_code.specs.Code.{Block}
use Rattle.grid_code.specs.Masked.{Asked, Ground, State, read, masked}
use Rattle.sl_ast.specs.Classes.{local_classes}
use Rattle.sl_ast.specs.Typed.{Tree}
use Rattle.sl_meaning.specs.Core.{Slot, Stmts}
use Rattle.sl_meaning.specs.Environment.{Env, Around, zero_value}
use Rattle.sl_meaning.specs.Grid.{Envs, inside_all}
use Rattle.sl_meaning.specs.Grid as tree
use Rattle.sl_meaning.specs.Lowered.{slots}
use Rattle.sl_meaning.specs.CoreGrid.{grid_all}
use Rattle.core_codegen.specs.Variables.{variable}

-- place i of the state holds what the environment says: of the predefined variables, of the variables in scope, whose frame begins at b, and of
-- the budgets
pub record Holds (i : ℕ) (ss : List Slot) (b : ℕ) (e : Env) (g : State) : Type 0 where
  pub named : (p : Predefined) → read g (name_at p) i ≡ e.named p
  pub lit : read g lit_at i ≡ truth e.lit
  pub values : (k : ℕ) → k < length ss → read g (variable ss b (variables.Level k)) i ≡ get_or e.values k zero_value
  pub turns : g.turns ≡ e.turns
  pub own : g.own i ≡ e.own

-- lights asked at all places at once answer as they answer at each
abbrev pub Answers : ℕ → List Asked → List (Vec3 → Light) → Type 0
Answers c [] [] = Unit {0}
Answers c (f ∷ fs) (l ∷ ls) = ((q : ℕ → Vec3) (i : ℕ) → i < c → f q i ≡ l (q i)) × Answers c fs ls
Answers c _ _ = ⊥

-- the code's ground is that of the meaning
pub record IsGround (c : ℕ) (g : Ground) (a : Around) : Type 0 where
  pub lines : g.lines ≡ a.lines
  pub spaces : g.spaces ≡ a.spaces
  pub lights : Answers c g.lights a.lights
  pub images : (k : ℕ) → g.images k ≡ a.images k

-- a grid of two or more columns and rows, each place live and holding its point's environment
pub record Begins (ss : List Slot) (a : Around) (es : Envs) (s : State) : Type 0 where
  pub wide : 2 ≤ a.lines.columns
  pub tall : 2 ≤ a.lines.rows
  pub live : (i : ℕ) → i < a.lines.columns * a.lines.rows → s.live i ≡ true
  pub holds : (i : ℕ) → i < a.lines.columns * a.lines.rows → Holds i ss first_free (es i) s
  pub exact : (i : ℕ) → i < a.lines.columns * a.lines.rows → length (es i).values ≡ length ss

-- code that gives, at each place of each grid, what statements mean there
pub record Means (body : Stmts) (ss : List Slot) (code : Block) : Type 0 where
  pub gives : (a : Around) (g : Ground) (n : ℕ) (es : Envs) (s : State) → Begins ss a es s → IsGround (a.lines.columns * a.lines.rows) g a →
      (i : ℕ) → i < a.lines.columns * a.lines.rows →
      Holds i ss first_free ((inside_all (grid_all body ss a n) es).1 i) (masked code g (a.lines.columns * a.lines.rows) n s)

-- code that gives, at each place of each grid, what a shader means there
pub record MeansTree (t : Tree) (code : Block) : Type 0 where
  pub gives : (a : Around) (g : Ground) (n : ℕ) (es : Envs) (s : State) → Begins (slots t.params) a es s → IsGround (a.lines.columns * a.lines.rows) g a →
      (i : ℕ) → i < a.lines.columns * a.lines.rows →
      Holds i (slots t.params) first_free ((inside_all (tree.grid_all t.body (local_classes t.params) a n) es).1 i) (masked code g (a.lines.columns * a.lines.rows) n s)
