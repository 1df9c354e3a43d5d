-- The law of uniform registers: each holds the value that each place which has set its variable has for it.
use Rattle.std.specs.Prelude.{◌≡◌, ℕ, ◌+◌, ◌*◌, ◌<◌, ◌≤◌, true, false, List, length, get_or}
use Rattle.sl_ast.specs.declared.kinds.Predefined.{Predefined}
use Rattle.sl_ast.specs.Names.{name_type}
use Rattle.sl_ast.specs.Classes.{is_uniform_name}
use Rattle.builtins.specs.Names.{place_of}
use Rattle.builtins.specs.Values.{shape_of}
use Rattle.grid_code.specs.Names.{first_free}
use Rattle.grid_code.specs.Masked.{Ground, State, masked}
use Rattle.sl_meaning.specs.Core.{Slot, no_slot, Stmts, after_all}
use Rattle.sl_meaning.specs.Environment.{Env, Around, Signal, Next, Break, Continue, zero_value}
use Rattle.sl_meaning.specs.CoreAlone.{run_all}
use Rattle.sl_meaning.specs.Grid.{Envs}
use Rattle.sl_meaning.specs.CoreGrid.{grid_all}
use Rattle.core_codegen.specs.Compile.{behind, all_code}
use Rattle.core_codegen.specs.Correct.{Holds, IsGround}
use Rattle.core_codegen.specs.Fine.{FineAll, GridAll}

-- uniform registers hold what a place's environment says: of the uniform predefined variables, and of each uniform variable in scope, in a frame from
-- register b on, that the place has set
pub record SharedHold (ss : List Slot) (b : ℕ) (e : Env) (s : State) : Type 0 where
  pub named : (p : Predefined) → is_uniform_name p ≡ true → s.shared (shape_of (name_type p)) (place_of p) ≡ e.named p
  pub values : (k : ℕ) → k < length ss → k < length e.values → (get_or ss k no_slot).uniform ≡ true → s.shared (shape_of (get_or ss k no_slot).kind) (b + k) ≡ get_or e.values k zero_value

-- the variables that stay in scope behind statements: where a break or a continue left them, those of before
abbrev pub scope_behind : Signal → Stmts → List Slot → List Slot
scope_behind Next s ss = after_all s ss
scope_behind Break s ss = ss
scope_behind Continue s ss = ss

-- every place is live and holds its point's values
pub record AllHold (c : ℕ) (ss : List Slot) (b : ℕ) (es : Envs) (g : State) : Type 0 where
  pub live : (i : ℕ) → i < c → g.live i ≡ true
  pub rel : (i : ℕ) → i < c → Holds i ss b (es i) g
  pub exact : (i : ℕ) → i < c → length (es i).values ≡ length ss

-- Statements in varying control: behind them the registers hold what a place has set that ran them, and what one had set that didn't, whichever
-- other places ran them.
pub record KeptInVarying (c n i : ℕ) (g : Ground) (a : Around) (s : Stmts) (ss : List Slot) (b top : ℕ) (x : State) : Type 0 where
  pub runs : (e : Env) → x.live i ≡ true → Holds i ss b e x → length e.values ≡ length ss → SharedHold (scope_behind (run_all s a n e).0 s ss) b (run_all s a n e).1 (masked (all_code s ss b top) g c n x)
  pub waits : (e : Env) → x.live i ≡ false → SharedHold ss b e x → SharedHold ss b e (masked (all_code s ss b top) g c n x)

-- Statements in uniform control: behind them the registers hold what each place has set.
abbrev pub KeptInUniform : ℕ → ℕ → Ground → Around → Stmts → List Slot → ℕ → ℕ → State → Type 0
KeptInUniform c n g a s ss b top x =
    (es : Envs) → AllHold c ss b es x → (i : ℕ) → i < c → SharedHold (scope_behind (grid_all s ss a n es).0 s ss) b ((grid_all s ss a n es).1 i) (masked (all_code s ss b top) g c n x)

-- the code of any settled statements, in a frame behind the predefined variables, with what assignments need behind its variables
pub record UniformRegisterLaw : Type 0 where
  pub varying : (c n i : ℕ) (g : Ground) (a : Around) (s : Stmts) (ss : List Slot) (b top : ℕ) (x : State) → i < c → IsGround c g a → FineAll s ss → first_free ≤ b → behind ss b s ≤ top → KeptInVarying c n i g a s ss b top x
  pub uniform : (n : ℕ) (g : Ground) (a : Around) (s : Stmts) (ss : List Slot) (b top : ℕ) (x : State) → 2 ≤ a.lines.columns → 2 ≤ a.lines.rows → IsGround (a.lines.columns * a.lines.rows) g a → GridAll s ss → first_free ≤ b → behind ss b s ≤ top → KeptInUniform (a.lines.columns * a.lines.rows) n g a s ss b top x
