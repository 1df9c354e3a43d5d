-- A light's code, asked at all places at once, answers at each as the light's tree answers there.
use Rattle.std.proofs.Common.{◌≡◌, ℕ, ◌*◌, ◌<◌, Bool, true, false, cond, List, [], ◌∷◌, map, refl, sym, ap, ◌∙◌, None}
use Rattle.fixed_math.specs.declared.vec3.Vec3.{Vec3}
use Rattle.transforms.specs.declared.spaces.Spaces.{Spaces}
use Rattle.sl_ast.specs.declared.kinds.Predefined.TheVariants as names
use Rattle.sl_ast.specs.declared.kinds.SlKind.{SlKind}
use Rattle.sl_ast.specs.declared.kinds.SlKind.TheVariants.{Light}
use Rattle.sl_ast.specs.declared.typed.Value.{Value}
use Rattle.sl_ast.specs.Names.{has_surface}
use Rattle.sl_ast.specs.Classes.{local_classes}
use Rattle.sl_ast.specs.Settled.{IsSettled, settles}
use Rattle.sl_ast.specs.Typed as T
use Rattle.sl_ast.specs.WellTyped.{well_typed}
use Rattle.builtins.specs.Differences.{Lines}
use Rattle.builtins.specs.Lights as answers
use Rattle.builtins.specs.Values.{is_true, triple_of, truth}
use Rattle.grid_code.specs.Names.{name_at, lit_at, first_free}
use Rattle.grid_code.specs.Code.{Block}
use Rattle.grid_code.specs.Masked.{Asked, Ground, State, read, masked}
use Rattle.sl_meaning.specs.Alone.{Runs}
use Rattle.sl_meaning.specs.CoreAlone.{run_all}
use Rattle.sl_meaning.specs.Core.{Slot, Stmts}
use Rattle.sl_meaning.specs.Dark.{dark}
use Rattle.sl_meaning.specs.Environment.{Env, Around}
use Rattle.sl_meaning.specs.Lowered.{slots, body_of}
use Rattle.sl_meaning.specs.Runs.{most_turns, beginning, asked_at, is_lit, answer_of, light_answer}
use Rattle.sl_meaning.proofs.CoreMeaning.{all_is}
use Rattle.mask_codegen.specs.CoreLights.{lights_in_all}
use Rattle.core_codegen.specs.Correct.{Answers, Holds, IsGround, Begins, MeansTree}
use Rattle.mask_codegen.proofs.EachMeans.{shader_means_each}
use Rattle.mask_codegen.proofs.LoweredLights.{light_has}
use Rattle.mask_codegen.proofs.NoLines.{all_same}
use Rattle.mask_codegen.proofs.TreeMeans.{core_means}

-- the answer of a light by what its code left at a place
abbrev pub answer_at : Bool → State → ℕ → answers.Light
answer_at false s i = answers.ambient (triple_of (read s (name_at names.Cl) i))
answer_at true s i = cond (is_true (read s lit_at i)) (answers.lit (triple_of (read s (name_at names.L) i)) (triple_of (read s (name_at names.Cl) i))) answers.unlit

pub truth_holds : (b : Bool) → is_true (truth b) ≡ b
truth_holds true = refl
truth_holds false = refl

pub answer_same : (lights : Bool) (i : ℕ) (ss : List Slot) (b : ℕ) (e : Env) (s : State) → Holds i ss b e s → answer_at lights s i ≡ answer_of lights e
answer_same false i ss b e s h = ap (λ v. answers.ambient (triple_of v)) (h.named names.Cl)
answer_same true i ss b e s h =
    ap (λ q. cond q (answers.lit (triple_of (read s (name_at names.L) i)) (triple_of (read s (name_at names.Cl) i))) answers.unlit) (ap is_true h.lit ∙ truth_holds e.lit) ∙
    ap (λ v. cond e.lit (answers.lit (triple_of v) (triple_of (read s (name_at names.Cl) i))) answers.unlit) (h.named names.L) ∙
    ap (λ v. cond e.lit (answers.lit (triple_of (e.named names.L)) (triple_of v)) answers.unlit) (h.named names.Cl)

-- no lights around a light, whatever the lines of the grid
abbrev pub dim : Lines → Spaces → Around
dim lines spaces = record { lines = lines; spaces = spaces; lights = []; images = λ k. None }

-- what a shader means where no light reaches doesn't hang on the lines
ran_dark : (body : Stmts) (lines : Lines) (spaces : Spaces) (n : ℕ) → run_all body (dim lines spaces) n ≡ run_all body (dark spaces) n
ran_dark body lines spaces n = all_same (dim lines spaces) (dark spaces).lines n body

-- a part of an environment that the end of a scope keeps
answer_kept : (lights : Bool) (e : Env) (values : List Value) → answer_of lights record e { values = values } ≡ answer_of lights e
answer_kept false e values = refl
answer_kept true e values = refl

light_kind : (k : SlKind) → k ≡ Light → has_surface k ≡ false
light_kind k h = ap has_surface h

module _ (t : T.Tree) (code : Block) (typed : well_typed t ≡ true) (settled : IsSettled t) (light : t.kind ≡ Light) (means : MeansTree t code) where
  -- with n turns at most, from an environment e of the place
  answers_as : (n : ℕ) (lines : Lines) (spaces : Spaces) (g : Ground) (lights : Bool) (e : ℕ → Env) (s : State) → Begins (slots t.params) (dim lines spaces) e s → IsGround (lines.columns * lines.rows) g (dim lines spaces)
      → (i : ℕ) → i < lines.columns * lines.rows → answer_at lights (masked code g (lines.columns * lines.rows) n s) i ≡ answer_of lights (run_all (body_of t) (dark spaces) n (e i)).1
  answers_as n lines spaces g lights e s begins ground i l =
      answer_same lights i (slots t.params) first_free _ _ (shader_means_each t code typed settled (light_kind t.kind light) (core_means t code typed means) (dim lines spaces) g n e s begins ground i l) ∙
      answer_kept lights (run_all (body_of t) (dim lines spaces) n (e i)).1 _ ∙ ap (λ r. answer_of lights (r (e i)).1) (ran_dark (body_of t) lines spaces n)

  -- asked at the places q
  pub light_answers : (lines : Lines) (spaces : Spaces) (values : List Value) (q : ℕ → Vec3) (g : Ground) (s : State)
      → Begins (slots t.params) (dim lines spaces) (λ i. beginning Light (asked_at (q i)) values) s → IsGround (lines.columns * lines.rows) g (dim lines spaces)
      → (i : ℕ) → i < lines.columns * lines.rows → answer_at (lights_in_all (body_of t)) (masked code g (lines.columns * lines.rows) most_turns s) i ≡ light_answer t spaces values (q i)
  light_answers lines spaces values q g s begins ground i l =
      let e : Env = beginning Light (asked_at (q i)) values in
      answers_as most_turns lines spaces g (lights_in_all (body_of t)) (λ j. beginning Light (asked_at (q j)) values) s begins ground i l ∙
      ap (λ b. answer_of b (run_all (body_of t) (dark spaces) most_turns e).1) (light_has t typed settled light) ∙
      ap (λ (r : Runs). answer_of (is_lit (settles t)) (r e).1) (sym (all_is t.body (local_classes t.params) true (dark spaces) most_turns))

-- lights that answer at each place answer so as a list
pub answers_all : (X : Type 0) (c : ℕ) (f : X → Asked) (l : X → Vec3 → answers.Light) (xs : List X) → ((x : X) (q : ℕ → Vec3) (i : ℕ) → i < c → f x q i ≡ l x (q i)) → Answers c (map f xs) (map l xs)
answers_all X c f l [] h = tt
answers_all X c f l (x ∷ xs) h = (h x, answers_all X c f l xs h)
