-- The rows that the code of a tree leaves are what a run of the tree means.
use Rattle.std.proofs.Common.{◌≡◌, ℕ, ◌+◌, ◌*◌, ◌<◌, ◌≤◌, true, false, cond, ℤ, List, [], ◌∷◌, ◌++◌, map, refl, sym, ap, ◌∙◌, subst, arith}
use Rattle.std.proofs.Math.Nat.{mul-pos}
use Rattle.std.proofs.lemmas.Bool.{cond-true}
use Rattle.sl_ast.specs.declared.kinds.Predefined.{Predefined}
use Rattle.sl_ast.specs.declared.kinds.Predefined.TheVariants as names
use Rattle.sl_ast.specs.declared.kinds.SlKind.{SlKind}
use Rattle.sl_ast.specs.declared.kinds.SlKind.TheVariants.{Surface, Displacement, Light, Volume}
use Rattle.sl_ast.specs.declared.typed.Value.{Value}
use Rattle.sl_ast.specs.Typed.{Local, Tree}
use Rattle.sl_ast.specs.Names.{name_type, writes, has_surface}
use Rattle.sl_ast.specs.Classes.{is_uniform_name, local_classes}
use Rattle.builtins.specs.Names.{place_of}
use Rattle.builtins.specs.Values.{shape_of}
use Rattle.grid_code.specs.Code.{Block}
use Rattle.grid_code.specs.Names.{name_at, first_free}
use Rattle.grid_code.specs.Masked.{State, Ground, read, masked}
use Rattle.grid_code.specs.Shapes.{register_shape}
use Rattle.grid_code.specs.declared.register_set.RegisterSet.{RegisterSet}
use Rattle.grid_code.specs.declared.slot.Slot.{Slot}
use Rattle.mask_codegen.specs.Compiled.{NamesVarying}
use Rattle.sl_meaning.specs.Environment.{Around}
use Rattle.sl_meaning.specs.Grid.{inside_all, grid_all}
use Rattle.sl_meaning.specs.Lowered.{slots}
use Rattle.sl_meaning.specs.Runs.{Names, most_turns, beginning, ran}
use Rattle.core_codegen.specs.Correct.{IsGround, Holds, Begins, MeansTree}
use Rattle.place_rows.specs.Layout.{row_length, height}
use Rattle.grid_machine.specs.Run.{written_names, HoldRows, begun, Leaves}
use Rattle.grid_machine.specs.Run as run
use Rattle.displace_shade.specs.Rows.{HoldNames, written_order, uniform_values, varying_values}
use Rattle.grid_rows.specs.Rows.{AreRows, values_of}
use Rattle.grid_rows.specs.Wanted.{is_optional}
use Rattle.displace_shade.proofs.Begun.{AreNames, values_counted}
use Rattle.displace_shade.proofs.Looks.{Every, shape_of_reg, same_value}
use Rattle.displace_shade.proofs.Starts.{AreParams, state_keeps, state_name, state_lit, state_param}
use Rattle.displace_shade.proofs.Wanted.{seen, du_seen, dv_seen, seen_names, whole, whole_same, whole_begins, written_kept}

-- the values of parameters by places: those of each place, and the uniform ones the same at all
pub record AreValues (ps : List Slot) (ls : List Local) (vs : ℕ → List Value) : Type 0 where
  pub params : (i : ℕ) → AreParams ps ls (vs i)
  pub steady : (i : ℕ) → values_of true ps (vs i) ≡ values_of true ps (vs 0)

pub begins : (t : Tree) (a : Around) (vs : ℕ → List Value) (f : ℕ → Names) (ps : List Slot) (varyings : List ℤ) → 2 ≤ a.lines.columns → 2 ≤ a.lines.rows → AreValues ps t.params vs → AreNames (a.lines.columns * a.lines.rows) f →
    AreRows (a.lines.columns * a.lines.rows) (λ i. varying_values t.kind ps (vs i) (f i)) varyings →
    Begins (slots t.params) a (λ i. beginning t.kind (f i) (vs i)) (begun t.kind ps (a.lines.columns * a.lines.rows) (uniform_values t.kind ps (vs 0) (f 0)) varyings)
begins t a vs f ps varyings wide tall values h rows =
    let c = a.lines.columns * a.lines.rows in
    let few : 0 < a.lines.columns * a.lines.rows = mul-pos (omega arith) (omega arith) in
    let keeps = state_keeps c few t.kind ps t.params (vs 0) f varyings (values.params 0) h in
    record {
      wide = wide;
      tall = tall;
      live = λ i l. ap (λ p. p i) keeps.live;
      holds = λ i l. at few i l;
      exact = λ i l. values_counted t.params (vs i) (values.params i).values;
    }
  where
    at : 0 < a.lines.columns * a.lines.rows → (i : ℕ) → i < a.lines.columns * a.lines.rows → Holds i (slots t.params) first_free (beginning t.kind (f i) (vs i)) (begun t.kind ps (a.lines.columns * a.lines.rows) (uniform_values t.kind ps (vs 0) (f 0)) varyings)
    at few i l =
        let c = a.lines.columns * a.lines.rows in
        let params = values.params i in
        let r = rows.hold i l in
        let keeps = state_keeps c few t.kind ps t.params (vs i) f varyings params h in
        subst (λ us. Holds i (slots t.params) first_free (beginning t.kind (f i) (vs i)) (begun t.kind ps c (us ++ cond (has_surface t.kind) (f 0 names.Du ∷ f 0 names.Dv ∷ []) []) varyings)) (values.steady i) record {
          named = λ p. state_name c few t.kind ps t.params (vs i) f varyings params h p i l r;
          lit = state_lit c few t.kind ps t.params (vs i) f varyings params h i l r;
          values = λ k m. state_param c few t.kind ps t.params (vs i) f varyings params h k i l r m;
          turns = keeps.turns;
          own = ap (λ p. p i) keeps.own;
        }

-- what a kind writes is written
written_all : (kind : SlKind) → Every (λ p. writes kind p ≡ true) (written_order kind)
written_all Surface = (refl, (refl, tt))
written_all Displacement = (refl, (refl, tt))
written_all Light = (refl, tt)
written_all Volume = (refl, (refl, tt))

written_is : (kind : SlKind) → written_names kind ≡ map name_at (written_order kind)
written_is Surface = refl
written_is Displacement = refl
written_is Light = refl
written_is Volume = refl

left_rows : (s : State) (after : Names) (around : Names) (rows : List ℤ) (w i : ℕ) (kind : SlKind) → (ps : List Predefined) → Every (λ p. read s (name_at p) i ≡ after p) ps → Every (λ p. writes kind p ≡ true) ps → (k at : ℕ) → at ≡ k * w → HoldRows w rows i (map name_at ps) at s →
    HoldNames (λ p. cond (writes kind p) (after p) (around p)) ps rows w k i
left_rows s after around rows w i kind [] h e k at m r = tt
left_rows s after around rows w i kind (p ∷ ps) h e k at m r =
    let t = shape_of (name_type p) in
    let of_reg = shape_of_reg (is_uniform_name p) t (place_of p) in
    let next : at + height (register_shape (name_at p)) * w ≡ (k + height t) * w = let b = ap (λ q. height q * w) of_reg in omega (arith, m, b) in (
      cond-true (writes kind p) (after p) (around p) e.0 ∙ sym h.0 ∙ sym r.0 ∙ ap (λ q. run.value_in q rows w (at + i)) of_reg ∙ ap (λ n. run.value_in t rows w (n + i)) m ∙ same_value t rows w k i,
      left_rows s after around rows w i kind ps h.1 e.1 (k + height t) (at + height (register_shape (name_at p)) * w) next r.1,
    )

written_needed : (kind : SlKind) → Every (λ p. is_optional kind (place_of p) ≡ false) (written_order kind)
written_needed Surface = (refl, (refl, tt))
written_needed Displacement = (refl, (refl, tt))
written_needed Light = (refl, tt)
written_needed Volume = (refl, (refl, tt))

steps_seen : (kind : SlKind) (named : RegisterSet) (f : Names) (ps : List Slot) (vs : List Value) → uniform_values kind ps vs f ≡ uniform_values kind ps vs (seen kind named f)
steps_seen kind named f ps vs =
    ap (λ x. values_of true ps vs ++ cond (has_surface kind) (x ∷ f names.Dv ∷ []) []) (sym (du_seen kind named f))
    ∙ ap (λ y. values_of true ps vs ++ cond (has_surface kind) (seen kind named f names.Du ∷ y ∷ []) []) (sym (dv_seen kind named f))

-- a run of the code on what it is given, which names no other varying registers than these
pub run_leaves : (t : Tree) (code : Block) (a : Around) (g : Ground) (vs : ℕ → List Value) (f : ℕ → Names) (ps : List Slot) (named : RegisterSet) (varyings out : List ℤ) → MeansTree t code → NamesVarying named code → 2 ≤ a.lines.columns → 2 ≤ a.lines.rows → AreValues ps t.params vs →
    AreNames (a.lines.columns * a.lines.rows) f → IsGround (a.lines.columns * a.lines.rows) g a → AreRows (a.lines.columns * a.lines.rows) (λ i. varying_values t.kind ps (vs i) (seen t.kind named (f i))) varyings →
    Leaves t.kind (a.lines.columns * a.lines.rows) out (masked code g (a.lines.columns * a.lines.rows) 65536 (begun t.kind ps (a.lines.columns * a.lines.rows) (uniform_values t.kind ps (vs 0) (f 0)) varyings)) →
    (i : ℕ) → i < a.lines.columns * a.lines.rows → HoldNames (ran t a vs f i) (written_order t.kind) out (row_length (a.lines.columns * a.lines.rows)) 0 i
run_leaves t code a g vs f ps named varyings out m names wide tall params h ground given leaves i l =
    let c = a.lines.columns * a.lines.rows in
    let s = begun t.kind ps c (uniform_values t.kind ps (vs 0) (f 0)) varyings in
    let begin = subst (λ us. Begins (slots t.params) a (λ j. beginning t.kind (seen t.kind named (f j)) (vs j)) (begun t.kind ps c us varyings)) (sym (steps_seen t.kind named (f 0) ps (vs 0)))
    (begins t a vs (λ j. seen t.kind named (f j)) ps varyings wide tall params (seen_names t.kind named c f h) given) in
    let held = m.gives a g most_turns (λ j. beginning t.kind (f j) (vs j)) (whole t.kind named f s) (whole_begins t.kind named f vs (slots t.params) a s begin) ground i l in
    let after = ((inside_all (grid_all t.body (local_classes t.params) a most_turns) (λ j. beginning t.kind (f j) (vs j))).1 i).named in
    let seen_after : (p : Predefined) → read (whole t.kind named f (masked code g c 65536 s)) (name_at p) i ≡ after p =
    λ p. ap (λ (z : State). read z (name_at p) i) (sym (whole_same t.kind named f code g c 65536 s names)) ∙ held.named p in
    left_rows (masked code g c 65536 s) after (f i) out (row_length c) i t.kind (written_order t.kind) (written_kept t.kind named f (masked code g c 65536 s) i after seen_after (written_order t.kind) (written_needed t.kind)) (written_all t.kind) 0 0 (omega arith)
    (subst (λ rs. HoldRows (row_length c) out i rs 0 (masked code g c 65536 s)) (written_is t.kind) (leaves i l))
