-- The laws of runs, for a shader that is bound; and the shader of a use in its set.
use Rattle.std.proofs.Common.{◌≡◌, ℕ, zero, suc, ◌*◌, ◌<◌, Bool, true, false, ℤ, List, [], ◌∷◌, length, map, get_or, refl, sym, ap, ◌∙◌, subst, arith}
use Rattle.std.specs.Prelude.{not, ◌&&◌, Option, Some, slice_get, option_map, unwrap_or, Result, Ok, Err, OnOk}
use Rattle.std.specs.List.{list_all}
use Rattle.std.proofs.lemmas.Bool.{and_parts, false≢true}
use Rattle.std.proofs.lemmas.List.{length-map, get_or-map}
use Rattle.std.proofs.lemmas.Option.{slice_get-map, slice_get_read}
use Rattle.transforms.specs.declared.spaces.Spaces.{Spaces}
use Rattle.scene.specs.declared.uses.ShaderUse.{ShaderUse}
use Rattle.scene.specs.Scene.{IsUse}
use Rattle.scene.specs.declared.uses.ShaderKind.{ShaderKind as UseKind}
use Rattle.scene.specs.declared.uses.ShaderKind.TheVariants as requested
use Rattle.sl_ast.specs.declared.kinds.SlKind.{SlKind}
use Rattle.sl_ast.specs.declared.kinds.SlKind.TheVariants as written
use Rattle.sl_ast.specs.declared.kinds.SlType.{SlType}
use Rattle.sl_ast.specs.declared.kinds.SlType.TheVariants as types
use Rattle.sl_ast.specs.declared.typed.Value.{Value}
use Rattle.sl_ast.specs.Settled.{is_string}
use Rattle.sl_ast.specs.TreeView.{tree_of}
use Rattle.sl_ast.specs.Typed.{Local, Tree}
use Rattle.builtins.specs.declared.shape.Shape.{Shape}
use Rattle.builtins.specs.declared.shape.Shape.TheVariants as shapes
use Rattle.builtins.specs.Differences.{Lines}
use Rattle.builtins.specs.Shapes.{shape}
use Rattle.builtins.specs.Values.{shape_of}
use Rattle.grid_code.specs.declared.shader_code.Code.{Code}
use Rattle.grid_code.specs.View.{block_of}
use Rattle.grid_code.specs.declared.slot.Slot.{Slot}
use Rattle.grid_code.specs.Masked.{Ground, masked}
use Rattle.sl_meaning.specs.Core as core
use Rattle.sl_meaning.specs.Environment.{zero_value}
use Rattle.shader_binding.specs.Sets.{AreValuesOf, FitsUse, FitUses, FitLooks, is_of_kind}
use Rattle.mask_codegen.specs.Compiled.{Seen}
use Rattle.mask_codegen.proofs.ParamTexts.{is_rowable, params_rowable}
use Rattle.shader_binding.specs.Sets.{bound_with}
use Rattle.grid_variables.specs.Points.{Leaf}
use Rattle.grid_variables.specs.Variables.{values_at}
use Rattle.shader_binding.specs.Bindings.{FitVariables}
use Rattle.sl_look_ups.specs.Naming.{binding_params}
use Rattle.displace_shade.proofs.BindingParams.{binding_slots, binding_values, values_taken}
use Rattle.texture.specs.Images.{Image}
use Rattle.place_rows.specs.Layout.{row_length}
use Rattle.grid_machine.specs.Run.{begun, lines_given, Leaves}
use Rattle.grid_rows.specs.Rows.{AreRows, AreRowable, values_of}
use Rattle.displace_shade.specs.Rows.{slot_of}
use Rattle.grid_rows.specs.Parameters.{ParameterValues}
use Rattle.grid_rows.specs.Given.{param_rows}
use Rattle.grid_variables.specs.Places.{point_count, over}
use Rattle.displace_shade.specs.Lamps.{lamp_asked}
use Rattle.displace_shade.specs.Stages.{parameters_of, Runs}
use Rattle.displace_shade.specs.declared.bound.BoundShader.{BoundShader}
use Rattle.displace_shade.specs.declared.lamps.Lamp.{Lamp}
use Rattle.sl_meaning.specs.Lowered.{slots}
use Rattle.displace_shade.proofs.Begun.{values_counted, values_shaped}
use Rattle.grid_rows.proofs.Filled.{no_rows}
use Rattle.grid_rows.proofs.ParamRows.{params_rows}
use Rattle.displace_shade.proofs.Ran.{AreValues}
use Rattle.displace_shade.proofs.Binding.{values_fit, values_steady}
use Rattle.grid_variables.proofs.Over.{over_all}

word_is_string : (k : SlType) → shape_of k ≡ shapes.Word → is_string k ≡ true
word_is_string types.Str h = refl
word_is_string types.Float h = absurd (false≢true (ap is_word h))
  where
    is_word : Shape → Bool
    is_word shapes.Word = true
    is_word _ = false
word_is_string _ h = absurd (false≢true (ap is_word h))
  where
    is_word : Shape → Bool
    is_word shapes.Word = true
    is_word _ = false

no_text : (u s : Bool) → not (not u && s) ≡ true → u ≡ false → s ≡ true → ⊥
no_text true s h e f = false≢true (sym e)
no_text false true h e f = false≢true h
no_text false false h e f = false≢true f

rowable_from : (ps : List Slot) (vs : List Value) → length vs ≡ length ps → ((k : ℕ) → k < length ps → shape (get_or vs k zero_value) ≡ shape_of (get_or (map slot_of ps) k core.no_slot).kind) → list_all is_rowable (map slot_of ps) ≡ true → AreRowable ps vs
rowable_from [] [] e g h = tt
rowable_from [] (v ∷ vs) e g h = tt
rowable_from (p ∷ ps) [] e g h = tt
rowable_from (p ∷ ps) (v ∷ vs) e g h =
    let both = and_parts (is_rowable (slot_of p)) (list_all is_rowable (map slot_of ps)) h in
    (λ u w. no_text p.uniform (is_string p.kind) both.0 u (word_is_string p.kind (sym (g 0 (omega arith)) ∙ w)), rowable_from ps vs (omega arith) (λ k l. g (suc k) (omega arith)) both.1)

slots_count : (ps : List Local) → length (slots ps) ≡ length ps
slots_count [] = refl
slots_count (p ∷ ps) = ap (λ n. suc n) (slots_count ps)

module _ (b : BoundShader) (r : Runs b) where
  pub bound_count : length b.values.now ≡ length b.compiled.now.code.params
  bound_count = values_counted (tree_of b.compiled.now.tree).params b.values.now r.values ∙ ap (λ xs. length xs) (sym r.code.params) ∙ length-map b.compiled.now.code.params slot_of

  rowable : (vs : List Value) → AreValuesOf (tree_of b.compiled.now.tree).params vs → AreRowable b.compiled.now.code.params vs
  rowable vs h =
      let count : length vs ≡ length b.compiled.now.code.params = values_counted (tree_of b.compiled.now.tree).params vs h ∙ ap (λ xs. length xs) (sym r.code.params) ∙ length-map b.compiled.now.code.params slot_of in
      rowable_from b.compiled.now.code.params vs count
      (λ k l. subst (λ q. k < length q → shape (get_or vs k zero_value) ≡ shape_of (get_or q k core.no_slot).kind) (sym r.code.params)
      (λ m. values_shaped (tree_of b.compiled.now.tree).params vs h k m) (subst (λ n. k < n) (sym (length-map b.compiled.now.code.params slot_of)) l))
      (ap (list_all is_rowable) r.code.params ∙ params_rowable (tree_of b.compiled.now.tree) b.compiled.now.tree.typed r.code.settled)

  names_count : length (binding_params (tree_of b.compiled.now.tree)) ≡ length b.compiled.now.code.params
  names_count =
      sym (slots_count (binding_params (tree_of b.compiled.now.tree))) ∙ ap (λ xs. length xs) (binding_slots (tree_of b.compiled.now.tree) ∙ sym r.code.params)
      ∙ length-map b.compiled.now.code.params slot_of

  bound_slots : map slot_of b.compiled.now.code.params ≡ slots (binding_params (tree_of b.compiled.now.tree))
  bound_slots = r.code.params ∙ sym (binding_slots (tree_of b.compiled.now.tree))

  abbrev values_on : Leaf → ℕ → List Value
  values_on l = values_at l (binding_params (tree_of b.compiled.now.tree)) b.values.now

  fit_on : (l : Leaf) (i : ℕ) → FitVariables (binding_params (tree_of b.compiled.now.tree)) l.prim.vars → AreValuesOf (tree_of b.compiled.now.tree).params (values_on l i)
  fit_on l i fit =
      values_taken (tree_of b.compiled.now.tree) (values_on l i)
      (values_fit l (binding_params (tree_of b.compiled.now.tree)) b.values.now i fit (binding_values (tree_of b.compiled.now.tree) b.values.now r.values))

  -- the values of its parameters on a leaf whose variables fit
  pub bound_values : (l : Leaf) → FitVariables (binding_params (tree_of b.compiled.now.tree)) l.prim.vars → AreValues b.compiled.now.code.params (tree_of b.compiled.now.tree).params (values_on l)
  bound_values l fit =
      record {
        params = λ i. record { slots = r.code.params; values = fit_on l i fit };
        steady = λ i. values_steady l b.compiled.now.code.params (binding_params (tree_of b.compiled.now.tree)) b.values.now i bound_slots fit (binding_values (tree_of b.compiled.now.tree) b.values.now r.values);
      }

  pub bound_rows : (l : Leaf) → FitVariables (binding_params (tree_of b.compiled.now.tree)) l.prim.vars →
      AreRows (point_count l) (λ i. values_of false b.compiled.now.code.params (values_on l i)) (param_rows l (binding_params (tree_of b.compiled.now.tree)) b.compiled.now.code.params b.values.now)
  bound_rows l fit =
      params_rows l (λ i. []) [] (binding_params (tree_of b.compiled.now.tree)) b.compiled.now.code.params b.values.now (sym names_count) (bound_count ∙ sym names_count)
      (rowable (values_on l 0) (fit_on l 0 fit)) (no_rows (point_count l))

  -- its parameters' names are as many as those of its code
  pub bound_names : length (binding_params (tree_of b.compiled.now.tree)) ≡ length b.compiled.now.code.params
  bound_names = names_count

-- what its parameters give a run
module _ (l : Leaf) (b : BoundShader) (p : ParameterValues) (e : p ≡ parameters_of b) where
  pub rows_given : param_rows l p.locals p.slots p.values ≡ param_rows l (binding_params (tree_of b.compiled.now.tree)) b.compiled.now.code.params b.values.now
  rows_given = ap (λ q. param_rows l q.locals q.slots q.values) e

  pub uniforms_given : values_of true p.slots (values_at l p.locals p.values 0) ≡ values_of true b.compiled.now.code.params (values_at l (binding_params (tree_of b.compiled.now.tree)) b.values.now 0)
  uniforms_given = ap (λ q. values_of true q.slots (values_at l q.locals q.values 0)) e

-- lengths by the code and the grid that are read are those by the ones that are given
pub read_long : (height : Code → ℕ) (k k' : Code) (m m' w w' n : ℕ) → k ≡ k' → m ≡ m' → w ≡ w' → n ≡ height k' * row_length (m' * w') → n ≡ height k * row_length (m * w)
read_long height k k' m m' w w' n ek em ew e =
    e ∙ ap (λ q. height q * row_length (m' * w')) (sym ek) ∙ ap (λ q. height k * row_length (q * w')) (sym em) ∙ ap (λ q. height k * row_length (m * q)) (sym ew)

abbrev Left : (ℕ → Option Image) → Code → List Value → ℕ → ℕ → List ℤ → List ℤ → Spaces → List Lamp → Type 0
Left im k us m w vr out sp lamps =
    let ls = lines_given m w k.params us in
    Leaves k.kind (m * w) out (masked (block_of k.nodes) record { lines = ls; spaces = sp; lights = map (lamp_asked ls (m * w)) lamps; images = im } (m * w) 65536 (begun k.kind k.params (m * w) us vr))

-- lights asked by their places in a list are those of the list
asked_lamps : (ls : Lines) (c : ℕ) (lamps : List Lamp) (spare : Lamp) → over (length lamps) (λ n. lamp_asked ls c (get_or lamps n spare)) ≡ map (lamp_asked ls c) lamps
asked_lamps ls c lamps spare =
    sym (over_all (λ n. lamp_asked ls c (get_or lamps n spare)) (map (lamp_asked ls c) lamps) (length lamps) (lamp_asked ls c spare) (length-map lamps (lamp_asked ls c)) (λ i l. get_or-map (lamp_asked ls c) lamps i spare (lamp_asked ls c spare) l))

-- the ground of a run by lights asked by their places in a list
abbrev Bare : (ℕ → Option Image) → Code → List Value → ℕ → ℕ → Spaces → List Lamp → Lamp → Ground
Bare im k us m w sp lamps spare =
    let ls = lines_given m w k.params us in
    record { lines = ls; spaces = sp; lights = over (length lamps) (λ n. lamp_asked ls (m * w) (get_or lamps n spare)); images = im }

pub leaves_as : (im im' : ℕ → Option Image) (k k' : Code) (us : List Value) (m m' w w' : ℕ) (vr vr' out out' : List ℤ) (sp sp' : Spaces) (lamps : List Lamp) (spare : Lamp) (g : Ground) → k ≡ k' → m ≡ m' → w ≡ w' → vr ≡ vr' → out ≡ out' → sp ≡ sp' → g ≡ Bare im k us m w sp lamps spare → im ≡ im' →
    Leaves k.kind (m * w) out (masked (block_of k.nodes) g (m * w) 65536 (begun k.kind k.params (m * w) us vr)) →
    Left im' k' us m' w' vr' out' sp' lamps
leaves_as im im' k k' us m m' w w' vr vr' out out' sp sp' lamps spare g ek em ew ev eo es eg ei h0 =
    let ls = lines_given m w k.params us in
    let h = subst (λ w0. Leaves k.kind (m * w) out (masked (block_of k.nodes) w0 (m * w) 65536 (begun k.kind k.params (m * w) us vr))) eg h0 in
    let o : Left im k us m w vr out sp lamps = subst (λ ls'. Leaves k.kind (m * w) out (masked (block_of k.nodes) record { lines = ls; spaces = sp; lights = ls'; images = im } (m * w) 65536 (begun k.kind k.params (m * w) us vr))) (asked_lamps ls (m * w) lamps spare) h in
    let a = subst (λ z. Left im z us m w vr out sp lamps) ek o in
    let b = subst (λ z. Left im k' us z w vr out sp lamps) em a in
    let c = subst (λ z. Left im k' us m' z vr out sp lamps) ew b in
    let d = subst (λ z. Left im k' us m' w' z out sp lamps) ev c in
    let e = subst (λ z. Left im k' us m' w' vr' z sp lamps) eo d in
    let f = subst (λ z. Left im k' us m' w' vr' out' z lamps) es e in
    subst (λ z. Left z k' us m' w' vr' out' sp' lamps) ei f

-- what follows from what a call without a value leaves
pub on_ok : {A E : Type 0} {P Q : Type 0} (r : Result A E) → (P → Q) → OnOk r P → OnOk r Q
on_ok (Ok x) f h = f h
on_ok (Err e) f h = h

-- ---- the shader of a use
-- a tree is there
pub fits_there : (u : ShaderUse) (vs : List Value) (trees : List Tree) (k : ℕ) → FitsUse u vs (slice_get trees k) → k < length trees
fits_there u vs [] k h = absurd h
fits_there u vs (t ∷ trees) zero h = omega arith
fits_there u vs (t ∷ trees) (suc k) h = let r = fits_there u vs trees k h in omega (arith, r)

pub fits_place : (trees : List Tree) (uses : List ShaderUse) (ofs : List ℕ) (bounds : List (List Value)) (n : ℕ) → FitUses trees uses ofs bounds → n < length uses → get_or ofs n 0 < length trees
fits_place trees (u ∷ uses) (k ∷ ofs) (b ∷ bounds) zero h l = fits_there u b trees k h.0
fits_place trees (u ∷ uses) (k ∷ ofs) (b ∷ bounds) (suc n) h l = fits_place trees uses ofs bounds n h.1 (omega arith)
fits_place trees [] ofs bounds n h l = absurd (omega arith)
fits_place trees (u ∷ uses) [] bounds n h l = absurd h
fits_place trees (u ∷ uses) (k ∷ ofs) [] n h l = absurd h

-- one place and one list of values for each use
pub fits_long : (trees : List Tree) (uses : List ShaderUse) (ofs : List ℕ) (bounds : List (List Value)) → FitUses trees uses ofs bounds → (length ofs ≡ length uses) × (length bounds ≡ length uses)
fits_long trees [] [] [] h = (refl, refl)
fits_long trees (u ∷ uses) (k ∷ ofs) (b ∷ bounds) h = let r = fits_long trees uses ofs bounds h.1 in (ap (λ n. suc n) r.0, ap (λ n. suc n) r.1)
fits_long trees [] (k ∷ ofs) bounds h = absurd h
fits_long trees [] [] (b ∷ bounds) h = absurd h
fits_long trees (u ∷ uses) [] bounds h = absurd h
fits_long trees (u ∷ uses) (k ∷ ofs) [] h = absurd h

-- the use fits what is found for it
pub fits_use : (trees : List Tree) (uses : List ShaderUse) (ofs : List ℕ) (bounds : List (List Value)) (n : ℕ) (t : Tree) (vs : List Value) (u : ShaderUse) → FitUses trees uses ofs bounds → n < length uses → get_or uses n u ≡ u → get_or bounds n vs ≡ vs → slice_get trees (get_or ofs n 0) ≡ Some t →
    FitsUse u vs (Some t)
fits_use trees (x ∷ uses) (k ∷ ofs) (b ∷ bounds) zero t vs u h l eu ev et = subst (λ o. FitsUse u vs o) et (subst (λ z. FitsUse u z (slice_get trees k)) ev (subst (λ z. FitsUse z b (slice_get trees k)) eu h.0))
fits_use trees (x ∷ uses) (k ∷ ofs) (b ∷ bounds) (suc n) t vs u h l eu ev et = fits_use trees uses ofs bounds n t vs u h.1 (omega arith) eu ev et
fits_use trees [] ofs bounds n t vs u h l eu ev et = absurd (omega arith)
fits_use trees (x ∷ uses) [] bounds n t vs u h l eu ev et = absurd h
fits_use trees (x ∷ uses) (k ∷ ofs) [] n t vs u h l eu ev et = absurd h

-- one list of entries for each use
pub entries_long : (trees : List Tree) (ofs : List ℕ) (ess : List (List (Option ℕ))) → FitLooks trees ofs ess → length ess ≡ length ofs
entries_long trees [] [] h = refl
entries_long trees (k ∷ ofs) (es ∷ ess) h = ap (λ n. suc n) (entries_long trees ofs ess h.1)
entries_long trees [] (es ∷ ess) h = absurd h
entries_long trees (k ∷ ofs) [] h = absurd h

pub tree_found : (xs : List Seen) (k : ℕ) (x : Seen) → k < length xs → x ≡ get_or xs k x → slice_get (map (λ (c : Seen). tree_of c.tree) xs) k ≡ Some (tree_of x.tree)
tree_found xs k x l e = slice_get-map (λ (c : Seen). tree_of c.tree) xs k ∙ ap (λ o. option_map (λ (c : Seen). tree_of c.tree) o) (slice_get_read xs (length xs) k x refl l e)

pub found_law : (images : List Image) (trees : List Tree) (ofs : List ℕ) (bounds : List (List Value)) (ess : List (List (Option ℕ))) (uses : List ShaderUse) (n : ℕ) (t : Tree) (vs : List Value) (es : List (Option ℕ)) (u : ShaderUse) →
    slice_get trees (get_or ofs n 0) ≡ Some t → slice_get bounds n ≡ Some vs → slice_get ess n ≡ Some es → slice_get uses n ≡ Some u →
    bound_with images (slice_get trees (get_or ofs n 0)) (slice_get bounds n) (slice_get ess n) (slice_get uses n) ≡ Some record { tree = t; values = vs; look_ups = es; textures = images; space = u.space }
found_law images trees ofs bounds ess uses n t vs es u et ev ee eu =
    ap (λ o. bound_with images o (slice_get bounds n) (slice_get ess n) (slice_get uses n)) et ∙ ap (λ o. bound_with images (Some t) o (slice_get ess n) (slice_get uses n)) ev
    ∙ ap (λ o. bound_with images (Some t) (Some vs) o (slice_get uses n)) ee ∙ ap (λ o. bound_with images (Some t) (Some vs) (Some es) o) eu

-- ---- uses of a kind
pub use_there : (uses : List ShaderUse) (kind : UseKind) (n : ℕ) → IsUse uses kind n → n < length uses
use_there [] kind n h = absurd h
use_there (u ∷ uses) kind zero h = omega arith
use_there (u ∷ uses) kind (suc n) h = let r = use_there uses kind n h in omega (arith, r)

pub of_displacement : (k : SlKind) → is_of_kind k requested.Displacement ≡ true → k ≡ written.Displacement
of_displacement written.Displacement h = refl
of_displacement written.Surface h = absurd (false≢true h)
of_displacement written.Light h = absurd (false≢true h)
of_displacement written.Volume h = absurd (false≢true h)

pub of_surface : (k : SlKind) → is_of_kind k requested.Surface ≡ true → k ≡ written.Surface
of_surface written.Surface h = refl
of_surface written.Displacement h = absurd (false≢true h)
of_surface written.Light h = absurd (false≢true h)
of_surface written.Volume h = absurd (false≢true h)

pub of_volume : (k : SlKind) → is_of_kind k requested.Volume ≡ true → k ≡ written.Volume
of_volume written.Volume h = refl
of_volume written.Surface h = absurd (false≢true h)
of_volume written.Displacement h = absurd (false≢true h)
of_volume written.Light h = absurd (false≢true h)

pub of_light : (k : SlKind) → is_of_kind k requested.Light ≡ true → k ≡ written.Light
of_light written.Light h = refl
of_light written.Surface h = absurd (false≢true h)
of_light written.Displacement h = absurd (false≢true h)
of_light written.Volume h = absurd (false≢true h)

pub some_is : {A : Type 0} (a b : A) → Some a ≡ Some b → a ≡ b
some_is a b e = ap (λ o. unwrap_or o a) e
