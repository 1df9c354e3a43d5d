-- The variables behind a run of a shader's code, and what the run asks of what it is given.
use Rattle.std.proofs.Common.{◌≡◌, ℕ, suc, ◌+◌, ◌*◌, ◌<◌, ◌≤◌, Bool, true, false, cond, ℤ, pos, List, [], ◌∷◌, ◌++◌, length, map, get_or, refl, sym, ap, ◌∙◌, subst, arith, Option}
use Rattle.std.proofs.lemmas.List.{map-append, append-nil, length-map, get_or_at, get_or-append-add}
use Rattle.std.proofs.Math.Nat.{mul-pos}
use Rattle.fixed_math.specs.declared.vec3.Vec3.{Vec3}
use Rattle.texture.specs.Images.{Image}
use Rattle.transforms.specs.Map.{Map}
use Rattle.dice.proofs.Directions.{cells_from}
use Rattle.sl_ast.specs.declared.kinds.Predefined.TheVariants as names
use Rattle.sl_ast.specs.declared.kinds.SlKind.{SlKind}
use Rattle.sl_ast.specs.declared.kinds.SlKind.TheVariants.{Surface, Displacement, Volume}
use Rattle.sl_ast.specs.declared.typed.Value.{Value}
use Rattle.sl_ast.specs.declared.typed.Value.TheVariants.{Number}
use Rattle.sl_ast.specs.Typed.{Tree}
use Rattle.sl_ast.specs.Names.{has_surface}
use Rattle.builtins.specs.declared.shape.Shape.{Shape}
use Rattle.builtins.specs.Differences.{Lines}
use Rattle.builtins.specs.Lights.{Light}
use Rattle.builtins.specs.Shapes.{shape}
use Rattle.builtins.specs.Values.{number_of, shape_of}
use Rattle.grid_code.specs.declared.code.Register.{Register}
use Rattle.grid_code.specs.declared.register_set.RegisterSet.{RegisterSet}
use Rattle.grid_code.specs.declared.shader_code.Code.{Code}
use Rattle.grid_code.specs.declared.slot.Slot.{Slot}
use Rattle.grid_code.specs.Names.{reg, name_at, first_free}
use Rattle.grid_code.specs.Masked.{Asked, Ground, masked}
use Rattle.grid_code.specs.Shapes.{register_shape}
use Rattle.grid_code.specs.Valid.{is_placed}
use Rattle.grid_code.specs.View.{block_of}
use Rattle.sl_meaning.specs.Core as core
use Rattle.sl_meaning.specs.Environment.{zero_value}
use Rattle.sl_meaning.specs.Runs.{Names, ran}
use Rattle.mask_codegen.specs.Compiled.{IsCodeOf, NamesVarying}
use Rattle.core_codegen.specs.Correct.{Answers}
use Rattle.grid_variables.specs.Points.{Leaf, columns, rows, lines}
use Rattle.shader_binding.specs.Sets.{Bound}
use Rattle.displace_shade.specs.Shaded.{image_at, spaces_of, around}
use Rattle.place_rows.specs.Layout.{row_length, height, same_class}
use Rattle.grid_machine.specs.Run.{rows_of, params_of, step_names, uniform_inputs, varying_inputs, begun, lines_given, Leaves}
use Rattle.grid_rows.specs.Rows.{heights, AreRows, values_of, triple_in}
use Rattle.displace_shade.specs.Rows.{HoldNames, written_order, uniform_values, varying_values, slot_of}
use Rattle.grid_variables.specs.Places.{point_count, over, normals_of, IsSized}
use Rattle.displace_shade.specs.Diced.{names_of, Hold}
use Rattle.grid_rows.specs.Given.{wanted_rows, all_rows}
use Rattle.grid_rows.specs.Wanted.{given_order}
use Rattle.grid_variables.specs.declared.variables.Variables.{Variables}
use Rattle.displace_shade.proofs.Begun.{values_counted, values_shaped}
use Rattle.displace_shade.proofs.Looks.{Every, Fit, Paired, shape_of_reg}
use Rattle.displace_shade.proofs.Starts.{inputs_fit, params_paired}
use Rattle.displace_shade.proofs.Ran.{AreValues, run_leaves}
use Rattle.displace_shade.proofs.Stages.{hold_names, hold_steps, displaced_hold, surface_hold, volume_hold}
use Rattle.displace_shade.proofs.GivenRows.{HasRows, rows_held, seen_held}
use Rattle.displace_shade.proofs.Wanted.{seen, seen_names}
use Rattle.displace_shade.proofs.Plain.{lines_unread, placed_plain}

paired_long : (rs : List Register) (vs : List Value) → Paired rs vs → length rs ≡ length vs
paired_long [] [] h = refl
paired_long (r ∷ rs) (v ∷ vs) h = ap (λ n. suc n) (paired_long rs vs h)
paired_long [] (v ∷ vs) h = absurd h
paired_long (r ∷ rs) [] h = absurd h

fit_heights : (rs : List Register) (vs : List Value) → Fit rs vs → heights vs ≡ rows_of rs
fit_heights [] [] h = refl
fit_heights (r ∷ rs) (v ∷ vs) h = let e = ap height h.0.0 in let g = fit_heights rs vs h.1 in omega (arith, e, g)
fit_heights [] (v ∷ vs) h = absurd h
fit_heights (r ∷ rs) [] h = absurd h

head_shapes : (b u : Bool) (s : Shape) (n : ℕ) (v : Value) (rs : List Register) (vs : List Value) → shape v ≡ s → map shape vs ≡ map register_shape rs → map shape (cond b (v ∷ vs) vs) ≡ map register_shape (cond b (reg u s n ∷ []) [] ++ rs)
head_shapes true u s n v rs vs e h = ap (λ t. t ∷ map shape vs) (e ∙ sym (shape_of_reg u s n)) ∙ ap (λ ts. register_shape (reg u s n) ∷ ts) h
head_shapes false u s n v rs vs e h = h

params_shapes : (u : Bool) (n : ℕ) (ps : List Slot) (vs : List Value) → length vs ≡ length ps → ((k : ℕ) → k < length ps → shape (get_or vs k zero_value) ≡ shape_of (get_or (map slot_of ps) k core.no_slot).kind) → map shape (values_of u ps vs) ≡ map register_shape (params_of u n ps)
params_shapes u n [] [] h g = refl
params_shapes u n [] (v ∷ vs) h g = absurd (omega arith)
params_shapes u n (p ∷ ps) [] h g = absurd (omega arith)
params_shapes u n (p ∷ ps) (v ∷ vs) h g =
    head_shapes (same_class p.uniform u) u (shape_of p.kind) n v (params_of u (n + 1) ps) (values_of u ps vs) (g 0 (omega arith)) (params_shapes u (n + 1) ps vs (omega arith) (λ k l. g (suc k) (omega arith)))

module _ (l : Leaf) (t : Tree) (code : Code) (base : List Value) (entries : List (Option ℕ)) (images : List Image) (space : Map) (is : IsCodeOf t code) (named : RegisterSet) (covers : NamesVarying named (block_of code.nodes)) (vs : ℕ → List Value) (values : AreValues code.params t.params vs) (front : List ℤ) (fronts : AreRows (point_count l) (λ i. values_of false code.params (vs i)) front) where
  abbrev c : ℕ
  c = point_count l

  abbrev bound : Bound
  bound = record { tree = t; values = base; look_ups = entries; textures = images; space = space }

  counted : length (map slot_of code.params) ≡ length code.params
  counted = length-map code.params slot_of

  pub counted_values : length (vs 0) ≡ length code.params
  counted_values = values_counted t.params (vs 0) (values.params 0).values ∙ ap (λ xs. length xs) (sym is.params) ∙ counted

  shaped : (k : ℕ) → k < length code.params → shape (get_or (vs 0) k zero_value) ≡ shape_of (get_or (map slot_of code.params) k core.no_slot).kind
  shaped k m =
      subst (λ q. k < length q → shape (get_or (vs 0) k zero_value) ≡ shape_of (get_or q k core.no_slot).kind) (sym is.params)
      (λ z. values_shaped t.params (vs 0) (values.params 0).values k z) (subst (λ n. k < n) (sym counted) m)

  wide : 2 ≤ columns l
  wide = cells_from l.p

  tall : 2 ≤ rows l
  tall = cells_from l.q

  pub some : 0 < c
  some = mul-pos (omega (arith, wide)) (omega (arith, tall))

  abbrev ground : Lines → List Asked → Ground
  ground ls asked = record { lines = ls; spaces = spaces_of l bound; lights = asked; images = image_at bound }

  -- the lines that the steps give
  abbrev with_steps : List Value
  with_steps = values_of true code.params (vs 0) ++ Number (lines l).du ∷ Number (lines l).dv ∷ []

  uniform_count : length (values_of true code.params (vs 0)) ≡ length (params_of true first_free code.params)
  uniform_count = sym (paired_long _ _ (params_paired true first_free code.params (vs 0) counted_values))

  lines_are : lines_given (columns l) (rows l) code.params with_steps ≡ lines l
  lines_are =
      let n = length (params_of true first_free code.params) in
      let first : get_or with_steps n (Number (pos 0)) ≡ Number (lines l).du = get_or_at (values_of true code.params (vs 0)) (Number (lines l).du) (Number (lines l).dv ∷ []) (Number (pos 0)) n uniform_count in
      let second : get_or with_steps (n + 1) (Number (pos 0)) ≡ Number (lines l).dv =
      ap (λ m. get_or with_steps (m + 1) (Number (pos 0))) (sym uniform_count) ∙ get_or-append-add (values_of true code.params (vs 0)) (Number (lines l).du ∷ Number (lines l).dv ∷ []) 1 (Number (pos 0)) in
      ap (λ (v : Value). made (number_of v) (number_of (get_or with_steps (n + 1) (Number (pos 0))))) first ∙ ap (λ (v : Value). made (lines l).du (number_of v)) second
    where
      made : ℤ → ℤ → Lines
      made x y = record { columns = columns l; rows = rows l; du = x; dv = y }

  -- ---- what the rows that a run is given hold
  abbrev pub Given : Variables → List ℤ → Type 0
  Given d varyings = AreRows c (λ i. varying_values t.kind code.params (vs i) (seen t.kind named (names_of l d i))) varyings

  pub given_as : (d : Variables) → IsSized l d → (kind : SlKind) → t.kind ≡ kind → Every (HasRows l d) (given_order kind) → (q : SlKind) → q ≡ code.kind → (varyings : List ℤ) → varyings ≡ front ++ all_rows (wanted_rows q named l d) (given_order q) → Given d varyings
  given_as d sized kind k held q eq varyings e =
      subst (Given d) (sym (e ∙ ap (λ z. front ++ all_rows (wanted_rows z named l d) (given_order z)) (eq ∙ is.kind)))
      (rows_held l d sized t.kind named code.params vs front fronts (subst (λ z. Every (HasRows l d) (given_order z)) (sym k) held))

  -- ---- what the rows that a run leaves hold
  left : (f : ℕ → Names) (d : Variables) (asked : List Asked) (lights : List (Vec3 → Light)) (uniforms : List Value) (varyings out : List ℤ) (ls : Lines) → Answers c asked lights → Hold l d f → uniforms ≡ uniform_values t.kind code.params (vs 0) (f 0) → Given d varyings →
      masked (block_of code.nodes) (ground ls asked) c 65536 ≡ masked (block_of code.nodes) (ground (lines l) asked) c 65536 → Leaves code.kind c out (masked (block_of code.nodes) (ground ls asked) c 65536 (begun code.kind code.params c uniforms varyings)) →
      (i : ℕ) → i < c → HoldNames (ran t (around l bound lights) vs f i) (written_order t.kind) out (row_length c) 0 i
  left f d asked lights uniforms varyings out ls answers h eu er em lv =
      let block = block_of code.nodes in
      let lv1 = subst (λ m. Leaves code.kind c out (m (begun code.kind code.params c uniforms varyings))) em lv in
      let lv2 = subst (λ us. Leaves code.kind c out (masked block (ground (lines l) asked) c 65536 (begun code.kind code.params c us varyings))) eu lv1 in
      let lv3 = subst (λ k. Leaves k c out (masked block (ground (lines l) asked) c 65536 (begun k code.params c (uniform_values t.kind code.params (vs 0) (f 0)) varyings))) is.kind lv2 in
      run_leaves t block (around l bound lights) (ground (lines l) asked) vs f code.params named varyings out is.means covers wide tall values (hold_names l d f h) record { lines = refl; spaces = refl; lights = answers; images = λ k. refl } (seen_held l d f h t.kind named code.params vs varyings er) lv3

  stepped : (kind : SlKind) → t.kind ≡ kind → has_surface kind ≡ true → (f : ℕ → Names) (d : Variables) → Hold l d f → with_steps ≡ uniform_values t.kind code.params (vs 0) (f 0)
  stepped kind k s f d h =
      let steps = hold_steps l d f h some in
      ap (λ v. values_of true code.params (vs 0) ++ v ∷ Number (lines l).dv ∷ []) (sym steps.0) ∙ ap (λ v. values_of true code.params (vs 0) ++ f 0 names.Du ∷ v ∷ []) (sym steps.1)
      ∙ ap (λ b. values_of true code.params (vs 0) ++ cond b (f 0 names.Du ∷ f 0 names.Dv ∷ []) []) (sym (ap has_surface k ∙ s))

  surface_masked : (asked : List Asked) (uniforms : List Value) → uniforms ≡ with_steps →
      masked (block_of code.nodes) (ground (lines_given (columns l) (rows l) code.params uniforms) asked) c 65536 ≡ masked (block_of code.nodes) (ground (lines l) asked) c 65536
  surface_masked asked uniforms e = ap (λ ls. masked (block_of code.nodes) (ground ls asked) c 65536) (ap (lines_given (columns l) (rows l) code.params) e ∙ lines_are)

  abbrev Left : List Asked → List Value → List ℤ → List ℤ → Type 0
  Left asked uniforms varyings out = Leaves code.kind c out (masked (block_of code.nodes) (ground (lines_given (columns l) (rows l) code.params uniforms) asked) c 65536 (begun code.kind code.params c uniforms varyings))

  pub displace_law : t.kind ≡ Displacement → (d e : Variables) (uniforms : List Value) (varyings out : List ℤ) → Given d varyings → uniforms ≡ with_steps → Left [] uniforms varyings out →
      e.points.now ≡ over c (triple_in out (row_length c) 0) → normals_of l e.normals ≡ over c (triple_in out (row_length c) 3) → e.sights.now ≡ d.sights.now → e.colours.now ≡ d.colours.now → e.opacities.now ≡ d.opacities.now →
      (f : ℕ → Names) → Hold l d f → Hold l e (ran t (around l bound []) vs f)
  displace_law k d e uniforms varyings out given eu lv ep en es ec eo f h =
      displaced_hold l t (around l bound []) vs f d e h out (left f d [] [] uniforms varyings out _ tt h (eu ∙ stepped Displacement k refl f d h) given (surface_masked [] uniforms eu) lv) k ep en es ec eo

  pub surface_law : t.kind ≡ Surface → (d e : Variables) (asked : List Asked) (lights : List (Vec3 → Light)) (uniforms : List Value) (varyings out : List ℤ) → Answers c asked lights → Given d varyings → uniforms ≡ with_steps → Left asked uniforms varyings out →
      e.colours.now ≡ over c (triple_in out (row_length c) 0) → e.opacities.now ≡ over c (triple_in out (row_length c) 3) → e.points.now ≡ d.points.now → e.normals ≡ d.normals → e.sights.now ≡ d.sights.now →
      (f : ℕ → Names) → Hold l d f → Hold l e (ran t (around l bound lights) vs f)
  surface_law k d e asked lights uniforms varyings out answers given eu lv ec eo ep en es f h =
      surface_hold l t (around l bound lights) vs f d e h out (left f d asked lights uniforms varyings out _ answers h (eu ∙ stepped Surface k refl f d h) given (surface_masked asked uniforms eu) lv) k ec eo ep en es

  pub volume_law : t.kind ≡ Volume → is_placed code.kind false true (block_of code.nodes) ≡ true → (d e : Variables) (uniforms : List Value) (varyings out : List ℤ) → Given d varyings → uniforms ≡ values_of true code.params (vs 0) → Left [] uniforms varyings out →
      e.colours.now ≡ over c (triple_in out (row_length c) 0) → e.opacities.now ≡ over c (triple_in out (row_length c) 3) → e.points.now ≡ d.points.now → e.normals ≡ d.normals → e.sights.now ≡ d.sights.now →
      (f : ℕ → Names) → Hold l d f → Hold l e (ran t (around l bound []) vs f)
  volume_law k valid d e uniforms varyings out given eu lv ec eo ep en es f h =
      let none : uniforms ≡ uniform_values t.kind code.params (vs 0) (f 0) = eu ∙ sym (append-nil (values_of true code.params (vs 0))) ∙ ap (λ b. values_of true code.params (vs 0) ++ cond b (f 0 names.Du ∷ f 0 names.Dv ∷ []) []) (sym (ap has_surface k)) in
      let away : has_surface code.kind ≡ false = ap has_surface (is.kind ∙ k) in
      let same = lines_unread (lines_given (columns l) (rows l) code.params uniforms) (lines l) (spaces_of l bound) [] (image_at bound) c 65536 (block_of code.nodes) (placed_plain code.kind away false true (block_of code.nodes) valid) in
      volume_hold l t (around l bound []) vs f d e h out (left f d [] [] uniforms varyings out _ tt h none given same lv) k ec eo ep en es

  -- ---- what the run asks of what it is given
  surface_shapes : has_surface code.kind ≡ true → (uniforms : List Value) → uniforms ≡ with_steps → map shape uniforms ≡ map register_shape (uniform_inputs code.kind code.params)
  surface_shapes s uniforms e =
      ap (map shape) e ∙ map-append shape (values_of true code.params (vs 0)) (Number (lines l).du ∷ Number (lines l).dv ∷ [])
      ∙ ap (λ ss. ss ++ map shape (Number (lines l).du ∷ Number (lines l).dv ∷ [])) (params_shapes true first_free code.params (vs 0) counted_values shaped)
      ∙ sym (map-append register_shape (params_of true first_free code.params) (step_names code.kind) ∙ ap (λ b. map register_shape (params_of true first_free code.params) ++ map register_shape (cond b (name_at names.Du ∷ name_at names.Dv ∷ []) [])) s)

  pub displace_shapes : t.kind ≡ Displacement → (uniforms : List Value) → uniforms ≡ with_steps → map shape uniforms ≡ map register_shape (uniform_inputs code.kind code.params)
  displace_shapes k = surface_shapes (ap has_surface (is.kind ∙ k))

  pub look_shapes : t.kind ≡ Surface → (uniforms : List Value) → uniforms ≡ with_steps → map shape uniforms ≡ map register_shape (uniform_inputs code.kind code.params)
  look_shapes k = surface_shapes (ap has_surface (is.kind ∙ k))

  pub volume_shapes : t.kind ≡ Volume → (uniforms : List Value) → uniforms ≡ values_of true code.params (vs 0) → map shape uniforms ≡ map register_shape (uniform_inputs code.kind code.params)
  volume_shapes k uniforms e =
      ap (map shape) e ∙ params_shapes true first_free code.params (vs 0) counted_values shaped ∙ sym (ap (map register_shape) (ap (λ b. params_of true first_free code.params ++ cond b (name_at names.Du ∷ name_at names.Dv ∷ []) []) (ap has_surface (is.kind ∙ k)) ∙ append-nil (params_of true first_free code.params)))

  self_hold : (d : Variables) → Hold l d (names_of l d)
  self_hold d = record { at = λ i p m. refl }

  pub given_long : (d : Variables) (varyings : List ℤ) → Given d varyings → length varyings ≡ rows_of (varying_inputs code.kind code.params) * row_length c
  given_long d varyings r =
      let fit = inputs_fit c some t.kind code.params t.params (vs 0) (λ i. seen t.kind named (names_of l d i)) varyings (values.params 0) (seen_names t.kind named c (names_of l d) (hold_names l d (names_of l d) (self_hold d))) 0 some in
      r.long 0 some ∙ ap (λ n. n * row_length c) (fit_heights (varying_inputs t.kind code.params) _ fit) ∙ ap (λ q. rows_of (varying_inputs q code.params) * row_length c) (sym is.kind)
