-- The lights of a primitive answer as their trees do.
use Rattle.std.proofs.Common.{◌≡◌, ℕ, suc, ◌+◌, ◌*◌, ◌<◌, ◌≤◌, Bool, true, false, List, [], ◌∷◌, ◌++◌, All, length, map, get_or, take, refl, sym, ap, ◌∙◌, subst, arith}
use Rattle.std.specs.Prelude.{Option, Some, None}
use Rattle.std.proofs.lemmas.List.{length-map, map-append, take_more}
use Rattle.fixed_math.specs.declared.vec3.Vec3.{Vec3}
use Rattle.scene.specs.declared.uses.ShaderUse.{ShaderUse}
use Rattle.sl_ast.specs.declared.typed.Value.{Value}
use Rattle.sl_ast.specs.Names.{is_light}
use Rattle.sl_ast.specs.TreeView.{tree_of}
use Rattle.sl_ast.specs.Typed.{Tree}
use Rattle.builtins.specs.Differences.{Lines}
use Rattle.builtins.specs.Lights.{Light}
use Rattle.builtins.specs.Shapes.{shape}
use Rattle.builtins.specs.Values.{shape_of}
use Rattle.grid_code.specs.declared.shader_code.Code.{Code}
use Rattle.grid_code.specs.Masked.{Ground, State, masked}
use Rattle.grid_code.specs.Names.{first_free}
use Rattle.grid_code.specs.View.{block_of}
use Rattle.sl_meaning.specs.Core as core
use Rattle.sl_meaning.specs.Environment.{zero_value}
use Rattle.sl_meaning.specs.Lowered.{body_of}
use Rattle.core_codegen.specs.Correct.{Answers}
use Rattle.mask_codegen.specs.CoreLights.{lights_in_all}
use Rattle.mask_codegen.proofs.LightAnswers.{dim, light_answers}
use Rattle.mask_codegen.proofs.LightAnswers as tree_answers
use Rattle.grid_machine.specs.Asked.{IsLight, answer_at, begun_at, asked}
use Rattle.displace_shade.specs.Lamps.{IsLamp, lamp_light, lamp_asked}
use Rattle.grid_variables.specs.Points.{Leaf}
use Rattle.displace_shade.specs.Rows.{slot_of}
use Rattle.shader_binding.specs.Sets.{SetValue}
use Rattle.shader_binding.specs.Sets.{Bound, bound_at}
use Rattle.displace_shade.specs.Shaded.{light_spaces, light_of, with_light, lights_from}
use Rattle.displace_shade.specs.Shop.{bound_value}
use Rattle.displace_shade.specs.declared.lamps.Lamp.{Lamp}
use Rattle.displace_shade.proofs.Begun.{values_counted, values_shaped}
use Rattle.displace_shade.proofs.LightBegins.{from_shapes, light_begins}
use Rattle.displace_shade.proofs.Starts.{AreParams}

same_answer : (lights : Bool) (s : State) (i : ℕ) → answer_at lights s i ≡ tree_answers.answer_at lights s i
same_answer true s i = refl
same_answer false s i = refl

module _ (l : Leaf) (x : Lamp) (h : IsLamp l x) where
  abbrev tree : Tree
  tree = tree_of x.shader.compiled.now.tree

  abbrev code : Code
  code = x.shader.compiled.now.code

  abbrev values : List Value
  values = x.shader.values.now

  params : AreParams code.params tree.params values
  params = record { slots = h.runs.code.params; values = h.runs.values }

  counted : length (map slot_of code.params) ≡ length code.params
  counted = length-map code.params slot_of

  -- it can be run as a light
  pub lamp_runs : IsLight code values
  lamp_runs = record {
    kind = ap is_light (h.runs.code.kind ∙ h.kind);
    shapes =
        from_shapes first_free code.params values (values_counted tree.params values h.runs.values ∙ ap (λ xs. length xs) (sym h.runs.code.params) ∙ counted)
        (λ k m. subst (λ q. k < length q → shape (get_or values k zero_value) ≡ shape_of (get_or q k core.no_slot).kind) (sym h.runs.code.params)
        (λ z. values_shaped tree.params values h.runs.values k z) (subst (λ n. k < n) (sym counted) m));
  }

  -- its code answers at each place what its tree answers there
  lamp_answers : (ls : Lines) → 2 ≤ ls.columns → 2 ≤ ls.rows → (q : ℕ → Vec3) (i : ℕ) → i < ls.columns * ls.rows → lamp_asked ls (ls.columns * ls.rows) x q i ≡ lamp_light l x (q i)
  lamp_answers ls wide tall q i m =
      let c = ls.columns * ls.rows in
      let block = block_of code.nodes in
      let sp = light_spaces l (bound_value x.shader) in
      let s = begun_at code.params c values q in
      let g : Ground = record { lines = ls; spaces = sp; lights = []; images = λ k. None } in
      ap (λ z. asked ls c z code values q i) h.spaces
      ∙ ap (λ b. answer_at b (masked block g c 65536 s) i) h.runs.code.lights
      ∙ same_answer (lights_in_all (body_of tree)) (masked block g c 65536 s) i
      ∙ light_answers tree block x.shader.compiled.now.tree.typed h.runs.code.settled h.kind h.runs.code.means ls sp values q g s
      (light_begins (dim ls sp) code.params tree.params values q wide tall params) record { lines = refl; spaces = refl; lights = tt; images = λ k. refl } i m

-- so do all of them
pub lamps_answer : (l : Leaf) (ls : Lines) → 2 ≤ ls.columns → 2 ≤ ls.rows → (xs : List Lamp) → All (IsLamp l) xs → Answers (ls.columns * ls.rows) (map (lamp_asked ls (ls.columns * ls.rows)) xs) (map (lamp_light l) xs)
lamps_answer l ls wide tall [] h = tt
lamps_answer l ls wide tall (x ∷ xs) h = (lamp_answers l x (h 0 x (omega arith)) ls wide tall, lamps_answer l ls wide tall xs (λ k d m. h (suc k) d (omega arith)))

-- ---- lights taken one after another
with_more : (l : Leaf) (o : Option Bound) (xs ys : List (Vec3 → Light)) → with_light l o (xs ++ ys) ≡ with_light l o xs ++ ys
with_more l None xs ys = refl
with_more l (Some b) xs ys = refl

lights_more : (l : Leaf) (s : SetValue) (uses : List ShaderUse) (ns : List ℕ) (n : ℕ) (b : Bound) → bound_at s uses n ≡ Some b → lights_from l s uses (ns ++ n ∷ []) ≡ lights_from l s uses ns ++ light_of l b ∷ []
lights_more l s uses [] n b e = ap (λ o. with_light l o []) e
lights_more l s uses (k ∷ ns) n b e = ap (with_light l (bound_at s uses k)) (lights_more l s uses ns n b e) ∙ with_more l (bound_at s uses k) (lights_from l s uses ns) (light_of l b ∷ [])

-- one light behind the first k of a list
pub lamps_more : (l : Leaf) (s : SetValue) (uses : List ShaderUse) (ns : List ℕ) (k n : ℕ) (x : Lamp) (items new : List Lamp) → k < length ns → n ≡ get_or ns k 0 → bound_at s uses n ≡ Some (bound_value x.shader) → new ≡ items ++ x ∷ [] →
    map (lamp_light l) items ≡ lights_from l s uses (take k ns) → map (lamp_light l) new ≡ lights_from l s uses (take (k + 1) ns)
lamps_more l s uses ns k n x items new m en eb ex h =
    ap (map (lamp_light l)) ex ∙ map-append (lamp_light l) items (x ∷ []) ∙ ap (λ xs. xs ++ lamp_light l x ∷ []) h
    ∙ sym (ap (lights_from l s uses) (take_more ns k 0 m ∙ ap (λ z. take k ns ++ z ∷ []) (sym en)) ∙ lights_more l s uses (take k ns) n (bound_value x.shader) eb)
