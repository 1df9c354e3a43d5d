-- What the variables at the points are behind each shader, by the rows that its code leaves.
use Rattle.std.specs.Prelude.{Result, Ok, Err, IfOk, None}
use Rattle.std.proofs.Common.{◌≡◌, ℕ, ◌<◌, ◌≤ℤ◌, true, false, ℤ, pos, List, length, map, get_or, refl, sym, ap, ◌∙◌, subst, arith}
use Rattle.std.proofs.lemmas.Bool.{cond-false, false≢true}
use Rattle.std.proofs.lemmas.List.{get_or-map, length-map}
use Rattle.fixed_math.specs.Axes.{origin}
use Rattle.fixed_math.specs.declared.vec3.Vec3.{Vec3}
use Rattle.scene.specs.declared.uses.ShaderUse.{ShaderUse}
use Rattle.sl_ast.specs.declared.kinds.Predefined.{Predefined}
use Rattle.sl_ast.specs.declared.kinds.Predefined.TheVariants as names
use Rattle.sl_ast.specs.declared.kinds.SlKind.{SlKind}
use Rattle.sl_ast.specs.declared.kinds.SlKind.TheVariants.{Surface, Displacement, Volume}
use Rattle.sl_ast.specs.declared.typed.Value.{Value}
use Rattle.sl_ast.specs.declared.typed.Value.TheVariants.{Number, Triple}
use Rattle.sl_ast.specs.Typed.{Tree}
use Rattle.sl_ast.specs.Names.{name_type, writes}
use Rattle.sl_ast.specs.Classes.{is_uniform_name}
use Rattle.builtins.specs.Shapes.{shape}
use Rattle.builtins.specs.Values.{shape_of, triple_of}
use Rattle.sl_meaning.specs.Environment.{Around}
use Rattle.sl_meaning.specs.Runs.{Names, ran}
use Rattle.dice.specs.declared.diced.GridRef.{GridRef}
use Rattle.shader_binding.specs.Sets.{SetValue}
use Rattle.grid_variables.specs.Points.{Leaf, columns, rows, point_at, sight, lines}
use Rattle.grid_variables.specs.Kept.{moved, opacity}
use Rattle.displace_shade.specs.Shaded.{diced_names, placed, displaced, GridValue, shaded_names, shaded}
use Rattle.place_rows.specs.Layout.{row_length}
use Rattle.displace_shade.specs.Rows.{HoldNames, written_order}
use Rattle.grid_variables.specs.Places.{point_count, over, normals_of, IsSized}
use Rattle.grid_rows.specs.Rows.{triple_in}
use Rattle.displace_shade.specs.Diced.{names_of, Hold, grid_value}
use Rattle.grid_variables.specs.declared.variables.Variables.{Variables}
use Rattle.displace_shade.proofs.Begun.{AreNames}
use Rattle.grid_variables.proofs.Bounded.{unmoved}
use Rattle.grid_variables.proofs.Over.{over_at, over_all, over_long}

-- ---- they are values of their shapes, and the uniform ones are alike
of_shapes : (l : Leaf) (d : Variables) (i : ℕ) (p : Predefined) → shape (names_of l d i p) ≡ shape_of (name_type p)
of_shapes l d i names.P = refl
of_shapes l d i _ = refl

alike : (l : Leaf) (d : Variables) (i : ℕ) (p : Predefined) → is_uniform_name p ≡ true → names_of l d 0 p ≡ names_of l d i p
alike l d i names.E h = refl
alike l d i names.Du h = refl
alike l d i names.Dv h = refl
alike l d i names.Pi h = refl
alike l d i _ h = absurd (false≢true h)

pub hold_names : (l : Leaf) (d : Variables) (f : ℕ → Names) → Hold l d f → AreNames (point_count l) f
hold_names l d f h =
    record {
      shaped = λ i p k. ap shape (h.at i p k) ∙ of_shapes l d i p;
      steady = λ i p k u. h.at 0 p (omega arith) ∙ alike l d i p u ∙ sym (h.at i p k);
      eye = λ i k. h.at i names.E k;
      towards = λ i k. h.at i names.L k;
      colour = λ i k. h.at i names.Cl k;
    }

pub hold_steps : (l : Leaf) (d : Variables) (f : ℕ → Names) → Hold l d f → 0 < point_count l → (f 0 names.Du ≡ Number (lines l).du) × (f 0 names.Dv ≡ Number (lines l).dv)
hold_steps l d f h some = (h.at 0 names.Du some, h.at 0 names.Dv some)

-- ---- behind a run
-- what isn't written is as it was
kept : (t : Tree) (a : Around) (vs : ℕ → List Value) (f : ℕ → Names) (i : ℕ) (p : Predefined) → writes t.kind p ≡ false → ran t a vs f i p ≡ f i p
kept t a vs f i p e = cond-false (writes t.kind p) _ (f i p) e

module _ (l : Leaf) (t : Tree) (a : Around) (vs : ℕ → List Value) (f : ℕ → Names) (d e : Variables) (h : Hold l d f) (out : List ℤ) (left : (i : ℕ) → i < point_count l → HoldNames (ran t a vs f i) (written_order t.kind) out (row_length (point_count l)) 0 i) where
  abbrev triples : ℕ → ℕ → Vec3
  triples k = triple_in out (row_length (point_count l)) k

  passed : (kind : SlKind) → t.kind ≡ kind → (i : ℕ) (p : Predefined) → i < point_count l → writes kind p ≡ false → ran t a vs f i p ≡ names_of l d i p
  passed kind k i p m w = kept t a vs f i p (ap (λ q. writes q p) k ∙ w) ∙ h.at i p m

  pub displaced_hold : t.kind ≡ Displacement → e.points.now ≡ over (point_count l) (triple_in out (row_length (point_count l)) 0) → normals_of l e.normals ≡ over (point_count l) (triple_in out (row_length (point_count l)) 3) →
      e.sights.now ≡ d.sights.now → e.colours.now ≡ d.colours.now → e.opacities.now ≡ d.opacities.now → Hold l e (ran t a vs f)
  displaced_hold k ep en es ec eo = record { at = λ i p m. at i p m }
    where
      written : (i : ℕ) → i < point_count l → HoldNames (ran t a vs f i) (written_order Displacement) out (row_length (point_count l)) 0 i
      written i m = subst (λ q. HoldNames (ran t a vs f i) (written_order q) out (row_length (point_count l)) 0 i) k (left i m)

      at : (i : ℕ) (p : Predefined) → i < point_count l → ran t a vs f i p ≡ names_of l e i p
      at i names.P m = (written i m).0 ∙ ap (λ q. Triple q) (sym (ap (λ xs. get_or xs i origin) ep ∙ over_at (triples 0) (point_count l) i origin m))
      at i names.N m = (written i m).1.0 ∙ ap (λ q. Triple q) (sym (ap (λ xs. get_or xs i origin) en ∙ over_at (triples 3) (point_count l) i origin m))
      at i names.I m = passed Displacement k i names.I m refl ∙ ap (λ xs. Triple (get_or xs i origin)) (sym es)
      at i names.Ci m = passed Displacement k i names.Ci m refl ∙ ap (λ xs. Triple (get_or xs i origin)) (sym ec)
      at i names.Oi m = passed Displacement k i names.Oi m refl ∙ ap (λ xs. Triple (get_or xs i origin)) (sym eo)
      at i p m = passed Displacement k i p m refl

  coloured : (kind : SlKind) → t.kind ≡ kind → ((i : ℕ) → i < point_count l → (ran t a vs f i names.Ci ≡ Triple (triples 0 i)) × (ran t a vs f i names.Oi ≡ Triple (triples 3 i))) → ((p : Predefined) → writes kind p ≡ writes Surface p) →
      e.colours.now ≡ over (point_count l) (triple_in out (row_length (point_count l)) 0) → e.opacities.now ≡ over (point_count l) (triple_in out (row_length (point_count l)) 3) →
      e.points.now ≡ d.points.now → e.normals ≡ d.normals → e.sights.now ≡ d.sights.now → Hold l e (ran t a vs f)
  coloured kind k written same ec eo ep en es = record { at = λ i p m. at i p m }
    where
      at : (i : ℕ) (p : Predefined) → i < point_count l → ran t a vs f i p ≡ names_of l e i p
      at i names.Ci m = (written i m).0 ∙ ap (λ q. Triple q) (sym (ap (λ xs. get_or xs i origin) ec ∙ over_at (triples 0) (point_count l) i origin m))
      at i names.Oi m = (written i m).1 ∙ ap (λ q. Triple q) (sym (ap (λ xs. get_or xs i origin) eo ∙ over_at (triples 3) (point_count l) i origin m))
      at i names.P m = passed kind k i names.P m (same names.P) ∙ ap (λ xs. Triple (get_or xs i origin)) (sym ep)
      at i names.N m = passed kind k i names.N m (same names.N) ∙ ap (λ q. Triple (get_or (normals_of l q) i origin)) (sym en)
      at i names.I m = passed kind k i names.I m (same names.I) ∙ ap (λ xs. Triple (get_or xs i origin)) (sym es)
      at i p m = passed kind k i p m (same p)

  pub surface_hold : t.kind ≡ Surface → e.colours.now ≡ over (point_count l) (triple_in out (row_length (point_count l)) 0) → e.opacities.now ≡ over (point_count l) (triple_in out (row_length (point_count l)) 3) →
      e.points.now ≡ d.points.now → e.normals ≡ d.normals → e.sights.now ≡ d.sights.now → Hold l e (ran t a vs f)
  surface_hold k = coloured Surface k (λ i m. let w = subst (λ q. HoldNames (ran t a vs f i) (written_order q) out (row_length (point_count l)) 0 i) k (left i m) in (w.0, w.1.0)) (λ p. refl)

  pub volume_hold : t.kind ≡ Volume → e.colours.now ≡ over (point_count l) (triple_in out (row_length (point_count l)) 0) → e.opacities.now ≡ over (point_count l) (triple_in out (row_length (point_count l)) 3) →
      e.points.now ≡ d.points.now → e.normals ≡ d.normals → e.sights.now ≡ d.sights.now → Hold l e (ran t a vs f)
  volume_hold k = coloured Volume k (λ i m. let w = subst (λ q. HoldNames (ran t a vs f i) (written_order q) out (row_length (point_count l)) 0 i) k (left i m) in (w.0, w.1.0)) (λ p. refl)

-- ---- behind the displacement: points kept near their old places, and seen from there
pub placed_hold : (l : Leaf) (old d e : Variables) (f g : ℕ → Names) → Hold l old f → Hold l d g → length old.points.now ≡ point_count l →
    e.points.now ≡ over (length old.points.now) (λ i. moved l.prim.bound (get_or old.points.now i origin) (get_or d.points.now i origin)) → e.sights.now ≡ map (sight l.camera) e.points.now →
    e.normals ≡ d.normals → e.colours.now ≡ d.colours.now → e.opacities.now ≡ d.opacities.now → Hold l e (λ i. placed l (f i) (g i))
placed_hold l old d e f g hf hg long ep es en ec eo = record { at = λ i p m. at i p m }
  where
    near : ℕ → Vec3
    near i = moved l.prim.bound (get_or old.points.now i origin) (get_or d.points.now i origin)

    near_by : (i : ℕ) → i < point_count l → moved l.prim.bound (triple_of (f i names.P)) (triple_of (g i names.P)) ≡ get_or e.points.now i origin
    near_by i m =
        ap (λ v. moved l.prim.bound (triple_of v) (triple_of (g i names.P))) (hf.at i names.P m) ∙ ap (λ v. moved l.prim.bound (get_or old.points.now i origin) (triple_of v)) (hg.at i names.P m)
        ∙ sym (ap (λ xs. get_or xs i origin) ep ∙ over_at near (length old.points.now) i origin (omega (arith, long, m)))

    at : (i : ℕ) (p : Predefined) → i < point_count l → placed l (f i) (g i) p ≡ names_of l e i p
    at i names.P m = ap (λ q. Triple q) (near_by i m)
    at i names.I m =
        let there : i < length e.points.now = let k = ap (λ xs. length xs) ep ∙ over_long near (length old.points.now) in omega (arith, k, long, m) in
        ap (λ q. Triple (sight l.camera q)) (near_by i m) ∙ ap (λ q. Triple q) (sym (ap (λ xs. get_or xs i origin) es ∙ get_or-map (sight l.camera) e.points.now i origin origin there))
    at i names.N m = hg.at i names.N m ∙ ap (λ q. Triple (get_or (normals_of l q) i origin)) (sym en)
    at i names.Ci m = hg.at i names.Ci m ∙ ap (λ xs. Triple (get_or xs i origin)) (sym ec)
    at i names.Oi m = hg.at i names.Oi m ∙ ap (λ xs. Triple (get_or xs i origin)) (sym eo)
    at i p m = hg.at i p m

-- nothing moves without a displacement
pub stays_hold : (l : Leaf) (d : Variables) → pos 0 ≤ℤ l.prim.bound → Hold l d (diced_names l) → Hold l d (displaced l None)
stays_hold l d b h = record { at = λ i p m. stays i p ∙ h.at i p m }
  where
    near : (i : ℕ) → moved l.prim.bound (point_at l i) (point_at l i) ≡ point_at l i
    near i = unmoved l.prim.bound (point_at l i) b

    stays : (i : ℕ) (p : Predefined) → displaced l None i p ≡ diced_names l i p
    stays i names.P = ap (λ q. Triple q) (near i)
    stays i names.I = ap (λ q. Triple (sight l.camera q)) (near i)
    stays i p = refl

pub near_sized : (l : Leaf) (old d e : Variables) → IsSized l old → IsSized l d → e.points.now ≡ over (length old.points.now) (λ i. moved l.prim.bound (get_or old.points.now i origin) (get_or d.points.now i origin)) → e.sights.now ≡ map (sight l.camera) e.points.now →
    e.normals ≡ d.normals → e.colours.now ≡ d.colours.now → e.opacities.now ≡ d.opacities.now → IsSized l e
near_sized l old d e ho hd ep es en ec eo =
    let long : length e.points.now ≡ point_count l = ap (λ xs. length xs) ep ∙ over_long (λ i. moved l.prim.bound (get_or old.points.now i origin) (get_or d.points.now i origin)) (length old.points.now) ∙ ho.points in
    record {
      points = long;
      normals = ap (λ q. length (normals_of l q)) en ∙ hd.normals;
      sights = ap (λ xs. length xs) es ∙ length-map e.points.now (sight l.camera) ∙ long;
      colours = let a = ap (λ xs. length xs) ec in let b = hd.colours in omega (arith, a, b);
      opacities = let a = ap (λ xs. length xs) eo in let b = hd.opacities in omega (arith, a, b);
    }

-- ---- behind all shaders
pub grid_is : (l : Leaf) (s : SetValue) (uses : List ShaderUse) (d : Variables) (g : GridRef) → Hold l d (shaded_names l s uses) → length d.points.now ≡ point_count l → length d.colours.now ≡ point_count l → length d.opacities.now ≡ point_count l → g.columns ≡ columns l → g.rows ≡ rows l →
    g.p.now ≡ d.points.now → g.ci.now ≡ d.colours.now → g.oi.now ≡ map opacity d.opacities.now → grid_value g ≡ shaded l s uses
unfolding shaded
grid_is l s uses d g h lp lc lo ec er ep eci eoi =
    let behind = shaded_names l s uses in
    let points : g.p.now ≡ over (point_count l) (λ i. triple_of (behind i names.P)) = ep ∙ over_all (λ i. triple_of (behind i names.P)) d.points.now (point_count l) origin lp (λ i m. sym (ap triple_of (h.at i names.P m))) in
    let colours : g.ci.now ≡ over (point_count l) (λ i. triple_of (behind i names.Ci)) = eci ∙ over_all (λ i. triple_of (behind i names.Ci)) d.colours.now (point_count l) origin lc (λ i m. sym (ap triple_of (h.at i names.Ci m))) in
    let opacities : g.oi.now ≡ over (point_count l) (λ i. opacity (triple_of (behind i names.Oi))) =
    over_all (λ i. opacity (triple_of (behind i names.Oi))) g.oi.now (point_count l) origin (ap (λ xs. length xs) eoi ∙ length-map d.opacities.now opacity ∙ lo)
    (λ i m. ap (λ xs. get_or xs i origin) eoi ∙ get_or-map opacity d.opacities.now i origin origin (omega (arith, lo, m)) ∙ ap opacity (sym (ap triple_of (h.at i names.Oi m)))) in
    same g.columns g.rows g.p.now g.ci.now g.oi.now _ _ _ _ _ ec er points colours opacities
  where
    value : ℕ → ℕ → List Vec3 → List Vec3 → List Vec3 → GridValue
    value a b p q r = record { columns = a; rows = b; points = p; colours = q; opacities = r }

    same : (a b : ℕ) (p q r : List Vec3) (a' b' : ℕ) (p' q' r' : List Vec3) → a ≡ a' → b ≡ b' → p ≡ p' → q ≡ q' → r ≡ r' → value a b p q r ≡ value a' b' p' q' r'
    same a b p q r a' b' p' q' r' e f g h k = ap (λ x. value x b p q r) e ∙ ap (λ x. value a' x p q r) f ∙ ap (λ x. value a' b' x q r) g ∙ ap (λ x. value a' b' p' x r) h ∙ ap (λ x. value a' b' p' q' x) k

-- the same of a result, where the variables are those behind all three by what is behind fewer of them
pub grid_result : {Y E : Type 0} (l : Leaf) (s : SetValue) (uses : List ShaderUse) (d : Variables) (r : Result GridRef E) → (Y → Hold l d (shaded_names l s uses)) → length d.points.now ≡ point_count l → length d.colours.now ≡ point_count l → length d.opacities.now ≡ point_count l →
    IfOk r (λ g. g.columns ≡ columns l) → IfOk r (λ g. g.rows ≡ rows l) → IfOk r (λ g. g.p.now ≡ d.points.now) → IfOk r (λ g. g.ci.now ≡ d.colours.now) → IfOk r (λ g. g.oi.now ≡ map opacity d.opacities.now) →
    IfOk r (λ g. Y → grid_value g ≡ shaded l s uses)
grid_result l s uses d (Ok g) h lp lc lo ec er ep eci eoi = λ y. grid_is l s uses d g (h y) lp lc lo ec er ep eci eoi
grid_result l s uses d (Err e) h lp lc lo ec er ep eci eoi = ec
