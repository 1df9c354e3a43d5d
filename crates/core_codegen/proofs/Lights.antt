-- Statements over lights at one place, under varying control.
use Rattle.std.proofs.Common.{◌≡◌, ℕ, ◌+◌, ◌<◌, ◌≤◌, Bool, true, false, List, [], ◌∷◌, length, get_or, map, refl, ap, ◌∙◌, arith, subst}
use Rattle.std.specs.Prelude.{not, ◌&&◌, ◌||◌, Option, Some, None, is_some}
use Rattle.std.specs.List.{cons_option}
use Rattle.std.proofs.lemmas.Bool.{and_right, and_from, cond_both, not_from_true, not_from_false}
use Rattle.fixed_math.specs.Fixed.{sub}
use Rattle.fixed_math.specs.declared.vec3.Vec3.{Vec3}
use Rattle.sl_ast.specs.declared.kinds.LightStmt.{LightStmt}
use Rattle.sl_ast.specs.declared.kinds.LightStmt.TheVariants.{Illuminance, Illuminate, Solar}
use Rattle.sl_ast.specs.declared.kinds.Predefined.TheVariants as names
use Rattle.sl_ast.specs.declared.typed.Value.{Value}
use Rattle.sl_ast.specs.declared.typed.Value.TheVariants.{Triple}
use Rattle.sl_ast.specs.Names.{name_type}
use Rattle.sl_ast.specs.Classes.{is_uniform_name}
use Rattle.builtins.specs.declared.shape.Shape.{Shape}
use Rattle.builtins.specs.declared.shape.Shape.TheVariants as shapes
use Rattle.builtins.specs.Names.{place_of}
use Rattle.builtins.specs.Triples.{each_two}
use Rattle.builtins.specs.Values.{shape_of, triple_of, truth}
use Rattle.builtins.specs.Lights.{Light, is_in_cone, shown, seen}
use Rattle.grid_code.specs.declared.code.Register.{Register}
use Rattle.grid_code.specs.declared.code.Register.TheVariants.{Varying}
use Rattle.grid_code.specs.Names.{name_at, lit_at, first_free}
use Rattle.grid_code.specs.Masked.{Asked, Ground, State, read, reads, write, under, one_part, answers, towards, colour_of, entered, under_lights, views, kindled, illuminated, from_light, over_lights}
use Rattle.sl_meaning.specs.Core.{Slot, no_slot}
use Rattle.sl_meaning.specs.Environment.{Env, Around, Signal, Next, Break, Continue, with_name}
use Rattle.sl_meaning.specs.Alone as alone
use Rattle.sl_meaning.specs.Alone.{Runs, Gives, under_light, each_light, lighting, on_next, with_args}
use Rattle.core_codegen.specs.Correct.{Holds, Answers, IsGround}
use Rattle.grid_code.proofs.Dead.{Still, still_on, write_still, under_lights_still, over_lights_still}
use Rattle.core_codegen.proofs.Relation.{place_small, Low, low_self, low_on, rel_still, rel_masks, Wrote, wrote, read_wrote, write_value}
use Rattle.core_codegen.proofs.Steps.{ExprsStep}
use Rattle.core_codegen.proofs.Stmts.{rel_named}
use Rattle.core_codegen.proofs.Scopes.{Went, Lands, StmtStep, BodyStep}
use Rattle.core_codegen.proofs.Control.{lands_moved, or_false}

module _ (c i : ℕ) (lt : i < c) (ss : List Slot) (b : ℕ) (free : first_free ≤ b) where
  abbrev Lower : State → State → Type 0
  Lower g h = Low i (b + length ss) b g h

  -- where a body leaves the place, its scope gone
  abbrev Comes : Signal × Env → State → State → Type 0
  Comes r g h = Lands i ss ss b r.0 r.1 g h × (length r.1.values ≡ length ss)

  -- a write of a varying predefined variable, or of whether a light is lit
  name_low : (s : Shape) (k : ℕ) (f : ℕ → Value) (g : State) → k < first_free → Lower g (write c (Varying s k) f g)
  name_low s k f g l = let w = wrote c i k false s f g in record { shared = λ t r h. refl; rows = λ t r a h. w.rows t r (λ e. omega arith); turns = refl }

  low_then : (g h k : State) → Lower g h → Lower h k → Lower g k
  low_then g h k x y = low_on i (b + length ss) b (b + length ss) b (b + length ss) b g h k (omega arith) (omega arith) (omega arith) (omega arith) x y

  -- under a light
  entered_low : (f : ℕ → Option (Vec3 × Vec3)) (g : State) → Lower g (entered c f g)
  entered_low f g =
      low_then g (write c (name_at names.L) (λ j. towards (f j)) g) _ (name_low shapes.Triple 15 (λ j. towards (f j)) g (omega arith)) (name_low shapes.Triple 16 (λ j. colour_of (f j)) (write c (name_at names.L) (λ j. towards (f j)) g) (omega arith))

  entered_rel : (f : ℕ → Option (Vec3 × Vec3)) (light : Vec3 × Vec3) (e : Env) (g : State) → f i ≡ Some light → g.live i ≡ true → Holds i ss b e g → Holds i ss b (under_light light e) (entered c f g)
  entered_rel f light e g is live rel =
      let h = write c (name_at names.L) (λ j. towards (f j)) g in
      let one = rel_named i ss b names.L e (Triple light.0) g h free (wrote c i 15 false shapes.Triple (λ j. towards (f j)) g) (write_value c i 15 false shapes.Triple (λ j. towards (f j)) g lt live (λ z. cc) ∙ ap towards is) rel in
      rel_named i ss b names.Cl (with_name names.L (Triple light.0) e) (Triple light.1) h (entered c f g) free (wrote c i 16 false shapes.Triple (λ j. colour_of (f j)) h) (write_value c i 16 false shapes.Triple (λ j. colour_of (f j)) h lt live (λ z. cc) ∙ ap colour_of is) one

  kindled_low : (f : ℕ → Vec3) (g : State) → Lower g (kindled c f g)
  kindled_low f g =
      low_then g (write c (name_at names.L) (λ j. Triple (f j)) g) _ (name_low shapes.Triple 15 (λ j. Triple (f j)) g (omega arith)) (name_low shapes.Number 21 (λ j. truth true) (write c (name_at names.L) (λ j. Triple (f j)) g) (omega arith))

  rel_lit : (e : Env) (g h : State) → Wrote i 21 g h → read h lit_at i ≡ truth true → Holds i ss b e g → Holds i ss b record e { lit = true } h
  rel_lit e g h w is rel =
      let small : (k : ℕ) → k < 21 → k ≡ 21 → ⊥ = λ k l z. omega arith in
      record {
        named = λ p. read_wrote i 21 g h (is_uniform_name p) (shape_of (name_type p)) (place_of p) (small (place_of p) (place_small p)) w ∙ rel.named p;
        lit = is;
        values = λ k l. read_wrote i 21 g h (get_or ss k no_slot).uniform (shape_of (get_or ss k no_slot).kind) (b + k) (λ z. omega arith) w ∙ rel.values k l;
        turns = w.turns ∙ rel.turns;
        own = w.own ∙ rel.own;
      }

  kindled_rel : (f : ℕ → Vec3) (l : Vec3) (e : Env) (g : State) → f i ≡ l → g.live i ≡ true → Holds i ss b e g → Holds i ss b record (with_name names.L (Triple l) e) { lit = true } (kindled c f g)
  kindled_rel f l e g is live rel =
      let h = write c (name_at names.L) (λ j. Triple (f j)) g in
      let one = rel_named i ss b names.L e (Triple l) g h free (wrote c i 15 false shapes.Triple (λ j. Triple (f j)) g) (write_value c i 15 false shapes.Triple (λ j. Triple (f j)) g lt live (λ z. cc) ∙ ap (λ v. Triple v) is) rel in
      rel_lit (with_name names.L (Triple l) e) h (kindled c f g) (wrote c i 21 false shapes.Number (λ j. truth true) h) (write_value c i 21 false shapes.Number (λ j. truth true) h lt live (λ z. cc)) one

  -- a part of the places: where the place is of it, and where it isn't
  part_low : (p : ℕ → Bool) (fa : State → State) (g : State) → Lower (under p g) (fa (under p g)) → Lower g (one_part p fa g)
  part_low p fa g l = record { shared = l.shared; rows = l.rows; turns = l.turns }

  part_in : (p : ℕ → Bool) (fa : State → State) (r : Signal × Env) (g : State) → p i ≡ true → Comes r (under p g) (fa (under p g)) → Comes r g (one_part p fa g)
  part_in p fa r g on x =
      let s = fa (under p g) in (
        lands_moved i ss b r.0 r.1 (under p g) s g (one_part p fa g) (ap (λ q. s.live i || q) (and_right (g.live i) (not (p i)) (not_from_true (p i) on)) ∙ or_false (s.live i)) refl refl
            (λ q. rel_masks i ss b r.1 s (one_part p fa g).live s.staying free q) x.0,
        x.1,
      )

  part_out : (p : ℕ → Bool) (fa : State → State) (e : Env) (g : State) → p i ≡ false → g.live i ≡ true → Lower (under p g) (fa (under p g)) → Still i (under p g) (fa (under p g)) → Holds i ss b e g → length e.values ≡ length ss → Went i ss b e g (one_part p fa g)
  part_out p fa e g off live l s rel exact =
      let x = fa (under p g) in
      record {
        live = ap (λ q. q || (g.live i && not (p i))) s.live ∙ and_from (g.live i) (not (p i)) live (not_from_false (p i) off);
        staying = s.staying;
        rel = rel_still i (b + length ss) b ss b e g (one_part p fa g) free (omega arith) record { shared = l.shared; rows = l.rows; turns = l.turns } record { rows = s.kept.rows; own = s.kept.own } rel;
        exact = exact;
      }

  comes_back : (x : Signal) (e : Env) (g g1 g2 : State) → g1.staying i ≡ g.staying i → Comes (x, e) g1 g2 → Comes (x, e) g g2
  comes_back x e g g1 g2 s y = (lands_moved i ss b x e g1 g2 g g2 refl refl s (λ q. q) y.0, y.1)

  module _ (vb : Runs) (bf : State → State) (bs : (s : State) → BodyStep i ss b vb s (bf s)) where
    under_low : (f : ℕ → Option (Vec3 × Vec3)) (p : ℕ → Bool) (g : State) → Lower g (one_part p (λ x. bf (entered c f x)) g)
    under_low f p g = part_low p (λ x. bf (entered c f x)) g (low_then (under p g) (entered c f (under p g)) _ (entered_low f (under p g)) (bs (entered c f (under p g))).low)

    lights_low : (fs : List (ℕ → Option (Vec3 × Vec3))) (g : State) → Lower g (under_lights c fs bf g)
    lights_low [] g = low_self i (b + length ss) b g
    lights_low (f ∷ fs) g = low_then g _ _ (under_low f (λ j. is_some (f j)) g) (lights_low fs (one_part (λ j. is_some (f j)) (λ x. bf (entered c f x)) g))

    entered_still : (f : ℕ → Option (Vec3 × Vec3)) (g : State) → g.live i ≡ false → Still i g (bf (entered c f g))
    entered_still f g h =
        let g1 = write c (name_at names.L) (λ j. towards (f j)) g in
        let x = write_still c i (name_at names.L) (λ j. towards (f j)) g h in
        let y = still_on i g g1 (entered c f g) x (write_still c i (name_at names.Cl) (λ j. colour_of (f j)) g1 x.live) in
        still_on i g (entered c f g) _ y ((bs (entered c f g)).still y.live)

    -- after the body under one light, the others
    after_light : (rest : List (Vec3 × Vec3)) (go : State → State) → ((g : State) → g.live i ≡ false → Still i g (go g)) → ((g : State) → Lower g (go g)) → ((e : Env) (g : State) → g.live i ≡ true → Holds i ss b e g → length e.values ≡ length ss → Comes (each_light rest vb e) g (go g)) → (x : Signal) (e : Env) (g g1 : State) → Comes (x, e) g g1 → Comes (on_next (x, e) (each_light rest vb)) g (go g1)
    after_light rest go sleeps low ih Next e g g1 l =
        comes_back (each_light rest vb e).0 (each_light rest vb e).1 g g1 (go g1) l.0.staying (ih e g1 l.0.live l.0.rel l.0.exact)
    after_light rest go sleeps low ih Break e g g1 l =
        let s = sleeps g1 l.0.live in
        (record { live = s.live; staying = s.staying ∙ l.0.staying; rel = rel_still i (b + length ss) b ss b e g1 (go g1) free (omega arith) (low g1) s.kept l.0.rel; long = l.0.long }, l.1)
    after_light rest go sleeps low ih Continue e g g1 l =
        let s = sleeps g1 l.0.live in
        (record { live = s.live; staying = s.staying ∙ l.0.staying; rel = rel_still i (b + length ss) b ss b e g1 (go g1) free (omega arith) (low g1) s.kept l.0.rel; long = l.0.long }, l.1)

    one_light : (o : Option (Vec3 × Vec3)) (f : ℕ → Option (Vec3 × Vec3)) → f i ≡ o → (rest : List (Vec3 × Vec3)) (go : State → State) → ((g : State) → g.live i ≡ false → Still i g (go g)) → ((g : State) → Lower g (go g)) → ((e : Env) (g : State) → g.live i ≡ true → Holds i ss b e g → length e.values ≡ length ss → Comes (each_light rest vb e) g (go g)) → (e : Env) (g : State) → g.live i ≡ true → Holds i ss b e g → length e.values ≡ length ss → Comes (each_light (cons_option o rest) vb e) g (go (one_part (λ j. is_some (f j)) (λ x. bf (entered c f x)) g))
    one_light None f is rest go sleeps low ih e g live rel exact =
        let p : ℕ → Bool = λ j. is_some (f j) in
        let fa : State → State = λ x. bf (entered c f x) in
        let off : p i ≡ false = ap is_some is in
        let l = low_then (under p g) (entered c f (under p g)) _ (entered_low f (under p g)) (bs (entered c f (under p g))).low in
        let w = part_out p fa e g off live l (entered_still f (under p g) (and_right (g.live i) (p i) off)) rel exact in
        comes_back (each_light rest vb e).0 (each_light rest vb e).1 g (one_part p fa g) _ w.staying (ih e (one_part p fa g) w.live w.rel w.exact)
    one_light (Some light) f is rest go sleeps low ih e g live rel exact =
        let p : ℕ → Bool = λ j. is_some (f j) in
        let fa : State → State = λ x. bf (entered c f x) in
        let on : p i ≡ true = ap is_some is in
        let e1 = under_light light e in
        let g1 = entered c f (under p g) in
        let here = and_from (g.live i) (p i) live on in
        let x = (bs g1).runs e1 here (entered_rel f light e (under p g) is here (rel_masks i ss b e g (under p g).live g.staying free rel)) exact in
        let y = part_in p fa (vb e1) g on (comes_back (vb e1).0 (vb e1).1 (under p g) g1 (bf g1) refl x) in
        after_light rest go sleeps low ih (vb e1).0 (vb e1).1 g (one_part p fa g) y

    lights_run : (fs : List Asked) (ls : List (Vec3 → Light)) → Answers c fs ls → (g0 : State) (place : Register) (cone : List Register) (pv : Value) (cv : List Value) → read g0 place i ≡ pv → reads g0 cone i ≡ cv → (e : Env) (g : State) → g.live i ≡ true → Holds i ss b e g → length e.values ≡ length ss → Comes (each_light (seen cv (map (λ l. l (triple_of pv)) ls)) vb e) g (under_lights c (views fs g0 place cone) bf g)
    lights_run [] [] h g0 place cone pv cv ep ec e g live rel exact = (record { live = live; staying = refl; rel = rel; exact = exact }, exact)
    lights_run [] (l ∷ ls) h g0 place cone pv cv ep ec e g live rel exact = absurd h
    lights_run (f ∷ fs) [] h g0 place cone pv cv ep ec e g live rel exact = absurd h
    lights_run (f ∷ fs) (l ∷ ls) h g0 place cone pv cv ep ec e g live rel exact =
        let view : ℕ → Option (Vec3 × Vec3) = λ j. shown (reads g0 cone j) (answers f g0 place j) in
        let one : answers f g0 place i ≡ l (triple_of pv) = h.0 (λ j. triple_of (read g0 place j)) i lt ∙ ap (λ v. l (triple_of v)) ep in
        one_light (shown cv (l (triple_of pv))) view (ap (λ vs. shown vs (answers f g0 place i)) ec ∙ ap (shown cv) one) (seen cv (map (λ m. m (triple_of pv)) ls)) (under_lights c (views fs g0 place cone) bf)
        (λ s d. under_lights_still c i (views fs g0 place cone) bf (λ k. (bs k).still) s d) (lights_low (views fs g0 place cone)) (lights_run fs ls h.1 g0 place cone pv cv ep ec) e g live rel exact

    -- under the light itself
    kindled_still : (f : ℕ → Vec3) (g : State) → g.live i ≡ false → Still i g (bf (kindled c f g))
    kindled_still f g h =
        let g1 = write c (name_at names.L) (λ j. Triple (f j)) g in
        let x = write_still c i (name_at names.L) (λ j. Triple (f j)) g h in
        let y = still_on i g g1 (kindled c f g) x (write_still c i lit_at (λ j. truth true) g1 x.live) in
        still_on i g (kindled c f g) _ y ((bs (kindled c f g)).still y.live)

    lit_low : (p : ℕ → Bool) (f : ℕ → Vec3) (g : State) → Lower g (illuminated c p f bf g)
    lit_low p f g = part_low p (λ x. bf (kindled c f x)) g (low_then (under p g) (kindled c f (under p g)) _ (kindled_low f (under p g)) (bs (kindled c f (under p g))).low)

    lit_in : (p : ℕ → Bool) (f : ℕ → Vec3) (l : Vec3) (e : Env) (g : State) → p i ≡ true → f i ≡ l → g.live i ≡ true → Holds i ss b e g → length e.values ≡ length ss → Comes (lighting l vb e) g (illuminated c p f bf g)
    lit_in p f l e g on is live rel exact =
        let fa : State → State = λ x. bf (kindled c f x) in
        let e1 = record (with_name names.L (Triple l) e) { lit = true } in
        let g1 = kindled c f (under p g) in
        let here = and_from (g.live i) (p i) live on in
        let x = (bs g1).runs e1 here (kindled_rel f l e (under p g) is here (rel_masks i ss b e g (under p g).live g.staying free rel)) exact in
        part_in p fa (vb e1) g on (comes_back (vb e1).0 (vb e1).1 (under p g) g1 (bf g1) refl x)

    lit_out : (p : ℕ → Bool) (f : ℕ → Vec3) (e : Env) (g : State) → p i ≡ false → g.live i ≡ true → Holds i ss b e g → length e.values ≡ length ss → Comes (Next, e) g (illuminated c p f bf g)
    lit_out p f e g off live rel exact =
        let fa : State → State = λ x. bf (kindled c f x) in
        let l = low_then (under p g) (kindled c f (under p g)) _ (kindled_low f (under p g)) (bs (kindled c f (under p g))).low in
        (part_out p fa e g off live l (kindled_still f (under p g) (and_right (g.live i) (p i) off)) rel exact, exact)

    over_low : (which : LightStmt) (k0 : Ground) (qs : List Register) (g : State) → Lower g (over_lights c which k0 qs bf g)
    over_low which k0 [] g = low_self i (b + length ss) b g
    over_low Illuminance k0 (place ∷ cone) g = lights_low (views k0.lights g place cone) g
    over_low Illuminate k0 (place ∷ cone) g = lit_low (λ j. is_in_cone (reads g cone j) (from_light g place j)) (from_light g place) g
    over_low Solar k0 (axis ∷ angle) g = lit_low (λ j. true) (λ j. triple_of (read g axis j)) g

    over_runs : (which : LightStmt) (k0 : Ground) (a : Around) → IsGround c k0 a → (qs : List Register) (e : Env) (g : State) → g.live i ≡ true → Holds i ss b e g → length e.values ≡ length ss → Comes (alone.over_lights which a (reads g qs i) vb e) g (over_lights c which k0 qs bf g)
    over_runs Illuminance k0 a ground [] e g live rel exact = (record { live = live; staying = refl; rel = rel; exact = exact }, exact)
    over_runs Illuminate k0 a ground [] e g live rel exact = (record { live = live; staying = refl; rel = rel; exact = exact }, exact)
    over_runs Solar k0 a ground [] e g live rel exact = (record { live = live; staying = refl; rel = rel; exact = exact }, exact)
    over_runs Illuminance k0 a ground (place ∷ cone) e g live rel exact =
        lights_run k0.lights a.lights ground.lights g place cone (read g place i) (reads g cone i) refl refl e g live rel exact
    over_runs Solar k0 a ground (axis ∷ angle) e g live rel exact = lit_in (λ j. true) (λ j. triple_of (read g axis j)) (triple_of (read g axis i)) e g refl refl live rel exact
    over_runs Illuminate k0 a ground (place ∷ cone) e g live rel exact =
        let p : ℕ → Bool = λ j. is_in_cone (reads g cone j) (from_light g place j) in
        let l = each_two sub (triple_of (e.named names.Ps)) (triple_of (read g place i)) in
        let at : from_light g place i ≡ l = ap (λ v. each_two sub (triple_of v) (triple_of (read g place i))) (rel.named names.Ps) in
        let at_p : p i ≡ is_in_cone (reads g cone i) l = ap (is_in_cone (reads g cone i)) at in
        cond_both (is_in_cone (reads g cone i) l) (lighting l vb e) (Next, e) (λ r. Comes r g (illuminated c p (from_light g place) bf g))
        (λ h. lit_in p (from_light g place) l e g (at_p ∙ h) at live rel exact)
        (λ h. lit_out p (from_light g place) e g (at_p ∙ h) live rel exact)

    pub lights_step : (which : LightStmt) (k0 : Ground) (a : Around) → IsGround c k0 a → (m : ℕ) (qs : List Register) (va : Gives (List Value)) (g g1 : State) → b + length ss ≤ m → ExprsStep i ss b m qs va g g1 → (g.live i ≡ false → Still i g g1) → StmtStep i ss ss b (with_args va (λ vs. alone.over_lights which a vs vb)) g (over_lights c which k0 qs bf g1)
    lights_step which k0 a ground m qs va g g1 fit sa sleeps =
        record {
          low = low_on i (b + length ss) b m m (b + length ss) b g g1 _ (omega arith) (omega arith) (omega arith) (omega arith) sa.low (over_low which k0 qs g1);
          still = λ h. let z = sleeps h in still_on i g g1 _ z (over_lights_still c i which k0 qs bf (λ s. (bs s).still) g1 z.live);
          runs = λ e live rel exact.
              let x = sa.runs e live rel exact in
              let y = subst (λ vs. Comes (alone.over_lights which a vs vb (va e).1) g1 (over_lights c which k0 qs bf g1)) x.values (over_runs which k0 a ground qs (va e).1 g1 x.live x.rel x.exact) in
              (comes_back (alone.over_lights which a (va e).0 vb (va e).1).0 (alone.over_lights which a (va e).0 vb (va e).1).1 g g1 _ x.staying y).0;
        }
