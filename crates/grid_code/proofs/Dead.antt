-- A place that isn't live keeps its rows and its budget.
use Rattle.std.proofs.Common.{◌≡◌, ℕ, zero, suc, Bool, true, false, refl, ap, ◌∙◌, List, [], ◌∷◌}
use Rattle.std.specs.Prelude.{not, ◌&&◌, ◌||◌, ◌==◌, Option, is_some}
use Rattle.std.proofs.lemmas.Bool.{and_left, and_right, cond-false, cond_both}
use Rattle.fixed_math.specs.declared.vec3.Vec3.{Vec3}
use Rattle.sl_ast.specs.declared.kinds.Predefined.TheVariants as names
use Rattle.sl_ast.specs.declared.kinds.LightStmt.{LightStmt}
use Rattle.sl_ast.specs.declared.kinds.LightStmt.TheVariants.{Illuminance, Illuminate, Solar}
use Rattle.sl_ast.specs.declared.typed.Value.{Value}
use Rattle.sl_ast.specs.declared.typed.Value.TheVariants.{Triple}
use Rattle.builtins.specs.Values.{is_true, triple_of, truth}
use Rattle.builtins.specs.Differences.{difference}
use Rattle.builtins.specs.Textures.{textured}
use Rattle.builtins.specs.Lights.{is_in_cone, sum_of}
use Rattle.grid_code.specs.declared.code.Register.{Register}
use Rattle.grid_code.specs.declared.code.Register.TheVariants.{Uniform, Varying}
use Rattle.grid_code.specs.Names.{name_at, lit_at}
use Rattle.grid_code.specs.Code.{Block, end, put, differ, sum, texture, branch, loops, lights, breaks, continues}
use Rattle.grid_code.specs.Turns.{Unchanged}
use Rattle.grid_code.specs.Masked.{Ground, State, any, same_shape, read, reads, result_of, write, under, both_parts, one_part, take_turn, going, turn, turns_of, looped, all_answers, towards, colour_of, entered, under_lights, views, kindled, from_light, over_lights, masked}

pub record Still (i : ℕ) (g h : State) : Type 0 where
  pub live : h.live i ≡ false
  pub staying : h.staying i ≡ g.staying i
  pub kept : Unchanged i g h

pub kept_self : (i : ℕ) (g : State) → Unchanged i g g
kept_self i g = record { rows = λ t k. refl; own = refl }

pub kept_on : (i : ℕ) (g h k : State) → Unchanged i g h → Unchanged i h k → Unchanged i g k
kept_on i g h k a b = record { rows = λ t r. b.rows t r ∙ a.rows t r; own = b.own ∙ a.own }

pub still_on : (i : ℕ) (g h k : State) → Still i g h → Still i h k → Still i g k
still_on i g h k a b = record { live = b.live; staying = b.staying ∙ a.staying; kept = kept_on i g h k a.kept b.kept }

pub write_still : (c i : ℕ) (r : Register) (f : ℕ → Value) (g : State) → g.live i ≡ false → Still i g (write c r f g)
write_still c i (Uniform s r) f g h = record { live = h; staying = refl; kept = record { rows = λ t k. refl; own = refl } }
write_still c i (Varying s r) f g h =
    record { live = h; staying = refl; kept = record { rows = λ t k. cond-false _ _ _ (and_right (same_shape t s) _ (and_right (k == r) (g.live i) h)); own = refl } }

-- a step that leaves such places as they were
abbrev pub Sleeps : ℕ → (State → State) → Type 0
Sleeps i f = (g : State) → g.live i ≡ false → Still i g (f g)

pub parts_still : (i : ℕ) (p : ℕ → Bool) (a b : State → State) → Sleeps i a → Sleeps i b → Sleeps i (both_parts p a b)
parts_still i p a b ha hb g h =
    let x = ha (under p g) (and_left (g.live i) (p i) h) in
    let y = hb record (a (under p g)) { live = λ j. g.live j && not (p j) } (and_left (g.live i) (not (p i)) h) in
    record {
      live = ap (λ v. v || (b record (a (under p g)) { live = λ j. g.live j && not (p j) }).live i) x.live ∙ y.live;
      staying = y.staying ∙ x.staying;
      kept = record { rows = λ t k. y.kept.rows t k ∙ x.kept.rows t k; own = y.kept.own ∙ x.kept.own };
    }

pub part_still : (i : ℕ) (p : ℕ → Bool) (a : State → State) → Sleeps i a → Sleeps i (one_part p a)
part_still i p a ha g h =
    let x = ha (under p g) (and_left (g.live i) (p i) h) in
    record {
      live = ap (λ v. v || (g.live i && not (p i))) x.live ∙ and_left (g.live i) (not (p i)) h;
      staying = x.staying;
      kept = record { rows = λ t k. x.kept.rows t k; own = x.kept.own };
    }

pub take_kept : (i : ℕ) (u : Bool) (g : State) → g.live i ≡ false → Unchanged i g (take_turn u g)
take_kept i true g h = record { rows = λ t k. refl; own = refl }
take_kept i false g h = record { rows = λ t k. refl; own = cond-false _ _ _ h }

-- what a turn of the other places leaves at the place, before the step
record Passed (i : ℕ) (g h : State) : Type 0 where
  out : h.staying i ≡ false
  kept : Unchanged i g h

turn_passed : (i : ℕ) (u : Bool) (p : ℕ → Bool) (body : State → State) → Sleeps i body → (g : State) → p i ≡ false → Passed i g (body (take_turn u record g { live = p; staying = p }))
turn_passed i true p body hb g h =
    let y = hb (take_turn true record g { live = p; staying = p }) h in
    record { out = y.staying ∙ h; kept = record { rows = λ t k. y.kept.rows t k; own = y.kept.own } }
turn_passed i false p body hb g h =
    let y = hb (take_turn false record g { live = p; staying = p }) h in
    record { out = y.staying ∙ h; kept = record { rows = λ t k. y.kept.rows t k; own = y.kept.own ∙ cond-false _ _ _ h } }

-- a turn of the other places
pub turn_still : (i : ℕ) (u : Bool) (p : ℕ → Bool) (step body : State → State) → Sleeps i step → Sleeps i body → (g : State) → p i ≡ false → ((turn u p step body g).live i ≡ false) × Unchanged i g (turn u p step body g)
turn_still i u p step body hs hb g h =
    let y = turn_passed i u p body hb g h in
    let z = hs record (body (take_turn u record g { live = p; staying = p })) { live = (body (take_turn u record g { live = p; staying = p })).staying } y.out in
    (z.live, record { rows = λ t k. z.kept.rows t k ∙ y.kept.rows t k; own = z.kept.own ∙ y.kept.own })

pub turns_still : (n c i : ℕ) (u : Bool) (ask : State → State) (r : Register) (step body : State → State) → Sleeps i ask → Sleeps i step → Sleeps i body → (g : State) → g.live i ≡ false → Unchanged i g (turns_of n c u ask r step body g)
turns_still zero c i u ask r step body ht hs hb g h = (ht g h).kept
turns_still (suc n) c i u ask r step body ht hs hb g h =
    let x = ht g h in
    let p = going u r (ask g) in
    let y = turn_still i u p step body hs hb (ask g) (and_left ((ask g).live i) _ x.live) in
    cond_both (any c p) (turns_of n c u ask r step body (turn u p step body (ask g))) (ask g) (λ s. Unchanged i g s)
    (λ e. kept_on i g (ask g) _ x.kept (kept_on i (ask g) _ _ y.1 (turns_still n c i u ask r step body ht hs hb _ y.0)))
    (λ e. x.kept)

pub and_one : (b : Bool) → (b && true) ≡ b
and_one true = refl
and_one false = refl

-- under lights
entered_sleeps : (c i : ℕ) (f : ℕ → Option (Vec3 × Vec3)) (a : State → State) → Sleeps i a → Sleeps i (λ x. a (entered c f x))
entered_sleeps c i f a ha g h =
    let x = write_still c i (name_at names.L) (λ j. towards (f j)) g h in
    let y = write_still c i (name_at names.Cl) (λ j. colour_of (f j)) (write c (name_at names.L) (λ j. towards (f j)) g) x.live in
    let z = still_on i g _ _ x y in
    still_on i g _ _ z (ha _ z.live)

pub under_lights_still : (c i : ℕ) (fs : List (ℕ → Option (Vec3 × Vec3))) (a : State → State) → Sleeps i a → Sleeps i (under_lights c fs a)
under_lights_still c i [] a ha g h = record { live = h; staying = refl; kept = kept_self i g }
under_lights_still c i (f ∷ rest) a ha g h =
    let x = part_still i (λ j. is_some (f j)) (λ s. a (entered c f s)) (entered_sleeps c i f a ha) g h in
    still_on i g _ _ x (under_lights_still c i rest a ha _ x.live)

kindled_sleeps : (c i : ℕ) (f : ℕ → Vec3) (a : State → State) → Sleeps i a → Sleeps i (λ x. a (kindled c f x))
kindled_sleeps c i f a ha g h =
    let x = write_still c i (name_at names.L) (λ j. Triple (f j)) g h in
    let y = write_still c i lit_at (λ j. truth true) (write c (name_at names.L) (λ j. Triple (f j)) g) x.live in
    let z = still_on i g _ _ x y in
    still_on i g _ _ z (ha _ z.live)

pub over_lights_still : (c i : ℕ) (w : LightStmt) (g0 : Ground) (qs : List Register) (a : State → State) → Sleeps i a → Sleeps i (over_lights c w g0 qs a)
over_lights_still c i w g0 [] a ha g h = record { live = h; staying = refl; kept = kept_self i g }
over_lights_still c i Illuminance g0 (place ∷ cone) a ha g h = under_lights_still c i (views g0.lights g place cone) a ha g h
over_lights_still c i Illuminate g0 (place ∷ cone) a ha g h =
    part_still i (λ j. is_in_cone (reads g cone j) (from_light g place j)) (λ x. a (kindled c (from_light g place) x)) (kindled_sleeps c i (from_light g place) a ha) g h
over_lights_still c i Solar g0 (axis ∷ angle) a ha g h =
    part_still i (λ j. true) (λ x. a (kindled c (λ j. triple_of (read g axis j)) x)) (kindled_sleeps c i (λ j. triple_of (read g axis j)) a ha) g h

pub dead : (x : Block) (g0 : Ground) (c n i : ℕ) (g : State) → g.live i ≡ false → Still i g (masked x g0 c n g)
dead end g0 c n i g h = record { live = h; staying = refl; kept = kept_self i g }
dead (put r o x) g0 c n i g h = let a = write_still c i r (result_of o g0 g) g h in still_on i g _ _ a (dead x g0 c n i _ a.live)
dead (differ r d q x) g0 c n i g h =
    let a = write_still c i r (difference d g0.lines g0.spaces.flip (read g q)) g h in still_on i g _ _ a (dead x g0 c n i _ a.live)
dead (sum r which qs x) g0 c n i g h =
    let a = write_still c i r (λ j. sum_of which (reads g qs j) (all_answers g0.lights g (name_at names.P) j)) g h in still_on i g _ _ a (dead x g0 c n i _ a.live)
dead (texture r k qs x) g0 c n i g h =
    let a = write_still c i r (textured g0.lines (g0.images k) (reads g qs)) g h in still_on i g _ _ a (dead x g0 c n i _ a.live)
dead (branch (Uniform s r) a b x) g0 c n i g h =
    let y = cond_both (is_true (g.shared s r)) (masked a g0 c n g) (masked b g0 c n g) (λ s. Still i g s) (λ e. dead a g0 c n i g h) (λ e. dead b g0 c n i g h) in
    still_on i g _ _ y (dead x g0 c n i _ y.live)
dead (branch (Varying s r) a b x) g0 c n i g h =
    let y = parts_still i (λ j. is_true (g.rows s r j)) (masked a g0 c n) (masked b g0 c n) (λ s. dead a g0 c n i s) (λ s. dead b g0 c n i s) g h in
    still_on i g _ _ y (dead x g0 c n i _ y.live)
dead (loops u d t e a x) g0 c n i g h =
    let k = turns_still n c i u (masked d g0 c n) t (masked e g0 c n) (masked a g0 c n) (λ s. dead d g0 c n i s) (λ s. dead e g0 c n i s) (λ s. dead a g0 c n i s) g h in
    let y : Still i g (looped n c u (masked d g0 c n) t (masked e g0 c n) (masked a g0 c n) g) = record { live = h; staying = refl; kept = record { rows = k.rows; own = k.own } } in
    still_on i g _ _ y (dead x g0 c n i _ y.live)
dead (lights w qs a x) g0 c n i g h =
    let y = over_lights_still c i w g0 qs (masked a g0 c n) (λ s. dead a g0 c n i s) g h in
    still_on i g _ _ y (dead x g0 c n i _ y.live)
dead (breaks x) g0 c n i g h =
    let y : Still i g record g { live = λ j. false; staying = λ j. g.staying j && not (g.live j) } = record { live = refl; staying = ap (λ v. g.staying i && not v) h ∙ and_one (g.staying i); kept = record { rows = λ t k. refl; own = refl } } in
    still_on i g _ _ y (dead x g0 c n i _ refl)
dead (continues x) g0 c n i g h =
    let y : Still i g record g { live = λ j. false } = record { live = refl; staying = refl; kept = record { rows = λ t k. refl; own = refl } } in
    still_on i g _ _ y (dead x g0 c n i _ refl)
