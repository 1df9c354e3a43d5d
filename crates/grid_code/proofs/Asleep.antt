-- Where no place is live, code changes nothing.
use Rattle.std.proofs.Common.{◌≡◌, ℕ, zero, suc, ◌<◌, Bool, true, false, refl, sym, ap, ◌∙◌, arith, subst, List, [], ◌∷◌}
use Rattle.std.specs.Prelude.{not, ◌&&◌, ◌||◌, ◌==◌, Option, is_some}
use Rattle.std.proofs.lemmas.Bool.{and_left, and_right, cond-false, cond_both}
use Rattle.fixed_math.specs.declared.vec3.Vec3.{Vec3}
use Rattle.sl_ast.specs.declared.kinds.Predefined.TheVariants as names
use Rattle.sl_ast.specs.declared.kinds.LightStmt.{LightStmt}
use Rattle.sl_ast.specs.declared.kinds.LightStmt.TheVariants.{Illuminance, Illuminate, Solar}
use Rattle.sl_ast.specs.declared.typed.Value.{Value}
use Rattle.sl_ast.specs.declared.typed.Value.TheVariants.{Triple}
use Rattle.builtins.specs.declared.shape.Shape.{Shape}
use Rattle.builtins.specs.Values.{is_true, triple_of, truth}
use Rattle.builtins.specs.Differences.{difference}
use Rattle.builtins.specs.Textures.{textured}
use Rattle.builtins.specs.Lights.{is_in_cone, sum_of}
use Rattle.grid_code.specs.declared.code.Register.{Register}
use Rattle.grid_code.specs.declared.code.Register.TheVariants.{Uniform, Varying}
use Rattle.grid_code.specs.Names.{name_at, lit_at}
use Rattle.grid_code.specs.Code.{Block, end, put, differ, sum, texture, branch, loops, lights, breaks, continues}
use Rattle.grid_code.specs.Masked.{Ground, State, any, same_shape, read, reads, result_of, write, under, both_parts, one_part, going, turn, turns_of, looped, all_answers, towards, colour_of, entered, under_lights, views, kindled, from_light, over_lights, masked}
use Rattle.grid_code.proofs.Dead.{and_one}

abbrev pub AllDead : ℕ → (ℕ → Bool) → Type 0
AllDead c p = (i : ℕ) → i < c → p i ≡ false

pub record Asleep (c : ℕ) (g h : State) : Type 0 where
  pub live : AllDead c h.live
  pub staying : (i : ℕ) → i < c → h.staying i ≡ g.staying i
  pub rows : (t : Shape) (k i : ℕ) → i < c → h.rows t k i ≡ g.rows t k i
  pub own : (i : ℕ) → i < c → h.own i ≡ g.own i
  pub shared : (t : Shape) (k : ℕ) → h.shared t k ≡ g.shared t k
  pub turns : h.turns ≡ g.turns

or_from_false : (x y : Bool) → x ≡ false → y ≡ false → (x || y) ≡ false
or_from_false true y a b = a
or_from_false false y a b = b

pub any_false : (c : ℕ) (p : ℕ → Bool) → AllDead c p → any c p ≡ false
any_false zero p h = refl
any_false (suc c) p h = or_from_false (p c) (any c p) (h c (omega arith)) (any_false c p (λ i l. h i (omega arith)))

pub asleep_self : (c : ℕ) (g : State) → AllDead c g.live → Asleep c g g
asleep_self c g h = record { live = h; staying = λ i l. refl; rows = λ t k i l. refl; own = λ i l. refl; shared = λ t k. refl; turns = refl }

pub asleep_on : (c : ℕ) (g h k : State) → Asleep c g h → Asleep c h k → Asleep c g k
asleep_on c g h k a b =
    record {
      live = b.live;
      staying = λ i l. b.staying i l ∙ a.staying i l;
      rows = λ t k i l. b.rows t k i l ∙ a.rows t k i l;
      own = λ i l. b.own i l ∙ a.own i l;
      shared = λ t k. b.shared t k ∙ a.shared t k;
      turns = b.turns ∙ a.turns;
    }

pub write_asleep : (c : ℕ) (r : Register) (f : ℕ → Value) (g : State) → AllDead c g.live → Asleep c g (write c r f g)
write_asleep c (Uniform s r) f g h =
    record { live = h; staying = λ i l. refl; rows = λ t k i l. refl; own = λ i l. refl; shared = λ t k. cond-false _ _ _ (and_right (same_shape t s) _ (and_right (k == r) (any c g.live) (any_false c g.live h))); turns = refl }
write_asleep c (Varying s r) f g h =
    record { live = h; staying = λ i l. refl; rows = λ t k i l. cond-false _ _ _ (and_right (same_shape t s) _ (and_right (k == r) (g.live i) (h i l))); own = λ i l. refl; shared = λ t k. refl; turns = refl }

-- a step that changes nothing where no place is live
abbrev pub Rests : ℕ → (State → State) → Type 0
Rests c f = (g : State) → AllDead c g.live → Asleep c g (f g)

part_asleep : (c : ℕ) (p : ℕ → Bool) (a : State → State) → Rests c a → Rests c (one_part p a)
part_asleep c p a ha g h =
    let x = ha (under p g) (λ i l. and_left (g.live i) (p i) (h i l)) in
    record {
      live = λ i l. or_from_false ((a (under p g)).live i) _ (x.live i l) (and_left (g.live i) (not (p i)) (h i l));
      staying = x.staying;
      rows = x.rows;
      own = x.own;
      shared = x.shared;
      turns = x.turns;
    }

entered_rests : (c : ℕ) (f : ℕ → Option (Vec3 × Vec3)) (a : State → State) → Rests c a → Rests c (λ x. a (entered c f x))
entered_rests c f a ha g h =
    let x = write_asleep c (name_at names.L) (λ j. towards (f j)) g h in
    let y = write_asleep c (name_at names.Cl) (λ j. colour_of (f j)) (write c (name_at names.L) (λ j. towards (f j)) g) x.live in
    let z = asleep_on c g _ _ x y in
    asleep_on c g _ _ z (ha _ z.live)

pub under_lights_rests : (c : ℕ) (fs : List (ℕ → Option (Vec3 × Vec3))) (a : State → State) → Rests c a → Rests c (under_lights c fs a)
under_lights_rests c [] a ha g h = asleep_self c g h
under_lights_rests c (f ∷ rest) a ha g h =
    let x = part_asleep c (λ j. is_some (f j)) (λ s. a (entered c f s)) (entered_rests c f a ha) g h in
    asleep_on c g _ _ x (under_lights_rests c rest a ha _ x.live)

kindled_rests : (c : ℕ) (f : ℕ → Vec3) (a : State → State) → Rests c a → Rests c (λ x. a (kindled c f x))
kindled_rests c f a ha g h =
    let x = write_asleep c (name_at names.L) (λ j. Triple (f j)) g h in
    let y = write_asleep c lit_at (λ j. truth true) (write c (name_at names.L) (λ j. Triple (f j)) g) x.live in
    let z = asleep_on c g _ _ x y in
    asleep_on c g _ _ z (ha _ z.live)

pub over_lights_rests : (c : ℕ) (w : LightStmt) (g0 : Ground) (qs : List Register) (a : State → State) → Rests c a → Rests c (over_lights c w g0 qs a)
over_lights_rests c w g0 [] a ha g h = asleep_self c g h
over_lights_rests c Illuminance g0 (place ∷ cone) a ha g h = under_lights_rests c (views g0.lights g place cone) a ha g h
over_lights_rests c Illuminate g0 (place ∷ cone) a ha g h =
    part_asleep c (λ j. is_in_cone (reads g cone j) (from_light g place j)) (λ x. a (kindled c (from_light g place) x)) (kindled_rests c (from_light g place) a ha) g h
over_lights_rests c Solar g0 (axis ∷ angle) a ha g h =
    part_asleep c (λ j. true) (λ x. a (kindled c (λ j. triple_of (read g axis j)) x)) (kindled_rests c (λ j. triple_of (read g axis j)) a ha) g h

pub turns_asleep : (n c : ℕ) (u : Bool) (ask : State → State) (r : Register) (step body : State → State) (g : State) → Asleep c g (ask g) → Asleep c g (turns_of n c u ask r step body g)
turns_asleep zero c u ask r step body g h = h
turns_asleep (suc n) c u ask r step body g h =
    let p = going u r (ask g) in
    subst (λ s. Asleep c g s) (sym (cond-false (any c p) (turns_of n c u ask r step body (turn u p step body (ask g))) (ask g) (any_false c p (λ i l. and_left ((ask g).live i) _ (h.live i l))))) h

pub asleep : (x : Block) (g0 : Ground) (c n : ℕ) (g : State) → AllDead c g.live → Asleep c g (masked x g0 c n g)
asleep end g0 c n g h = asleep_self c g h
asleep (put r o x) g0 c n g h = let a = write_asleep c r (result_of o g0 g) g h in asleep_on c g _ _ a (asleep x g0 c n _ a.live)
asleep (differ r d q x) g0 c n g h =
    let a = write_asleep c r (difference d g0.lines g0.spaces.flip (read g q)) g h in asleep_on c g _ _ a (asleep x g0 c n _ a.live)
asleep (sum r which qs x) g0 c n g h =
    let a = write_asleep c r (λ j. sum_of which (reads g qs j) (all_answers g0.lights g (name_at names.P) j)) g h in asleep_on c g _ _ a (asleep x g0 c n _ a.live)
asleep (texture r k qs x) g0 c n g h =
    let a = write_asleep c r (textured g0.lines (g0.images k) (reads g qs)) g h in asleep_on c g _ _ a (asleep x g0 c n _ a.live)
asleep (branch (Uniform s r) a b x) g0 c n g h =
    let y = cond_both (is_true (g.shared s r)) (masked a g0 c n g) (masked b g0 c n g) (λ s. Asleep c g s) (λ e. asleep a g0 c n g h) (λ e. asleep b g0 c n g h) in
    asleep_on c g _ _ y (asleep x g0 c n _ y.live)
asleep (branch (Varying s r) a b x) g0 c n g h =
    let p : ℕ → Bool = λ j. is_true (g.rows s r j) in
    let s1 = masked a g0 c n (under p g) in
    let y1 = asleep a g0 c n (under p g) (λ i l. and_left (g.live i) (p i) (h i l)) in
    let y2 = asleep b g0 c n record s1 { live = λ j. g.live j && not (p j) } (λ i l. and_left (g.live i) (not (p i)) (h i l)) in
    let y : Asleep c g (both_parts p (masked a g0 c n) (masked b g0 c n) g) =
    record {
      live = λ i l. or_from_false (s1.live i) _ (y1.live i l) (y2.live i l);
      staying = λ i l. y2.staying i l ∙ y1.staying i l;
      rows = λ t k i l. y2.rows t k i l ∙ y1.rows t k i l;
      own = λ i l. y2.own i l ∙ y1.own i l;
      shared = λ t k. y2.shared t k ∙ y1.shared t k;
      turns = y2.turns ∙ y1.turns;
    } in
    asleep_on c g _ _ y (asleep x g0 c n _ y.live)
asleep (loops u d t e a x) g0 c n g h =
    let k = turns_asleep n c u (masked d g0 c n) t (masked e g0 c n) (masked a g0 c n) g (asleep d g0 c n g h) in
    let y : Asleep c g (looped n c u (masked d g0 c n) t (masked e g0 c n) (masked a g0 c n) g) =
    record { live = h; staying = λ i l. refl; rows = k.rows; own = k.own; shared = k.shared; turns = k.turns } in
    asleep_on c g _ _ y (asleep x g0 c n _ y.live)
asleep (lights w qs a x) g0 c n g h =
    let y = over_lights_rests c w g0 qs (masked a g0 c n) (λ s. asleep a g0 c n s) g h in
    asleep_on c g _ _ y (asleep x g0 c n _ y.live)
asleep (breaks x) g0 c n g h =
    let y : Asleep c g record g { live = λ j. false; staying = λ j. g.staying j && not (g.live j) } =
    record { live = λ i l. refl; staying = λ i l. ap (λ v. g.staying i && not v) (h i l) ∙ and_one (g.staying i); rows = λ t k i l. refl; own = λ i l. refl; shared = λ t k. refl; turns = refl } in
    asleep_on c g _ _ y (asleep x g0 c n _ y.live)
asleep (continues x) g0 c n g h =
    let y : Asleep c g record g { live = λ j. false } = record { live = λ i l. refl; staying = λ i l. refl; rows = λ t k i l. refl; own = λ i l. refl; shared = λ t k. refl; turns = refl } in
    asleep_on c g _ _ y (asleep x g0 c n _ y.live)
