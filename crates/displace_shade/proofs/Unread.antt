-- Code does the same whatever registers hold that it doesn't name, and leaves in them what they hold.
use Rattle.std.proofs.Common.{◌≡◌, ℕ, zero, suc, Bool, true, false, cond, List, [], ◌∷◌, refl, sym, ap, ◌∙◌}
use Rattle.std.specs.Prelude.{not, ◌&&◌, ◌||◌, ◌==◌, Option, is_some, nat_lt}
use Rattle.std.specs.List.{list_all}
use Rattle.std.proofs.lemmas.Bool.{and_parts, cond-false, not-true, not_from_false, eqb-true, false≢true}
use Rattle.fixed_math.specs.Fixed.{sub}
use Rattle.fixed_math.specs.declared.vec3.Vec3.{Vec3}
use Rattle.sl_ast.specs.declared.kinds.Predefined.TheVariants as names
use Rattle.sl_ast.specs.declared.kinds.LightStmt.{LightStmt}
use Rattle.sl_ast.specs.declared.kinds.LightStmt.TheVariants.{Illuminance, Illuminate, Solar}
use Rattle.sl_ast.specs.declared.typed.Value.{Value}
use Rattle.sl_ast.specs.declared.typed.Value.TheVariants.{Triple}
use Rattle.builtins.specs.declared.shape.Shape.{Shape}
use Rattle.builtins.specs.declared.shape.Shape.TheVariants as shapes
use Rattle.builtins.specs.Triples.{each_two}
use Rattle.builtins.specs.Values.{as_shape, is_true, triple_of, truth}
use Rattle.builtins.specs.Table.{applied}
use Rattle.builtins.specs.Differences.{difference}
use Rattle.builtins.specs.Textures.{textured}
use Rattle.builtins.specs.Lights.{is_in_cone, shown, sum_of}
use Rattle.grid_code.specs.declared.code.Register.{Register}
use Rattle.grid_code.specs.declared.code.Register.TheVariants.{Uniform, Varying}
use Rattle.grid_code.specs.declared.code.Source.{Source}
use Rattle.grid_code.specs.declared.code.Source.TheVariants.{Constant, Copy, Into, Apply}
use Rattle.grid_code.specs.Names.{name_at, lit_at}
use Rattle.grid_code.specs.Uses.{source_within, within}
use Rattle.grid_code.specs.Code.{Block, end, put, differ, sum, texture, branch, loops, lights, breaks, continues}
use Rattle.grid_code.specs.Masked.{Asked, Ground, State, any, same_shape, read, reads, result_of, write, under, both_parts, one_part, budgets, take_turn, going, turn, turns_of, looped, all_answers, towards, colour_of, entered, under_lights, views, kindled, illuminated, from_light, over_lights, masked}

-- registers that code doesn't name, and none that sums and statements over lights read or write
pub record Apart (away : Shape → ℕ → Bool) : Type 0 where
  pub point : away shapes.Triple 0 ≡ false
  pub towards : away shapes.Triple 15 ≡ false
  pub colour : away shapes.Triple 16 ≡ false
  pub asked : away shapes.Triple 19 ≡ false
  pub lit : away shapes.Number 21 ≡ false

same_is : (t s : Shape) → same_shape t s ≡ true → t ≡ s
same_is shapes.Number shapes.Number h = refl
same_is shapes.Triple shapes.Triple h = refl
same_is shapes.Word shapes.Word h = refl
same_is shapes.Number shapes.Triple h = absurd (false≢true h)
same_is shapes.Number shapes.Word h = absurd (false≢true h)
same_is shapes.Triple shapes.Number h = absurd (false≢true h)
same_is shapes.Triple shapes.Word h = absurd (false≢true h)
same_is shapes.Word shapes.Number h = absurd (false≢true h)
same_is shapes.Word shapes.Triple h = absurd (false≢true h)

-- a choice that isn't made where another one is
exchanged : (a b l w : Bool) (x o y : Value) → (a ≡ true → b ≡ true → w ≡ false) → cond (a && (b && l)) x (cond w o y) ≡ cond w o (cond (a && (b && l)) x y)
exchanged true true true true x o y h = absurd (false≢true (sym (h refl refl)))
exchanged true true true false x o y h = refl
exchanged true true false w x o y h = refl
exchanged true false l w x o y h = refl
exchanged false b l w x o y h = refl

module _ (away : Shape → ℕ → Bool) (other : Shape → ℕ → ℕ → Value) (apart : Apart away) where
  -- the state whose registers that are away hold something else
  abbrev pub instead : State → State
  instead s = record s { rows = λ t k i. cond (away t k) (other t k i) (s.rows t k i) }

  abbrev pub kept : Register → Bool
  kept (Uniform t k) = true
  kept (Varying t k) = not (away t k)

  abbrev Commutes : (State → State) → Type 0
  Commutes a = (s : State) → a (instead s) ≡ instead (a s)

  read_same : (r : Register) (s : State) → kept r ≡ true → read (instead s) r ≡ read s r
  read_same (Uniform t k) s h = refl
  read_same (Varying t k) s h = λ j i. cond-false (away t k) (other t k i) (s.rows t k i) (not-true (away t k) h) j

  reads_same : (rs : List Register) (s : State) (i : ℕ) → list_all kept rs ≡ true → reads (instead s) rs i ≡ reads s rs i
  reads_same [] s i h = refl
  reads_same (r ∷ rs) s i h = let p = and_parts (kept r) (list_all kept rs) h in λ j. read_same r s p.0 j i ∷ reads_same rs s i p.1 j

  result_same : (o : Source) (g : Ground) (s : State) → source_within kept o ≡ true → result_of o g (instead s) ≡ result_of o g s
  result_same (Constant v) g s h = refl
  result_same (Copy r) g s h = λ j i. read_same r s h j i
  result_same (Into t r) g s h = λ j i. as_shape t (read_same r s h j i)
  result_same (Apply op rs) g s h = λ j i. applied op g.spaces (reads_same rs s i h j)

  away_not : (t : Shape) (k : ℕ) (s : Shape) (r : ℕ) → kept (Varying s r) ≡ true → same_shape t s ≡ true → (k == r) ≡ true → away t k ≡ false
  away_not t k s r h e f = ap (λ q. away q k) (same_is t s e) ∙ ap (away s) (eqb-true k r f) ∙ not-true (away s r) h

  write_same : (c : ℕ) (r : Register) (f : ℕ → Value) → kept r ≡ true → Commutes (write c r f)
  write_same c (Uniform sh r) f h s = refl
  write_same c (Varying sh r) f h s = λ j. record s { rows = λ t k i. exchanged (same_shape t sh) (k == r) (s.live i) (away t k) (f i) (other t k i) (s.rows t k i) (away_not t k sh r h) j }

  part_same : (p : ℕ → Bool) (a : State → State) → Commutes a → Commutes (one_part p a)
  part_same p a ha s = ap (λ (x : State). record x { live = λ i. x.live i || (s.live i && not (p i)) }) (ha (under p s))

  both_same : (p : ℕ → Bool) (a b : State → State) → Commutes a → Commutes b → Commutes (both_parts p a b)
  both_same p a b ha hb s =
      ap (λ (x : State). let y = b record x { live = λ i. s.live i && not (p i) } in record y { live = λ i. x.live i || y.live i }) (ha (under p s))
      ∙ ap (λ (y : State). record y { live = λ i. (a (under p s)).live i || y.live i }) (hb record (a (under p s)) { live = λ i. s.live i && not (p i) })

  either_same : (b : Bool) (x y : State) → cond b (instead x) (instead y) ≡ instead (cond b x y)
  either_same true x y = refl
  either_same false x y = refl

  going_same : (u : Bool) (t : Register) (x : State) → kept t ≡ true → going u t (instead x) ≡ going u t x
  going_same u t x h = λ j i. x.live i && (is_true (read_same t x h j i) && nat_lt 0 (budgets u x i))

  turn_same : (u : Bool) (p : ℕ → Bool) (step body : State → State) → Commutes step → Commutes body → Commutes (turn u p step body)
  turn_same true p step body hs hb x =
      let y = take_turn true record x { live = p; staying = p } in
      ap (λ (z : State). step record z { live = z.staying }) (hb y) ∙ hs record (body y) { live = (body y).staying }
  turn_same false p step body hs hb x =
      let y = take_turn false record x { live = p; staying = p } in
      ap (λ (z : State). step record z { live = z.staying }) (hb y) ∙ hs record (body y) { live = (body y).staying }

  turns_same : (n c : ℕ) (u : Bool) (ask : State → State) (t : Register) (step body : State → State) → Commutes ask → kept t ≡ true → Commutes step → Commutes body → Commutes (turns_of n c u ask t step body)
  turns_same zero c u ask t step body ha h hs hb s = ha s
  turns_same (suc n) c u ask t step body ha h hs hb s =
      let x = ask s in
      let p = going u t x in
      ap (λ (y : State). cond (any c (going u t y)) (turns_of n c u ask t step body (turn u (going u t y) step body y)) y) (ha s)
      ∙ ap (λ (q : ℕ → Bool). cond (any c q) (turns_of n c u ask t step body (turn u q step body (instead x))) (instead x)) (going_same u t x h)
      ∙ ap (λ (y : State). cond (any c p) y (instead x)) (ap (turns_of n c u ask t step body) (turn_same u p step body hs hb x) ∙ turns_same n c u ask t step body ha h hs hb (turn u p step body x))
      ∙ either_same (any c p) (turns_of n c u ask t step body (turn u p step body x)) x

  answers_same : (ls : List Asked) (s : State) (place : Register) (i : ℕ) → kept place ≡ true → all_answers ls (instead s) place i ≡ all_answers ls s place i
  answers_same [] s place i h = refl
  answers_same (light ∷ rest) s place i h = λ j. light (λ m. triple_of (read_same place s h j m)) i ∷ answers_same rest s place i h j

  views_same : (ls : List Asked) (s : State) (place : Register) (cone : List Register) → kept place ≡ true → list_all kept cone ≡ true → views ls (instead s) place cone ≡ views ls s place cone
  views_same [] s place cone h hc = refl
  views_same (light ∷ rest) s place cone h hc = λ j. (λ i. shown (reads_same cone s i hc j) (light (λ m. triple_of (read_same place s h j m)) i)) ∷ views_same rest s place cone h hc j

  towards_kept : kept (name_at names.L) ≡ true
  towards_kept = not_from_false (away shapes.Triple 15) apart.towards

  colour_kept : kept (name_at names.Cl) ≡ true
  colour_kept = not_from_false (away shapes.Triple 16) apart.colour

  lit_kept : kept lit_at ≡ true
  lit_kept = not_from_false (away shapes.Number 21) apart.lit

  asked_kept : kept (name_at names.Ps) ≡ true
  asked_kept = not_from_false (away shapes.Triple 19) apart.asked

  point_kept : kept (name_at names.P) ≡ true
  point_kept = not_from_false (away shapes.Triple 0) apart.point

  entered_same : (c : ℕ) (f : ℕ → Option (Vec3 × Vec3)) → Commutes (entered c f)
  entered_same c f s =
      ap (write c (name_at names.Cl) (λ i. colour_of (f i))) (write_same c (name_at names.L) (λ i. towards (f i)) towards_kept s)
      ∙ write_same c (name_at names.Cl) (λ i. colour_of (f i)) colour_kept (write c (name_at names.L) (λ i. towards (f i)) s)

  kindled_same : (c : ℕ) (f : ℕ → Vec3) → Commutes (kindled c f)
  kindled_same c f s =
      ap (write c lit_at (λ i. truth true)) (write_same c (name_at names.L) (λ i. Triple (f i)) towards_kept s)
      ∙ write_same c lit_at (λ i. truth true) lit_kept (write c (name_at names.L) (λ i. Triple (f i)) s)

  behind_same : (a b : State → State) → Commutes a → Commutes b → Commutes (λ x. a (b x))
  behind_same a b ha hb s = ap a (hb s) ∙ ha (b s)

  under_same : (c : ℕ) (fs : List (ℕ → Option (Vec3 × Vec3))) (a : State → State) → Commutes a → Commutes (under_lights c fs a)
  under_same c [] a ha s = refl
  under_same c (f ∷ rest) a ha s =
      let one = one_part (λ i. is_some (f i)) (λ x. a (entered c f x)) in
      ap (under_lights c rest a) (part_same (λ i. is_some (f i)) (λ x. a (entered c f x)) (behind_same a (entered c f) ha (entered_same c f)) s) ∙ under_same c rest a ha (one s)

  from_same : (s : State) (place : Register) → kept place ≡ true → from_light (instead s) place ≡ from_light s place
  from_same s place h = λ j i. each_two sub (triple_of (read_same (name_at names.Ps) s asked_kept j i)) (triple_of (read_same place s h j i))

  lit_same : (c : ℕ) (p : ℕ → Bool) (f : ℕ → Vec3) (a : State → State) → Commutes a → Commutes (illuminated c p f a)
  lit_same c p f a ha = part_same p (λ x. a (kindled c f x)) (behind_same a (kindled c f) ha (kindled_same c f))

  over_same : (c : ℕ) (w : LightStmt) (g : Ground) (qs : List Register) (a : State → State) → list_all kept qs ≡ true → Commutes a → Commutes (over_lights c w g qs a)
  over_same c w g [] a h ha s = refl
  over_same c Illuminance g (place ∷ cone) a h ha s =
      let p = and_parts (kept place) (list_all kept cone) h in
      ap (λ fs. under_lights c fs a (instead s)) (views_same g.lights s place cone p.0 p.1) ∙ under_same c (views g.lights s place cone) a ha s
  over_same c Illuminate g (place ∷ cone) a h ha s =
      let p = and_parts (kept place) (list_all kept cone) h in
      (λ j. illuminated c (λ i. is_in_cone (reads_same cone s i p.1 j) (from_same s place p.0 j i)) (from_same s place p.0 j) a (instead s))
      ∙ lit_same c (λ i. is_in_cone (reads s cone i) (from_light s place i)) (from_light s place) a ha s
  over_same c Solar g (axis ∷ angle) a h ha s =
      let p = and_parts (kept axis) (list_all kept angle) h in
      (λ j. illuminated c (λ i. true) (λ i. triple_of (read_same axis s p.0 j i)) a (instead s)) ∙ lit_same c (λ i. true) (λ i. triple_of (read s axis i)) a ha s

  pub unread : (x : Block) (g : Ground) (c n : ℕ) → within kept x ≡ true → Commutes (masked x g c n)
  unread end g c n h s = refl
  unread (put r o x) g c n h s =
      let p = and_parts (kept r) _ h in
      let q = and_parts (source_within kept o) _ p.1 in
      ap (λ f. masked x g c n (write c r f (instead s))) (result_same o g s q.0) ∙ ap (masked x g c n) (write_same c r (result_of o g s) p.0 s) ∙ unread x g c n q.1 (write c r (result_of o g s) s)
  unread (differ r d q x) g c n h s =
      let p = and_parts (kept r) _ h in
      let k = and_parts (kept q) _ p.1 in
      let f = difference d g.lines g.spaces.flip (read s q) in
      ap (λ v. masked x g c n (write c r (difference d g.lines g.spaces.flip v) (instead s))) (read_same q s k.0) ∙ ap (masked x g c n) (write_same c r f p.0 s) ∙ unread x g c n k.1 (write c r f s)
  unread (sum r which qs x) g c n h s =
      let p = and_parts (kept r) _ h in
      let k = and_parts (list_all kept qs) _ p.1 in
      let f : ℕ → Value = λ i. sum_of which (reads s qs i) (all_answers g.lights s (name_at names.P) i) in
      (λ j. masked x g c n (write c r (λ i. sum_of which (reads_same qs s i k.0 j) (answers_same g.lights s (name_at names.P) i point_kept j)) (instead s)))
      ∙ ap (masked x g c n) (write_same c r f p.0 s) ∙ unread x g c n k.1 (write c r f s)
  unread (texture r m qs x) g c n h s =
      let p = and_parts (kept r) _ h in
      let k = and_parts (list_all kept qs) _ p.1 in
      let f = textured g.lines (g.images m) (reads s qs) in
      (λ j. masked x g c n (write c r (textured g.lines (g.images m) (λ i. reads_same qs s i k.0 j)) (instead s)))
      ∙ ap (masked x g c n) (write_same c r f p.0 s) ∙ unread x g c n k.1 (write c r f s)
  unread (branch (Uniform shape r) a b x) g c n h s =
      let p = and_parts (within kept a) _ (and_parts true _ h).1 in
      let q = and_parts (within kept b) _ p.1 in
      let t = is_true (s.shared shape r) in
      ap (λ y. masked x g c n (cond t y (masked b g c n (instead s)))) (unread a g c n p.0 s)
      ∙ ap (λ y. masked x g c n (cond t (instead (masked a g c n s)) y)) (unread b g c n q.0 s)
      ∙ ap (masked x g c n) (either_same t (masked a g c n s) (masked b g c n s)) ∙ unread x g c n q.1 (cond t (masked a g c n s) (masked b g c n s))
  unread (branch (Varying shape r) a b x) g c n h s =
      let m = and_parts (kept (Varying shape r)) _ h in
      let p = and_parts (within kept a) _ m.1 in
      let q = and_parts (within kept b) _ p.1 in
      let t : ℕ → Bool = λ i. is_true (s.rows shape r i) in
      (λ j. masked x g c n (both_parts (λ i. is_true (read_same (Varying shape r) s m.0 j i)) (masked a g c n) (masked b g c n) (instead s)))
      ∙ ap (masked x g c n) (both_same t (masked a g c n) (masked b g c n) (unread a g c n p.0) (unread b g c n q.0) s) ∙ unread x g c n q.1 (both_parts t (masked a g c n) (masked b g c n) s)
  unread (loops u d t e a x) g c n h s =
      let p = and_parts (within kept d) _ h in
      let q = and_parts (kept t) _ p.1 in
      let w = and_parts (within kept e) _ q.1 in
      let v = and_parts (within kept a) _ w.1 in
      let y = looped n c u (masked d g c n) t (masked e g c n) (masked a g c n) s in
      ap (λ (z : State). masked x g c n record z { live = s.live; staying = s.staying }) (turns_same n c u (masked d g c n) t (masked e g c n) (masked a g c n) (unread d g c n p.0) q.0 (unread e g c n w.0) (unread a g c n v.0) s)
      ∙ unread x g c n v.1 y
  unread (lights w qs a x) g c n h s =
      let p = and_parts (list_all kept qs) _ h in
      let q = and_parts (within kept a) _ p.1 in
      ap (masked x g c n) (over_same c w g qs (masked a g c n) p.0 (unread a g c n q.0) s) ∙ unread x g c n q.1 (over_lights c w g qs (masked a g c n) s)
  unread (breaks x) g c n h s = unread x g c n h record s { live = λ i. false; staying = λ i. s.staying i && not (s.live i) }
  unread (continues x) g c n h s = unread x g c n h record s { live = λ i. false }
