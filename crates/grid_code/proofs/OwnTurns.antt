-- A place's own budget falls by its own turns alone.
use Rattle.std.proofs.Common.{◌≡◌, ℕ, zero, suc, ◌+◌, ◌-◌, ◌<◌, Bool, true, false, cond, refl, ◌∙◌, arith, List, [], ◌∷◌}
use Rattle.std.specs.Prelude.{not, ◌&&◌, Option, is_some}
use Rattle.std.proofs.lemmas.Bool.{and_parts, ltb-true}
use Rattle.fixed_math.specs.declared.vec3.Vec3.{Vec3}
use Rattle.sl_ast.specs.declared.kinds.Predefined.TheVariants as names
use Rattle.sl_ast.specs.declared.kinds.LightStmt.{LightStmt}
use Rattle.sl_ast.specs.declared.kinds.LightStmt.TheVariants.{Illuminance, Illuminate, Solar}
use Rattle.sl_ast.specs.declared.typed.Value.{Value}
use Rattle.builtins.specs.Values.{is_true, triple_of}
use Rattle.builtins.specs.Differences.{difference}
use Rattle.builtins.specs.Textures.{textured}
use Rattle.builtins.specs.Lights.{is_in_cone, sum_of}
use Rattle.grid_code.specs.declared.code.Register.{Register}
use Rattle.grid_code.specs.declared.code.Register.TheVariants.{Uniform, Varying}
use Rattle.grid_code.specs.Names.{name_at}
use Rattle.grid_code.specs.Code.{Block, end, put, differ, sum, texture, branch, loops, lights, breaks, continues}
use Rattle.grid_code.specs.Masked.{Ground, State, any, read, reads, result_of, write, under, both_parts, one_part, take_turn, going, turn, turns_of, looped, all_answers, entered, under_lights, views, kindled, from_light, over_lights, masked}
use Rattle.grid_code.specs.Turns.{taken_in, taken_under, taken_over, taken}

-- a step takes from a place's own budget what a count says
abbrev pub Falls : ℕ → (State → State) → (State → ℕ) → Type 0
Falls i f k = (s : State) → (f s).own i + k s ≡ s.own i

write_own : (c i : ℕ) (r : Register) (f : ℕ → Value) (s : State) → (write c r f s).own i ≡ s.own i
write_own c i (Uniform t r) f s = refl
write_own c i (Varying t r) f s = refl

-- sums of what is taken, one behind another
two_falls : (z k1 k2 y s : ℕ) → z + k2 ≡ y → y + k1 ≡ s → z + (k1 + k2) ≡ s
two_falls z k1 k2 y s a b = omega arith

four_falls : (w k1 k2 k3 k4 x y z s : ℕ) → w + k4 ≡ x → x + k3 ≡ y → y + k2 ≡ z → z + k1 ≡ s → w + (k1 + (k2 + (k3 + k4))) ≡ s
four_falls w k1 k2 k3 k4 x y z s a b d e = omega arith

either_falls : (i : ℕ) (q : Bool) (a b : State) (k l o : ℕ) → a.own i + k ≡ o → b.own i + l ≡ o → (cond q a b).own i + cond q k l ≡ o
either_falls i true a b k l o h j = h
either_falls i false a b k l o h j = j

-- the price of a turn
pay_one : (b : Bool) (o : ℕ) → (b ≡ true → 0 < o) → cond b (o - 1) o + cond b 1 0 ≡ o
pay_one true o h = let some = h refl in omega arith
pay_one false o h = omega arith

pays : (i : ℕ) (u : Bool) (t : Register) (x : State) → (take_turn u record x { live = going u t x; staying = going u t x }).own i + cond (not u && going u t x i) 1 0 ≡ x.own i
pays i true t x = omega arith
pays i false t x = pay_one (going false t x i) (x.own i) (λ h. ltb-true 0 (x.own i) (and_parts (is_true (read x t i)) _ (and_parts (x.live i) _ h).1).1)

turns_fall : (m i c : ℕ) (u : Bool) (ask : State → State) (asks : State → ℕ) (t : Register) (step : State → State) (steps : State → ℕ) (body : State → State) (bodies : State → ℕ)
    → Falls i ask asks → Falls i step steps → Falls i body bodies → Falls i (turns_of m c u ask t step body) (taken_in m i c u ask asks t step steps body bodies)
turns_fall zero i c u ask asks t step steps body bodies ha hs hb s = ha s
turns_fall (suc m) i c u ask asks t step steps body bodies ha hs hb s =
    let x = ask s in
    let p = going u t x in
    let y = take_turn u record x { live = p; staying = p } in
    let z = record (body y) { live = (body y).staying } in
    let w = turn u p step body x in
    let later = turns_of m c u ask t step body w in
    let behind = taken_in m i c u ask asks t step steps body bodies w in
    let price : ℕ = cond (not u && p i) 1 0 in
    let on : later.own i + (price + (bodies y + (steps z + behind))) ≡ x.own i =
    four_falls (later.own i) price (bodies y) (steps z) behind (w.own i) (z.own i) (y.own i) (x.own i) (turns_fall m i c u ask asks t step steps body bodies ha hs hb w) (hs z) (hb y) (pays i u t x) in
    two_falls ((cond (any c p) later x).own i) (asks s) (cond (any c p) (price + (bodies y + (steps z + behind))) 0) (x.own i) (s.own i)
    (either_falls i (any c p) later x (price + (bodies y + (steps z + behind))) 0 (x.own i) on (omega arith)) (ha s)

under_lights_fall : (i c : ℕ) (fs : List (ℕ → Option (Vec3 × Vec3))) (a : State → State) (k : State → ℕ) → Falls i a k → Falls i (under_lights c fs a) (taken_under c fs a k)
under_lights_fall i c [] a k h s = omega arith
under_lights_fall i c (f ∷ rest) a k h s =
    let y = one_part (λ j. is_some (f j)) (λ x. a (entered c f x)) s in
    two_falls ((under_lights c rest a y).own i) (k (entered c f (under (λ j. is_some (f j)) s))) (taken_under c rest a k y) (y.own i) (s.own i) (under_lights_fall i c rest a k h y) (h (entered c f (under (λ j. is_some (f j)) s)))

over_lights_fall : (i c : ℕ) (w : LightStmt) (g : Ground) (qs : List Register) (a : State → State) (k : State → ℕ) → Falls i a k → Falls i (over_lights c w g qs a) (taken_over c w g qs a k)
over_lights_fall i c w g [] a k h s = omega arith
over_lights_fall i c Illuminance g (place ∷ cone) a k h s = under_lights_fall i c (views g.lights s place cone) a k h s
over_lights_fall i c Illuminate g (place ∷ cone) a k h s = h (kindled c (from_light s place) (under (λ j. is_in_cone (reads s cone j) (from_light s place j)) s))
over_lights_fall i c Solar g (axis ∷ angle) a k h s = h (kindled c (λ j. triple_of (read s axis j)) (under (λ j. true) s))

pub own_turns : (x : Block) (i : ℕ) (g : Ground) (c n : ℕ) (s : State) → (masked x g c n s).own i + taken x i g c n s ≡ s.own i
own_turns end i g c n s = omega arith
own_turns (put r o x) i g c n s = own_turns x i g c n _ ∙ write_own c i r (result_of o g s) s
own_turns (differ r d q x) i g c n s = own_turns x i g c n _ ∙ write_own c i r (difference d g.lines g.spaces.flip (read s q)) s
own_turns (sum r which qs x) i g c n s = own_turns x i g c n _ ∙ write_own c i r (λ j. sum_of which (reads s qs j) (all_answers g.lights s (name_at names.P) j)) s
own_turns (texture r k qs x) i g c n s = own_turns x i g c n _ ∙ write_own c i r (textured g.lines (g.images k) (reads s qs)) s
own_turns (branch (Uniform t r) a b x) i g c n s =
    let q = is_true (s.shared t r) in
    let y = cond q (masked a g c n s) (masked b g c n s) in
    two_falls ((masked x g c n y).own i) (cond q (taken a i g c n s) (taken b i g c n s)) (taken x i g c n y) (y.own i) (s.own i) (own_turns x i g c n y)
    (either_falls i q (masked a g c n s) (masked b g c n s) (taken a i g c n s) (taken b i g c n s) (s.own i) (own_turns a i g c n s) (own_turns b i g c n s))
own_turns (branch (Varying t r) a b x) i g c n s =
    let p : ℕ → Bool = λ j. is_true (s.rows t r j) in
    let s1 = under p s in
    let s2 = record (masked a g c n s1) { live = λ j. s.live j && not (p j) } in
    let y = both_parts p (masked a g c n) (masked b g c n) s in
    two_falls ((masked x g c n y).own i) (taken a i g c n s1) (taken b i g c n s2 + taken x i g c n y) (s2.own i) (s.own i)
    (two_falls ((masked x g c n y).own i) (taken b i g c n s2) (taken x i g c n y) (y.own i) (s2.own i) (own_turns x i g c n y) (own_turns b i g c n s2)) (own_turns a i g c n s1)
own_turns (loops u d t e a x) i g c n s =
    let y = looped n c u (masked d g c n) t (masked e g c n) (masked a g c n) s in
    let k = taken_in n i c u (masked d g c n) (taken d i g c n) t (masked e g c n) (taken e i g c n) (masked a g c n) (taken a i g c n) s in
    two_falls ((masked x g c n y).own i) k (taken x i g c n y) (y.own i) (s.own i) (own_turns x i g c n y)
    (turns_fall n i c u (masked d g c n) (taken d i g c n) t (masked e g c n) (taken e i g c n) (masked a g c n) (taken a i g c n) (own_turns d i g c n) (own_turns e i g c n) (own_turns a i g c n) s)
own_turns (lights w qs a x) i g c n s =
    let y = over_lights c w g qs (masked a g c n) s in
    two_falls ((masked x g c n y).own i) (taken_over c w g qs (masked a g c n) (taken a i g c n) s) (taken x i g c n y) (y.own i) (s.own i) (own_turns x i g c n y)
    (over_lights_fall i c w g qs (masked a g c n) (taken a i g c n) (own_turns a i g c n) s)
own_turns (breaks x) i g c n s = own_turns x i g c n _
own_turns (continues x) i g c n s = own_turns x i g c n _
