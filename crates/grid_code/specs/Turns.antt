-- What the turns of a loop leave to a place that doesn't take them, and how many turns a place takes: the laws of loops under a mask.
use Rattle.std.specs.Prelude.{ℕ, zero, suc, ◌+◌, ◌<◌, Bool, true, false, cond, not, ◌&&◌, List, [], ◌∷◌, Option, is_some, ◌≡◌}
use Rattle.fixed_math.specs.declared.vec3.Vec3.{Vec3}
use Rattle.sl_ast.specs.declared.kinds.Predefined.TheVariants as names
use Rattle.sl_ast.specs.declared.kinds.LightStmt.{LightStmt}
use Rattle.sl_ast.specs.declared.kinds.LightStmt.TheVariants.{Illuminance, Illuminate, Solar}
use Rattle.builtins.specs.declared.shape.Shape.{Shape}
use Rattle.builtins.specs.Values.{is_true, triple_of}
use Rattle.builtins.specs.Differences.{difference}
use Rattle.builtins.specs.Textures.{textured}
use Rattle.builtins.specs.Lights.{is_in_cone, sum_of}
use Rattle.grid_code.specs.declared.code.Register.{Register}
use Rattle.grid_code.specs.declared.code.Register.TheVariants.{Uniform, Varying}
use Rattle.grid_code.specs.Names.{name_at}
use Rattle.grid_code.specs.Code.{Block, end, put, differ, sum, texture, branch, loops, lights, breaks, continues}
use Rattle.grid_code.specs.Masked.{Ground, State, any, read, reads, result_of, write, under, both_parts, one_part, take_turn, going, turn, turns_of, looped, all_answers, entered, views, kindled, from_light, over_lights, masked}

-- a place's values of the varying registers, and its own budget, are as they were
pub record Unchanged (i : ℕ) (g h : State) : Type 0 where
  pub rows : (t : Shape) (k : ℕ) → h.rows t k i ≡ g.rows t k i
  pub own : h.own i ≡ g.own i

-- a place that isn't live when code begins isn't live behind it, and keeps its values of the varying registers and its own budget, whatever
-- other places do
pub record Rests (i : ℕ) (g h : State) : Type 0 where
  pub live : h.live i ≡ false
  pub kept : Unchanged i g h

-- where none of the places is live, code changes no uniform register and not the uniform budget either
pub record AllRest (c : ℕ) (g h : State) : Type 0 where
  pub each : (i : ℕ) → i < c → Unchanged i g h
  pub shared : (t : Shape) (k : ℕ) → h.shared t k ≡ g.shared t k
  pub turns : h.turns ≡ g.turns

abbrev pub RestLaw : Type 0
RestLaw = (x : Block) (i : ℕ) (g : Ground) (c n : ℕ) (s : State) → s.live i ≡ false → Rests i s (masked x g c n s)

abbrev pub AllRestLaw : Type 0
AllRestLaw = (x : Block) (g : Ground) (c n : ℕ) (s : State) → ((i : ℕ) → i < c → s.live i ≡ false) → AllRest c s (masked x g c n s)

-- up to m turns of a loop of code
abbrev pub turns_from : Ground → ℕ → ℕ → ℕ → Bool → Block → Register → Block → Block → State → State
turns_from g c n m u ask t step body s = turns_of m c u (masked ask g c n) t (masked step g c n) (masked body g c n) s

-- A place that left a loop isn't changed by later turns of others. It leaves by a break, and then neither the step of that turn nor any turn behind
-- it changes the place; or before a turn that it doesn't take, since its condition or its budget ended, and then neither that turn nor any behind
-- it does.
pub record LeaverKeeps (g : Ground) (c n m i : ℕ) (u : Bool) (ask : Block) (t : Register) (step body : Block) : Type 0 where
  pub broke : (s : State) → s.staying i ≡ false → Unchanged i s (turns_from g c n m u ask t step body (masked step g c n record s { live = s.staying }))
  pub ended : (s : State) → going u t s i ≡ false → Unchanged i s (turns_from g c n m u ask t step body (turn u (going u t s) (masked step g c n) (masked body g c n) s))

abbrev pub LeaverLaw : Type 0
LeaverLaw = (g : Ground) (c n m i : ℕ) (u : Bool) (ask : Block) (t : Register) (step body : Block) → LeaverKeeps g c n m i u ask t step body

-- how many turns place i takes in a loop and in what runs in it: each time it goes on, one of the loop where that goes by place. Beside each part of
-- the loop stands how many turns the place takes in that.
abbrev pub taken_in : ℕ → ℕ → ℕ → Bool → (State → State) → (State → ℕ) → Register → (State → State) → (State → ℕ) → (State → State) → (State → ℕ) → State → ℕ
taken_in zero i c u ask asks t step steps body bodies s = asks s
taken_in (suc n) i c u ask asks t step steps body bodies s =
    let x = ask s in
    let p = going u t x in
    let y = take_turn u record x { live = p; staying = p } in
    let z = body y in
    asks s + cond (any c p) (cond (not u && p i) 1 0 + (bodies y + (steps record z { live = z.staying } + taken_in n i c u ask asks t step steps body bodies (turn u p step body x)))) 0

-- the same of a block over lights
abbrev pub taken_under : ℕ → List (ℕ → Option (Vec3 × Vec3)) → (State → State) → (State → ℕ) → State → ℕ
taken_under c [] a k s = 0
taken_under c (f ∷ rest) a k s = k (entered c f (under (λ i. is_some (f i)) s)) + taken_under c rest a k (one_part (λ i. is_some (f i)) (λ x. a (entered c f x)) s)

abbrev pub taken_over : ℕ → LightStmt → Ground → List Register → (State → State) → (State → ℕ) → State → ℕ
taken_over c w g [] a k s = 0
taken_over c Illuminance g (place ∷ cone) a k s = taken_under c (views g.lights s place cone) a k s
taken_over c Illuminate g (place ∷ cone) a k s = k (kindled c (from_light s place) (under (λ i. is_in_cone (reads s cone i) (from_light s place i)) s))
taken_over c Solar g (axis ∷ angle) a k s = k (kindled c (λ i. triple_of (read s axis i)) (under (λ i. true) s))

-- how many turns of loops by place place i takes in a run of code
abbrev pub taken : Block → ℕ → Ground → ℕ → ℕ → State → ℕ
taken end i g c n s = 0
taken (put r o x) i g c n s = taken x i g c n (write c r (result_of o g s) s)
taken (differ r d q x) i g c n s = taken x i g c n (write c r (difference d g.lines g.spaces.flip (read s q)) s)
taken (sum r which qs x) i g c n s = taken x i g c n (write c r (λ j. sum_of which (reads s qs j) (all_answers g.lights s (name_at names.P) j)) s)
taken (texture r k qs x) i g c n s = taken x i g c n (write c r (textured g.lines (g.images k) (reads s qs)) s)
taken (branch (Uniform shape r) a b x) i g c n s =
    cond (is_true (s.shared shape r)) (taken a i g c n s) (taken b i g c n s) + taken x i g c n (cond (is_true (s.shared shape r)) (masked a g c n s) (masked b g c n s))
taken (branch (Varying shape r) a b x) i g c n s =
    let p : ℕ → Bool = λ j. is_true (s.rows shape r j) in
    let y = masked a g c n (under p s) in
    taken a i g c n (under p s) + (taken b i g c n record y { live = λ j. s.live j && not (p j) } + taken x i g c n (both_parts p (masked a g c n) (masked b g c n) s))
taken (loops u d t e a x) i g c n s =
    taken_in n i c u (masked d g c n) (taken d i g c n) t (masked e g c n) (taken e i g c n) (masked a g c n) (taken a i g c n) s + taken x i g c n (looped n c u (masked d g c n) t (masked e g c n) (masked a g c n) s)
taken (lights w qs a x) i g c n s = taken_over c w g qs (masked a g c n) (taken a i g c n) s + taken x i g c n (over_lights c w g qs (masked a g c n) s)
taken (breaks x) i g c n s = taken x i g c n record s { live = λ j. false; staying = λ j. s.staying j && not (s.live j) }
taken (continues x) i g c n s = taken x i g c n record s { live = λ j. false }

-- a place's own budget falls by its own turns alone
abbrev pub OwnTurnsLaw : Type 0
OwnTurnsLaw = (x : Block) (i : ℕ) (g : Ground) (c n : ℕ) (s : State) → (masked x g c n s).own i + taken x i g c n s ≡ s.own i
