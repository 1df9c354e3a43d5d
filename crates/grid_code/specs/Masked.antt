-- What grid code does under a mask. Places go by rows; `c` is their number, and `n` only bounds the definition, since each turn of a loop
-- takes one from a budget that is at most as great.
use Rattle.std.specs.Prelude.{ℕ, zero, suc, ◌-◌, ◌==◌, Bool, true, false, cond, not, ◌&&◌, ◌||◌, nat_lt, List, [], ◌∷◌, Option, Some, None, is_some}
use Rattle.fixed_math.specs.Fixed.{sub}
use Rattle.fixed_math.specs.Axes.{origin}
use Rattle.fixed_math.specs.declared.vec3.Vec3.{Vec3}
use Rattle.texture.specs.Images.{Image}
use Rattle.transforms.specs.declared.spaces.Spaces.{Spaces}
use Rattle.sl_ast.specs.declared.kinds.Predefined.TheVariants as names
use Rattle.sl_ast.specs.declared.kinds.LightStmt.{LightStmt}
use Rattle.sl_ast.specs.declared.kinds.LightStmt.TheVariants.{Illuminance, Illuminate, Solar}
use Rattle.sl_ast.specs.declared.typed.Value.{Value}
use Rattle.sl_ast.specs.declared.typed.Value.TheVariants.{Triple}
use Rattle.builtins.specs.declared.shape.Shape.{Shape}
use Rattle.builtins.specs.declared.shape.Shape.TheVariants as shapes
use Rattle.builtins.specs.Triples.{each_two}
use Rattle.builtins.specs.Values.{as_shape, is_true, triple_of, truth}
use Rattle.builtins.specs.Table.{applied}
use Rattle.builtins.specs.Differences.{Lines, difference}
use Rattle.builtins.specs.Textures.{textured}
use Rattle.builtins.specs.Lights.{Light, is_in_cone, shown, sum_of}
use Rattle.grid_code.specs.declared.code.Register.{Register}
use Rattle.grid_code.specs.declared.code.Register.TheVariants.{Uniform, Varying}
use Rattle.grid_code.specs.declared.code.Source.{Source}
use Rattle.grid_code.specs.declared.code.Source.TheVariants.{Constant, Copy, Into, Apply}
use Rattle.grid_code.specs.Names.{name_at, lit_at}
use Rattle.grid_code.specs.Code.{Block, end, put, differ, sum, texture, branch, loops, lights, breaks, continues}

-- a light asked at all places at once
abbrev pub Asked : Type 0
Asked = (ℕ → Vec3) → ℕ → Light

-- what no code changes: the lines of the grid, the shader's spaces, the lights, and the image that each look-up names, by the number of its node
pub record Ground : Type 0 where
  pub lines : Lines
  pub spaces : Spaces
  pub lights : List Asked
  pub images : ℕ → Option Image

-- what code works on, by register and place
pub record State : Type 0 where
  pub rows : Shape → ℕ → ℕ → Value
  pub shared : Shape → ℕ → Value
  pub turns : ℕ
  pub own : ℕ → ℕ
  -- the places that are live, and those that have not left the innermost loop
  pub live : ℕ → Bool
  pub staying : ℕ → Bool

abbrev pub any : ℕ → (ℕ → Bool) → Bool
any zero p = false
any (suc c) p = p c || any c p

abbrev pub same_shape : Shape → Shape → Bool
same_shape shapes.Number shapes.Number = true
same_shape shapes.Triple shapes.Triple = true
same_shape shapes.Word shapes.Word = true
same_shape _ _ = false

abbrev pub read : State → Register → ℕ → Value
read s (Uniform shape r) i = s.shared shape r
read s (Varying shape r) i = s.rows shape r i

abbrev pub reads : State → List Register → ℕ → List Value
reads s [] i = []
reads s (r ∷ rs) i = read s r i ∷ reads s rs i

abbrev pub result_of : Source → Ground → State → ℕ → Value
result_of (Constant v) g s i = v
result_of (Copy r) g s i = read s r i
result_of (Into shape r) g s i = as_shape shape (read s r i)
result_of (Apply op rs) g s i = applied op g.spaces (reads s rs i)

-- a uniform register changes once where some place is live, a varying one at the places that are live
abbrev pub write : ℕ → Register → (ℕ → Value) → State → State
write c (Uniform shape r) f s = record s { shared = λ t k. cond (same_shape t shape && (k == r && any c s.live)) (f 0) (s.shared t k) }
write c (Varying shape r) f s = record s { rows = λ t k i. cond (same_shape t shape && (k == r && s.live i)) (f i) (s.rows t k i) }

abbrev pub under : (ℕ → Bool) → State → State
under p s = record s { live = λ i. s.live i && p i }

-- both blocks, each under its part of the places that are live
abbrev pub both_parts : (ℕ → Bool) → (State → State) → (State → State) → State → State
both_parts p a b s =
    let x = a (under p s) in
    let y = b record x { live = λ i. s.live i && not (p i) } in
    record y { live = λ i. x.live i || y.live i }

-- a block under its part of the places that are live
abbrev pub one_part : (ℕ → Bool) → (State → State) → State → State
one_part p a s =
    let x = a (under p s) in
    record x { live = λ i. x.live i || (s.live i && not (p i)) }

abbrev pub budgets : Bool → State → ℕ → ℕ
budgets u s i = cond u s.turns (s.own i)

abbrev pub take_turn : Bool → State → State
take_turn true s = record s { turns = s.turns - 1 }
take_turn false s = record s { own = λ i. cond (s.live i) (s.own i - 1) (s.own i) }

-- the places that take a turn
abbrev pub going : Bool → Register → State → ℕ → Bool
going u t s i = s.live i && (is_true (read s t i) && nat_lt 0 (budgets u s i))

-- a turn of those places, and the step of those that have not left the loop
abbrev pub turn : Bool → (ℕ → Bool) → (State → State) → (State → State) → State → State
turn u p step body s =
    let x = body (take_turn u record s { live = p; staying = p }) in
    step record x { live = x.staying }

abbrev pub turns_of : ℕ → ℕ → Bool → (State → State) → Register → (State → State) → (State → State) → State → State
turns_of zero c u ask t step body s = ask s
turns_of (suc n) c u ask t step body s =
    let x = ask s in
    cond (any c (going u t x)) (turns_of n c u ask t step body (turn u (going u t x) step body x)) x

-- the places that were live when the loop began are live after it
abbrev pub looped : ℕ → ℕ → Bool → (State → State) → Register → (State → State) → (State → State) → State → State
looped n c u ask t step body s = record (turns_of n c u ask t step body s) { live = s.live; staying = s.staying }

-- the answers of a light at the places of a register
abbrev pub answers : Asked → State → Register → ℕ → Light
answers light s place i = light (λ j. triple_of (read s place j)) i

abbrev pub all_answers : List Asked → State → Register → ℕ → List Light
all_answers [] s place i = []
all_answers (light ∷ rest) s place i = answers light s place i ∷ all_answers rest s place i

-- under a light: its direction and its colour
abbrev pub towards : Option (Vec3 × Vec3) → Value
towards None = Triple origin
towards (Some light) = Triple light.0

abbrev pub colour_of : Option (Vec3 × Vec3) → Value
colour_of None = Triple origin
colour_of (Some light) = Triple light.1

abbrev pub entered : ℕ → (ℕ → Option (Vec3 × Vec3)) → State → State
entered c f s = write c (name_at names.Cl) (λ i. colour_of (f i)) (write c (name_at names.L) (λ i. towards (f i)) s)

-- the block once for each light, at the places that see it
abbrev pub under_lights : ℕ → List (ℕ → Option (Vec3 × Vec3)) → (State → State) → State → State
under_lights c [] a s = s
under_lights c (f ∷ rest) a s = under_lights c rest a (one_part (λ i. is_some (f i)) (λ x. a (entered c f x)) s)

abbrev pub views : List Asked → State → Register → List Register → List (ℕ → Option (Vec3 × Vec3))
views [] s place cone = []
views (light ∷ rest) s place cone = (λ i. shown (reads s cone i) (answers light s place i)) ∷ views rest s place cone

-- under the light itself, of that direction: lit from there on
abbrev pub kindled : ℕ → (ℕ → Vec3) → State → State
kindled c f s = write c lit_at (λ i. truth true) (write c (name_at names.L) (λ i. Triple (f i)) s)

abbrev pub illuminated : ℕ → (ℕ → Bool) → (ℕ → Vec3) → (State → State) → State → State
illuminated c p f a s = one_part p (λ x. a (kindled c f x)) s

-- from the place of a light to the point
abbrev pub from_light : State → Register → ℕ → Vec3
from_light s place i = each_two sub (triple_of (read s (name_at names.Ps) i)) (triple_of (read s place i))

abbrev pub over_lights : ℕ → LightStmt → Ground → List Register → (State → State) → State → State
over_lights c w g [] a s = s
over_lights c Illuminance g (place ∷ cone) a s = under_lights c (views g.lights s place cone) a s
over_lights c Illuminate g (place ∷ cone) a s = illuminated c (λ i. is_in_cone (reads s cone i) (from_light s place i)) (from_light s place) a s
over_lights c Solar g (axis ∷ angle) a s = illuminated c (λ i. true) (λ i. triple_of (read s axis i)) a s

-- what a block does
abbrev pub masked : Block → Ground → ℕ → ℕ → State → State
masked end g c n s = s
masked (put r o x) g c n s = masked x g c n (write c r (result_of o g s) s)
masked (differ r d q x) g c n s = masked x g c n (write c r (difference d g.lines g.spaces.flip (read s q)) s)
masked (sum r which qs x) g c n s = masked x g c n (write c r (λ i. sum_of which (reads s qs i) (all_answers g.lights s (name_at names.P) i)) s)
masked (texture r k qs x) g c n s = masked x g c n (write c r (textured g.lines (g.images k) (reads s qs)) s)
masked (branch (Uniform shape r) a b x) g c n s = masked x g c n (cond (is_true (s.shared shape r)) (masked a g c n s) (masked b g c n s))
masked (branch (Varying shape r) a b x) g c n s = masked x g c n (both_parts (λ i. is_true (s.rows shape r i)) (masked a g c n) (masked b g c n) s)
masked (loops u d t e a x) g c n s = masked x g c n (looped n c u (masked d g c n) t (masked e g c n) (masked a g c n) s)
masked (lights w qs a x) g c n s = masked x g c n (over_lights c w g qs (masked a g c n) s)
masked (breaks x) g c n s = masked x g c n record s { live = λ i. false; staying = λ i. s.staying i && not (s.live i) }
masked (continues x) g c n s = masked x g c n record s { live = λ i. false }
