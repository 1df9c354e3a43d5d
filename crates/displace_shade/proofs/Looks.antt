-- What registers hold behind the writes of a run's beginning, at a place that is live.
use Rattle.std.proofs.Common.{◌≡◌, ℕ, ◌+◌, ◌*◌, ◌<◌, Bool, true, false, cond, ℤ, pos, List, [], ◌∷◌, ◌++◌, get_or, refl, sym, ap, ◌∙◌, arith}
use Rattle.std.specs.Prelude.{◌==◌, ◌&&◌}
use Rattle.std.proofs.lemmas.Bool.{cond-false, and_right, and_from, ne_eqb, eq-eqb, true≢false}
use Rattle.sl_ast.specs.declared.typed.Value.{Value}
use Rattle.sl_ast.specs.declared.typed.Value.TheVariants.{Triple}
use Rattle.builtins.specs.declared.shape.Shape.{Shape}
use Rattle.builtins.specs.declared.shape.Shape.TheVariants as shapes
use Rattle.builtins.specs.Shapes.{shape}
use Rattle.grid_code.specs.declared.code.Register.{Register}
use Rattle.grid_code.specs.declared.code.Register.TheVariants.{Uniform, Varying}
use Rattle.grid_code.specs.Names.{reg}
use Rattle.grid_code.specs.Masked.{State, same_shape, read, write}
use Rattle.grid_code.specs.Shapes.{register_class, register_shape}
use Rattle.core_codegen.proofs.Relation.{any_true}
use Rattle.place_rows.specs.Layout.{height}
use Rattle.grid_machine.specs.Run.{assigned, loaded}
use Rattle.grid_machine.specs.Run as run
use Rattle.grid_rows.specs.Rows.{value_in, HoldList}

-- what holds of each item, one behind another
abbrev pub Every : {X : Type 0} → (X → Type 0) → List X → Type 0
Every P [] = Unit {0}
Every P (x ∷ xs) = P x × Every P xs

abbrev pub register_number : Register → ℕ
register_number (Uniform s k) = k
register_number (Varying s k) = k

abbrev pub same_register : Register → Register → Bool
same_register (Uniform t k) (Uniform s r) = same_shape t s && (k == r)
same_register (Varying t k) (Varying s r) = same_shape t s && (k == r)
same_register _ _ = false

-- the value of the last of some registers that is q, where they take values one after another
abbrev pub look : Register → List Register → List Value → Value → Value
look q [] vs d = d
look q (r ∷ rs) [] d = d
look q (r ∷ rs) (v ∷ vs) d = look q rs vs (cond (same_register q r) v d)

-- the place whose value a register takes
abbrev pub source : Register → ℕ → ℕ
source (Uniform s k) i = 0
source (Varying s k) i = i

and_true : (b : Bool) → (b && true) ≡ b
and_true true = refl
and_true false = refl

pub read_write : (c i : ℕ) (q r : Register) (f : ℕ → Value) (s : State) → i < c → s.live i ≡ true → read (write c r f s) q i ≡ cond (same_register q r) (f (source r i)) (read s q i)
read_write c i (Uniform t k) (Uniform sh r) f s l h = ap (λ b. cond (same_shape t sh && b) (f 0) (s.shared t k)) (ap (λ b. (k == r) && b) (any_true c i s.live l h) ∙ and_true (k == r))
read_write c i (Varying t k) (Varying sh r) f s l h = ap (λ b. cond (same_shape t sh && b) (f i) (s.rows t k i)) (ap (λ b. (k == r) && b) h ∙ and_true (k == r))
read_write c i (Uniform t k) (Varying sh r) f s l h = refl
read_write c i (Varying t k) (Uniform sh r) f s l h = refl

-- what no write changes
pub record Keeps (s t : State) : Type 0 where
  pub live : t.live ≡ s.live
  pub turns : t.turns ≡ s.turns
  pub own : t.own ≡ s.own

pub write_keeps : (c : ℕ) (r : Register) (f : ℕ → Value) (s : State) → Keeps s (write c r f s)
write_keeps c (Uniform sh r) f s = record { live = refl; turns = refl; own = refl }
write_keeps c (Varying sh r) f s = record { live = refl; turns = refl; own = refl }

pub keeps_on : (s t u : State) → Keeps s t → Keeps t u → Keeps s u
keeps_on s t u a b = record { live = b.live ∙ a.live; turns = b.turns ∙ a.turns; own = b.own ∙ a.own }

pub live_on : (s t : State) (i : ℕ) → Keeps s t → s.live i ≡ true → t.live i ≡ true
live_on s t i k h = ap (λ p. p i) k.live ∙ h

pub assigned_keeps : (c : ℕ) (rs : List Register) (vs : List Value) (s : State) → Keeps s (assigned c rs vs s)
assigned_keeps c [] vs s = record { live = refl; turns = refl; own = refl }
assigned_keeps c (r ∷ rs) [] s = record { live = refl; turns = refl; own = refl }
assigned_keeps c (r ∷ rs) (v ∷ vs) s = keeps_on s _ _ (write_keeps c r (λ i. v) s) (assigned_keeps c rs vs (write c r (λ i. v) s))

pub loaded_keeps : (c w : ℕ) (rows : List ℤ) (rs : List Register) (at : ℕ) (s : State) → Keeps s (loaded c w rows rs at s)
loaded_keeps c w rows [] at s = record { live = refl; turns = refl; own = refl }
loaded_keeps c w rows (r ∷ rs) at s =
    let t = write c r (λ i. run.value_in (register_shape r) rows w (at + i)) s in keeps_on s t _ (write_keeps c r _ s) (loaded_keeps c w rows rs (at + height (register_shape r) * w) t)

pub assigned_look : (c i : ℕ) (q : Register) (rs : List Register) (vs : List Value) (s : State) → i < c → s.live i ≡ true → read (assigned c rs vs s) q i ≡ look q rs vs (read s q i)
assigned_look c i q [] vs s l h = refl
assigned_look c i q (r ∷ rs) [] s l h = refl
assigned_look c i q (r ∷ rs) (v ∷ vs) s l h =
    let t = write c r (λ j. v) s in assigned_look c i q rs vs t l (live_on s t i (write_keeps c r (λ j. v) s) h) ∙ ap (look q rs vs) (read_write c i q r (λ j. v) s l h)

-- the value at an element, and at a place of a row
pub same_value : (t : Shape) (rows : List ℤ) (w k i : ℕ) → run.value_in t rows w (k * w + i) ≡ value_in t rows w k i
same_value shapes.Number rows w k i = refl
same_value shapes.Triple rows w k i =
    let one : k * w + i + w ≡ (k + 1) * w + i = omega arith in
    let two : k * w + i + 2 * w ≡ (k + 2) * w + i = omega arith in
    ap (λ n. Triple record { x = get_or rows (k * w + i) (pos 0); y = get_or rows n (pos 0); z = get_or rows (k * w + i + 2 * w) (pos 0) }) one
    ∙ ap (λ n. Triple record { x = get_or rows (k * w + i) (pos 0); y = get_or rows ((k + 1) * w + i) (pos 0); z = get_or rows n (pos 0) }) two
same_value shapes.Word rows w k i = refl

-- varying registers of the values' shapes
abbrev pub Fit : List Register → List Value → Type 0
Fit [] [] = Unit {0}
Fit (r ∷ rs) (v ∷ vs) = ((register_shape r ≡ shape v) × (register_class r ≡ false)) × Fit rs vs
Fit _ _ = ⊥

varying_source : (r : Register) (i : ℕ) → register_class r ≡ false → source r i ≡ i
varying_source (Varying s k) i h = refl
varying_source (Uniform s k) i h = absurd (true≢false h)

pub loaded_look : (c i w : ℕ) (rows : List ℤ) (q : Register) (rs : List Register) (vs : List Value) (k at : ℕ) (s : State) → i < c → s.live i ≡ true → Fit rs vs → HoldList vs rows w k i → at ≡ k * w → read (loaded c w rows rs at s) q i ≡ look q rs vs (read s q i)
loaded_look c i w rows q [] [] k at s l h f m e = refl
loaded_look c i w rows q (r ∷ rs) (v ∷ vs) k at s l h f m e =
    let g = λ (j : ℕ). run.value_in (register_shape r) rows w (at + j) in
    let t = write c r g s in
    let next : at + height (register_shape r) * w ≡ (k + height (shape v)) * w = let a = ap height f.0.0 in let b = ap (λ n. n * w) a in omega (arith, e, b) in
    let taken : g (source r i) ≡ v = ap g (varying_source r i f.0.1) ∙ ap (λ n. run.value_in (register_shape r) rows w (n + i)) e ∙ same_value (register_shape r) rows w k i ∙ ap (λ z. value_in z rows w k i) f.0.0 ∙ sym m.0 in
    loaded_look c i w rows q rs vs (k + height (shape v)) (at + height (register_shape r) * w) t l (live_on s t i (write_keeps c r g s) h) f.1 m.1 next
    ∙ ap (look q rs vs) (read_write c i q r g s l h ∙ ap (λ z. cond (same_register q r) z (read s q i)) taken)
loaded_look c i w rows q [] (v ∷ vs) k at s l h f m e = absurd f
loaded_look c i w rows q (r ∷ rs) [] k at s l h f m e = absurd f

-- ---- looking among registers
abbrev pub Paired : List Register → List Value → Type 0
Paired [] [] = Unit {0}
Paired (r ∷ rs) (v ∷ vs) = Paired rs vs
Paired _ _ = ⊥

pub look_on : (q : Register) (rs qs : List Register) (vs ws : List Value) (d : Value) → Paired rs vs → look q (rs ++ qs) (vs ++ ws) d ≡ look q qs ws (look q rs vs d)
look_on q [] qs [] ws d p = refl
look_on q (r ∷ rs) qs (v ∷ vs) ws d p = look_on q rs qs vs ws (cond (same_register q r) v d) p
look_on q [] qs (v ∷ vs) ws d p = absurd p
look_on q (r ∷ rs) qs [] ws d p = absurd p

pub look_apart : (q : Register) (rs : List Register) (vs : List Value) (d : Value) → Every (λ r. same_register q r ≡ false) rs → look q rs vs d ≡ d
look_apart q [] vs d h = refl
look_apart q (r ∷ rs) [] d h = refl
look_apart q (r ∷ rs) (v ∷ vs) d h = look_apart q rs vs (cond (same_register q r) v d) h.1 ∙ cond-false (same_register q r) v d h.0

pub number_apart : (q r : Register) → (register_number q ≡ register_number r → ⊥) → same_register q r ≡ false
number_apart (Uniform t k) (Uniform s r) h = and_right (same_shape t s) (k == r) (ne_eqb k r h)
number_apart (Varying t k) (Varying s r) h = and_right (same_shape t s) (k == r) (ne_eqb k r h)
number_apart (Uniform t k) (Varying s r) h = refl
number_apart (Varying t k) (Uniform s r) h = refl

pub class_apart : (q r : Register) → (register_class q ≡ register_class r → ⊥) → same_register q r ≡ false
class_apart (Uniform t k) (Uniform s r) h = absurd (h refl)
class_apart (Varying t k) (Varying s r) h = absurd (h refl)
class_apart (Uniform t k) (Varying s r) h = refl
class_apart (Varying t k) (Uniform s r) h = refl

same_self : (t : Shape) → same_shape t t ≡ true
same_self shapes.Number = refl
same_self shapes.Triple = refl
same_self shapes.Word = refl

pub register_self : (q : Register) → same_register q q ≡ true
register_self (Uniform t k) = and_from (same_shape t t) (k == k) (same_self t) (eq-eqb k k refl)
register_self (Varying t k) = and_from (same_shape t t) (k == k) (same_self t) (eq-eqb k k refl)

pub shape_of_reg : (u : Bool) (s : Shape) (k : ℕ) → register_shape (reg u s k) ≡ s
shape_of_reg true s k = refl
shape_of_reg false s k = refl

pub class_of_reg : (u : Bool) (s : Shape) (k : ℕ) → register_class (reg u s k) ≡ u
class_of_reg true s k = refl
class_of_reg false s k = refl

pub number_of_reg : (u : Bool) (s : Shape) (k : ℕ) → register_number (reg u s k) ≡ k
number_of_reg true s k = refl
number_of_reg false s k = refl

pub every_map : {X : Type 0} (P Q : X → Type 0) (f : (x : X) → P x → Q x) (xs : List X) → Every P xs → Every Q xs
every_map P Q f [] h = tt
every_map P Q f (x ∷ xs) h = (f x h.0, every_map P Q f xs h.1)
