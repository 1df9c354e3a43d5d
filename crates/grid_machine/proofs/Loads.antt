-- Registers that take given values, one behind another.
use Rattle.std.proofs.Common.{◌≡◌, ℕ, zero, suc, ℤ, ◌+◌, ◌*◌, ◌<◌, List, [], ◌∷◌, length, get_or, drop, map, refl, sym, ap, ◌∙◌, arith, subst, add-one}
use Rattle.std.proofs.Math.Seq.{drop-cons}
use Rattle.sl_ast.specs.declared.typed.Value.{Value}
use Rattle.builtins.specs.declared.shape.Shape.{Shape}
use Rattle.builtins.specs.declared.shape.Shape.TheVariants as shapes
use Rattle.builtins.specs.Shapes.{shape}
use Rattle.grid_code.specs.declared.code.Register.{Register}
use Rattle.grid_code.specs.declared.register_set.RegisterSet.{RegisterSet}
use Rattle.grid_code.specs.Shapes.{register_shape}
use Rattle.grid_code.specs.Masked.{State, write}
use Rattle.place_rows.specs.Layout.{height}
use Rattle.grid_machine.specs.Run.{rows_of, value_in, assigned, loaded}
use Rattle.grid_machine.specs.State.{Near}
use Rattle.grid_machine.proofs.Near.{near_on, write_near}

pub value_in_shape : (s : Shape) (rows : List ℤ) (w at : ℕ) → shape (value_in s rows w at) ≡ s
value_in_shape shapes.Number rows w at = refl
value_in_shape shapes.Triple rows w at = refl
value_in_shape shapes.Word rows w at = refl

pub same_shapes : (vs : List Value) (rs : List Register) (k : ℕ) (v : Value) (r : Register) → k < length rs → map shape vs ≡ map register_shape rs → shape (get_or vs k v) ≡ register_shape (get_or rs k r)
same_shapes vs [] k v r l h = absurd (omega arith)
same_shapes [] (q ∷ qs) k v r l h = absurd (let z = ap length h in omega arith)
same_shapes (x ∷ xs) (q ∷ qs) zero v r l h = ap (λ ss. get_or ss 0 shapes.Number) h
same_shapes (x ∷ xs) (q ∷ qs) (suc k) v r l h = same_shapes xs qs k v r (omega arith) (ap (drop 1) h)

pub map_length : {A B : Type 0} (f : A → B) (xs : List A) → length (map f xs) ≡ length xs
map_length f [] = refl
map_length f (x ∷ xs) = ap suc (map_length f xs)

pub rows_left : (rs : List Register) (k : ℕ) (q : Register) → q ≡ get_or rs k q → k < length rs → rows_of (drop k rs) ≡ height (register_shape q) + rows_of (drop (k + 1) rs)
rows_left rs k q is l = ap rows_of (drop-cons rs k q l) ∙ ap (λ r. height (register_shape r) + rows_of (drop (suc k) rs)) (sym is) ∙ ap (λ n. height (register_shape q) + rows_of (drop n rs)) (sym (add-one k))

room_left : (at h n w : ℕ) → at + (h + n) * w ≡ at + h * w + n * w
room_left at h n w = omega arith

-- what a register leaves of the rows
pub room_after : (at k w n : ℕ) (rs : List Register) (q : Register) → q ≡ get_or rs k q → k < length rs → at + rows_of (drop k rs) * w ≡ n → at + height (register_shape q) * w + rows_of (drop (k + 1) rs) * w ≡ n
room_after at k w n rs q is l e = sym (room_left at (height (register_shape q)) (rows_of (drop (k + 1) rs)) w) ∙ ap (λ m. at + m * w) (sym (rows_left rs k q is l)) ∙ e

module _ (c : ℕ) (v z : RegisterSet) where
  -- what is left to assign, from any state that is the same on the grid
  abbrev pub Assigning : List Register → List Value → ℕ → State → State → Type 0
  Assigning rs vs k m0 m = (g : State) → Near c v z g m0 → (h : State) × (Near c v z h m × (assigned c (drop k rs) (drop k vs) h ≡ assigned c rs vs g))

  pub assigning_next : (rs : List Register) (vs : List Value) (k : ℕ) (q : Register) (x : Value) (m0 m m' : State) → 0 < c → q ≡ get_or rs k q → x ≡ get_or vs k x → k < length rs → k < length vs → Assigning rs vs k m0 m → Near c v z (write c q (λ i. x) m) m' → Assigning rs vs (k + 1) m0 m'
  assigning_next rs vs k q x m0 m m' pos iq ix l lv e st g near =
      let y = e g near in
      let f : ℕ → Value = λ i. x in
      let first = drop-cons rs k q l ∙ ap (λ r. r ∷ drop (suc k) rs) (sym iq) in
      let second = drop-cons vs k x lv ∙ ap (λ r. r ∷ drop (suc k) vs) (sym ix) in (
        write c q f y.0,
        (
          near_on c v z _ _ _ (write_near c v z q f f y.0 m pos y.1.0 (λ i b. refl)) st,
          ap (λ n. assigned c (drop n rs) (drop n vs) (write c q f y.0)) (add-one k)
              ∙ sym (ap (λ xs. assigned c xs (drop k vs) y.0) first ∙ ap (λ xs. assigned c (q ∷ drop (suc k) rs) xs y.0) second) ∙ y.1.1,
        ),
      )

  abbrev pub Loading : ℕ → List ℤ → List Register → ℕ → ℕ → State → State → Type 0
  Loading w rows rs k at m0 m = (g : State) → Near c v z g m0 → (h : State) × (Near c v z h m × (loaded c w rows (drop k rs) at h ≡ loaded c w rows rs 0 g))

  pub loading_next : (w : ℕ) (rows : List ℤ) (rs : List Register) (k at : ℕ) (q : Register) (m0 m m' : State) → 0 < c → q ≡ get_or rs k q → k < length rs → Loading w rows rs k at m0 m → Near c v z (write c q (λ i. value_in (register_shape q) rows w (at + i)) m) m' → Loading w rows rs (k + 1) (at + height (register_shape q) * w) m0 m'
  loading_next w rows rs k at q m0 m m' pos iq l e st g near =
      let y = e g near in
      let f : ℕ → Value = λ i. value_in (register_shape q) rows w (at + i) in
      let first = drop-cons rs k q l ∙ ap (λ r. r ∷ drop (suc k) rs) (sym iq) in (
        write c q f y.0,
        (
          near_on c v z _ _ _ (write_near c v z q f f y.0 m pos y.1.0 (λ i b. refl)) st,
          ap (λ n. loaded c w rows (drop n rs) (at + height (register_shape q) * w) (write c q f y.0)) (add-one k)
              ∙ sym (ap (λ xs. loaded c w rows xs at y.0) first) ∙ y.1.1,
        ),
      )

  pub nothing_left : {A : Type 0} (xs : List A) (k : ℕ) → k ≡ length xs → drop k xs ≡ []
  nothing_left [] k h = ap (λ n. drop n []) h
  nothing_left (x ∷ xs) k h = ap (λ n. drop n (x ∷ xs)) h ∙ nothing_left xs (length xs) refl

  pub assigned_all : (rs : List Register) (vs : List Value) (k : ℕ) (m0 m : State) → k ≡ length rs → Assigning rs vs k m0 m → (g : State) → Near c v z g m0 → Near c v z (assigned c rs vs g) m
  assigned_all rs vs k m0 m end e g near =
      let y = e g near in
      subst (λ s. Near c v z s m) (sym (ap (λ xs. assigned c xs (drop k vs) y.0) (nothing_left rs k end)) ∙ y.1.1) y.1.0

  pub loaded_all : (w : ℕ) (rows : List ℤ) (rs : List Register) (k at : ℕ) (m0 m : State) → k ≡ length rs → Loading w rows rs k at m0 m → (g : State) → Near c v z g m0 → Near c v z (loaded c w rows rs 0 g) m
  loaded_all w rows rs k at m0 m end e g near =
      let y = e g near in
      subst (λ s. Near c v z s m) (sym (ap (λ xs. loaded c w rows xs at y.0) (nothing_left rs k end)) ∙ y.1.1) y.1.0
