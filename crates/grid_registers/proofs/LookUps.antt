-- A look-up in a texture that is there, in one past all of them, and in none.
use Rattle.std.proofs.Common.{◌≡◌, ℕ, zero, suc, ℤ, ◌*◌, ◌/◌, ◌^◌, ◌-ℤ◌, ◌<◌, ◌≤◌, pos, length, get_or, List, Bool, true, false, cond, Some, None, refl, sym, ap, subst, arith, ◌∙◌, ⊎_elim}
use Rattle.std.specs.Prelude.{nat_lt, nat_le, int_le, max, min, unsigned_abs, slice_set, ◌+◌}
use Rattle.std.proofs.lemmas.Int.{ints}
use Rattle.std.proofs.lemmas.List.{get_or-set_same, get_or-set_other}
use Rattle.std.proofs.Math.Nat.{mul-le-mul, lt-div-mul-add, div-mul-le_self}
use Rattle.std.proofs.Math.Pow.{pow_mono}
use Rattle.std.specs.Borrow.{Bor}
use Rattle.std.proofs.lemmas.Bool.{cond-true, cond-false, lt-ltb, le-ltb, lt-leb, le-leb, cases_lt}
use Rattle.fixed_math.specs.Axes.{origin}
use Rattle.fixed_math.specs.declared.vec3.Vec3.{Vec3}
use Rattle.sl_ast.specs.declared.typed.Value.TheVariants.{Triple}
use Rattle.fixed_math.specs.Fixed.{sat}
use Rattle.fixed_math.specs.Whole.{first_passing}
use Rattle.texture.specs.Images.{Image, most_side}
use Rattle.texture.specs.Levels.{level_of, last_level}
use Rattle.texture.specs.Looks.{look_of}
use Rattle.texture.specs.Slots.{no_image}
use Rattle.builtins.specs.Differences.{Lines}
use Rattle.builtins.specs.Shapes.{shape}
use Rattle.builtins.specs.Textures.{step as step_at, way, ways, later_u, earlier_u, later_v, earlier_v, looked_up, image_named}
use Rattle.sl_ast.specs.declared.typed.Value.{Value}
use Rattle.place_rows.specs.declared.bank.Bank.{Bank}
use Rattle.place_rows.specs.Banks.{held}
use Rattle.place_values.specs.Cells.{value_of}
use Rattle.grid_registers.specs.Held.{HoldsEach}
use Rattle.grid_registers.specs.Frames.{lines_of}
use Rattle.grid_registers.specs.declared.frame.Frame.{Frame}
use Rattle.grid_registers.specs.declared.look_ups.Coordinates.{Coordinates}
use Rattle.grid_registers.specs.declared.sides.Sides.{Sides}
use Rattle.grid_registers.specs.LookUps.{IsAlike, IsWay, AreWays, IsStep, AreSteps}

-- steps that are alike choose the same level
pub first_passing_same : (n : ℕ) (p q : ℕ → Bool) → ((j : ℕ) → j < n → p j ≡ q j) → first_passing n p ≡ first_passing n q
unfolding first_passing
first_passing_same zero p q h = refl
first_passing_same (suc n) p q h =
    ap (λ (t : Bool). cond t 0 (suc (first_passing n (λ j. p (suc j))))) (h 0 (omega arith))
    ∙ ap (λ m. cond (q 0) 0 (suc m)) (first_passing_same n (λ j. p (suc j)) (λ j. q (suc j)) (λ j l. h (suc j) (omega (arith, l))))

one_more_most : (b : Bool) (m n : ℕ) → m ≤ n → cond b 0 (suc m) ≤ suc n
one_more_most true m n h = omega arith
one_more_most false m n h = omega (arith, h)

first_passing_most : (n : ℕ) (p : ℕ → Bool) → first_passing n p ≤ n
unfolding first_passing
first_passing_most zero p = omega arith
first_passing_most (suc n) p = one_more_most (p 0) (first_passing n (λ j. p (suc j))) n (first_passing_most n (λ j. p (suc j)))

alike_below : (a b m : ℕ) → m < 134217729 → IsAlike a b → a ≤ m → b ≤ m
alike_below a b m h e l = omega (arith, h, e, l)

same_test : (a b m : ℕ) → m < 134217729 → IsAlike a b → nat_le a m ≡ nat_le b m
same_test a b m h e =
    ⊎_elim
    (λ (l : m < a). lt-leb a m l ∙ sym (lt-leb b m (⊎_elim (λ (k : m < b). k) (λ (k : b ≤ m). absurd (let z = alike_below b a m h (sym e) k in omega (arith, z, l))) (cases_lt m b))))
    (λ (l : a ≤ m). le-leb a m l ∙ sym (le-leb b m (alike_below a b m h e l)))
    (cases_lt m a)

pub level_alike : (p : Image) (a b : ℕ) → IsAlike a b → level_of p (pos a) ≡ level_of p (pos b)
level_alike p a b e =
    first_passing_same (last_level p) (λ l. int_le (pos a) (pos (65536 * 2 ^ l))) (λ l. int_le (pos b) (pos (65536 * 2 ^ l)))
    (λ j h.
    let most : last_level p ≤ 11 = first_passing_most 11 (λ l. nat_le (most_side p) (2 ^ l)) in
    let low : j ≤ 11 = omega (arith, h, most) in
    let power : 2 ^ j ≤ 2 ^ 11 = pow_mono low in
    same_test a b (65536 * 2 ^ j) (omega (arith, power)) e)

pub alike_max : (a b c d : ℕ) → IsAlike a c → IsAlike b d → IsAlike (max a b) (max c d)
alike_max a b c d e f = omega (arith, e, f)

-- the way between two numbers, cut
abs_sat : (z : ℤ) → unsigned_abs (sat z) ≡ min (unsigned_abs z) 2147483647
abs_sat z = grind (arith, ints)

far_enough : (side far : ℕ) → 0 < side → far ≡ 134217728 / max side 1 + 1 → 134217729 ≤ far * side
far_enough side far h e =
    let m : max side 1 ≡ side = omega (arith, h) in
    let d : far ≡ 134217728 / side + 1 = e ∙ ap (λ k. 134217728 / k + 1) m in
    let l : 134217728 < 134217728 / side * side + side = lt-div-mul-add h in
    let f : far * side ≡ (134217728 / side + 1) * side = ap (λ k. k * side) d in
    let g : (134217728 / side + 1) * side ≡ 134217728 / side * side + side = omega arith in
    omega (arith, l, f, g)

pub far_most : (side far apart : ℕ) → side ≤ 2048 → far ≡ 134217728 / max side 1 + 1 → min apart far * side ≤ 134217728 + 2048
far_most side far apart s e =
    let a : min apart far ≤ far = omega arith in
    let b : min apart far * side ≤ far * side = mul-le-mul a (omega arith) in
    let c : 134217728 / max side 1 * max side 1 ≤ 134217728 = div-mul-le_self 134217728 (max side 1) in
    let d : far * side ≤ (134217728 / max side 1 + 1) * max side 1 = mul-le-mul (omega (arith, e)) (omega arith) in
    let f : (134217728 / max side 1 + 1) * max side 1 ≡ 134217728 / max side 1 * max side 1 + max side 1 = omega arith in
    omega (arith, b, c, d, f, s)

cut_some : (side far d : ℕ) → 0 < side → far ≡ 134217728 / max side 1 + 1 → IsAlike (min d far * side) (min d 2147483647 * side)
cut_some side far d h e =
    let q = 134217728 / max side 1 in
    let c : q * max side 1 ≤ 134217728 = div-mul-le_self 134217728 (max side 1) in
    let o : q * 1 ≤ q * max side 1 = mul-le-mul (omega arith) (omega arith) in
    let few : far ≤ 134217729 = omega (arith, e, c, o) in
    ⊎_elim
    (λ (l : far < d).
    let w = far_enough side far h e in
    let x : min d far ≡ far = omega (arith, l) in
    let y : min d far * side ≡ far * side = ap (λ k. k * side) x in
    let z : far ≤ min d 2147483647 = omega (arith, l, few) in
    let v : far * side ≤ min d 2147483647 * side = mul-le-mul z (omega arith) in
    omega (arith, w, y, v))
    (λ (l : d ≤ far).
    let x : min d far ≡ min d 2147483647 = omega (arith, l, few) in
    ap (λ k. min (k * side) 134217729) x)
    (cases_lt far d)

cut_alike : (side far d : ℕ) → far ≡ 134217728 / max side 1 + 1 → IsAlike (min d far * side) (min d 2147483647 * side)
cut_alike side far d e =
    ⊎_elim
    (λ (l : 0 < side). cut_some side far d l e)
    (λ (l : side ≤ 0).
    let z : side ≡ 0 = omega (arith, l) in
    let x : min d far * side ≡ min d far * 0 = ap (λ k. min d far * k) z in
    let y : min d 2147483647 * side ≡ min d 2147483647 * 0 = ap (λ k. min d 2147483647 * k) z in
    omega (arith, x, y))
    (cases_lt 0 side)

pub ways_alike : (side far : ℕ) (x y : ℤ) (apart : ℕ) → far ≡ 134217728 / max side 1 + 1 → apart ≡ unsigned_abs (x -ℤ y) → IsAlike (min apart far * side) (ways side x y)
ways_alike side far x y apart e h =
    cut_alike side far apart e ∙ ap (λ k. min (k * side) 134217729) (ap (λ k. min k 2147483647) h ∙ sym (abs_sat (x -ℤ y)))

module _ (lines : Lines) (ps : List Image) (k : ℕ) (s t : ℕ → ℤ) (i : ℕ) where
  pub looked_there : (step : ℕ) (v : Vec3) → k < length ps → IsAlike step (step_at lines (get_or ps k no_image) s t i) → v ≡ look_of (get_or ps k no_image) (level_of (get_or ps k no_image) (pos step)) (s i) (t i)
      → Triple v ≡ looked_up lines (image_named ps (Some k)) s t i
  unfolding looked_up
  looked_there step v l hs hv =
      let p = get_or ps k no_image in
      ap Triple (hv ∙ ap (λ l. look_of p l (s i) (t i)) (level_alike p step (step_at lines p s t i) hs)) ∙ ap (λ q. looked_up lines q s t i) (sym (cond-true (nat_lt k (length ps)) (Some p) None (lt-ltb k (length ps) l)))

  pub looked_past : length ps ≤ k → Triple origin ≡ looked_up lines (image_named ps (Some k)) s t i
  unfolding looked_up
  looked_past l = ap (λ q. looked_up lines q s t i) (sym (cond-false (nat_lt k (length ps)) (Some (get_or ps k no_image)) None (le-ltb k (length ps) l)))

pub looked_nowhere : (lines : Lines) (ps : List Image) (s t : ℕ → ℤ) (i : ℕ) → Triple origin ≡ looked_up lines (image_named ps None) s t i
unfolding looked_up
looked_nowhere lines ps s t i = refl

-- a way by its steps
pub way_through : (p : Image) (w h : ℕ) (s t : ℕ → ℤ) (i j : ℕ) (x y z u : ℤ) (a b r : ℕ) → p.width ≡ w → p.height ≡ h → x ≡ s i → y ≡ s j → z ≡ t i → u ≡ t j →
    a ≡ ways w x y → b ≡ ways h z u → r ≡ max a b → r ≡ way p s t i j
way_through p w h s t i j x y z u a b r ew eh ex ey ez eu ea eb er =
    let across : a ≡ ways p.width (s i) (s j) = ea ∙ ap (λ q. ways q x y) (sym ew) ∙ ap (λ q. ways p.width q y) ex ∙ ap (λ q. ways p.width (s i) q) ey in
    let up : b ≡ ways p.height (t i) (t j) = eb ∙ ap (λ q. ways q z u) (sym eh) ∙ ap (λ q. ways p.height q u) ez ∙ ap (λ q. ways p.height (t i) q) eu in
    er ∙ ap (λ q. max q b) across ∙ ap (λ q. max (ways p.width (s i) (s j)) q) up

-- a row that holds one function's values holds those of another that is the same
pub holds_same : (ts : List (Bor (List ℕ))) (row : Bank) (c : ℕ) (f g : ℕ → Value) → ((i : ℕ) → f i ≡ g i) → HoldsEach ts row c f → HoldsEach ts row c g
holds_same ts row c f g e h j l = subst (λ v. value_of ts (held row (shape v) j) ≡ v) (e j) (h j l)

pub way_alike : (p : Image) (w h : ℕ) (s t : ℕ → ℤ) (i j : ℕ) (x y z u : ℤ) (a b r : ℕ) → p.width ≡ w → p.height ≡ h → x ≡ s i → y ≡ s j → z ≡ t i → u ≡ t j →
    IsAlike a (ways w x y) → IsAlike b (ways h z u) → r ≡ max a b → IsAlike r (way p s t i j)
way_alike p w h s t i j x y z u a b r ew eh ex ey ez eu ea eb er =
    ap (λ k. min k 134217729) er ∙ alike_max a b (ways w x y) (ways h z u) ea eb
    ∙ ap (λ k. min k 134217729) (way_through p w h s t i j x y z u (ways w x y) (ways h z u) (max (ways w x y) (ways h z u)) ew eh ex ey ez eu refl refl refl)

pub way_is : (sides : Sides) (c : Coordinates) (later earlier : ℕ) (x y z u : ℤ) (a b r : ℕ) →
    x ≡ get_or c.s.now later (pos 0) → y ≡ get_or c.s.now earlier (pos 0) → z ≡ get_or c.t.now later (pos 0) → u ≡ get_or c.t.now earlier (pos 0) →
    IsAlike a (ways sides.width x y) → IsAlike b (ways sides.height z u) → a ≤ 2 ^ 28 → b ≤ 2 ^ 28 → r ≡ max a b → IsWay sides c later earlier r
way_is sides c later earlier x y z u a b r ex ey ez eu ea eb ha hb er = record {
  value = λ p s t are l e.
      way_alike p sides.width sides.height s t later earlier x y z u a b r are.width are.height (ex ∙ l.s_is) (ey ∙ e.s_is) (ez ∙ l.t_is) (eu ∙ e.t_is) ea eb er;
  bound = omega (arith, ha, hb, er);
}

pub ways_more : (sides : Sides) (c : Coordinates) (n on r : ℕ) (xs : List ℕ) → n < length xs → AreWays sides c n on xs → IsWay sides c (n + on) n r → AreWays sides c (n + 1) on (slice_set xs n r)
ways_more sides c n on r xs l h w i k =
    ⊎_elim
    (λ (e : i < n). subst (IsWay sides c (i + on) i) (sym (get_or-set_other xs n i r 0 (λ q. absurd (omega (arith, q, e))))) (h i e))
    (λ (e : n ≤ i).
    let q : n ≡ i = omega (arith, k, e) in
    subst (λ j. IsWay sides c (j + on) j (get_or (slice_set xs n r) j 0)) q (subst (IsWay sides c (n + on) n) (sym (get_or-set_same xs n r 0 l)) w))
    (cases_lt i n)

pub steps_more : (f : Frame) (sides : Sides) (c : Coordinates) (n r : ℕ) (xs : List ℕ) → n < length xs → AreSteps f sides c n xs → IsStep f sides c n r → AreSteps f sides c (n + 1) (slice_set xs n r)
steps_more f sides c n r xs l h w i k =
    ⊎_elim
    (λ (e : i < n). subst (IsStep f sides c i) (sym (get_or-set_other xs n i r 0 (λ q. absurd (omega (arith, q, e))))) (h i e))
    (λ (e : n ≤ i).
    let q : n ≡ i = omega (arith, k, e) in
    subst (λ j. IsStep f sides c j (get_or (slice_set xs n r) j 0)) q (subst (IsStep f sides c n) (sym (get_or-set_same xs n r 0 l)) w))
    (cases_lt i n)

-- the step at a place by the ways to its neighbours
pub step_is : (f : Frame) (sides : Sides) (c : Coordinates) (i eu ev a b r : ℕ) → eu ≡ earlier_u (lines_of f) i → eu + 1 ≡ later_u (lines_of f) i → eu + 1 < f.places →
    ev ≡ earlier_v (lines_of f) i → ev + f.columns ≡ later_v (lines_of f) i → ev + f.columns < f.places →
    IsWay sides c (eu + 1) eu a → IsWay sides c (ev + f.columns) ev b → r ≡ max a b → IsStep f sides c i r
step_is f sides c i eu ev a b r hu ku lu hv kv lv wa wb er = record {
  value = λ p s t are at.
      let x : IsAlike a (way p s t (later_u (lines_of f) i) (earlier_u (lines_of f) i)) =
      wa.value p s t are (at (eu + 1) lu) (at eu (omega (arith, lu))) ∙ ap (λ k. min (way p s t k eu) 134217729) ku ∙ ap (λ k. min (way p s t (later_u (lines_of f) i) k) 134217729) hu in
      let y : IsAlike b (way p s t (later_v (lines_of f) i) (earlier_v (lines_of f) i)) =
      wb.value p s t are (at (ev + f.columns) lv) (at ev (omega (arith, lv))) ∙ ap (λ k. min (way p s t k ev) 134217729) kv ∙ ap (λ k. min (way p s t (later_v (lines_of f) i) k) 134217729) hv in
      ap (λ k. min k 134217729) er
      ∙ alike_max a b (way p s t (later_u (lines_of f) i) (earlier_u (lines_of f) i)) (way p s t (later_v (lines_of f) i) (earlier_v (lines_of f) i)) x y;
  bound = let ha = wa.bound in let hb = wb.bound in omega (arith, ha, hb, er);
}
