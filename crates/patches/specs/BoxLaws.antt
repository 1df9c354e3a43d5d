-- What the laws of boxes are made of.
use Rattle.std.proofs.Common.{◌≡◌, ℕ, zero, suc, ◌+◌, ◌*◌, ◌^◌, ◌<◌, ◌≤◌, ap, arith, subst, refl, lit<, add-zero, sym, ◌∙◌, List, [], ◌∷◌, length, ⊎_elim}
use Rattle.std.proofs.Math.Nat.{mul_assoc, pow-succ'}
use Rattle.std.specs.Prelude.{ℤ, pos, neg_ℤ, unsigned_abs, ◌≤ℤ◌, ◌+ℤ◌, ◌-ℤ◌, ◌*ℤ◌}
use Rattle.std.proofs.lemmas.Int.{ints}
use Rattle.std.proofs.lemmas.Bool.{cases_lt}
use Rattle.fixed_math.specs.declared.vec3.Vec3.{Vec3}
use Rattle.fixed_math.specs.declared.vec3.Axis.{Axis}
use Rattle.fixed_math.specs.declared.vec3.Axis.TheVariants.{X, Y, Z}
use Rattle.fixed_math.specs.Axes.{part_of, by_axes, least, greatest, AreWithin}
use Rattle.fixed_math.specs.Blossom.{denominator, ends, AllFromTo, whole}
use Rattle.fixed_math.specs.Tensor.{blossom_net, weighted_net, weights_1, weights_3}
use Rattle.fixed_math.specs.Whole.{floor_by}
use Rattle.fixed_math.proofs.Weights.{floor_ge, floor_lt, le_floor, floor_below}
use Rattle.fixed_math.proofs.Fits.{blossom_net_abs, floor_abs}
use Rattle.fixed_math.proofs.Tensors.{net_low, net_high, weighted_net_1, weighted_net_3, length-ends, ends_from_to}
use Rattle.patches.specs.Rects.{Rect, IsRect, IsInside}
use Rattle.patches.specs.Lists.{Each}
use Rattle.patches.specs.Nets.{control, blossom_point, all_ends, net_points, bilinear_point, bilinear_net, bicubic_point, bicubic_net}
use Rattle.patches.specs.Boxes.{Box, corners, IsWithin, least_box, Holds, IsOrdered, PointsLieInBoxes, PartsLieInBoxes, NetsHaveRows}
use Rattle.patches.specs.ListLaws.{Each-grid, grid-Each, Each-weaken, fold_min_below, fold_max_above, fold_min_from, fold_max_to}

pub part-by_axes : (f : Axis → ℤ) (a : Axis) → part_of a (by_axes f) ≡ f a
part-by_axes f X = refl
part-by_axes f Y = refl
part-by_axes f Z = refl

pub Each_ends : (P : List ℕ → Type 0) (a b l h : ℕ) → Each P (all_ends a b l h) → (x y : ℕ) → x + y ≡ a + b → b ≤ y → P (ends x y l h)
Each_ends P zero b l h e x y q r =
    let f : x ≡ 0 = omega arith in
    let g : y ≡ b = omega arith in
    subst (λ i. P (ends i y l h)) (sym f) (subst (λ j. P (ends 0 j l h)) (sym g) e.0)
Each_ends P (suc a) b l h e x y q r =
    ⊎_elim
    (λ (s : b < y). Each_ends P a (suc b) l h e.1 x y (omega arith) s)
    (λ (s : y ≤ b).
    let f : x ≡ suc a = omega arith in
    let g : y ≡ b = omega arith in
    subst (λ i. P (ends i y l h)) (sym f) (subst (λ j. P (ends (suc a) j l h)) (sym g) e.0))
    (cases_lt b y)

pub ends_Each : (P : List ℕ → Type 0) (a b l h : ℕ) → ((x y : ℕ) → x + y ≡ a + b → P (ends x y l h)) → Each P (all_ends a b l h)
ends_Each P zero b l h f = (f 0 b refl, tt)
ends_Each P (suc a) b l h f = (f (suc a) b refl, ends_Each P a (suc b) l h (λ x y e. f x y (omega (arith, e))))

pub least_below : (a : Axis) (ps : List Vec3) → Each (λ p. least a ps ≤ℤ part_of a p) ps
least_below a [] = tt
least_below a (p ∷ ps) = fold_min_below (part_of a) (part_of a p) ps

pub greatest_above : (a : Axis) (ps : List Vec3) → Each (λ p. part_of a p ≤ℤ greatest a ps) ps
greatest_above a [] = tt
greatest_above a (p ∷ ps) = fold_max_above (part_of a) (part_of a p) ps

-- a blossom whose arguments lie in a rectangle lies in the box of the rectangle's net
pub blossom_in_box : (n w d : ℕ) (ps : List Vec3) (r : Rect) (us vs : List ℕ) → 0 < d → r.right ≤ denominator → r.top ≤ denominator →
    length us ≡ n → length vs ≡ n → AllFromTo r.left r.right us → AllFromTo r.bottom r.top vs →
    Holds (least_box (net_points n w d ps r)) (blossom_point w d ps us vs)
blossom_in_box n w d ps r us vs hd hr ht lu lv wu wv a =
    let net = net_points n w d ps r in
    let value : List ℕ → List ℕ → ℤ = λ us vs. blossom_net us vs (control w ps a) in
    let low : (x y i j : ℕ) → x + y ≡ length us → i + j ≡ length vs → (pos d *ℤ least a net) ≤ℤ value (ends x y r.left r.right) (ends i j r.bottom r.top) =
    λ x y i j e f.
    let rows = Each-grid (λ p. least a net ≤ℤ part_of a p) (blossom_point w d ps) (all_ends n 0 r.left r.right) (all_ends n 0 r.bottom r.top) (least_below a net) in
    let row = Each_ends (λ vs. Each (λ us. least a net ≤ℤ part_of a (blossom_point w d ps us vs)) (all_ends n 0 r.left r.right)) n 0 r.bottom r.top rows i j (omega (arith, f, lv)) (omega arith) in
    let here = Each_ends (λ us. least a net ≤ℤ part_of a (blossom_point w d ps us (ends i j r.bottom r.top))) n 0 r.left r.right row x y (omega (arith, e, lu)) (omega arith) in
    le_floor (value (ends x y r.left r.right) (ends i j r.bottom r.top)) (least a net) d hd
    (rw (part-by_axes (λ a. floor_by (blossom_net (ends x y r.left r.right) (ends i j r.bottom r.top) (control w ps a)) d) a) at here) in
    let high : (x y i j : ℕ) → x + y ≡ length us → i + j ≡ length vs → value (ends x y r.left r.right) (ends i j r.bottom r.top) ≤ℤ ((pos d *ℤ greatest a net +ℤ pos d) -ℤ pos 1) =
    λ x y i j e f.
    let rows = Each-grid (λ p. part_of a p ≤ℤ greatest a net) (blossom_point w d ps) (all_ends n 0 r.left r.right) (all_ends n 0 r.bottom r.top) (greatest_above a net) in
    let row = Each_ends (λ vs. Each (λ us. part_of a (blossom_point w d ps us vs) ≤ℤ greatest a net) (all_ends n 0 r.left r.right)) n 0 r.bottom r.top rows i j (omega (arith, f, lv)) (omega arith) in
    let here = Each_ends (λ us. part_of a (blossom_point w d ps us (ends i j r.bottom r.top)) ≤ℤ greatest a net) n 0 r.left r.right row x y (omega (arith, e, lu)) (omega arith) in
    let b = floor_below (value (ends x y r.left r.right) (ends i j r.bottom r.top)) (greatest a net) d hd
    (rw (part-by_axes (λ a. floor_by (blossom_net (ends x y r.left r.right) (ends i j r.bottom r.top) (control w ps a)) d) a) at here) in
    omega (arith, ints, b) in
    let below = net_low us vs r.left r.right r.bottom r.top (pos d *ℤ least a net) (control w ps a) hr ht wu wv low in
    let above = net_high us vs r.left r.right r.bottom r.top ((pos d *ℤ greatest a net +ℤ pos d) -ℤ pos 1) (control w ps a) hr ht wu wv high in
    rw (part-by_axes (λ a. least a net) a, part-by_axes (λ a. greatest a net) a, part-by_axes (λ a. floor_by (blossom_net us vs (control w ps a)) d) a)
    (floor_ge (value us vs) (least a net) d hd below, floor_lt (value us vs) (greatest a net) d hd (omega (arith, ints, above)))

-- each point of a smaller net lies in the box of a larger one
pub net_in_box : (n w d : ℕ) (ps : List Vec3) (q r : Rect) → 0 < d → IsRect q → IsRect r → IsInside q r →
    Each (Holds (least_box (net_points n w d ps r))) (net_points n w d ps q)
net_in_box n w d ps q r hd hq hr part =
    grid-Each (Holds (least_box (net_points n w d ps r))) (blossom_point w d ps) (all_ends n 0 q.left q.right) (all_ends n 0 q.bottom q.top)
    (ends_Each (λ vs. Each (λ us. Holds (least_box (net_points n w d ps r)) (blossom_point w d ps us vs)) (all_ends n 0 q.left q.right)) n 0 q.bottom q.top
    (λ i j f. ends_Each (λ us. Holds (least_box (net_points n w d ps r)) (blossom_point w d ps us (ends i j q.bottom q.top))) n 0 q.left q.right
    (λ x y e. blossom_in_box n w d ps r (ends x y q.left q.right) (ends i j q.bottom q.top) hd hr.right_in hr.top_in
    (length-ends x y q.left q.right ∙ e ∙ add-zero n) (length-ends i j q.bottom q.top ∙ f ∙ add-zero n)
    (ends_from_to x y q.left q.right r.left r.right (omega arith) (omega arith) (omega arith) (omega arith))
    (ends_from_to i j q.bottom q.top r.bottom r.top (omega arith) (omega arith) (omega arith) (omega arith)))))

-- what bounds each point of a list bounds its least and greatest
pub least_between : (a : Axis) (l h : ℤ) (ps : List Vec3) → 0 < length ps → Each (λ p. (l ≤ℤ part_of a p) × (part_of a p ≤ℤ h)) ps → (l ≤ℤ least a ps) × (least a ps ≤ℤ h)
least_between a l h [] c e = absurd (omega arith)
least_between a l h (p ∷ ps) c e =
    let first = e.0 in (
      fold_min_from (part_of a) (part_of a p) l ps first.0 (Each-weaken (λ p. (l ≤ℤ part_of a p) × (part_of a p ≤ℤ h)) (λ p. l ≤ℤ part_of a p) ps (λ x b. b.0) e.1),
      (let b = (fold_min_below (part_of a) (part_of a p) ps).0 in let c = first.1 in omega (arith, ints, b, c)),
    )

pub greatest_between : (a : Axis) (l h : ℤ) (ps : List Vec3) → 0 < length ps → Each (λ p. (l ≤ℤ part_of a p) × (part_of a p ≤ℤ h)) ps → (l ≤ℤ greatest a ps) × (greatest a ps ≤ℤ h)
greatest_between a l h [] c e = absurd (omega arith)
greatest_between a l h (p ∷ ps) c e =
    let first = e.0 in (
      (let b = (fold_max_above (part_of a) (part_of a p) ps).0 in let c = first.0 in omega (arith, ints, b, c)),
      fold_max_to (part_of a) (part_of a p) h ps first.1 (Each-weaken (λ p. (l ≤ℤ part_of a p) × (part_of a p ≤ℤ h)) (λ p. part_of a p ≤ℤ h) ps (λ x b. b.1) e.1),
    )

pub corners_in_box : (ps qs : List Vec3) → 0 < length qs → Each (Holds (least_box ps)) qs → Holds (least_box ps) (least_box qs).low × Holds (least_box ps) (least_box qs).high
corners_in_box ps qs c e =
    let between : (a : Axis) → Each (λ p. (part_of a (least_box ps).low ≤ℤ part_of a p) × (part_of a p ≤ℤ part_of a (least_box ps).high)) qs =
    λ a. Each-weaken (Holds (least_box ps)) (λ p. (part_of a (least_box ps).low ≤ℤ part_of a p) × (part_of a p ≤ℤ part_of a (least_box ps).high)) qs (λ x f. f a) e in (
      (λ a. rw (part-by_axes (λ a. least a qs) a) (least_between a (part_of a (least_box ps).low) (part_of a (least_box ps).high) qs c (between a))),
      (λ a. rw (part-by_axes (λ a. greatest a qs) a) (greatest_between a (part_of a (least_box ps).low) (part_of a (least_box ps).high) qs c (between a))),
    )

-- ---- order and size of a least box
pub least_box-IsOrdered : (ps : List Vec3) → 0 < length ps → IsOrdered (least_box ps)
least_box-IsOrdered [] c a = absurd (omega arith)
least_box-IsOrdered (p ∷ ps) c a =
    let low = (least_below a (p ∷ ps)).0 in
    let high = (greatest_above a (p ∷ ps)).0 in
    rw (part-by_axes (λ a. least a (p ∷ ps)) a, part-by_axes (λ a. greatest a (p ∷ ps)) a) (omega (arith, ints, low, high))

pub Each-AreWithin : (m : ℕ) (ps : List Vec3) → Each (IsWithin m) ps → AreWithin m ps
Each-AreWithin m [] e k X = omega arith
Each-AreWithin m [] e k Y = omega arith
Each-AreWithin m [] e k Z = omega arith
Each-AreWithin m (p ∷ ps) e zero a = e.0 a
Each-AreWithin m (p ∷ ps) e (suc k) a = Each-AreWithin m ps e.1 k a

pub AreWithin-Each : (m : ℕ) (ps : List Vec3) → AreWithin m ps → Each (IsWithin m) ps
AreWithin-Each m [] h = tt
AreWithin-Each m (p ∷ ps) h = (λ a. h 0 a, AreWithin-Each m ps (λ k a. h (suc k) a))

to_order : (m : ℕ) (z : ℤ) → unsigned_abs z ≤ m → (neg_ℤ (pos m) ≤ℤ z) × (z ≤ℤ pos m)
to_order m z h = (omega (arith, ints), omega (arith, ints))

from_order : (m : ℕ) (z : ℤ) → (neg_ℤ (pos m) ≤ℤ z) × (z ≤ℤ pos m) → unsigned_abs z ≤ m
from_order m z h = let low = h.0 in let high = h.1 in omega (arith, ints, low, high)

pub least_box-within : (m : ℕ) (ps : List Vec3) → 0 < length ps → AreWithin m ps → AreWithin m (corners (least_box ps))
least_box-within m ps c h =
    let e = AreWithin-Each m ps h in
    let sides : (a : Axis) → Each (λ p. (neg_ℤ (pos m) ≤ℤ part_of a p) × (part_of a p ≤ℤ pos m)) ps =
    λ a. Each-weaken (IsWithin m) (λ p. (neg_ℤ (pos m) ≤ℤ part_of a p) × (part_of a p ≤ℤ pos m)) ps (λ x f. to_order m (part_of a x) (f a)) e in
    Each-AreWithin m (corners (least_box ps)) (
      (λ a. rw (part-by_axes (λ a. least a ps) a) (from_order m (least a ps) (least_between a (neg_ℤ (pos m)) (pos m) ps c (sides a)))),
      ((λ a. rw (part-by_axes (λ a. greatest a ps) a) (from_order m (greatest a ps) (greatest_between a (neg_ℤ (pos m)) (pos m) ps c (sides a)))), tt),
    )

-- ---- the size of points and nets
pub whole-length : (us : List ℕ) → whole us ≡ denominator ^ length us
whole-length [] = refl
whole-length (u ∷ us) = ap (λ n. denominator * n) (whole-length us) ∙ sym (pow-succ' denominator (length us))

pub blossom_point-within : (n w d m : ℕ) (ps : List Vec3) (us vs : List ℕ) → 0 < d → denominator ^ n * denominator ^ n ≡ d → length us ≡ n → length vs ≡ n →
    AllFromTo 0 denominator us → AllFromTo 0 denominator vs → AreWithin m ps → IsWithin m (blossom_point w d ps us vs)
blossom_point-within n w d m ps us vs hd e lu lv wu wv h a =
    let b = blossom_net_abs us vs (control w ps a) m wu wv (λ x y. h (w * y + x) a) in
    let wide : whole us ≡ denominator ^ n = whole-length us ∙ ap (λ k. denominator ^ k) lu in
    let high : whole vs ≡ denominator ^ n = whole-length vs ∙ ap (λ k. denominator ^ k) lv in
    let room : whole vs * (whole us * m) ≡ d * m = ap (λ k. k * (whole us * m)) high ∙ ap (λ k. denominator ^ n * (k * m)) wide ∙ sym (mul_assoc (denominator ^ n) (denominator ^ n) m) ∙ ap (λ k. k * m) e in
    rw (part-by_axes (λ a. floor_by (blossom_net us vs (control w ps a)) d) a)
    (floor_abs (blossom_net us vs (control w ps a)) d m hd (omega (arith, b, room)))

pub net_points-within : (n w d m : ℕ) (ps : List Vec3) (r : Rect) → 0 < d → denominator ^ n * denominator ^ n ≡ d → IsRect r → AreWithin m ps → Each (IsWithin m) (net_points n w d ps r)
net_points-within n w d m ps r hd e hr h =
    grid-Each (IsWithin m) (blossom_point w d ps) (all_ends n 0 r.left r.right) (all_ends n 0 r.bottom r.top)
    (ends_Each (λ vs. Each (λ us. IsWithin m (blossom_point w d ps us vs)) (all_ends n 0 r.left r.right)) n 0 r.bottom r.top
    (λ i j f. ends_Each (λ us. IsWithin m (blossom_point w d ps us (ends i j r.bottom r.top))) n 0 r.left r.right
    (λ x y g. blossom_point-within n w d m ps (ends x y r.left r.right) (ends i j r.bottom r.top) hd e
    (length-ends x y r.left r.right ∙ g ∙ add-zero n) (length-ends i j r.bottom r.top ∙ f ∙ add-zero n)
    (ends_from_to x y r.left r.right 0 denominator (omega arith) (let k = hr.across in let l = hr.right_in in omega arith) (omega arith) hr.right_in)
    (ends_from_to i j r.bottom r.top 0 denominator (omega arith) (let k = hr.up in let l = hr.top_in in omega arith) (omega arith) hr.top_in) h)))

pub by_axes_same : (f g : Axis → ℤ) → ((a : Axis) → f a ≡ g a) → by_axes f ≡ by_axes g
by_axes_same f g e = let x = e X in let y = e Y in let z = e Z in cc

pub bilinear_point-blossom : (ps : List Vec3) (u v : ℕ) → bilinear_point ps u v ≡ blossom_point 2 (denominator ^ 2) ps (u ∷ []) (v ∷ [])
bilinear_point-blossom ps u v =
    by_axes_same (λ a. floor_by (weighted_net (weights_1 u) (weights_1 v) (control 2 ps a)) (denominator ^ 2)) (λ a. floor_by (blossom_net (u ∷ []) (v ∷ []) (control 2 ps a)) (denominator ^ 2))
    (λ a. ap (λ z. floor_by z (denominator ^ 2)) (weighted_net_1 u v (control 2 ps a)))

-- ---- the bilinear patch
abbrev pub bilinear_box : List Vec3 → Rect → Box
bilinear_box ps r = least_box (bilinear_net ps r)

pub bilinear_inside : PointsLieInBoxes bilinear_point bilinear_box
bilinear_inside ps r u v hr at_ =
    rw (bilinear_point-blossom ps u v)
    (blossom_in_box 1 2 (denominator ^ 2) ps r (u ∷ []) (v ∷ []) (lit< tt) hr.right_in hr.top_in refl refl (at_.from_left, at_.to_right, tt) (at_.from_bottom, at_.to_top, tt))

pub bilinear_parts : PartsLieInBoxes bilinear_box
bilinear_parts ps q r hq hr part = corners_in_box (bilinear_net ps r) (bilinear_net ps q) (lit< tt) (net_in_box 1 2 (denominator ^ 2) ps q r (lit< tt) hq hr part)

pub bilinear_rows : NetsHaveRows (λ _. 2) bilinear_net
bilinear_rows ps r = record { wide = lit< tt; some = lit< tt; rows = refl }

-- ---- the bicubic patch
abbrev pub bicubic_box : List Vec3 → Rect → Box
bicubic_box ps r = least_box (bicubic_net ps r)

pub bicubic_point-blossom : (ps : List Vec3) (u v : ℕ) → bicubic_point ps u v ≡ blossom_point 4 (denominator ^ 6) ps (u ∷ u ∷ u ∷ []) (v ∷ v ∷ v ∷ [])
bicubic_point-blossom ps u v =
    by_axes_same (λ a. floor_by (weighted_net (weights_3 u) (weights_3 v) (control 4 ps a)) (denominator ^ 6))
    (λ a. floor_by (blossom_net (u ∷ u ∷ u ∷ []) (v ∷ v ∷ v ∷ []) (control 4 ps a)) (denominator ^ 6))
    (λ a. ap (λ z. floor_by z (denominator ^ 6)) (weighted_net_3 u v (control 4 ps a)))

pub bicubic_inside : PointsLieInBoxes bicubic_point bicubic_box
bicubic_inside ps r u v hr at_ =
    rw (bicubic_point-blossom ps u v)
    (blossom_in_box 3 4 (denominator ^ 6) ps r (u ∷ u ∷ u ∷ []) (v ∷ v ∷ v ∷ []) (lit< tt) hr.right_in hr.top_in refl refl
    (at_.from_left, at_.to_right, (at_.from_left, at_.to_right, (at_.from_left, at_.to_right, tt)))
    (at_.from_bottom, at_.to_top, (at_.from_bottom, at_.to_top, (at_.from_bottom, at_.to_top, tt))))

pub bicubic_parts : PartsLieInBoxes bicubic_box
bicubic_parts ps q r hq hr part = corners_in_box (bicubic_net ps r) (bicubic_net ps q) (lit< tt) (net_in_box 3 4 (denominator ^ 6) ps q r (lit< tt) hq hr part)

pub bicubic_rows : NetsHaveRows (λ _. 4) bicubic_net
bicubic_rows ps r = record { wide = lit< tt; some = lit< tt; rows = refl }
