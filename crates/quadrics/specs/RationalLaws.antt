-- Boxes of quadrics hold their points. Moving all control numbers by z moves the numerator by z times the denominator, so what a
-- quotient is above or below is told by the sign of a blossom of moved control numbers, and no quotient is compared.
use Rattle.std.proofs.Common.{◌≡◌, ℕ, zero, suc, ◌+◌, ◌-◌, ◌*◌, ◌<◌, ◌≤◌, ap, arith, refl, lit<, add-zero, sym, ◌∙◌, List, [], ◌∷◌, length}
use Rattle.std.proofs.Math.Nat.{mul_comm, mul-le-mul, mul-le-mul_left}
use Rattle.std.specs.Prelude.{ℤ, pos, neg_ℤ, unsigned_abs, ◌≤ℤ◌, ◌+ℤ◌, ◌-ℤ◌, ◌*ℤ◌}
use Rattle.std.proofs.lemmas.Int.{ints}
use Rattle.fixed_math.specs.declared.vec3.Vec3.{Vec3}
use Rattle.fixed_math.specs.Axes.{part_of, least, greatest, AreWithin}
use Rattle.fixed_math.specs.Blossom.{denominator, blossom, ends, AllFromTo, whole}
use Rattle.fixed_math.specs.Tensor.{blossom_net, weighted, weighted_net, weights_1}
use Rattle.fixed_math.specs.Whole.{floor_by}
use Rattle.fixed_math.proofs.Weights.{mul-add, mul-mul, mul-sub, floor_ge, floor_lt, le_floor, floor_below}
use Rattle.fixed_math.proofs.Fits.{abs_add, term_abs, floor_abs}
use Rattle.fixed_math.proofs.Tensors.{net_low, net_high, weighted-weights_1, blossom_same, length-ends, ends_from_to}
use Rattle.patches.specs.Rects.{Rect, IsRect, IsInside}
use Rattle.patches.specs.Lists.{Each}
use Rattle.patches.specs.Nets.{control, all_ends}
use Rattle.patches.specs.Slopes.{weights_2}
use Rattle.patches.specs.Boxes.{Box, IsWithin, least_box, Holds, PointsLieInBoxes, PartsLieInBoxes, NetsHaveRows}
use Rattle.patches.specs.ListLaws.{Each-grid, grid-Each}
use Rattle.patches.specs.BoxLaws.{part-by_axes, Each_ends, ends_Each, least_below, greatest_above, corners_in_box, by_axes_same}
use Rattle.quadrics.specs.Rational.{quarter, even, heavy, total, spread, rational_blossom, rational_net, round_point, round_net, ruled_point, ruled_net}

-- ---- moving all control numbers by z moves the numerator by z times the denominator
move : (p s m n : ℕ) (x y z : ℤ) → pos p *ℤ (x -ℤ pos m *ℤ z) +ℤ pos s *ℤ (y -ℤ pos n *ℤ z) ≡ (pos p *ℤ x +ℤ pos s *ℤ y) -ℤ pos (p * m + s * n) *ℤ z
move p s m n x y z = simp (mul-sub, mul-mul) (omega (arith, ints))

pub shifted : (ss : List ℕ) (f : ℕ → ℕ) (c : ℕ → ℤ) (z : ℤ) (k : ℕ) →
    blossom ss (λ i. pos (f i) *ℤ (c i -ℤ z)) k ≡ blossom ss (λ i. pos (f i) *ℤ c i) k -ℤ pos (spread ss f k) *ℤ z
unfolding blossom spread
shifted [] f c z k = mul-sub (f k) (c k) z
shifted (s ∷ ss) f c z k =
    let e = shifted ss f c z k in
    let g = shifted ss f c z (k + 1) in
    rw (e, g) (move (denominator - s) s (spread ss f k) (spread ss f (k + 1)) (blossom ss (λ i. pos (f i) *ℤ c i) k) (blossom ss (λ i. pos (f i) *ℤ c i) (k + 1)) z)

carry : (n p s : ℕ) (x y : ℤ) → pos p *ℤ (pos n *ℤ x) +ℤ pos s *ℤ (pos n *ℤ y) ≡ pos n *ℤ (pos p *ℤ x +ℤ pos s *ℤ y)
carry n p s x y = simp (mul-add, mul-mul) (omega (arith, ints))

pub blossom_scale : (ss : List ℕ) (n : ℕ) (c : ℕ → ℤ) (k : ℕ) → blossom ss (λ i. pos n *ℤ c i) k ≡ pos n *ℤ blossom ss c k
unfolding blossom
blossom_scale [] n c k = refl
blossom_scale (s ∷ ss) n c k =
    let e = blossom_scale ss n c k in
    let g = blossom_scale ss n c (k + 1) in
    rw (e, g) (carry n (denominator - s) s (blossom ss c k) (blossom ss c (k + 1)))

-- the numerator by rows
pub numerator_rows : (us vs : List ℕ) (f g : ℕ → ℕ) (c : ℕ → ℕ → ℤ) → blossom_net us vs (heavy f g c) ≡ blossom vs (λ y. pos (g y) *ℤ blossom us (λ x. pos (f x) *ℤ c x y) 0) 0
numerator_rows us vs f g c =
    blossom_same vs (λ y. blossom us (λ x. heavy f g c x y) 0) (λ y. pos (g y) *ℤ blossom us (λ x. pos (f x) *ℤ c x y) 0) 0
    (λ y. blossom_scale us (g y) (λ x. pos (f x) *ℤ c x y) 0)

pub numerator_shifted : (us vs : List ℕ) (f g : ℕ → ℕ) (c : ℕ → ℕ → ℤ) (z : ℤ) →
    blossom_net us vs (heavy f g (λ x y. c x y -ℤ z)) ≡ blossom_net us vs (heavy f g c) -ℤ pos (spread us f 0 * spread vs g 0) *ℤ z
numerator_shifted us vs f g c z =
    let row : ℕ → ℤ = λ y. blossom us (λ x. pos (f x) *ℤ c x y) 0 in
    numerator_rows us vs f g (λ x y. c x y -ℤ z)
    ∙ blossom_same vs (λ y. pos (g y) *ℤ blossom us (λ x. pos (f x) *ℤ (c x y -ℤ z)) 0) (λ y. pos (g y) *ℤ (row y -ℤ pos (spread us f 0) *ℤ z)) 0
    (λ y. ap (λ t. pos (g y) *ℤ t) (shifted us f (λ x. c x y) z 0))
    ∙ shifted vs g row (pos (spread us f 0) *ℤ z) 0
    ∙ ap (λ t. t -ℤ pos (spread vs g 0) *ℤ (pos (spread us f 0) *ℤ z)) (sym (numerator_rows us vs f g c))
    ∙ ap (λ t. blossom_net us vs (heavy f g c) -ℤ t) (mul-mul (spread vs g 0) (spread us f 0) z ∙ ap (λ n. pos n *ℤ z) (mul_comm (spread vs g 0) (spread us f 0)))

-- ---- the denominator is positive
pub spread_least : (ss : List ℕ) (f : ℕ → ℕ) (k : ℕ) → ((i : ℕ) → 1 ≤ f i) → AllFromTo 0 denominator ss → whole ss ≤ spread ss f k
unfolding spread
spread_least [] f k h w = h k
spread_least (s ∷ ss) f k h w =
    let e = spread_least ss f k h w.2 in
    let g = spread_least ss f (k + 1) h w.2 in
    let i = mul-le-mul_left (denominator - s) e in
    let j = mul-le-mul_left s g in
    let low = w.1 in
    let parts : (denominator - s) * whole ss + s * whole ss ≡ denominator * whole ss = by_parts (denominator - s) s denominator (whole ss) (omega arith) in
    omega (arith, i, j, parts)
  where
    by_parts : (p s d n : ℕ) → p + s ≡ d → p * n + s * n ≡ d * n
    by_parts p s d n e = omega (arith, ap (λ m. m * n) e)

whole-positive : (ss : List ℕ) → 0 < whole ss
whole-positive [] = lit< tt
whole-positive (s ∷ ss) = let e = whole-positive ss in omega (arith, e)

pub spread-positive : (ss : List ℕ) (f : ℕ → ℕ) → ((i : ℕ) → 1 ≤ f i) → AllFromTo 0 denominator ss → 0 < spread ss f 0
spread-positive ss f h w = let e = spread_least ss f 0 h w in let g = whole-positive ss in omega (arith, e, g)

positive_product : (a b : ℕ) → 0 < a → 0 < b → 0 < a * b
positive_product a b h k = let e : 1 * 1 ≤ a * b = mul-le-mul h k in omega (arith, e)

-- the denominator at the arguments us and vs
pub under : (ℕ → ℕ) → (ℕ → ℕ) → List ℕ → List ℕ → ℕ
under f g us vs = spread us f 0 * spread vs g 0

pub under-positive : (f g : ℕ → ℕ) (us vs : List ℕ) → ((i : ℕ) → 1 ≤ f i) → ((i : ℕ) → 1 ≤ g i) → AllFromTo 0 denominator us → AllFromTo 0 denominator vs → 0 < spread us f 0 * spread vs g 0
under-positive f g us vs hf hg wu wv = positive_product (spread us f 0) (spread vs g 0) (spread-positive us f hf wu) (spread-positive vs g hg wv)

widen : (l h : ℕ) (ss : List ℕ) → h ≤ denominator → AllFromTo l h ss → AllFromTo 0 denominator ss
widen l h [] k w = tt
widen l h (s ∷ ss) k w = (omega arith, (let e = w.1 in omega (arith, e)), widen l h ss k w.2)

-- ---- a quotient whose arguments lie in a rectangle lies in the box of the rectangle's net
pub rational_in_box : (n m : ℕ) (f g : ℕ → ℕ) (ps : List Vec3) (r : Rect) (us vs : List ℕ) → ((i : ℕ) → 1 ≤ f i) → ((i : ℕ) → 1 ≤ g i) → IsRect r →
    length us ≡ n → length vs ≡ m → AllFromTo r.left r.right us → AllFromTo r.bottom r.top vs →
    Holds (least_box (rational_net n m f g ps r)) (rational_blossom f g ps us vs)
rational_in_box n m f g ps r us vs hf hg hr lu lv wu wv a =
    let net = rational_net n m f g ps r in
    let c = control 3 ps a in
    let value : List ℕ → List ℕ → ℤ = λ us vs. blossom_net us vs (heavy f g c) in
    let across : (x y : ℕ) → AllFromTo 0 denominator (ends x y r.left r.right) =
    λ x y. ends_from_to x y r.left r.right 0 denominator (omega arith) (let k = hr.across in let l = hr.right_in in omega arith) (omega arith) hr.right_in in
    let up : (x y : ℕ) → AllFromTo 0 denominator (ends x y r.bottom r.top) =
    λ x y. ends_from_to x y r.bottom r.top 0 denominator (omega arith) (let k = hr.up in let l = hr.top_in in omega arith) (omega arith) hr.top_in in
    let d : List ℕ → List ℕ → ℕ = λ us vs. spread us f 0 * spread vs g 0 in
    let p = under-positive f g us vs hf hg (widen r.left r.right us hr.right_in wu) (widen r.bottom r.top vs hr.top_in wv) in
    let low : (x y i j : ℕ) → x + y ≡ length us → i + j ≡ length vs → pos 0 ≤ℤ blossom_net (ends x y r.left r.right) (ends i j r.bottom r.top) (heavy f g (λ x y. c x y -ℤ least a net)) =
    λ x y i j e k.
    let es = ends x y r.left r.right in
    let fs = ends i j r.bottom r.top in
    let rows = Each-grid (λ p. least a net ≤ℤ part_of a p) (rational_blossom f g ps) (all_ends n 0 r.left r.right) (all_ends m 0 r.bottom r.top) (least_below a net) in
    let row = Each_ends (λ vs. Each (λ us. least a net ≤ℤ part_of a (rational_blossom f g ps us vs)) (all_ends n 0 r.left r.right)) m 0 r.bottom r.top rows i j (omega (arith, k, lv)) (omega arith) in
    let here = Each_ends (λ us. least a net ≤ℤ part_of a (rational_blossom f g ps us fs)) n 0 r.left r.right row x y (omega (arith, e, lu)) (omega arith) in
    let b = le_floor (value es fs) (least a net) (d es fs) (under-positive f g es fs hf hg (across x y) (up i j))
    (rw (part-by_axes (λ a. floor_by (blossom_net es fs (heavy f g (control 3 ps a))) (d es fs)) a) at here) in
    rw (numerator_shifted es fs f g c (least a net)) (omega (arith, ints, b)) in
    let high : (x y i j : ℕ) → x + y ≡ length us → i + j ≡ length vs → blossom_net (ends x y r.left r.right) (ends i j r.bottom r.top) (heavy f g (λ x y. c x y -ℤ (greatest a net +ℤ pos 1))) ≤ℤ neg_ℤ (pos 1) =
    λ x y i j e k.
    let es = ends x y r.left r.right in
    let fs = ends i j r.bottom r.top in
    let rows = Each-grid (λ p. part_of a p ≤ℤ greatest a net) (rational_blossom f g ps) (all_ends n 0 r.left r.right) (all_ends m 0 r.bottom r.top) (greatest_above a net) in
    let row = Each_ends (λ vs. Each (λ us. part_of a (rational_blossom f g ps us vs) ≤ℤ greatest a net) (all_ends n 0 r.left r.right)) m 0 r.bottom r.top rows i j (omega (arith, k, lv)) (omega arith) in
    let here = Each_ends (λ us. part_of a (rational_blossom f g ps us fs) ≤ℤ greatest a net) n 0 r.left r.right row x y (omega (arith, e, lu)) (omega arith) in
    let b = floor_below (value es fs) (greatest a net) (d es fs) (under-positive f g es fs hf hg (across x y) (up i j))
    (rw (part-by_axes (λ a. floor_by (blossom_net es fs (heavy f g (control 3 ps a))) (d es fs)) a) at here) in
    let t = mul-add (pos (d es fs)) (greatest a net) (pos 1) in
    rw (numerator_shifted es fs f g c (greatest a net +ℤ pos 1)) (omega (arith, ints, b, t)) in
    let below = rw (numerator_shifted us vs f g c (least a net)) at
    (net_low us vs r.left r.right r.bottom r.top (pos 0) (heavy f g (λ x y. c x y -ℤ least a net)) hr.right_in hr.top_in wu wv low) in
    let above = rw (numerator_shifted us vs f g c (greatest a net +ℤ pos 1)) at
    (net_high us vs r.left r.right r.bottom r.top (neg_ℤ (pos 1)) (heavy f g (λ x y. c x y -ℤ (greatest a net +ℤ pos 1))) hr.right_in hr.top_in wu wv high) in
    let t = mul-add (pos (d us vs)) (greatest a net) (pos 1) in
    rw (part-by_axes (λ a. least a net) a, part-by_axes (λ a. greatest a net) a, part-by_axes (λ a. floor_by (blossom_net us vs (heavy f g (control 3 ps a))) (d us vs)) a)
    (floor_ge (value us vs) (least a net) (d us vs) p (omega (arith, ints, below)), floor_lt (value us vs) (greatest a net) (d us vs) p (omega (arith, ints, above, t)))

-- each point of a smaller net lies in the box of a larger one
pub rational_net_in_box : (n m : ℕ) (f g : ℕ → ℕ) (ps : List Vec3) (q r : Rect) → ((i : ℕ) → 1 ≤ f i) → ((i : ℕ) → 1 ≤ g i) → IsRect q → IsRect r → IsInside q r →
    Each (Holds (least_box (rational_net n m f g ps r))) (rational_net n m f g ps q)
rational_net_in_box n m f g ps q r hf hg hq hr part =
    grid-Each (Holds (least_box (rational_net n m f g ps r))) (rational_blossom f g ps) (all_ends n 0 q.left q.right) (all_ends m 0 q.bottom q.top)
    (ends_Each (λ vs. Each (λ us. Holds (least_box (rational_net n m f g ps r)) (rational_blossom f g ps us vs)) (all_ends n 0 q.left q.right)) m 0 q.bottom q.top
    (λ i j k. ends_Each (λ us. Holds (least_box (rational_net n m f g ps r)) (rational_blossom f g ps us (ends i j q.bottom q.top))) n 0 q.left q.right
    (λ x y e. rational_in_box n m f g ps r (ends x y q.left q.right) (ends i j q.bottom q.top) hf hg hr
    (length-ends x y q.left q.right ∙ e ∙ add-zero n) (length-ends i j q.bottom q.top ∙ k ∙ add-zero m)
    (ends_from_to x y q.left q.right r.left r.right (omega arith) (omega arith) (omega arith) (omega arith))
    (ends_from_to i j q.bottom q.top r.bottom r.top (omega arith) (omega arith) (omega arith) (omega arith)))))

-- ---- Bernstein sums are blossoms at equal arguments
quadratic : (p s : ℕ) (a b c : ℤ) →
    pos (p * p) *ℤ a +ℤ (pos (2 * (p * s)) *ℤ b +ℤ (pos (s * s) *ℤ c +ℤ pos 0)) ≡ pos p *ℤ (pos p *ℤ a +ℤ pos s *ℤ b) +ℤ pos s *ℤ (pos p *ℤ b +ℤ pos s *ℤ c)
quadratic p s a b c = simp (mul-add, mul-mul) (omega (arith, ints))

pub weighted-weights_2 : (u : ℕ) (c : ℕ → ℤ) (k : ℕ) → weighted (weights_2 u) c k ≡ blossom (u ∷ u ∷ []) c k
unfolding blossom
weighted-weights_2 u c k = quadratic (denominator - u) u (c k) (c (k + 1)) (c (k + 1 + 1))

pub weighted_net_2_2 : (u v : ℕ) (c : ℕ → ℕ → ℤ) → weighted_net (weights_2 u) (weights_2 v) c ≡ blossom_net (u ∷ u ∷ []) (v ∷ v ∷ []) c
weighted_net_2_2 u v c =
    weighted-weights_2 v (λ y. weighted (weights_2 u) (λ x. c x y) 0) 0
    ∙ blossom_same (v ∷ v ∷ []) (λ y. weighted (weights_2 u) (λ x. c x y) 0) (λ y. blossom (u ∷ u ∷ []) (λ x. c x y) 0) 0 (λ y. weighted-weights_2 u (λ x. c x y) 0)

pub weighted_net_2_1 : (u v : ℕ) (c : ℕ → ℕ → ℤ) → weighted_net (weights_2 u) (weights_1 v) c ≡ blossom_net (u ∷ u ∷ []) (v ∷ []) c
weighted_net_2_1 u v c =
    weighted-weights_1 v (λ y. weighted (weights_2 u) (λ x. c x y) 0) 0
    ∙ blossom_same (v ∷ []) (λ y. weighted (weights_2 u) (λ x. c x y) 0) (λ y. blossom (u ∷ u ∷ []) (λ x. c x y) 0) 0 (λ y. weighted-weights_2 u (λ x. c x y) 0)

total_quadratic : (p s a b c : ℕ) → p * p * a + (2 * (p * s) * b + (s * s * c + 0)) ≡ p * (p * a + s * b) + s * (p * b + s * c)
total_quadratic p s a b c = omega arith

pub total-weights_2 : (u : ℕ) (f : ℕ → ℕ) → total (weights_2 u) f 0 ≡ spread (u ∷ u ∷ []) f 0
unfolding total spread
total-weights_2 u f = total_quadratic (denominator - u) u (f 0) (f 1) (f 2)

pub total-weights_1 : (u : ℕ) (f : ℕ → ℕ) → total (weights_1 u) f 0 ≡ spread (u ∷ []) f 0
unfolding total spread
total-weights_1 u f = omega arith

pub round_point-blossom : (ps : List Vec3) (u v : ℕ) → round_point ps u v ≡ rational_blossom quarter quarter ps (u ∷ u ∷ []) (v ∷ v ∷ [])
round_point-blossom ps u v =
    rw (total-weights_2 u quarter, total-weights_2 v quarter)
    (by_axes_same (λ a. floor_by (weighted_net (weights_2 u) (weights_2 v) (heavy quarter quarter (control 3 ps a))) (spread (u ∷ u ∷ []) quarter 0 * spread (v ∷ v ∷ []) quarter 0))
    (λ a. floor_by (blossom_net (u ∷ u ∷ []) (v ∷ v ∷ []) (heavy quarter quarter (control 3 ps a))) (spread (u ∷ u ∷ []) quarter 0 * spread (v ∷ v ∷ []) quarter 0))
    (λ a. ap (λ z. floor_by z (spread (u ∷ u ∷ []) quarter 0 * spread (v ∷ v ∷ []) quarter 0)) (weighted_net_2_2 u v (heavy quarter quarter (control 3 ps a)))))

pub ruled_point-blossom : (ps : List Vec3) (u v : ℕ) → ruled_point ps u v ≡ rational_blossom quarter even ps (u ∷ u ∷ []) (v ∷ [])
ruled_point-blossom ps u v =
    rw (total-weights_2 u quarter, total-weights_1 v even)
    (by_axes_same (λ a. floor_by (weighted_net (weights_2 u) (weights_1 v) (heavy quarter even (control 3 ps a))) (spread (u ∷ u ∷ []) quarter 0 * spread (v ∷ []) even 0))
    (λ a. floor_by (blossom_net (u ∷ u ∷ []) (v ∷ []) (heavy quarter even (control 3 ps a))) (spread (u ∷ u ∷ []) quarter 0 * spread (v ∷ []) even 0))
    (λ a. ap (λ z. floor_by z (spread (u ∷ u ∷ []) quarter 0 * spread (v ∷ []) even 0)) (weighted_net_2_1 u v (heavy quarter even (control 3 ps a)))))

-- ---- the weights aren't 0
pub quarter-positive : (i : ℕ) → 1 ≤ quarter i
quarter-positive zero = omega arith
quarter-positive (suc zero) = omega arith
quarter-positive (suc (suc i)) = omega arith

pub even-positive : (i : ℕ) → 1 ≤ even i
even-positive i = omega arith

-- ---- the laws of the two surfaces
abbrev pub round_box : List Vec3 → Rect → Box
round_box ps r = least_box (round_net ps r)

abbrev pub ruled_box : List Vec3 → Rect → Box
ruled_box ps r = least_box (ruled_net ps r)

pub round_inside : PointsLieInBoxes round_point round_box
round_inside ps r u v hr at_ =
    rw (round_point-blossom ps u v)
    (rational_in_box 2 2 quarter quarter ps r (u ∷ u ∷ []) (v ∷ v ∷ []) quarter-positive quarter-positive hr refl refl
    (at_.from_left, at_.to_right, (at_.from_left, at_.to_right, tt)) (at_.from_bottom, at_.to_top, (at_.from_bottom, at_.to_top, tt)))

pub ruled_inside : PointsLieInBoxes ruled_point ruled_box
ruled_inside ps r u v hr at_ =
    rw (ruled_point-blossom ps u v)
    (rational_in_box 2 1 quarter even ps r (u ∷ u ∷ []) (v ∷ []) quarter-positive even-positive hr refl refl
    (at_.from_left, at_.to_right, (at_.from_left, at_.to_right, tt)) (at_.from_bottom, at_.to_top, tt))

pub round_parts : PartsLieInBoxes round_box
round_parts ps q r hq hr part = corners_in_box (round_net ps r) (round_net ps q) (lit< tt) (rational_net_in_box 2 2 quarter quarter ps q r quarter-positive quarter-positive hq hr part)

pub ruled_parts : PartsLieInBoxes ruled_box
ruled_parts ps q r hq hr part = corners_in_box (ruled_net ps r) (ruled_net ps q) (lit< tt) (rational_net_in_box 2 1 quarter even ps q r quarter-positive even-positive hq hr part)

pub round_rows : NetsHaveRows (λ _. 3) round_net
round_rows ps r = record { wide = lit< tt; some = lit< tt; rows = refl }

pub ruled_rows : NetsHaveRows (λ _. 3) ruled_net
ruled_rows ps r = record { wide = lit< tt; some = lit< tt; rows = refl }

-- ---- the size of numerators and points
carried_step : (p s m n r : ℕ) (x y : ℤ) → unsigned_abs x ≤ m * r → unsigned_abs y ≤ n * r → unsigned_abs (pos p *ℤ x +ℤ pos s *ℤ y) ≤ (p * m + s * n) * r
carried_step p s m n r x y h k =
    let e = abs_add (pos p *ℤ x) (pos s *ℤ y) in
    let f = term_abs p p x (m * r) (omega arith) h in
    let g = term_abs s s y (n * r) (omega arith) k in
    omega (arith, e, f, g)

pub carried_abs : (ss : List ℕ) (f : ℕ → ℕ) (c : ℕ → ℤ) (k r : ℕ) → ((i : ℕ) → unsigned_abs (c i) ≤ r) → unsigned_abs (blossom ss (λ i. pos (f i) *ℤ c i) k) ≤ spread ss f k * r
unfolding blossom spread
carried_abs [] f c k r h = term_abs (f k) (f k) (c k) r (omega arith) (h k)
carried_abs (s ∷ ss) f c k r h =
    carried_step (denominator - s) s (spread ss f k) (spread ss f (k + 1)) r (blossom ss (λ i. pos (f i) *ℤ c i) k) (blossom ss (λ i. pos (f i) *ℤ c i) (k + 1))
    (carried_abs ss f c k r h) (carried_abs ss f c (k + 1) r h)

pub numerator_abs : (us vs : List ℕ) (f g : ℕ → ℕ) (c : ℕ → ℕ → ℤ) (r : ℕ) → ((x y : ℕ) → unsigned_abs (c x y) ≤ r) → unsigned_abs (blossom_net us vs (heavy f g c)) ≤ spread us f 0 * spread vs g 0 * r
numerator_abs us vs f g c r h =
    let e = carried_abs vs g (λ y. blossom us (λ x. pos (f x) *ℤ c x y) 0) 0 (spread us f 0 * r) (λ y. carried_abs us f (λ x. c x y) 0 r (λ x. h x y)) in
    rw (numerator_rows us vs f g c) (omega (arith, e))

pub rational_blossom-within : (f g : ℕ → ℕ) (ps : List Vec3) (us vs : List ℕ) (m : ℕ) → ((i : ℕ) → 1 ≤ f i) → ((i : ℕ) → 1 ≤ g i) →
    AllFromTo 0 denominator us → AllFromTo 0 denominator vs → AreWithin m ps → IsWithin m (rational_blossom f g ps us vs)
rational_blossom-within f g ps us vs m hf hg wu wv h a =
    rw (part-by_axes (λ a. floor_by (blossom_net us vs (heavy f g (control 3 ps a))) (spread us f 0 * spread vs g 0)) a)
    (floor_abs (blossom_net us vs (heavy f g (control 3 ps a))) (spread us f 0 * spread vs g 0) m (under-positive f g us vs hf hg wu wv)
    (numerator_abs us vs f g (control 3 ps a) m (λ x y. h (3 * y + x) a)))

pub rational_net-within : (n m : ℕ) (f g : ℕ → ℕ) (ps : List Vec3) (r : Rect) (most : ℕ) → ((i : ℕ) → 1 ≤ f i) → ((i : ℕ) → 1 ≤ g i) → IsRect r → AreWithin most ps → Each (IsWithin most) (rational_net n m f g ps r)
rational_net-within n m f g ps r most hf hg hr h =
    grid-Each (IsWithin most) (rational_blossom f g ps) (all_ends n 0 r.left r.right) (all_ends m 0 r.bottom r.top)
    (ends_Each (λ vs. Each (λ us. IsWithin most (rational_blossom f g ps us vs)) (all_ends n 0 r.left r.right)) m 0 r.bottom r.top
    (λ i j k. ends_Each (λ us. IsWithin most (rational_blossom f g ps us (ends i j r.bottom r.top))) n 0 r.left r.right
    (λ x y e. rational_blossom-within f g ps (ends x y r.left r.right) (ends i j r.bottom r.top) most hf hg
    (ends_from_to x y r.left r.right 0 denominator (omega arith) (let k = hr.across in let l = hr.right_in in omega arith) (omega arith) hr.right_in)
    (ends_from_to i j r.bottom r.top 0 denominator (omega arith) (let k = hr.up in let l = hr.top_in in omega arith) (omega arith) hr.top_in) h)))

-- ---- steps
-- the step from f k times c k to the next
abbrev pub gap : (ℕ → ℕ) → (ℕ → ℤ) → ℕ → ℤ
gap f c k = pos (f (k + 1)) *ℤ c (k + 1) -ℤ pos (f k) *ℤ c k
