-- Bernstein sums of quadrics by columns, and the numerators of their slopes.
use Rattle.std.proofs.Common.{◌≡◌, ◌∙◌, ap, sym, refl, ℕ, ◌+◌, ◌*◌, ◌^◌, ◌≤◌, arith, List, [], ◌∷◌}
use Rattle.std.specs.Prelude.{ℤ, pos, ◌+ℤ◌, ◌-ℤ◌, ◌*ℤ◌}
use Rattle.std.proofs.lemmas.Int.{ints}
use Rattle.fixed_math.specs.declared.vec3.Vec3.{Vec3}
use Rattle.fixed_math.specs.declared.vec3.Axis.{Axis}
use Rattle.fixed_math.specs.Blossom.{blossom}
use Rattle.fixed_math.specs.Tensor.{blossom_net, weighted, weighted_net, weights_1}
use Rattle.fixed_math.proofs.Ring.{expand}
use Rattle.fixed_math.proofs.Weights.{mul-mul, mul-sub}
use Rattle.fixed_math.proofs.Tensors.{blossom_same, weighted_net_1}
use Rattle.patches.specs.Nets.{control}
use Rattle.patches.specs.Slopes.{weights_0, weights_2, steps_u, steps_v}
use Rattle.patches.specs.RationalCurves.{turn_at}
use Rattle.patches.proofs.Curves.{mix_step, blossom_minus, blossom_scale, minus_same, net_by_columns}
use Rattle.patches.proofs.Rationals.{quadratic_control}
use Rattle.quadrics.specs.Rational.{quarter, even, heavy, total}
use Rattle.quadrics.specs.RationalLaws.{gap, weighted_net_2_2, weighted_net_2_1, total-weights_1, total-weights_2}
use Rattle.quadrics.specs.QuadricSlopes.{steps, rise, round_rise_u, round_rise_v, ruled_rise_u, ruled_rise_v}
use Rattle.quadrics.proofs.Denominators.{quarter_closed, even_closed}
use Rattle.quadrics.proofs.Derivatives.{weighted_net_1_2, weighted_net_2_0, quarter_steps, even_steps}

-- ---- by columns
swap : (p q : ℕ) (z : ℤ) → pos q *ℤ (pos p *ℤ z) ≡ pos p *ℤ (pos q *ℤ z)
swap p q z = mul-mul q p z ∙ (let e : q * p ≡ p * q = omega arith in ap (λ n. pos n *ℤ z) e) ∙ sym (mul-mul p q z)

pub column : (vs : List ℕ) (f g : ℕ → ℕ) (c : ℕ → ℕ → ℤ) (x : ℕ) → blossom vs (λ y. heavy f g c x y) 0 ≡ pos (f x) *ℤ blossom vs (λ y. pos (g y) *ℤ c x y) 0
column vs f g c x =
    blossom_same vs (λ y. heavy f g c x y) (λ y. pos (f x) *ℤ (pos (g y) *ℤ c x y)) 0 (λ y. swap (f x) (g y) (c x y))
    ∙ blossom_scale vs (f x) (λ y. pos (g y) *ℤ c x y) 0

pub numerator_columns : (us vs : List ℕ) (f g : ℕ → ℕ) (c : ℕ → ℕ → ℤ) → blossom_net us vs (heavy f g c) ≡ blossom us (λ x. pos (f x) *ℤ blossom vs (λ y. pos (g y) *ℤ c x y) 0) 0
numerator_columns us vs f g c =
    net_by_columns us vs (heavy f g c)
    ∙ blossom_same us (λ x. blossom vs (λ y. heavy f g c x y) 0) (λ x. pos (f x) *ℤ blossom vs (λ y. pos (g y) *ℤ c x y) 0) 0 (column vs f g c)

pub steps_u_columns : (us vs : List ℕ) (f g : ℕ → ℕ) (c : ℕ → ℕ → ℤ) → blossom_net us vs (steps_u (heavy f g c)) ≡
    blossom us (λ x. pos (f (x + 1)) *ℤ blossom vs (λ y. pos (g y) *ℤ c (x + 1) y) 0 -ℤ pos (f x) *ℤ blossom vs (λ y. pos (g y) *ℤ c x y) 0) 0
steps_u_columns us vs f g c =
    net_by_columns us vs (steps_u (heavy f g c))
    ∙ blossom_same us (λ x. blossom vs (λ y. steps_u (heavy f g c) x y) 0)
    (λ x. pos (f (x + 1)) *ℤ blossom vs (λ y. pos (g y) *ℤ c (x + 1) y) 0 -ℤ pos (f x) *ℤ blossom vs (λ y. pos (g y) *ℤ c x y) 0) 0
    (λ x. blossom_minus vs (λ y. heavy f g c (x + 1) y) (λ y. heavy f g c x y) 0
    ∙ minus_same (blossom vs (λ y. heavy f g c x y) 0) (blossom vs (λ y. heavy f g c (x + 1) y) 0)
    (pos (f x) *ℤ blossom vs (λ y. pos (g y) *ℤ c x y) 0) (pos (f (x + 1)) *ℤ blossom vs (λ y. pos (g y) *ℤ c (x + 1) y) 0) (column vs f g c x) (column vs f g c (x + 1)))

risen : (p q r : ℕ) (a b : ℤ) → pos r *ℤ (pos p *ℤ b) -ℤ pos q *ℤ (pos p *ℤ a) ≡ pos p *ℤ (pos r *ℤ b -ℤ pos q *ℤ a)
risen p q r a b =
    minus_same (pos q *ℤ (pos p *ℤ a)) (pos r *ℤ (pos p *ℤ b)) (pos p *ℤ (pos q *ℤ a)) (pos p *ℤ (pos r *ℤ b)) (swap p q a) (swap p r b)
    ∙ sym (mul-sub p (pos r *ℤ b) (pos q *ℤ a))

pub steps_v_columns : (us vs : List ℕ) (f g : ℕ → ℕ) (c : ℕ → ℕ → ℤ) → blossom_net us vs (steps_v (heavy f g c)) ≡ blossom us (λ x. pos (f x) *ℤ blossom vs (λ y. gap g (c x) y) 0) 0
steps_v_columns us vs f g c =
    net_by_columns us vs (steps_v (heavy f g c))
    ∙ blossom_same us (λ x. blossom vs (λ y. steps_v (heavy f g c) x y) 0) (λ x. pos (f x) *ℤ blossom vs (λ y. gap g (c x) y) 0) 0
    (λ x. blossom_same vs (λ y. steps_v (heavy f g c) x y) (λ y. pos (f x) *ℤ gap g (c x) y) 0 (λ y. risen (f x) (g y) (g (y + 1)) (c x y) (c x (y + 1)))
    ∙ blossom_scale vs (f x) (λ y. gap g (c x) y) 0)

-- ---- the numerator of a quotient's derivative
turned_ring : (u : ℕ) (a d e : ℤ) →
    pos 4096 *ℤ (pos (16777216 + u * u) *ℤ (pos 2 *ℤ (pos 4096 *ℤ d +ℤ pos u *ℤ e)) -ℤ pos (2 * u) *ℤ (pos (2 ^ 24) *ℤ a +ℤ (pos (2 ^ 13 * u) *ℤ d +ℤ pos (u * u) *ℤ e))) ≡
    pos (2 ^ 24) *ℤ (pos 2 *ℤ ((pos 16777216 *ℤ d +ℤ pos (4096 * u) *ℤ (e -ℤ a)) -ℤ pos (u * u) *ℤ d))
turned_ring u a d e = simp (expand, mul-mul) (omega (arith, ints))

turned_by : (u : ℕ) (a d e n s : ℤ) → n ≡ pos (2 ^ 24) *ℤ a +ℤ (pos (2 ^ 13 * u) *ℤ d +ℤ pos (u * u) *ℤ e) → s ≡ pos 4096 *ℤ d +ℤ pos u *ℤ e →
    pos 4096 *ℤ (pos (16777216 + u * u) *ℤ (pos 2 *ℤ s) -ℤ pos (2 * u) *ℤ n) ≡ pos (2 ^ 24) *ℤ (pos 2 *ℤ ((pos 16777216 *ℤ d +ℤ pos (4096 * u) *ℤ (e -ℤ a)) -ℤ pos (u * u) *ℤ d))
turned_by u a d e n s p q = rw (p, q) (turned_ring u a d e)

line : (u : ℕ) (f : ℕ → ℤ) → u ≤ 4096 → blossom (u ∷ []) (λ k. f (k + 1) -ℤ f k) 0 ≡ pos 4096 *ℤ (f 1 -ℤ f 0) +ℤ pos u *ℤ ((f 2 -ℤ f 1) -ℤ (f 1 -ℤ f 0))
unfolding blossom
line u f h = mix_step u (f 1 -ℤ f 0) (f 2 -ℤ f 1) h

pub turned : (u : ℕ) (f : ℕ → ℤ) → u ≤ 4096 →
    rise (pos 2 *ℤ blossom (u ∷ []) (λ k. f (k + 1) -ℤ f k) 0) (16777216 + u * u) (blossom (u ∷ u ∷ []) f 0) (pos (2 * u)) ≡ pos (2 ^ 24) *ℤ turn_at u f
unfolding turn_at
turned u f h = turned_by u (f 0) (f 1 -ℤ f 0) ((f 2 -ℤ f 1) -ℤ (f 1 -ℤ f 0)) _ _ (quadratic_control u f h) (line u f h)

blossom_rise : (us : List ℕ) (p q : ℕ) (s n : ℕ → ℤ) (k : ℕ) →
    blossom us (λ i. rise (pos 2 *ℤ s i) p (n i) (pos q)) k ≡ rise (pos 2 *ℤ blossom us s k) p (blossom us n k) (pos q)
blossom_rise us p q s n k =
    blossom_scale us 4096 (λ i. pos p *ℤ (pos 2 *ℤ s i) -ℤ pos q *ℤ n i) k
    ∙ ap (λ z. pos 4096 *ℤ z) (blossom_minus us (λ i. pos p *ℤ (pos 2 *ℤ s i)) (λ i. pos q *ℤ n i) k
    ∙ minus_same (blossom us (λ i. pos q *ℤ n i) k) (blossom us (λ i. pos p *ℤ (pos 2 *ℤ s i)) k) (pos q *ℤ blossom us n k) (pos p *ℤ (pos 2 *ℤ blossom us s k))
    (blossom_scale us q n k) (blossom_scale us p (λ i. pos 2 *ℤ s i) k ∙ ap (λ z. pos p *ℤ z) (blossom_scale us 2 s k)))

weight_rise : (w p q : ℕ) (s n : ℤ) → rise (pos 2 *ℤ (pos w *ℤ s)) p (pos w *ℤ n) (pos q) ≡ pos w *ℤ rise (pos 2 *ℤ s) p n (pos q)
weight_rise w p q s n = simp (expand, mul-mul) (omega (arith, ints))

rise_same : (s s' : ℤ) (a a' : ℕ) (n n' d d' : ℤ) → s ≡ s' → a ≡ a' → n ≡ n' → d ≡ d' → rise s a n d ≡ rise s' a' n' d'
rise_same s s' a a' n n' d d' e f g h = rw (e, f, g, h) refl

columns_rise : (us : List ℕ) (v : ℕ) (f g : ℕ → ℕ) (c : ℕ → ℕ → ℤ) → v ≤ 4096 →
    blossom us (λ x. pos (f x) *ℤ (pos (2 ^ 24) *ℤ turn_at v (λ y. pos (g y) *ℤ c x y))) 0 ≡
    rise (pos 2 *ℤ blossom_net us (v ∷ []) (steps_v (heavy f g c))) (16777216 + v * v) (blossom_net us (v ∷ v ∷ []) (heavy f g c)) (pos (2 * v))
columns_rise us v f g c h =
    let S : ℕ → ℤ = λ x. blossom (v ∷ []) (λ y. gap g (c x) y) 0 in
    let N : ℕ → ℤ = λ x. blossom (v ∷ v ∷ []) (λ y. pos (g y) *ℤ c x y) 0 in
    blossom_same us (λ x. pos (f x) *ℤ (pos (2 ^ 24) *ℤ turn_at v (λ y. pos (g y) *ℤ c x y)))
    (λ x. rise (pos 2 *ℤ (pos (f x) *ℤ S x)) (16777216 + v * v) (pos (f x) *ℤ N x) (pos (2 * v))) 0
    (λ x. sym (weight_rise (f x) (16777216 + v * v) (2 * v) (S x) (N x) ∙ ap (λ z. pos (f x) *ℤ z) (turned v (λ y. pos (g y) *ℤ c x y) h)))
    ∙ blossom_rise us (16777216 + v * v) (2 * v) (λ x. pos (f x) *ℤ S x) (λ x. pos (f x) *ℤ N x) 0
    ∙ rise_same (pos 2 *ℤ blossom us (λ x. pos (f x) *ℤ S x) 0) (pos 2 *ℤ blossom_net us (v ∷ []) (steps_v (heavy f g c))) (16777216 + v * v) (16777216 + v * v)
    (blossom us (λ x. pos (f x) *ℤ N x) 0) (blossom_net us (v ∷ v ∷ []) (heavy f g c)) (pos (2 * v)) (pos (2 * v))
    (ap (λ z. pos 2 *ℤ z) (sym (steps_v_columns us (v ∷ []) f g c))) refl (sym (numerator_columns us (v ∷ v ∷ []) f g c)) refl

-- ---- the numerators of the slopes of both kinds
pub total_is : (u : ℕ) → u ≤ 4096 → 16777216 + u * u ≡ total (weights_2 u) quarter 0
total_is u h = sym (total-weights_2 u quarter ∙ quarter_closed u u h h)

pub line_total : (v : ℕ) → v ≤ 4096 → 4096 ≡ total (weights_1 v) even 0
line_total v h = sym (total-weights_1 v even ∙ even_closed v h)

pub round_place_is : (ps : List Vec3) (u v : ℕ) (a : Axis) →
    blossom (u ∷ u ∷ []) (λ x. pos (quarter x) *ℤ blossom (v ∷ v ∷ []) (λ y. pos (quarter y) *ℤ control 3 ps a x y) 0) 0 ≡ weighted_net (weights_2 u) (weights_2 v) (heavy quarter quarter (control 3 ps a))
round_place_is ps u v a = sym (weighted_net_2_2 u v (heavy quarter quarter (control 3 ps a)) ∙ numerator_columns (u ∷ u ∷ []) (v ∷ v ∷ []) quarter quarter (control 3 ps a))

pub round_across_is : (ps : List Vec3) (u v : ℕ) (a : Axis) → u ≤ 4096 →
    pos (2 ^ 24) *ℤ turn_at u (λ x. pos (quarter x) *ℤ blossom (v ∷ v ∷ []) (λ y. pos (quarter y) *ℤ control 3 ps a x y) 0) ≡ round_rise_u ps u v a
unfolding round_rise_u
round_across_is ps u v a hu =
    let H = heavy quarter quarter (control 3 ps a) in
    sym (turned u (λ x. pos (quarter x) *ℤ blossom (v ∷ v ∷ []) (λ y. pos (quarter y) *ℤ control 3 ps a x y) 0) hu)
    ∙ rise_same _ _ _ _ _ _ _ _
    (ap (λ z. pos 2 *ℤ z) (sym (weighted_net_1_2 u v (steps_u H) ∙ steps_u_columns (u ∷ []) (v ∷ v ∷ []) quarter quarter (control 3 ps a))))
    (total_is u hu) (round_place_is ps u v a) (sym (quarter_steps u hu))

pub round_up_is : (ps : List Vec3) (u v : ℕ) (a : Axis) → v ≤ 4096 →
    blossom (u ∷ u ∷ []) (λ x. pos (quarter x) *ℤ (pos (2 ^ 24) *ℤ turn_at v (λ y. pos (quarter y) *ℤ control 3 ps a x y))) 0 ≡ round_rise_v ps u v a
unfolding round_rise_v
round_up_is ps u v a hv =
    let H = heavy quarter quarter (control 3 ps a) in
    columns_rise (u ∷ u ∷ []) v quarter quarter (control 3 ps a) hv
    ∙ rise_same _ _ _ _ _ _ _ _ (ap (λ z. pos 2 *ℤ z) (sym (weighted_net_2_1 u v (steps_v H)))) (total_is v hv) (sym (weighted_net_2_2 u v H)) (sym (quarter_steps v hv))

pub ruled_place_is : (ps : List Vec3) (u v : ℕ) (a : Axis) →
    blossom (u ∷ u ∷ []) (λ x. pos (quarter x) *ℤ blossom (v ∷ []) (λ y. pos (even y) *ℤ control 3 ps a x y) 0) 0 ≡ weighted_net (weights_2 u) (weights_1 v) (heavy quarter even (control 3 ps a))
ruled_place_is ps u v a = sym (weighted_net_2_1 u v (heavy quarter even (control 3 ps a)) ∙ numerator_columns (u ∷ u ∷ []) (v ∷ []) quarter even (control 3 ps a))

pub ruled_across_is : (ps : List Vec3) (u v : ℕ) (a : Axis) → u ≤ 4096 →
    pos (2 ^ 24) *ℤ turn_at u (λ x. pos (quarter x) *ℤ blossom (v ∷ []) (λ y. pos (even y) *ℤ control 3 ps a x y) 0) ≡ ruled_rise_u ps u v a
unfolding ruled_rise_u
ruled_across_is ps u v a hu =
    let H = heavy quarter even (control 3 ps a) in
    sym (turned u (λ x. pos (quarter x) *ℤ blossom (v ∷ []) (λ y. pos (even y) *ℤ control 3 ps a x y) 0) hu)
    ∙ rise_same _ _ _ _ _ _ _ _
    (ap (λ z. pos 2 *ℤ z) (sym (weighted_net_1 u v (steps_u H) ∙ steps_u_columns (u ∷ []) (v ∷ []) quarter even (control 3 ps a))))
    (total_is u hu) (ruled_place_is ps u v a) (sym (quarter_steps u hu))

straight : (s n : ℤ) → rise s 4096 n (pos 0) ≡ pos (2 ^ 24) *ℤ s
straight s n = omega (arith, ints)

pub ruled_up_is : (ps : List Vec3) (u v : ℕ) (a : Axis) → v ≤ 4096 →
    blossom (u ∷ u ∷ []) (λ x. pos (quarter x) *ℤ (pos (2 ^ 48) *ℤ gap even (control 3 ps a x) 0)) 0 ≡ pos (2 ^ 24) *ℤ ruled_rise_v ps u v a
unfolding blossom ruled_rise_v
ruled_up_is ps u v a hv =
    let H = heavy quarter even (control 3 ps a) in
    let us = u ∷ u ∷ [] in
    let G : ℕ → ℤ = λ x. gap even (control 3 ps a x) 0 in
    blossom_same us (λ x. pos (quarter x) *ℤ (pos (2 ^ 48) *ℤ G x)) (λ x. pos (2 ^ 48) *ℤ (pos (quarter x) *ℤ G x)) 0 (λ x. swap (2 ^ 48) (quarter x) (G x))
    ∙ blossom_scale us (2 ^ 48) (λ x. pos (quarter x) *ℤ G x) 0
    ∙ ap (λ z. pos (2 ^ 48) *ℤ z) (sym (weighted_net_2_0 u (steps_v H) ∙ steps_v_columns us [] quarter even (control 3 ps a)))
    ∙ sym (mul-mul (2 ^ 24) (2 ^ 24) (weighted_net (weights_2 u) weights_0 (steps_v H)))
    ∙ ap (λ z. pos (2 ^ 24) *ℤ z) (sym (straight (weighted_net (weights_2 u) weights_0 (steps_v H)) (weighted_net (weights_2 u) (weights_1 v) H))
    ∙ rise_same (weighted_net (weights_2 u) weights_0 (steps_v H)) (weighted_net (weights_2 u) weights_0 (steps_v H)) 4096 (total (weights_1 v) even 0)
    (weighted_net (weights_2 u) (weights_1 v) H) (weighted_net (weights_2 u) (weights_1 v) H) (pos 0) (weighted weights_0 (steps even) 0) refl (line_total v hv) refl (sym even_steps))
