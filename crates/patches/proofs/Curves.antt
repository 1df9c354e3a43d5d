-- Laws of the polynomials of curves.
use Rattle.std.proofs.Common.{◌≡◌, ◌∙◌, ap, sym, refl, ℕ, ◌+◌, ◌-◌, ◌*◌, ◌^◌, ◌<◌, ◌≤◌, arith, List, [], ◌∷◌, unsigned_abs, to_z, of_z}
use Rattle.std.specs.Prelude.{ℤ, pos, ◌+ℤ◌, ◌-ℤ◌, ◌*ℤ◌, ◌≤ℤ◌}
use Rattle.std.specs.Int.{w128}
use Rattle.std.proofs.lemmas.Int.{ints}
use Rattle.fixed_math.specs.Blossom.{mix, blossom}
use Rattle.fixed_math.specs.Tensor.{weights_1, weights_3, weighted_net, blossom_net}
use Rattle.fixed_math.specs.Whole.{floor_by}
use Rattle.fixed_math.proofs.Ring.{expand}
use Rattle.fixed_math.proofs.Weights.{mul-add, mul-sub, mul-mul, add-mul, floor_cross}
use Rattle.fixed_math.proofs.Blossoms.{blossom_exchange}
use Rattle.fixed_math.proofs.Tensors.{blossom_same, weighted_net_3, weighted_net_1}
use Rattle.patches.specs.Slopes.{steps_u, steps_v, weights_2}
use Rattle.patches.specs.Curves.{value_at, slope_at}
use Rattle.patches.specs.declared.cubic.Cubic.{Cubic}
use Rattle.patches.proofs.Cubics.{weighted_net_2_3, weighted_net_3_2}
use Rattle.patches.proofs.Fractions.{same_wide, minus_step, scaled_step}

-- ---- blossoms of differences and of multiples
pub minus_mix : (s : ℕ) (a b c d : ℤ) → mix s (a -ℤ c) (b -ℤ d) ≡ mix s a b -ℤ mix s c d
minus_mix s a b c d = simp (mul-sub) (omega (arith, ints))

pub blossom_minus : (ss : List ℕ) (c d : ℕ → ℤ) (k : ℕ) → blossom ss (λ i. c i -ℤ d i) k ≡ blossom ss c k -ℤ blossom ss d k
unfolding blossom
blossom_minus [] c d k = refl
blossom_minus (s ∷ ss) c d k =
    let e = blossom_minus ss c d k in
    let f = blossom_minus ss c d (k + 1) in
    rw (e, f) (minus_mix s (blossom ss c k) (blossom ss c (k + 1)) (blossom ss d k) (blossom ss d (k + 1)))

scale_mix : (p s : ℕ) (a b : ℤ) → mix s (pos p *ℤ a) (pos p *ℤ b) ≡ pos p *ℤ mix s a b
scale_mix p s a b = simp (mul-add, mul-mul) (omega (arith, ints))

pub blossom_scale : (ss : List ℕ) (p : ℕ) (c : ℕ → ℤ) (k : ℕ) → blossom ss (λ i. pos p *ℤ c i) k ≡ pos p *ℤ blossom ss c k
unfolding blossom
blossom_scale [] p c k = refl
blossom_scale (s ∷ ss) p c k =
    let e = blossom_scale ss p c k in
    let f = blossom_scale ss p c (k + 1) in
    rw (e, f) (scale_mix p s (blossom ss c k) (blossom ss c (k + 1)))

pub rise_of_pair : (s t : ℕ) (f : ℕ → ℤ) → blossom (s ∷ t ∷ []) (λ k. f (k + 1) -ℤ f k) 0 ≡ blossom (s ∷ t ∷ []) f 1 -ℤ blossom (s ∷ t ∷ []) f 0
unfolding blossom
rise_of_pair s t f = blossom_minus (s ∷ t ∷ []) (λ k. f (k + 1)) f 0

-- ---- the coefficients of a polynomial by its control numbers
pub mix_step : (s : ℕ) (a b : ℤ) → s ≤ 4096 → mix s a b ≡ pos 4096 *ℤ a +ℤ pos s *ℤ (b -ℤ a)
mix_step s a b h =
    let e : (4096 - s) + s ≡ 4096 = omega arith in
    let f = add-mul (4096 - s) s a in
    let g = ap (λ n. pos n *ℤ a) e in
    let k = mul-sub s b a in
    omega (arith, ints, f, g, k)

difference : (q p a b c x y z u v w : ℤ) → q ≡ a +ℤ (b +ℤ c) → p ≡ x +ℤ (y +ℤ z) → u ≡ a -ℤ x → v ≡ b -ℤ y → w ≡ c -ℤ z → q -ℤ p ≡ u +ℤ (v +ℤ w)
difference q p a b c x y z u v w e f g h k = rw (e, f, g, h, k) (omega (arith, ints))

pub quad_ring : (s : ℕ) (a b c x y p : ℤ) → x ≡ pos 4096 *ℤ a +ℤ pos s *ℤ (b -ℤ a) → y ≡ pos 4096 *ℤ b +ℤ pos s *ℤ (c -ℤ b) → p ≡ pos 4096 *ℤ x +ℤ pos s *ℤ (y -ℤ x) →
    p ≡ pos (2 ^ 24) *ℤ a +ℤ (pos (2 ^ 13 * s) *ℤ (b -ℤ a) +ℤ pos (s * s) *ℤ ((c -ℤ b) -ℤ (b -ℤ a)))
quad_ring s a b c x y p e f g = rw (g, e, f) (simp (expand, mul-mul) (omega (arith, ints)))

last_ring : (s : ℕ) (a e g j : ℤ) →
    pos (2 ^ 36) *ℤ a +ℤ (pos s *ℤ (pos (3 * 2 ^ 24) *ℤ e) +ℤ (pos (s * s) *ℤ (pos (3 * 2 ^ 12) *ℤ g) +ℤ pos (s * s * s) *ℤ j)) ≡
    pos 4096 *ℤ (pos (2 ^ 24) *ℤ a +ℤ (pos (2 ^ 13 * s) *ℤ e +ℤ pos (s * s) *ℤ g)) +ℤ pos s *ℤ (pos (2 ^ 24) *ℤ e +ℤ (pos (2 ^ 13 * s) *ℤ g +ℤ pos (s * s) *ℤ j))
last_ring s a e g j = simp (mul-add, mul-mul) (omega (arith, ints))

cubic_ring : (s : ℕ) (a b c d x y z p q r : ℤ) → x ≡ pos 4096 *ℤ a +ℤ pos s *ℤ (b -ℤ a) → y ≡ pos 4096 *ℤ b +ℤ pos s *ℤ (c -ℤ b) → z ≡ pos 4096 *ℤ c +ℤ pos s *ℤ (d -ℤ c) →
    p ≡ pos 4096 *ℤ x +ℤ pos s *ℤ (y -ℤ x) → q ≡ pos 4096 *ℤ y +ℤ pos s *ℤ (z -ℤ y) → r ≡ pos 4096 *ℤ p +ℤ pos s *ℤ (q -ℤ p) →
    pos (2 ^ 36) *ℤ a +ℤ (pos s *ℤ (pos (3 * 2 ^ 24) *ℤ (b -ℤ a)) +ℤ (pos (s * s) *ℤ (pos (3 * 2 ^ 12) *ℤ ((c -ℤ b) -ℤ (b -ℤ a))) +ℤ pos (s * s * s) *ℤ (((d -ℤ c) -ℤ (c -ℤ b)) -ℤ ((c -ℤ b) -ℤ (b -ℤ a))))) ≡ r
cubic_ring s a b c d x y z p q r e f g h k l =
    let low = quad_ring s a b c x y p e f h in
    let high = quad_ring s b c d y z q f g k in
    let one = mul-sub (2 ^ 24) b a in
    let two = mul-sub (2 ^ 13 * s) (c -ℤ b) (b -ℤ a) in
    let three = mul-sub (s * s) ((d -ℤ c) -ℤ (c -ℤ b)) ((c -ℤ b) -ℤ (b -ℤ a)) in
    let step : q -ℤ p ≡ pos (2 ^ 24) *ℤ (b -ℤ a) +ℤ (pos (2 ^ 13 * s) *ℤ ((c -ℤ b) -ℤ (b -ℤ a)) +ℤ pos (s * s) *ℤ (((d -ℤ c) -ℤ (c -ℤ b)) -ℤ ((c -ℤ b) -ℤ (b -ℤ a)))) =
    difference q p (pos (2 ^ 24) *ℤ b) (pos (2 ^ 13 * s) *ℤ (c -ℤ b)) (pos (s * s) *ℤ ((d -ℤ c) -ℤ (c -ℤ b))) (pos (2 ^ 24) *ℤ a) (pos (2 ^ 13 * s) *ℤ (b -ℤ a)) (pos (s * s) *ℤ ((c -ℤ b) -ℤ (b -ℤ a)))
    _ _ _ high low one two three in
    last_ring s a (b -ℤ a) ((c -ℤ b) -ℤ (b -ℤ a)) (((d -ℤ c) -ℤ (c -ℤ b)) -ℤ ((c -ℤ b) -ℤ (b -ℤ a)))
    ∙ ap (λ n. pos 4096 *ℤ n +ℤ pos s *ℤ (pos (2 ^ 24) *ℤ (b -ℤ a) +ℤ (pos (2 ^ 13 * s) *ℤ ((c -ℤ b) -ℤ (b -ℤ a)) +ℤ pos (s * s) *ℤ (((d -ℤ c) -ℤ (c -ℤ b)) -ℤ ((c -ℤ b) -ℤ (b -ℤ a)))))) (sym low)
    ∙ ap (λ n. pos 4096 *ℤ p +ℤ pos s *ℤ n) (sym step) ∙ sym l

slope_ring : (s : ℕ) (a b c d x y r : ℤ) → x ≡ pos 4096 *ℤ (b -ℤ a) +ℤ pos s *ℤ ((c -ℤ b) -ℤ (b -ℤ a)) → y ≡ pos 4096 *ℤ (c -ℤ b) +ℤ pos s *ℤ ((d -ℤ c) -ℤ (c -ℤ b)) →
    r ≡ pos 4096 *ℤ x +ℤ pos s *ℤ (y -ℤ x) →
    pos (3 * 2 ^ 24) *ℤ (b -ℤ a) +ℤ (pos (2 * s) *ℤ (pos (3 * 2 ^ 12) *ℤ ((c -ℤ b) -ℤ (b -ℤ a))) +ℤ pos (3 * (s * s)) *ℤ (((d -ℤ c) -ℤ (c -ℤ b)) -ℤ ((c -ℤ b) -ℤ (b -ℤ a)))) ≡ pos 3 *ℤ r
slope_ring s a b c d x y r e f g = rw (g, e, f) (simp (expand, mul-mul) (omega (arith, ints)))

-- a polynomial has the coefficients of these control numbers
pub record HasControl (p : Cubic) (a b c d : ℤ) : Type 0 where
  pub constant : p.constant ≡ pos (2 ^ 36) *ℤ a
  pub linear : p.linear ≡ pos (3 * 2 ^ 24) *ℤ (b -ℤ a)
  pub square : p.square ≡ pos (3 * 2 ^ 12) *ℤ ((c -ℤ b) -ℤ (b -ℤ a))
  pub cube : p.cube ≡ ((d -ℤ c) -ℤ (c -ℤ b)) -ℤ ((c -ℤ b) -ℤ (b -ℤ a))

pub control_same : (p : Cubic) (a b c d a' b' c' d' : ℤ) → a ≡ a' → b ≡ b' → c ≡ c' → d ≡ d' → HasControl p a b c d → HasControl p a' b' c' d'
control_same p a b c d a' b' c' d' e f g k h = rw (sym e, sym f, sym g, sym k) h

-- what the code's steps make of four control numbers
abbrev wide : ℤ → ℤ
wide z = to_z w128 (of_z w128 z)

pub control_of_steps : (p : Cubic) (a b c d first second third bend next constant linear square cube : ℤ) →
    unsigned_abs a ≤ 2 ^ 67 → unsigned_abs b ≤ 2 ^ 67 → unsigned_abs c ≤ 2 ^ 67 → unsigned_abs d ≤ 2 ^ 67 →
    first ≡ wide b -ℤ wide a → second ≡ wide c -ℤ wide b → third ≡ wide d -ℤ wide c → bend ≡ wide second -ℤ wide first → next ≡ wide third -ℤ wide second →
    constant ≡ pos (2 ^ 36) *ℤ wide a → linear ≡ pos (3 * 2 ^ 24) *ℤ wide first → square ≡ pos (3 * 2 ^ 12) *ℤ wide bend → cube ≡ wide next -ℤ wide bend →
    p.constant ≡ wide constant → p.linear ≡ wide linear → p.square ≡ wide square → p.cube ≡ wide cube → HasControl p a b c d
control_of_steps p a b c d first second third bend next constant linear square cube ha hb hc hd e f g h k l m n o q r s t =
    let x = minus_step b a first (2 ^ 67) (omega arith) hb ha e in
    let y = minus_step c b second (2 ^ 67) (omega arith) hc hb f in
    let z = minus_step d c third (2 ^ 67) (omega arith) hd hc g in
    let v = minus_step second first bend (2 ^ 68) (omega arith) (omega (arith, y.1)) (omega (arith, x.1)) h in
    let w = minus_step third second next (2 ^ 68) (omega arith) (omega (arith, z.1)) (omega (arith, y.1)) k in
    let u = minus_step next bend cube (2 ^ 69) (omega arith) (omega (arith, w.1)) (omega (arith, v.1)) o in
    let i = scaled_step (2 ^ 36) a constant (2 ^ 67) (2 ^ 108) (omega arith) ha (omega arith) l in
    let j = scaled_step (3 * 2 ^ 24) first linear (2 ^ 68) (2 ^ 96) (omega arith) (omega (arith, x.1)) (omega arith) m in
    let aa = scaled_step (3 * 2 ^ 12) bend square (2 ^ 69) (2 ^ 84) (omega arith) (omega (arith, v.1)) (omega arith) n in
    let bend_is : bend ≡ (c -ℤ b) -ℤ (b -ℤ a) = v.0 ∙ rw (x.0, y.0) refl in
    let next_is : next ≡ (d -ℤ c) -ℤ (c -ℤ b) = w.0 ∙ rw (y.0, z.0) refl in
    record {
      constant = q ∙ same_wide constant (omega (arith, i.1)) ∙ i.0;
      linear = r ∙ same_wide linear (omega (arith, j.1)) ∙ j.0 ∙ ap (λ n. pos (3 * 2 ^ 24) *ℤ n) x.0;
      square = s ∙ same_wide square (omega (arith, aa.1)) ∙ aa.0 ∙ ap (λ n. pos (3 * 2 ^ 12) *ℤ n) bend_is;
      cube = t ∙ same_wide cube (omega (arith, u.1)) ∙ u.0 ∙ rw (next_is, bend_is) refl;
    }

pub value_of_control : (p : Cubic) (f : ℕ → ℤ) (u : ℕ) → HasControl p (f 0) (f 1) (f 2) (f 3) → u ≤ 4096 → value_at p u ≡ blossom (u ∷ u ∷ u ∷ []) f 0
unfolding blossom value_at
value_of_control p f u h k =
    let x = mix_step u (f 0) (f 1) k in
    let y = mix_step u (f 1) (f 2) k in
    let z = mix_step u (f 2) (f 3) k in
    let v = mix_step u (mix u (f 0) (f 1)) (mix u (f 1) (f 2)) k in
    let w = mix_step u (mix u (f 1) (f 2)) (mix u (f 2) (f 3)) k in
    let r = mix_step u (mix u (mix u (f 0) (f 1)) (mix u (f 1) (f 2))) (mix u (mix u (f 1) (f 2)) (mix u (f 2) (f 3))) k in
    rw (h.constant, h.linear, h.square, h.cube) (cubic_ring u (f 0) (f 1) (f 2) (f 3) _ _ _ _ _ _ x y z v w r)

pub slope_of_control : (p : Cubic) (f : ℕ → ℤ) (u : ℕ) → HasControl p (f 0) (f 1) (f 2) (f 3) → u ≤ 4096 → slope_at p u ≡ pos 3 *ℤ blossom (u ∷ u ∷ []) (λ k. f (k + 1) -ℤ f k) 0
unfolding blossom slope_at
slope_of_control p f u h k =
    let x = mix_step u (f 1 -ℤ f 0) (f 2 -ℤ f 1) k in
    let y = mix_step u (f 2 -ℤ f 1) (f 3 -ℤ f 2) k in
    let r = mix_step u (mix u (f 1 -ℤ f 0) (f 2 -ℤ f 1)) (mix u (f 2 -ℤ f 1) (f 3 -ℤ f 2)) k in
    rw (h.linear, h.square, h.cube) (slope_ring u (f 0) (f 1) (f 2) (f 3) _ _ _ x y r)

line_ring : (s : ℕ) (a b : ℤ) → pos (2 ^ 60) *ℤ a +ℤ (pos s *ℤ (pos (2 ^ 48) *ℤ (b -ℤ a)) +ℤ (pos (s * s) *ℤ pos 0 +ℤ pos (s * s * s) *ℤ pos 0)) ≡ pos (2 ^ 48) *ℤ (pos 4096 *ℤ a +ℤ pos s *ℤ (b -ℤ a))
line_ring s a b = simp (expand, mul-mul) (omega (arith, ints))

-- Horner's rule gives the polynomial and its derivative
horner_ring : (u : ℕ) (a b c d : ℤ) → pos u *ℤ (pos u *ℤ (pos u *ℤ d +ℤ c) +ℤ b) +ℤ a ≡ a +ℤ (pos u *ℤ b +ℤ (pos (u * u) *ℤ c +ℤ pos (u * u * u) *ℤ d))
horner_ring u a b c d = simp (mul-add, mul-mul) (omega (arith, ints))

horner_slope_ring : (u : ℕ) (b c d : ℤ) → pos u *ℤ (pos u *ℤ (pos 3 *ℤ d) +ℤ pos 2 *ℤ c) +ℤ b ≡ b +ℤ (pos (2 * u) *ℤ c +ℤ pos (3 * (u * u)) *ℤ d)
horner_slope_ring u b c d = simp (mul-add, mul-mul) (omega (arith, ints))

pub value_by_horner : (p : Cubic) (u : ℕ) (high middle last : ℤ) → unsigned_abs p.constant ≤ 2 ^ 108 → unsigned_abs p.linear ≤ 2 ^ 96 → unsigned_abs p.square ≤ 2 ^ 84 → unsigned_abs p.cube ≤ 2 ^ 72 →
    unsigned_abs high ≤ 2 ^ 86 → unsigned_abs middle ≤ 2 ^ 100 → high ≡ pos u *ℤ wide p.cube +ℤ wide p.square → middle ≡ pos u *ℤ wide high +ℤ wide p.linear → last ≡ pos u *ℤ wide middle +ℤ wide p.constant →
    last ≡ value_at p u
unfolding value_at
value_by_horner p u high middle last h0 h1 h2 h3 hh hm e f g =
    let high_is : high ≡ pos u *ℤ p.cube +ℤ p.square = e ∙ rw (same_wide p.cube (omega arith), same_wide p.square (omega arith)) refl in
    let middle_is : middle ≡ pos u *ℤ (pos u *ℤ p.cube +ℤ p.square) +ℤ p.linear = f ∙ rw (same_wide high (omega arith), same_wide p.linear (omega arith), high_is) refl in
    g ∙ rw (same_wide middle (omega arith), same_wide p.constant (omega arith), middle_is) (horner_ring u p.constant p.linear p.square p.cube)

pub slope_by_horner : (p : Cubic) (u : ℕ) (cube square high last : ℤ) → unsigned_abs p.linear ≤ 2 ^ 96 → unsigned_abs p.square ≤ 2 ^ 84 → unsigned_abs p.cube ≤ 2 ^ 72 →
    unsigned_abs cube ≤ 2 ^ 100 → unsigned_abs square ≤ 2 ^ 100 → unsigned_abs high ≤ 2 ^ 100 → cube ≡ pos 3 *ℤ wide p.cube → square ≡ pos 2 *ℤ wide p.square →
    high ≡ pos u *ℤ wide cube +ℤ wide square → last ≡ pos u *ℤ wide high +ℤ wide p.linear → last ≡ slope_at p u
unfolding slope_at
slope_by_horner p u cube square high last h1 h2 h3 hc hs hh e f g k =
    let cube_is : cube ≡ pos 3 *ℤ p.cube = e ∙ rw (same_wide p.cube (omega arith)) refl in
    let square_is : square ≡ pos 2 *ℤ p.square = f ∙ rw (same_wide p.square (omega arith)) refl in
    let high_is : high ≡ pos u *ℤ (pos 3 *ℤ p.cube) +ℤ pos 2 *ℤ p.square = g ∙ rw (same_wide cube (omega arith), same_wide square (omega arith), cube_is, square_is) refl in
    k ∙ rw (same_wide high (omega arith), same_wide p.linear (omega arith), high_is) (horner_slope_ring u p.linear p.square p.cube)

pub value_of_ends : (p : Cubic) (a b : ℤ) (u : ℕ) → p.constant ≡ pos (2 ^ 60) *ℤ a → p.linear ≡ pos (2 ^ 48) *ℤ (b -ℤ a) → p.square ≡ pos 0 → p.cube ≡ pos 0 → u ≤ 4096 →
    value_at p u ≡ pos (2 ^ 48) *ℤ mix u a b
unfolding value_at
value_of_ends p a b u e f g h k = rw (e, f, g, h, mix_step u a b k) (line_ring u a b)

pub slope_of_ends : (p : Cubic) (a b : ℤ) (u : ℕ) → p.linear ≡ pos (2 ^ 48) *ℤ (b -ℤ a) → p.square ≡ pos 0 → p.cube ≡ pos 0 → slope_at p u ≡ pos (2 ^ 48) *ℤ (b -ℤ a)
unfolding slope_at
slope_of_ends p a b u f g h = rw (f, g, h) (omega (arith, ints))

-- ---- nets by columns: the place, and the slopes along u and along v
pub net_by_columns : (us vs : List ℕ) (c : ℕ → ℕ → ℤ) → blossom_net us vs c ≡ blossom us (λ x. blossom vs (λ y. c x y) 0) 0
net_by_columns us vs c = blossom_exchange us vs c 0 0

pub mix_same : (s : ℕ) (a b a' b' : ℤ) → a ≡ a' → b ≡ b' → mix s a b ≡ mix s a' b'
mix_same s a b a' b' e f = rw (e, f) refl

pub minus_same : (a b a' b' : ℤ) → a ≡ a' → b ≡ b' → b -ℤ a ≡ b' -ℤ a'
minus_same a b a' b' e f = rw (e, f) refl

pub corners_by_columns : (u v : ℕ) (c : ℕ → ℕ → ℤ) → mix u (mix v (c 0 0) (c 0 1)) (mix v (c 1 0) (c 1 1)) ≡ weighted_net (weights_1 u) (weights_1 v) c
unfolding blossom
corners_by_columns u v c = sym (weighted_net_1 u v c ∙ net_by_columns (u ∷ []) (v ∷ []) c)

pub place_by_columns : (u v : ℕ) (c : ℕ → ℕ → ℤ) → blossom (u ∷ u ∷ u ∷ []) (λ x. blossom (v ∷ v ∷ v ∷ []) (λ y. c x y) 0) 0 ≡ weighted_net (weights_3 u) (weights_3 v) c
place_by_columns u v c = sym (weighted_net_3 u v c ∙ net_by_columns (u ∷ u ∷ u ∷ []) (v ∷ v ∷ v ∷ []) c)

pub across_by_columns : (u v : ℕ) (c : ℕ → ℕ → ℤ) →
    blossom (u ∷ u ∷ []) (λ x. blossom (v ∷ v ∷ v ∷ []) (λ y. c (x + 1) y) 0 -ℤ blossom (v ∷ v ∷ v ∷ []) (λ y. c x y) 0) 0 ≡ weighted_net (weights_2 u) (weights_3 v) (steps_u c)
across_by_columns u v c =
    let vs = v ∷ v ∷ v ∷ [] in
    blossom_same (u ∷ u ∷ []) (λ x. blossom vs (λ y. c (x + 1) y) 0 -ℤ blossom vs (λ y. c x y) 0) (λ x. blossom vs (λ y. steps_u c x y) 0) 0
    (λ x. sym (blossom_minus vs (λ y. c (x + 1) y) (λ y. c x y) 0))
    ∙ sym (weighted_net_2_3 u v (steps_u c) ∙ net_by_columns (u ∷ u ∷ []) vs (steps_u c))

pub up_by_columns : (u v : ℕ) (c : ℕ → ℕ → ℤ) →
    blossom (u ∷ u ∷ u ∷ []) (λ x. pos 3 *ℤ blossom (v ∷ v ∷ []) (λ y. steps_v c x y) 0) 0 ≡ pos 3 *ℤ weighted_net (weights_3 u) (weights_2 v) (steps_v c)
up_by_columns u v c =
    let us = u ∷ u ∷ u ∷ [] in
    blossom_scale us 3 (λ x. blossom (v ∷ v ∷ []) (λ y. steps_v c x y) 0) 0
    ∙ ap (λ z. pos 3 *ℤ z) (sym (weighted_net_3_2 u v (steps_v c) ∙ net_by_columns us (v ∷ v ∷ []) (steps_v c)))

-- ---- one floor, by two fractions
antisymmetric : (x y : ℤ) → x ≤ℤ y → y ≤ℤ x → x ≡ y
antisymmetric x y h k = omega (arith, ints, h, k)

pub floor_scale : (k d : ℕ) (z : ℤ) → 0 < d → 0 < k * d → floor_by (pos k *ℤ z) (k * d) ≡ floor_by z d
floor_scale k d z h l =
    let e : pos d *ℤ (pos k *ℤ z) ≡ pos (k * d) *ℤ z = mul-mul d k z ∙ (let f : d * k ≡ k * d = omega arith in ap (λ n. pos n *ℤ z) f) in
    antisymmetric (floor_by (pos k *ℤ z) (k * d)) (floor_by z d)
    (floor_cross (pos k *ℤ z) z (k * d) d l h (omega (arith, ints, e)))
    (floor_cross z (pos k *ℤ z) d (k * d) h l (omega (arith, ints, e)))
