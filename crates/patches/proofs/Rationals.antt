-- Laws of the polynomials of rational curves.
use Rattle.std.proofs.Common.{◌≡◌, ◌∙◌, ap, sym, refl, ℕ, ◌+◌, ◌-◌, ◌*◌, ◌^◌, ◌<◌, ◌≤◌, arith, [], ◌∷◌, unsigned_abs, to_z, of_z}
use Rattle.std.specs.Prelude.{ℤ, pos, ◌+ℤ◌, ◌-ℤ◌, ◌*ℤ◌}
use Rattle.std.specs.Int.{w128}
use Rattle.std.proofs.Math.Nat.{mul-le-mul}
use Rattle.std.proofs.lemmas.Int.{ints}
use Rattle.fixed_math.specs.Blossom.{mix, blossom}
use Rattle.fixed_math.proofs.Fits.{scaled_size}
use Rattle.fixed_math.proofs.Ring.{expand}
use Rattle.fixed_math.proofs.Weights.{mul-add, mul-mul}
use Rattle.patches.specs.RationalCurves.{quadratic_at, turn_at}
use Rattle.patches.specs.declared.quadratic.Quadratic.{Quadratic}
use Rattle.patches.proofs.Curves.{mix_step, quad_ring}
use Rattle.patches.proofs.Fractions.{same_wide, minus_step, scaled_step}

-- a number as the code reads it
abbrev wide : ℤ → ℤ
wide z = to_z w128 (of_z w128 z)

-- ---- a polynomial by its control numbers
pub quadratic_control : (u : ℕ) (f : ℕ → ℤ) → u ≤ 4096 →
    blossom (u ∷ u ∷ []) f 0 ≡ pos (2 ^ 24) *ℤ f 0 +ℤ (pos (2 ^ 13 * u) *ℤ (f 1 -ℤ f 0) +ℤ pos (u * u) *ℤ ((f 2 -ℤ f 1) -ℤ (f 1 -ℤ f 0)))
unfolding blossom
quadratic_control u f h =
    quad_ring u (f 0) (f 1) (f 2) _ _ _ (mix_step u (f 0) (f 1) h) (mix_step u (f 1) (f 2) h) (mix_step u (mix u (f 0) (f 1)) (mix u (f 1) (f 2)) h)

pub record HasControl (q : Quadratic) (a b c : ℤ) : Type 0 where
  pub constant : q.constant ≡ pos (2 ^ 24) *ℤ a
  pub linear : q.linear ≡ pos (2 ^ 13) *ℤ (b -ℤ a)
  pub square : q.square ≡ (c -ℤ b) -ℤ (b -ℤ a)

pub control_same : (q : Quadratic) (a b c a' b' c' : ℤ) → a ≡ a' → b ≡ b' → c ≡ c' → HasControl q a b c → HasControl q a' b' c'
control_same q a b c a' b' c' e f g h = rw (sym e, sym f, sym g) h

pub control_of_steps : (q : Quadratic) (a b c first second constant linear square : ℤ) → unsigned_abs a ≤ 2 ^ 86 → unsigned_abs b ≤ 2 ^ 86 → unsigned_abs c ≤ 2 ^ 86 →
    first ≡ wide b -ℤ wide a → second ≡ wide c -ℤ wide b → constant ≡ pos (2 ^ 24) *ℤ wide a → linear ≡ pos (2 ^ 13) *ℤ wide first → square ≡ wide second -ℤ wide first →
    q.constant ≡ wide constant → q.linear ≡ wide linear → q.square ≡ wide square → HasControl q a b c
control_of_steps q a b c first second constant linear square ha hb hc e f l m n r s t =
    let x = minus_step b a first (2 ^ 86) (omega arith) hb ha e in
    let y = minus_step c b second (2 ^ 86) (omega arith) hc hb f in
    let z = minus_step second first square (2 ^ 87) (omega arith) (omega (arith, y.1)) (omega (arith, x.1)) n in
    let i = scaled_step (2 ^ 24) a constant (2 ^ 86) (2 ^ 110) (omega arith) ha (omega arith) l in
    let j = scaled_step (2 ^ 13) first linear (2 ^ 87) (2 ^ 100) (omega arith) (omega (arith, x.1)) (omega arith) m in
    record {
      constant = r ∙ same_wide constant (omega (arith, i.1)) ∙ i.0;
      linear = s ∙ same_wide linear (omega (arith, j.1)) ∙ j.0 ∙ ap (λ n. pos (2 ^ 13) *ℤ n) x.0;
      square = t ∙ same_wide square (omega (arith, z.1)) ∙ z.0 ∙ rw (x.0, y.0) refl;
    }

spread_out : (u : ℕ) (a d e : ℤ) → pos (2 ^ 24) *ℤ a +ℤ (pos u *ℤ (pos (2 ^ 13) *ℤ d) +ℤ pos (u * u) *ℤ e) ≡ pos (2 ^ 24) *ℤ a +ℤ (pos (2 ^ 13 * u) *ℤ d +ℤ pos (u * u) *ℤ e)
spread_out u a d e = simp mul-mul (omega (arith, ints))

pub value_of_control : (q : Quadratic) (f : ℕ → ℤ) (u : ℕ) → HasControl q (f 0) (f 1) (f 2) → u ≤ 4096 → quadratic_at q u ≡ blossom (u ∷ u ∷ []) f 0
unfolding quadratic_at
value_of_control q f u h k =
    rw (h.constant, h.linear, h.square) (spread_out u (f 0) (f 1 -ℤ f 0) ((f 2 -ℤ f 1) -ℤ (f 1 -ℤ f 0))) ∙ sym (quadratic_control u f k)

-- ---- the numerator of a quotient's derivative
pub record HasTurn (x y z a b c : ℤ) : Type 0 where
  pub constant : x ≡ pos (2 ^ 49) *ℤ (b -ℤ a)
  pub linear : y ≡ pos (2 ^ 37) *ℤ (((c -ℤ b) -ℤ (b -ℤ a)) -ℤ a)
  pub square : z ≡ pos (2 ^ 25) *ℤ (a -ℤ b)

pub turn_same : (x y z a b c a' b' c' : ℤ) → a ≡ a' → b ≡ b' → c ≡ c' → HasTurn x y z a b c → HasTurn x y z a' b' c'
turn_same x y z a b c a' b' c' e f g h = rw (sym e, sym f, sym g) h

pub turn_of_steps : (a b c first second bend lean back constant linear square : ℤ) → unsigned_abs a ≤ 2 ^ 58 → unsigned_abs b ≤ 2 ^ 58 → unsigned_abs c ≤ 2 ^ 58 →
    first ≡ wide b -ℤ wide a → second ≡ wide c -ℤ wide b → bend ≡ wide second -ℤ wide first → lean ≡ wide bend -ℤ wide a → back ≡ wide a -ℤ wide b →
    constant ≡ pos (2 ^ 49) *ℤ wide first → linear ≡ pos (2 ^ 37) *ℤ wide lean → square ≡ pos (2 ^ 25) *ℤ wide back →
    HasTurn (wide constant) (wide linear) (wide square) a b c
turn_of_steps a b c first second bend lean back constant linear square ha hb hc e f g h k l m n =
    let x = minus_step b a first (2 ^ 58) (omega arith) hb ha e in
    let y = minus_step c b second (2 ^ 58) (omega arith) hc hb f in
    let z = minus_step second first bend (2 ^ 59) (omega arith) (omega (arith, y.1)) (omega (arith, x.1)) g in
    let w = minus_step bend a lean (2 ^ 60) (omega arith) (omega (arith, z.1)) (omega (arith, ha)) h in
    let v = minus_step a b back (2 ^ 58) (omega arith) ha hb k in
    let i = scaled_step (2 ^ 49) first constant (2 ^ 59) (2 ^ 108) (omega arith) (omega (arith, x.1)) (omega arith) l in
    let j = scaled_step (2 ^ 37) lean linear (2 ^ 61) (2 ^ 98) (omega arith) (omega (arith, w.1)) (omega arith) m in
    let o = scaled_step (2 ^ 25) back square (2 ^ 59) (2 ^ 84) (omega arith) (omega (arith, v.1)) (omega arith) n in
    record {
      constant = same_wide constant (omega (arith, i.1)) ∙ i.0 ∙ ap (λ n. pos (2 ^ 49) *ℤ n) x.0;
      linear = same_wide linear (omega (arith, j.1)) ∙ j.0 ∙ ap (λ n. pos (2 ^ 37) *ℤ n) (w.0 ∙ ap (λ n. n -ℤ a) (z.0 ∙ rw (x.0, y.0) refl));
      square = same_wide square (omega (arith, o.1)) ∙ o.0 ∙ ap (λ n. pos (2 ^ 25) *ℤ n) v.0;
    }

turn_ring : (u : ℕ) (a b c : ℤ) →
    pos (2 ^ 49) *ℤ (b -ℤ a) +ℤ (pos u *ℤ (pos (2 ^ 37) *ℤ (((c -ℤ b) -ℤ (b -ℤ a)) -ℤ a)) +ℤ pos (u * u) *ℤ (pos (2 ^ 25) *ℤ (a -ℤ b))) ≡
    pos (2 ^ 24) *ℤ (pos 2 *ℤ ((pos 16777216 *ℤ (b -ℤ a) +ℤ pos (4096 * u) *ℤ (((c -ℤ b) -ℤ (b -ℤ a)) -ℤ a)) -ℤ pos (u * u) *ℤ (b -ℤ a)))
turn_ring u a b c = simp (expand, mul-mul) (omega (arith, ints))

pub value_of_turn : (q : Quadratic) (f : ℕ → ℤ) (u : ℕ) → HasTurn q.constant q.linear q.square (f 0) (f 1) (f 2) → quadratic_at q u ≡ pos (2 ^ 24) *ℤ turn_at u f
unfolding quadratic_at turn_at
value_of_turn q f u h = rw (h.constant, h.linear, h.square) (turn_ring u (f 0) (f 1) (f 2))

step_abs : (a b : ℤ) (m n : ℕ) → unsigned_abs a ≤ m → unsigned_abs b ≤ n → unsigned_abs (b -ℤ a) ≤ m + n
step_abs a b m n h k = omega (arith, ints, h, k)

pub turn_size : (x y z a b c : ℤ) (r : ℕ) → HasTurn x y z a b c → unsigned_abs a ≤ r → unsigned_abs b ≤ r → unsigned_abs c ≤ r →
    unsigned_abs x + 4096 * unsigned_abs y + 16777216 * unsigned_abs z ≤ 18 * 2 ^ 48 * r
turn_size x y z a b c r h ha hb hc =
    let first = step_abs a b r r ha hb in
    let second = step_abs b c r r hb hc in
    let bend = step_abs (b -ℤ a) (c -ℤ b) (r + r) (r + r) first second in
    let lean = step_abs a ((c -ℤ b) -ℤ (b -ℤ a)) r (r + r + (r + r)) ha bend in
    let back = step_abs b a r r hb ha in
    let i = scaled_size (2 ^ 49) (b -ℤ a) in
    let j = scaled_size (2 ^ 37) (((c -ℤ b) -ℤ (b -ℤ a)) -ℤ a) in
    let o = scaled_size (2 ^ 25) (a -ℤ b) in
    rw (h.constant, h.linear, h.square, i, j, o) (omega (arith, first, lean, back))

-- ---- Horner's rule gives the polynomial
horner_ring : (u : ℕ) (a b c : ℤ) → pos u *ℤ (pos u *ℤ c +ℤ b) +ℤ a ≡ a +ℤ (pos u *ℤ b +ℤ pos (u * u) *ℤ c)
horner_ring u a b c = simp (mul-add, mul-mul) (omega (arith, ints))

pub quadratic_by_horner : (q : Quadratic) (u : ℕ) (high last : ℤ) → unsigned_abs q.constant ≤ 2 ^ 110 → unsigned_abs q.linear ≤ 2 ^ 104 → unsigned_abs q.square ≤ 2 ^ 92 → unsigned_abs high ≤ 2 ^ 106 →
    high ≡ pos u *ℤ wide q.square +ℤ wide q.linear → last ≡ pos u *ℤ wide high +ℤ wide q.constant → last ≡ quadratic_at q u
unfolding quadratic_at
quadratic_by_horner q u high last h0 h1 h2 hh e f =
    let high_is : high ≡ pos u *ℤ q.square +ℤ q.linear = e ∙ rw (same_wide q.square (omega arith), same_wide q.linear (omega arith)) refl in
    f ∙ rw (same_wide high (omega arith), same_wide q.constant (omega arith), high_is) (horner_ring u q.constant q.linear q.square)

-- ---- denominators
pub square_least : (a b d : ℕ) → 2 ^ 24 ≤ a → 2 ^ 24 ≤ b → 2 ^ 12 ≤ d → 2 ^ 60 ≤ a * b * d
square_least a b d ha hb hd =
    let e : 2 ^ 24 * 2 ^ 24 ≤ a * b = mul-le-mul ha hb in
    let f : 2 ^ 24 * 2 ^ 24 * 2 ^ 12 ≤ a * b * d = mul-le-mul e hd in
    omega (arith, f)

pub plain_least : (a d : ℕ) → 2 ^ 24 ≤ a → 2 ^ 48 ≤ d → 2 ^ 60 ≤ a * d
plain_least a d h k = let e : 2 ^ 24 * 2 ^ 48 ≤ a * d = mul-le-mul h k in omega (arith, e)

pub some_product : (a d : ℕ) → 2 ^ 24 ≤ a → 2 ^ 12 ≤ d → 0 < a * d
some_product a d h k = let e : 2 ^ 24 * 2 ^ 12 ≤ a * d = mul-le-mul h k in omega (arith, e)

pub product_most : (a b : ℕ) → a ≤ 2 ^ 50 → b ≤ 2 ^ 50 → a * b ≤ 2 ^ 100
product_most a b h k = let e : a * b ≤ 2 ^ 50 * 2 ^ 50 = mul-le-mul h k in omega (arith, e)
