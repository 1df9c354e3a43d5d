-- The rectangles of parts and of their halves.
use Rattle.std.proofs.Common.{◌≡◌, ℕ, ◌+◌, ◌-◌, ◌*◌, ◌^◌, ◌<◌, ◌≤◌, ◌%◌, ap, arith, ◌∙◌, sym}
use Rattle.patches.specs.Rects.{IsRect, IsInside}
use Rattle.patches.specs.Parts.{Part, IsPart, rect_of, low_u, high_u, low_v, high_v}
use Rattle.std.proofs.lemmas.Nat.{pow-add, mul-le, one_shl}

pub size_is : (a : ℕ) → a ≤ 8 → 1 * 2 ^ (12 - a) % 65536 ≡ 2 ^ (12 - a)
size_is a h = one_shl (12 - a) 16 (omega arith)

pub span_end : (a i : ℕ) → a ≤ 8 → i < 2 ^ a → (i + 1) * 2 ^ (12 - a) ≤ 4096
span_end a i h k =
    let e : 2 ^ a * 2 ^ (12 - a) ≡ 2 ^ 12 = sym (pow-add 2 a (12 - a)) ∙ (let x : a + (12 - a) ≡ 12 = omega arith in ap (λ n. 2 ^ n) x) in
    let f = mul-le (i + 1) (2 ^ (12 - a)) (2 ^ a) (2 ^ (12 - a)) (omega arith) (omega arith) in
    omega (arith, e, f)

pub span_order : (a i : ℕ) → i * 2 ^ (12 - a) ≤ (i + 1) * 2 ^ (12 - a)
span_order a i = omega arith

-- ---- the halves of a part
double : (a : ℕ) → a < 8 → 2 ^ (12 - a) ≡ 2 * 2 ^ (12 - (a + 1))
double a h =
    let e : 12 - a ≡ 1 + (12 - (a + 1)) = omega arith in
    rw e (pow-add 2 1 (12 - (a + 1)))

pub low_half_left : (a i : ℕ) → a < 8 → 2 * i * 2 ^ (12 - (a + 1)) ≡ i * 2 ^ (12 - a)
low_half_left a i h = let e = ap (λ n. i * n) (double a h) in omega (arith, e)

pub middle : (a i : ℕ) → a < 8 → (2 * i + 1) * 2 ^ (12 - (a + 1)) ≤ (i + 1) * 2 ^ (12 - a)
middle a i h = let e = ap (λ n. i * n) (double a h) in let f = double a h in omega (arith, e, f)

pub high_half_right : (a i : ℕ) → a < 8 → (2 * i + 1 + 1) * 2 ^ (12 - (a + 1)) ≡ (i + 1) * 2 ^ (12 - a)
high_half_right a i h = let e = ap (λ n. i * n) (double a h) in let f = double a h in omega (arith, e, f)

pub high_half_left : (a i : ℕ) → a < 8 → i * 2 ^ (12 - a) ≤ (2 * i + 1) * 2 ^ (12 - (a + 1))
high_half_left a i h = let e = ap (λ n. i * n) (double a h) in omega (arith, e)

-- ---- parts and their rectangles
pub rect_of-IsRect : (p : Part) → IsPart p → IsRect (rect_of p)
rect_of-IsRect p h = record { across = span_order p.a p.i; right_in = span_end p.a p.i h.depth_u h.place_u; up = span_order p.b p.j; top_in = span_end p.b p.j h.depth_v h.place_v }

double_place : (a i : ℕ) → i < 2 ^ a → 2 * i + 1 < 2 ^ (a + 1)
double_place a i h = let e = pow-add 2 a 1 in omega (arith, e)

pub low_u-IsPart : (p : Part) → IsPart p → p.a < 8 → IsPart (low_u p)
low_u-IsPart p h k = record { depth_u = omega arith; depth_v = h.depth_v; place_u = (let e = double_place p.a p.i h.place_u in omega arith); place_v = h.place_v }

pub high_u-IsPart : (p : Part) → IsPart p → p.a < 8 → IsPart (high_u p)
high_u-IsPart p h k = record { depth_u = omega arith; depth_v = h.depth_v; place_u = double_place p.a p.i h.place_u; place_v = h.place_v }

pub low_v-IsPart : (p : Part) → IsPart p → p.b < 8 → IsPart (low_v p)
low_v-IsPart p h k = record { depth_u = h.depth_u; depth_v = omega arith; place_u = h.place_u; place_v = (let e = double_place p.b p.j h.place_v in omega arith) }

pub high_v-IsPart : (p : Part) → IsPart p → p.b < 8 → IsPart (high_v p)
high_v-IsPart p h k = record { depth_u = h.depth_u; depth_v = omega arith; place_u = h.place_u; place_v = double_place p.b p.j h.place_v }

-- a half is a part of the whole
pub low_u-IsInside : (p : Part) → p.a < 8 → IsInside (rect_of (low_u p)) (rect_of p)
low_u-IsInside p h = record { left = (let e = low_half_left p.a p.i h in omega arith); right = middle p.a p.i h; bottom = omega arith; top = omega arith }

pub high_u-IsInside : (p : Part) → p.a < 8 → IsInside (rect_of (high_u p)) (rect_of p)
high_u-IsInside p h = record { left = high_half_left p.a p.i h; right = (let e = high_half_right p.a p.i h in omega arith); bottom = omega arith; top = omega arith }

pub low_v-IsInside : (p : Part) → p.b < 8 → IsInside (rect_of (low_v p)) (rect_of p)
low_v-IsInside p h = record { left = omega arith; right = omega arith; bottom = (let e = low_half_left p.b p.j h in omega arith); top = middle p.b p.j h }

pub high_v-IsInside : (p : Part) → p.b < 8 → IsInside (rect_of (high_v p)) (rect_of p)
high_v-IsInside p h = record { left = omega arith; right = omega arith; bottom = high_half_left p.b p.j h; top = (let e = high_half_right p.b p.j h in omega arith) }
