-- How far out on the raster what lies between two depths can lie. In perspective a point right of the middle lies further right when
-- it is nearer, and one left of it further left.
use Rattle.std.proofs.Common.{◌≡◌, ap, ℕ, ◌*◌, ◌^◌, ◌<◌, ◌≤◌, arith, Option, Some, None}
use Rattle.std.specs.Prelude.{ℤ, pos, ◌≤ℤ◌, ◌<ℤ◌, ◌-ℤ◌, ◌*ℤ◌, unsigned_abs, neg_ℤ, IfSome}
use Rattle.std.proofs.lemmas.Int.{ints}
use Rattle.std.proofs.Math.Nat.{mul-le-mul_right, mul-pos}
use borrow.Author.Differences.{neg_is}
use Rattle.fixed_math.specs.Whole.{floor_by}
use Rattle.fixed_math.proofs.Weights.{floor_cross, mul-mul, mul-sub, scale_mono, scale_mono_down}
use Rattle.transforms.specs.declared.view.View.{View}
use Rattle.transforms.specs.Field.{IsView, scale_of, left, right, bottom, top}
use Rattle.transforms.specs.Raster.{clamped, x_place, y_place, column_at, row_at}
use Rattle.transforms.proofs.Orders.{clamped_mono, size_some, x_place_mono, y_place_mono, depth_some}
use Rattle.transforms.proofs.Scales.{scale_some}
use Rattle.hider.specs.Outermost.{IsLeftmost, IsRightmost, IsTopmost, IsBottommost}

-- ---- perspective
expand : (d k s q : ℕ) (x l : ℤ) → pos d *ℤ (pos k *ℤ (pos s *ℤ x -ℤ pos q *ℤ l)) ≡ pos (d * (k * s)) *ℤ x -ℤ pos (d * (k * q)) *ℤ l
expand d k s q x l = simp (mul-sub, mul-mul)

-- a place over depth: k is the scale, w the window's size, l its first side
abbrev place : ℕ → ℕ → ℕ → ℤ → ℤ → ℕ → ℤ
place k w t l x z = floor_by (pos k *ℤ (pos (2 ^ 32) *ℤ x -ℤ pos (z * t) *ℤ l)) (z * t * w)

below_all : (z t w : ℕ) → 0 < z → 0 < t → 0 < w → 0 < z * t * w
below_all z t w a b c = mul-pos (mul-pos a b) c

weights : (k w t y z : ℕ) → y ≤ z → y * t * w * (k * 2 ^ 32) ≤ z * t * w * (k * 2 ^ 32)
weights k w t y z h = mul-le-mul_right (k * 2 ^ 32) (mul-le-mul_right w (mul-le-mul_right t h))

place_near : (k w t : ℕ) (l x : ℤ) (y z : ℕ) → 0 < w → 0 < t → 0 < y → y ≤ z → pos 0 ≤ℤ x → place k w t l x z ≤ℤ place k w t l x y
place_near k w t l x y z hw ht hy h g =
    let m = scale_mono (y * t * w * (k * 2 ^ 32)) (z * t * w * (k * 2 ^ 32)) x (weights k w t y z h) g in
    floor_cross (pos k *ℤ (pos (2 ^ 32) *ℤ x -ℤ pos (z * t) *ℤ l)) (pos k *ℤ (pos (2 ^ 32) *ℤ x -ℤ pos (y * t) *ℤ l)) (z * t * w) (y * t * w)
    (below_all z t w (omega arith) ht hw) (below_all y t w hy ht hw)
    (rw (expand (y * t * w) k (2 ^ 32) (z * t) x l, expand (z * t * w) k (2 ^ 32) (y * t) x l) (omega (arith, ints, m)))

place_far : (k w t : ℕ) (l x : ℤ) (y z : ℕ) → 0 < w → 0 < t → 0 < y → y ≤ z → x ≤ℤ pos 0 → place k w t l x y ≤ℤ place k w t l x z
place_far k w t l x y z hw ht hy h g =
    let m = scale_mono_down (y * t * w * (k * 2 ^ 32)) (z * t * w * (k * 2 ^ 32)) x (weights k w t y z h) g in
    floor_cross (pos k *ℤ (pos (2 ^ 32) *ℤ x -ℤ pos (y * t) *ℤ l)) (pos k *ℤ (pos (2 ^ 32) *ℤ x -ℤ pos (z * t) *ℤ l)) (y * t * w) (z * t * w)
    (below_all y t w hy ht hw) (below_all z t w (omega arith) ht hw)
    (rw (expand (z * t * w) k (2 ^ 32) (y * t) x l, expand (y * t * w) k (2 ^ 32) (z * t) x l) (omega (arith, ints, m)))

-- the place down the raster is the place across of what is turned over
turned : (q s : ℕ) (a b : ℤ) → pos q *ℤ a -ℤ pos s *ℤ b ≡ pos s *ℤ neg_ℤ b -ℤ pos q *ℤ neg_ℤ a
turned q s a b =
    let e = ap (λ n. s * n) (neg_is b).0 in
    let f = ap (λ n. s * n) (neg_is b).1 in
    let g = ap (λ n. q * n) (neg_is a).0 in
    let h = ap (λ n. q * n) (neg_is a).1 in
    omega (arith, ints, e, f, g, h)

deep_y : (h t : ℕ) (b u y : ℤ) (z : ℕ) → y_place (Some t) h b u y z ≡ place (256 * h) (unsigned_abs (u -ℤ b)) t (neg_ℤ u) (neg_ℤ y) z
deep_y h t b u y z = ap (λ n. floor_by (pos (256 * h) *ℤ n) (z * t * unsigned_abs (u -ℤ b))) (turned (z * t) (2 ^ 32) u y)

below_nothing : (y : ℤ) → pos 0 ≤ℤ y → neg_ℤ y ≤ℤ pos 0
below_nothing y h = omega (arith, ints)

above_nothing : (y : ℤ) → y ≤ℤ pos 0 → pos 0 ≤ℤ neg_ℤ y
above_nothing y h = omega (arith, ints)

-- ---- both projections: what is nearer lies further from the middle
x_near : (s : Option ℕ) (w : ℕ) (l r x : ℤ) (y z : ℕ) → IfSome s (λ t. 0 < t) → l <ℤ r → 0 < y → y ≤ z → pos 0 ≤ℤ x → x_place s w l r x z ≤ℤ x_place s w l r x y
x_near None w l r x y z hs hw hy h g = omega (arith, ints)
x_near (Some t) w l r x y z hs hw hy h g = place_near (256 * w) (unsigned_abs (r -ℤ l)) t l x y z (size_some l r hw) hs hy h g

x_far : (s : Option ℕ) (w : ℕ) (l r x : ℤ) (y z : ℕ) → IfSome s (λ t. 0 < t) → l <ℤ r → 0 < y → y ≤ z → x ≤ℤ pos 0 → x_place s w l r x y ≤ℤ x_place s w l r x z
x_far None w l r x y z hs hw hy h g = omega (arith, ints)
x_far (Some t) w l r x y z hs hw hy h g = place_far (256 * w) (unsigned_abs (r -ℤ l)) t l x y z (size_some l r hw) hs hy h g

y_near : (s : Option ℕ) (h : ℕ) (b u x : ℤ) (y z : ℕ) → IfSome s (λ t. 0 < t) → b <ℤ u → 0 < y → y ≤ z → x ≤ℤ pos 0 → y_place s h b u x z ≤ℤ y_place s h b u x y
y_near None h b u x y z hs hw hy l g = omega (arith, ints)
y_near (Some t) h b u x y z hs hw hy l g =
    rw (deep_y h t b u x z, deep_y h t b u x y) (place_near (256 * h) (unsigned_abs (u -ℤ b)) t (neg_ℤ u) (neg_ℤ x) y z (size_some b u hw) hs hy l (above_nothing x g))

y_far : (s : Option ℕ) (h : ℕ) (b u x : ℤ) (y z : ℕ) → IfSome s (λ t. 0 < t) → b <ℤ u → 0 < y → y ≤ z → pos 0 ≤ℤ x → y_place s h b u x y ≤ℤ y_place s h b u x z
y_far None h b u x y z hs hw hy l g = omega (arith, ints)
y_far (Some t) h b u x y z hs hw hy l g =
    rw (deep_y h t b u x y, deep_y h t b u x z) (place_far (256 * h) (unsigned_abs (u -ℤ b)) t (neg_ℤ u) (neg_ℤ x) y z (size_some b u hw) hs hy l (below_nothing x g))

-- ---- places by a coordinate and a depth that go out from the middle the nearer they are
record GoesOut (place_at : ℤ → ℕ → ℤ) : Type 0 where
  mono : (x y : ℤ) (z : ℕ) → 0 < z → x ≤ℤ y → place_at x z ≤ℤ place_at y z
  near : (x : ℤ) (y z : ℕ) → 0 < y → y ≤ z → pos 0 ≤ℤ x → place_at x z ≤ℤ place_at x y
  far : (x : ℤ) (y z : ℕ) → 0 < y → y ≤ z → x ≤ℤ pos 0 → place_at x y ≤ℤ place_at x z

pub through : (x y z : ℤ) → x ≤ℤ y → y ≤ℤ z → x ≤ℤ z
through x y z h k = omega (arith, ints)

-- what isn't left of a side that lies left of the middle, is no further left than that side at the least depth
low_near : (f : ℤ → ℕ → ℤ) → GoesOut f → (lo x : ℤ) (near z : ℕ) → 0 < near → near ≤ z → lo ≤ℤ pos 0 → lo ≤ℤ x → f lo near ≤ℤ f x z
low_near f g lo x near z some deeper side low = through (f lo near) (f lo z) (f x z) (g.far lo near z some deeper side) (g.mono lo x z (omega (arith, some, deeper)) low)

-- and one right of the middle, at the greatest depth
low_far : (f : ℤ → ℕ → ℤ) → GoesOut f → (lo x : ℤ) (z far : ℕ) → 0 < z → z ≤ far → pos 0 ≤ℤ lo → lo ≤ℤ x → f lo far ≤ℤ f x z
low_far f g lo x z far some deepest side low = through (f lo far) (f lo z) (f x z) (g.near lo z far some deepest side) (g.mono lo x z some low)

high_near : (f : ℤ → ℕ → ℤ) → GoesOut f → (hi x : ℤ) (near z : ℕ) → 0 < near → near ≤ z → pos 0 ≤ℤ hi → x ≤ℤ hi → f x z ≤ℤ f hi near
high_near f g hi x near z some deeper side high = through (f x z) (f hi z) (f hi near) (g.mono x hi z (omega (arith, some, deeper)) high) (g.near hi near z some deeper side)

high_far : (f : ℤ → ℕ → ℤ) → GoesOut f → (hi x : ℤ) (z far : ℕ) → 0 < z → z ≤ far → hi ≤ℤ pos 0 → x ≤ℤ hi → f x z ≤ℤ f hi far
high_far f g hi x z far some deepest side high = through (f x z) (f hi z) (f hi far) (g.mono x hi z some high) (g.far hi z far some deepest side)

-- ---- as a camera sees them
goes_right : (w : View) → IsView w → GoesOut (λ x z. column_at w x z)
goes_right w v =
    let s = scale_of w in
    let t = scale_some w v in
    let f : ℤ → ℕ → ℤ = λ x z. x_place s w.width (left w) (right w) x z in
    record {
      mono = λ x y z some h. clamped_mono (f x z) (f y z) (x_place_mono s w.width (left w) (right w) x y z t v.across some h);
      near = λ x y z some h g. clamped_mono (f x z) (f x y) (x_near s w.width (left w) (right w) x y z t v.across some h g);
      far = λ x y z some h g. clamped_mono (f x y) (f x z) (x_far s w.width (left w) (right w) x y z t v.across some h g);
    }

neg_mono : (a b : ℤ) → a ≤ℤ b → neg_ℤ b ≤ℤ neg_ℤ a
neg_mono a b h = omega (arith, ints)

goes_up : (w : View) → IsView w → GoesOut (λ y z. neg_ℤ (row_at w y z))
goes_up w v =
    let s = scale_of w in
    let t = scale_some w v in
    let f : ℤ → ℕ → ℤ = λ x z. y_place s w.height (bottom w) (top w) x z in
    record {
      mono = λ x y z some h. neg_mono (clamped (f y z)) (clamped (f x z)) (clamped_mono (f y z) (f x z) (y_place_mono s w.height (bottom w) (top w) x y z t v.up some h));
      near = λ x y z some h g. neg_mono (clamped (f x y)) (clamped (f x z)) (clamped_mono (f x y) (f x z) (y_far s w.height (bottom w) (top w) x y z t v.up some h g));
      far = λ x y z some h g. neg_mono (clamped (f x z)) (clamped (f x y)) (clamped_mono (f x z) (f x y) (y_near s w.height (bottom w) (top w) x y z t v.up some h g));
    }

some_depth : (w : View) (z : ℤ) → IsView w → w.near ≤ℤ z → 0 < unsigned_abs z
some_depth w z v h = depth_some w.near z v.near h

abs_mono : (n x y : ℤ) → pos 1 ≤ℤ n → n ≤ℤ x → x ≤ℤ y → unsigned_abs x ≤ unsigned_abs y
abs_mono n x y o h k = omega (arith, ints)

neg_back : (a b : ℤ) → neg_ℤ a ≤ℤ neg_ℤ b → b ≤ℤ a
neg_back a b h = omega (arith, ints)

below : (x : ℤ) → x <ℤ pos 0 → x ≤ℤ pos 0
below x h = omega (arith, ints)

-- ---- the four sides
pub left_near : (w : View) → IsView w → (x near far : ℤ) → w.near ≤ℤ near → x <ℤ pos 0 → IsLeftmost w x near far (column_at w x (unsigned_abs near))
left_near w v x near far n side p low deeper deepest =
    low_near (λ x z. column_at w x z) (goes_right w v) x p.x (unsigned_abs near) (unsigned_abs p.z) (some_depth w near v n) (abs_mono w.near near p.z v.near n deeper) (below x side) low

pub left_far : (w : View) → IsView w → (x near far : ℤ) → w.near ≤ℤ near → pos 0 ≤ℤ x → IsLeftmost w x near far (column_at w x (unsigned_abs far))
left_far w v x near far n side p low deeper deepest =
    let m = through w.near near p.z n deeper in
    low_far (λ x z. column_at w x z) (goes_right w v) x p.x (unsigned_abs p.z) (unsigned_abs far) (some_depth w p.z v m) (abs_mono w.near p.z far v.near m deepest) side low

pub right_near : (w : View) → IsView w → (x near far : ℤ) → w.near ≤ℤ near → pos 0 ≤ℤ x → IsRightmost w x near far (column_at w x (unsigned_abs near))
right_near w v x near far n side p high deeper deepest =
    high_near (λ x z. column_at w x z) (goes_right w v) x p.x (unsigned_abs near) (unsigned_abs p.z) (some_depth w near v n) (abs_mono w.near near p.z v.near n deeper) side high

pub right_far : (w : View) → IsView w → (x near far : ℤ) → w.near ≤ℤ near → x <ℤ pos 0 → IsRightmost w x near far (column_at w x (unsigned_abs far))
right_far w v x near far n side p high deeper deepest =
    let m = through w.near near p.z n deeper in
    high_far (λ x z. column_at w x z) (goes_right w v) x p.x (unsigned_abs p.z) (unsigned_abs far) (some_depth w p.z v m) (abs_mono w.near p.z far v.near m deepest) (below x side) high

pub top_near : (w : View) → IsView w → (y near far : ℤ) → w.near ≤ℤ near → pos 0 ≤ℤ y → IsTopmost w y near far (row_at w y (unsigned_abs near))
top_near w v y near far n side p high deeper deepest =
    neg_back (row_at w p.y (unsigned_abs p.z)) (row_at w y (unsigned_abs near))
    (high_near (λ y z. neg_ℤ (row_at w y z)) (goes_up w v) y p.y (unsigned_abs near) (unsigned_abs p.z) (some_depth w near v n) (abs_mono w.near near p.z v.near n deeper) side high)

pub top_far : (w : View) → IsView w → (y near far : ℤ) → w.near ≤ℤ near → y <ℤ pos 0 → IsTopmost w y near far (row_at w y (unsigned_abs far))
top_far w v y near far n side p high deeper deepest =
    let m = through w.near near p.z n deeper in
    neg_back (row_at w p.y (unsigned_abs p.z)) (row_at w y (unsigned_abs far))
    (high_far (λ y z. neg_ℤ (row_at w y z)) (goes_up w v) y p.y (unsigned_abs p.z) (unsigned_abs far) (some_depth w p.z v m) (abs_mono w.near p.z far v.near m deepest) (below y side) high)

pub bottom_near : (w : View) → IsView w → (y near far : ℤ) → w.near ≤ℤ near → y <ℤ pos 0 → IsBottommost w y near far (row_at w y (unsigned_abs near))
bottom_near w v y near far n side p low deeper deepest =
    neg_back (row_at w y (unsigned_abs near)) (row_at w p.y (unsigned_abs p.z))
    (low_near (λ y z. neg_ℤ (row_at w y z)) (goes_up w v) y p.y (unsigned_abs near) (unsigned_abs p.z) (some_depth w near v n) (abs_mono w.near near p.z v.near n deeper) (below y side) low)

pub bottom_far : (w : View) → IsView w → (y near far : ℤ) → w.near ≤ℤ near → pos 0 ≤ℤ y → IsBottommost w y near far (row_at w y (unsigned_abs far))
bottom_far w v y near far n side p low deeper deepest =
    let m = through w.near near p.z n deeper in
    neg_back (row_at w y (unsigned_abs far)) (row_at w p.y (unsigned_abs p.z))
    (low_far (λ y z. neg_ℤ (row_at w y z)) (goes_up w v) y p.y (unsigned_abs p.z) (unsigned_abs far) (some_depth w p.z v m) (abs_mono w.near p.z far v.near m deepest) side low)
