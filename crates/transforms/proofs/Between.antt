-- The place of each point of a box lies between the places of the box's corners. In perspective a point right of the middle lies
-- further right when it is nearer, and one left of it further left.
use Rattle.std.proofs.Common.{◌≡◌, ap, ℕ, ◌*◌, ◌^◌, ◌<◌, ◌≤◌, arith, List, [], ◌∷◌, map, Option, Some, None, ◌⊎◌, inl, inr}
use Rattle.std.specs.Prelude.{ℤ, pos, ◌≤ℤ◌, ◌<ℤ◌, ◌-ℤ◌, ◌*ℤ◌, unsigned_abs, neg_ℤ, IfSome}
use Rattle.std.specs.Int.{int_min, int_max}
use Rattle.std.specs.List.{fold}
use Rattle.std.proofs.lemmas.Int.{ints, clamps, by_lt_z}
use Rattle.std.proofs.Math.Nat.{mul-le-mul_right, mul-pos}
use borrow.Author.Differences.{neg_is}
use Rattle.fixed_math.specs.declared.vec3.Vec3.{Vec3}
use Rattle.fixed_math.specs.declared.vec3.Axis.TheVariants.{X, Y, Z}
use Rattle.fixed_math.specs.Whole.{floor_by}
use Rattle.fixed_math.proofs.Weights.{floor_mono, floor_cross, mul_mono, mul-mul, mul-sub, scale_mono, scale_mono_down}
use Rattle.transforms.specs.declared.view.View.{View}
use Rattle.transforms.specs.Field.{IsView, scale_of, left, right, bottom, top}
use Rattle.transforms.specs.Raster.{clamped, x_place, y_place, place_of, box_corners, number, least_place, greatest_place, box_of_places, HoldsPlaces}
use Rattle.transforms.proofs.Orders.{clamped_mono, size_some, x_place_mono, y_place_mono, depth_some}
use Rattle.transforms.proofs.Scales.{scale_some}

-- ---- perspective
turned : (q s : ℕ) (a b : ℤ) → pos q *ℤ a -ℤ pos s *ℤ b ≡ pos s *ℤ neg_ℤ b -ℤ pos q *ℤ neg_ℤ a
turned q s a b =
    let e = ap (λ n. s * n) (neg_is b).0 in
    let f = ap (λ n. s * n) (neg_is b).1 in
    let g = ap (λ n. q * n) (neg_is a).0 in
    let h = ap (λ n. q * n) (neg_is a).1 in
    omega (arith, ints, e, f, g, h)

expand : (d k s q : ℕ) (x l : ℤ) → pos d *ℤ (pos k *ℤ (pos s *ℤ x -ℤ pos q *ℤ l)) ≡ pos (d * (k * s)) *ℤ x -ℤ pos (d * (k * q)) *ℤ l
expand d k s q x l = simp (mul-sub, mul-mul)

-- a place over depth: k is the scale, w the window's size, l its first side
abbrev place : ℕ → ℕ → ℕ → ℤ → ℤ → ℕ → ℤ
place k w t l x z = floor_by (pos k *ℤ (pos (2 ^ 32) *ℤ x -ℤ pos (z * t) *ℤ l)) (z * t * w)

below_all : (z t w : ℕ) → 0 < z → 0 < t → 0 < w → 0 < z * t * w
below_all z t w a b c = mul-pos (mul-pos a b) c

place_mono : (k w t : ℕ) (l x y : ℤ) (z : ℕ) → 0 < w → 0 < t → 0 < z → x ≤ℤ y → place k w t l x z ≤ℤ place k w t l y z
place_mono k w t l x y z hw ht hz h =
    let e = mul_mono (2 ^ 32) x y h in
    floor_mono (pos k *ℤ (pos (2 ^ 32) *ℤ x -ℤ pos (z * t) *ℤ l)) (pos k *ℤ (pos (2 ^ 32) *ℤ y -ℤ pos (z * t) *ℤ l)) (z * t * w) (below_all z t w hz ht hw)
    (mul_mono k (pos (2 ^ 32) *ℤ x -ℤ pos (z * t) *ℤ l) (pos (2 ^ 32) *ℤ y -ℤ pos (z * t) *ℤ l) (omega (arith, ints, e)))

weights : (k w t y z : ℕ) → y ≤ z → y * t * w * (k * 2 ^ 32) ≤ z * t * w * (k * 2 ^ 32)
weights k w t y z h = mul-le-mul_right (k * 2 ^ 32) (mul-le-mul_right w (mul-le-mul_right t h))

place_near : (k w t : ℕ) (l x : ℤ) (y z : ℕ) → 0 < w → 0 < t → 0 < y → y ≤ z → pos 0 ≤ℤ x → place k w t l x z ≤ℤ place k w t l x y
place_near k w t l x y z hw ht hy h g =
    let m = scale_mono (y * t * w * (k * 2 ^ 32)) (z * t * w * (k * 2 ^ 32)) x (weights k w t y z h) g in
    floor_cross (pos k *ℤ (pos (2 ^ 32) *ℤ x -ℤ pos (z * t) *ℤ l)) (pos k *ℤ (pos (2 ^ 32) *ℤ x -ℤ pos (y * t) *ℤ l)) (z * t * w) (y * t * w)
    (below_all z t w (omega arith) ht hw) (below_all y t w hy ht hw)
    (rw (expand (y * t * w) k (2 ^ 32) (z * t) x l, expand (z * t * w) k (2 ^ 32) (y * t) x l) (omega (arith, ints, m)))

place_far : (k w t : ℕ) (l x : ℤ) (y z : ℕ) → 0 < w → 0 < t → 0 < y → y ≤ z → x ≤ℤ pos 0 → place k w t l x y ≤ℤ place k w t l x z
place_far k w t l x y z hw ht hy h g =
    let m = scale_mono_down (y * t * w * (k * 2 ^ 32)) (z * t * w * (k * 2 ^ 32)) x (weights k w t y z h) g in
    floor_cross (pos k *ℤ (pos (2 ^ 32) *ℤ x -ℤ pos (y * t) *ℤ l)) (pos k *ℤ (pos (2 ^ 32) *ℤ x -ℤ pos (z * t) *ℤ l)) (y * t * w) (z * t * w)
    (below_all y t w hy ht hw) (below_all z t w (omega arith) ht hw)
    (rw (expand (z * t * w) k (2 ^ 32) (y * t) x l, expand (y * t * w) k (2 ^ 32) (z * t) x l) (omega (arith, ints, m)))

-- beyond one of the places at the nearest and the farthest depth
place_low : (k w t : ℕ) (l a x : ℤ) (y1 y2 z : ℕ) → 0 < w → 0 < t → 0 < y1 → y1 ≤ z → z ≤ y2 → a ≤ℤ x →
    (place k w t l a y1 ≤ℤ place k w t l x z) ⊎ (place k w t l a y2 ≤ℤ place k w t l x z)
place_low k w t l a x y1 y2 z hw ht hy h1 h2 ha =
    by_lt_z x (pos 0)
    (λ s.
    let e = place_far k w t l x y1 z hw ht hy h1 (omega (arith, ints)) in
    let f = place_mono k w t l a x y1 hw ht hy ha in
    inl (omega (arith, ints, e, f)))
    (λ s.
    let e = place_near k w t l x z y2 hw ht (omega arith) h2 s in
    let f = place_mono k w t l a x y2 hw ht (omega arith) ha in
    inr (omega (arith, ints, e, f)))

place_high : (k w t : ℕ) (l b x : ℤ) (y1 y2 z : ℕ) → 0 < w → 0 < t → 0 < y1 → y1 ≤ z → z ≤ y2 → x ≤ℤ b →
    (place k w t l x z ≤ℤ place k w t l b y1) ⊎ (place k w t l x z ≤ℤ place k w t l b y2)
place_high k w t l b x y1 y2 z hw ht hy h1 h2 hb =
    by_lt_z x (pos 0)
    (λ s.
    let e = place_far k w t l x z y2 hw ht (omega arith) h2 (omega (arith, ints)) in
    let f = place_mono k w t l x b y2 hw ht (omega arith) hb in
    inr (omega (arith, ints, e, f)))
    (λ s.
    let e = place_near k w t l x y1 z hw ht hy h1 s in
    let f = place_mono k w t l x b y1 hw ht hy hb in
    inl (omega (arith, ints, e, f)))

-- the place down the raster is the place across of what is turned over
deep_y : (h t : ℕ) (b u y : ℤ) (z : ℕ) → y_place (Some t) h b u y z ≡ place (256 * h) (unsigned_abs (u -ℤ b)) t (neg_ℤ u) (neg_ℤ y) z
deep_y h t b u y z = ap (λ n. floor_by (pos (256 * h) *ℤ n) (z * t * unsigned_abs (u -ℤ b))) (turned (z * t) (2 ^ 32) u y)

neg_mono : (a b : ℤ) → a ≤ℤ b → neg_ℤ b ≤ℤ neg_ℤ a
neg_mono a b h = omega (arith, ints)

-- ---- both projections
x_low : (s : Option ℕ) (w : ℕ) (l r a x : ℤ) (y1 y2 z : ℕ) → IfSome s (λ t. 0 < t) → l <ℤ r → 0 < y1 → y1 ≤ z → z ≤ y2 → a ≤ℤ x →
    (x_place s w l r a y1 ≤ℤ x_place s w l r x z) ⊎ (x_place s w l r a y2 ≤ℤ x_place s w l r x z)
x_low None w l r a x y1 y2 z hs hw hy h1 h2 ha = inl (x_place_mono None w l r a x 1 tt hw (omega arith) ha)
x_low (Some t) w l r a x y1 y2 z hs hw hy h1 h2 ha = place_low (256 * w) (unsigned_abs (r -ℤ l)) t l a x y1 y2 z (size_some l r hw) hs hy h1 h2 ha

x_high : (s : Option ℕ) (w : ℕ) (l r b x : ℤ) (y1 y2 z : ℕ) → IfSome s (λ t. 0 < t) → l <ℤ r → 0 < y1 → y1 ≤ z → z ≤ y2 → x ≤ℤ b →
    (x_place s w l r x z ≤ℤ x_place s w l r b y1) ⊎ (x_place s w l r x z ≤ℤ x_place s w l r b y2)
x_high None w l r b x y1 y2 z hs hw hy h1 h2 hb = inl (x_place_mono None w l r x b 1 tt hw (omega arith) hb)
x_high (Some t) w l r b x y1 y2 z hs hw hy h1 h2 hb = place_high (256 * w) (unsigned_abs (r -ℤ l)) t l b x y1 y2 z (size_some l r hw) hs hy h1 h2 hb

-- the higher a point, the less its place down
y_low : (s : Option ℕ) (h : ℕ) (b u c y : ℤ) (y1 y2 z : ℕ) → IfSome s (λ t. 0 < t) → b <ℤ u → 0 < y1 → y1 ≤ z → z ≤ y2 → y ≤ℤ c →
    (y_place s h b u c y1 ≤ℤ y_place s h b u y z) ⊎ (y_place s h b u c y2 ≤ℤ y_place s h b u y z)
y_low None h b u c y y1 y2 z hs hw hy h1 h2 hc = inl (y_place_mono None h b u y c 1 tt hw (omega arith) hc)
y_low (Some t) h b u c y y1 y2 z hs hw hy h1 h2 hc =
    rw (deep_y h t b u y z, deep_y h t b u c y1, deep_y h t b u c y2)
    (place_low (256 * h) (unsigned_abs (u -ℤ b)) t (neg_ℤ u) (neg_ℤ c) (neg_ℤ y) y1 y2 z (size_some b u hw) hs hy h1 h2 (neg_mono y c hc))

y_high : (s : Option ℕ) (h : ℕ) (b u a y : ℤ) (y1 y2 z : ℕ) → IfSome s (λ t. 0 < t) → b <ℤ u → 0 < y1 → y1 ≤ z → z ≤ y2 → a ≤ℤ y →
    (y_place s h b u y z ≤ℤ y_place s h b u a y1) ⊎ (y_place s h b u y z ≤ℤ y_place s h b u a y2)
y_high None h b u a y y1 y2 z hs hw hy h1 h2 ha = inl (y_place_mono None h b u a y 1 tt hw (omega arith) ha)
y_high (Some t) h b u a y y1 y2 z hs hw hy h1 h2 ha =
    rw (deep_y h t b u y z, deep_y h t b u a y1, deep_y h t b u a y2)
    (place_high (256 * h) (unsigned_abs (u -ℤ b)) t (neg_ℤ u) (neg_ℤ a) (neg_ℤ y) y1 y2 z (size_some b u hw) hs hy h1 h2 (neg_mono a y ha))

-- ---- least and greatest
abbrev Each : (List ℤ → Type 0) → List (List ℤ) → Type 0
Each P [] = Unit {0}
Each P (q ∷ qs) = P q × Each P qs

fold_min : (k : ℕ) (m : ℤ) (qs : List (List ℤ)) → (fold (λ n r. int_min n (number k r)) m qs ≤ℤ m) × Each (λ q. fold (λ n r. int_min n (number k r)) m qs ≤ℤ number k q) qs
fold_min k m [] = (omega (arith, ints), tt)
fold_min k m (q ∷ qs) = let h = fold_min k (int_min m (number k q)) qs in let low = h.0 in (omega (arith, ints, clamps), (omega (arith, ints, clamps), h.1))

fold_max : (k : ℕ) (m : ℤ) (qs : List (List ℤ)) → (m ≤ℤ fold (λ n r. int_max n (number k r)) m qs) × Each (λ q. number k q ≤ℤ fold (λ n r. int_max n (number k r)) m qs) qs
fold_max k m [] = (omega (arith, ints), tt)
fold_max k m (q ∷ qs) = let h = fold_max k (int_max m (number k q)) qs in let high = h.0 in (omega (arith, ints, clamps), (omega (arith, ints, clamps), h.1))

least_below : (k : ℕ) (qs : List (List ℤ)) → Each (λ q. least_place k qs ≤ℤ number k q) qs
least_below k [] = tt
least_below k (q ∷ qs) = fold_min k (number k q) qs

greatest_above : (k : ℕ) (qs : List (List ℤ)) → Each (λ q. number k q ≤ℤ greatest_place k qs) qs
greatest_above k [] = tt
greatest_above k (q ∷ qs) = fold_max k (number k q) qs

at_least : (m x y z : ℤ) → (x ≤ℤ z) ⊎ (y ≤ℤ z) → m ≤ℤ clamped x → m ≤ℤ clamped y → m ≤ℤ clamped z
at_least m x y z (inl h) f g = let e = clamped_mono x z h in omega (arith, ints, e, f)
at_least m x y z (inr h) f g = let e = clamped_mono y z h in omega (arith, ints, e, g)

at_most : (m x y z : ℤ) → (z ≤ℤ x) ⊎ (z ≤ℤ y) → clamped x ≤ℤ m → clamped y ≤ℤ m → clamped z ≤ℤ m
at_most m x y z (inl h) f g = let e = clamped_mono z x h in omega (arith, ints, e, f)
at_most m x y z (inr h) f g = let e = clamped_mono z y h in omega (arith, ints, e, g)

abs_mono : (x y : ℤ) → pos 1 ≤ℤ x → x ≤ℤ y → unsigned_abs x ≤ unsigned_abs y
abs_mono x y h k = omega (arith, ints)

positive : (n z : ℤ) → pos 1 ≤ℤ n → n ≤ℤ z → pos 1 ≤ℤ z
positive n z h k = omega (arith, ints)

pub later : (n x y : ℤ) → n ≤ℤ x → x ≤ℤ y → n ≤ℤ y
later n x y h k = omega (arith, ints)

pub holds_places : (v : View) → IsView v → (a b : Vec3) → v.near ≤ℤ a.z → HoldsPlaces v a b
unfolding box_of_places
holds_places v w a b n p i =
    let qs = map (place_of v) (box_corners a b) in
    let s = scale_of v in
    let t = scale_some v w in
    let nearest : 0 < unsigned_abs a.z = depth_some v.near a.z w.near n in
    let deeper : unsigned_abs a.z ≤ unsigned_abs p.z = abs_mono a.z p.z (positive v.near a.z w.near n) (i Z).0 in
    let deepest : unsigned_abs p.z ≤ unsigned_abs b.z = abs_mono p.z b.z (positive v.near p.z w.near (later v.near a.z p.z n (i Z).0)) (i Z).1 in
    let za = unsigned_abs a.z in
    let zb = unsigned_abs b.z in
    let zp = unsigned_abs p.z in
    let lx = least_below 0 qs in
    let gx = greatest_above 0 qs in
    let ly = least_below 1 qs in
    let gy = greatest_above 1 qs in (
      at_least (least_place 0 qs) (x_place s v.width (left v) (right v) a.x za) (x_place s v.width (left v) (right v) a.x zb) (x_place s v.width (left v) (right v) p.x zp)
          (x_low s v.width (left v) (right v) a.x p.x za zb zp t w.across nearest deeper deepest (i X).0) lx.0 lx.1.1.1.1.0,
      at_most (greatest_place 0 qs) (x_place s v.width (left v) (right v) b.x za) (x_place s v.width (left v) (right v) b.x zb) (x_place s v.width (left v) (right v) p.x zp)
          (x_high s v.width (left v) (right v) b.x p.x za zb zp t w.across nearest deeper deepest (i X).1) gx.1.0 gx.1.1.1.1.1.0,
      at_least (least_place 1 qs) (y_place s v.height (bottom v) (top v) b.y za) (y_place s v.height (bottom v) (top v) b.y zb) (y_place s v.height (bottom v) (top v) p.y zp)
          (y_low s v.height (bottom v) (top v) b.y p.y za zb zp t w.up nearest deeper deepest (i Y).1) ly.1.1.0 ly.1.1.1.1.1.1.0,
      at_most (greatest_place 1 qs) (y_place s v.height (bottom v) (top v) a.y za) (y_place s v.height (bottom v) (top v) a.y zb) (y_place s v.height (bottom v) (top v) p.y zp)
          (y_high s v.height (bottom v) (top v) a.y p.y za zb zp t w.up nearest deeper deepest (i Y).0) gy.0 gy.1.1.1.1.0,
    )
