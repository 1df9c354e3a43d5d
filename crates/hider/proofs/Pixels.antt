-- A sample lies in its pixel.
use Rattle.std.proofs.Common.{◌≡◌, ℕ, ◌+◌, ◌-◌, ◌*◌, ◌/◌, ◌%◌, ◌^◌, ◌<◌, ◌≤◌, inl, inr, arith, unsigned_abs}
use Rattle.std.specs.Prelude.{ℤ, pos, negsuc, ◌≤ℤ◌, ◌<ℤ◌, ◌⊎◌, Option, bit_xor}
use Rattle.std.proofs.lemmas.Int.{ints}
use Rattle.std.proofs.lemmas.Nat.{xor_lt}
use Rattle.std.proofs.Math.Nat.{mod-lt, div-lt_iff_lt-mul, mul_comm}
use lib.Signed.{mag}
use Rattle.fixed_math.specs.Hash.{mix_1, mix_2, mix_3, with_word}
use Rattle.fixed_math.specs.Spots.{Spot, PixelRect, pixel_x, pixel_y}
use Rattle.fixed_math.specs.Whole.{floor_by}
use Rattle.sample_pattern.specs.Pattern.{time, hash_at}
use Rattle.sample_pattern.proofs.Inside.{place_x-low, place_x-high, place_y-low, place_y-high}
use Rattle.hider.specs.declared.bounds.Bounds.{Bounds}
use Rattle.hider.specs.declared.fragment.Fragment.{Fragment}
use Rattle.hider.specs.declared.sample.Sample.{Sample}
use Rattle.hider.specs.declared.sample_grid.SampleGrid.{SampleGrid}
use Rattle.hider.specs.Samples.{sample_at, sample_in}
use Rattle.hider.specs.Searching.{LiesOutside, StaysInside, StaysIn, IsNear, column_of, row_of}
use Rattle.hider.specs.Tiles.{IsSampleGrid, rect_of, sample_count, sample_of}
use Rattle.hider.proofs.Rows.{some_samples}

pub record IsInPixel (x y : ℕ) (s : Spot) : Type 0 where
  pub left : pos (256 * x) ≤ℤ s.x
  pub right : s.x <ℤ pos (256 * x + 256)
  pub top : pos (256 * y) ≤ℤ s.y
  pub bottom : s.y <ℤ pos (256 * y + 256)

pub sample_inside : (xs ys x y c : ℕ) → c < xs * ys → IsInPixel x y (sample_at xs ys x y c).place
unfolding sample_at
sample_inside xs ys x y c h =
    let l = place_x-low x y c xs in
    let r = place_x-high x y c xs ys h in
    let t = place_y-low x y c xs ys in
    let u = place_y-high x y c xs ys h in
    record { left = omega (arith, ints, l); right = omega (arith, ints, r); top = omega (arith, ints, t); bottom = omega (arith, ints, u) }

pub pixel_small : (z : ℤ) → mag z < 2 ^ 63 → unsigned_abs (floor_by z 256) ≤ 2 ^ 56
pixel_small (pos n) h = omega (arith, ints, h)
pixel_small (negsuc n) h = omega (arith, ints, h)

-- ---- the time of a sample lies in the shutter's interval
mix_3_below : (h : ℕ) → h < 2 ^ 32 → mix_3 h < 2 ^ 32
mix_3_below h l = xor_lt 32 h (h / 2 ^ 16) l (omega (arith, l))

with_word_below : (h w : ℕ) → with_word h w < 2 ^ 32
with_word_below h w =
    let x = mix_1 ((h + w + 1) % 2 ^ 32) in
    mix_3_below (mix_2 x) (mod-lt (bit_xor x (x / 2 ^ 13) * 0xc2b2ae35) (omega arith))

pub time_below : (x y c : ℕ) → time x y c ≤ 65535
unfolding hash_at
time_below x y c =
    let h = with_word_below (with_word (with_word (with_word 0 x) y) c) 2 in
    omega (arith, h)

pub sample_time : (xs ys : ℕ) (r : PixelRect) (n : ℕ) → (sample_in xs ys r n).time ≤ 65535
unfolding sample_in sample_at
sample_time xs ys r n = time_below (pixel_x r (n / (xs * ys))) (pixel_y r (n / (xs * ys))) (n % (xs * ys))

-- ---- what stays inside a box shows at no sample of a pixel beside those near it
outside_pixel : (b : Bounds) (part g : SampleGrid) (x y : ℕ) (s : Spot) → IsNear b part g → IsInPixel x y s → g.left ≤ x → x < g.right → g.top ≤ y → y < g.bottom →
    (x < part.left) ⊎ (part.right ≤ x) ⊎ (y < part.top) ⊎ (part.bottom ≤ y) → LiesOutside b s
outside_pixel b part g x y s near i l r t u (inl h) = let e = near.left x r h l in let f = i.right in inl (omega (arith, ints, e, f))
outside_pixel b part g x y s near i l r t u (inr (inl h)) = let e = near.right x r h in let f = i.left in inr (inl (omega (arith, ints, e, f)))
outside_pixel b part g x y s near i l r t u (inr (inr (inl h))) = let e = near.top y u h t in let f = i.bottom in inr (inr (inl (omega (arith, ints, e, f))))
outside_pixel b part g x y s near i l r t u (inr (inr (inr h))) = let e = near.bottom y u h in let f = i.top in inr (inr (inr (omega (arith, ints, e, f))))

column_below : (g : SampleGrid) (n : ℕ) → IsSampleGrid g → column_of g n < g.right
column_below g n v =
    let a = v.across in
    let m : n / (g.xs * g.ys) % (g.right - g.left) < g.right - g.left = mod-lt (n / (g.xs * g.ys)) (omega (arith, a)) in
    omega (arith, m)

row_below : (g : SampleGrid) (n : ℕ) → IsSampleGrid g → n < sample_count g → row_of g n < g.bottom
row_below g n v h =
    let a = v.across in
    let w = g.right - g.left in
    let t = g.bottom - g.top in
    let p : n / (g.xs * g.ys) < w * t = (div-lt_iff_lt-mul {k = g.xs * g.ys} {x = n} {y = w * t} (some_samples g v)).1 h in
    let c : w * t ≡ t * w = mul_comm w t in
    let q : n / (g.xs * g.ys) / w < t = (div-lt_iff_lt-mul {k = w} {x = n / (g.xs * g.ys)} {y = t} (omega (arith, a))).1 (omega (arith, p, c)) in
    omega (arith, q)

pub near_stays : (b : Bounds) (part g : SampleGrid) (shown : Sample → Option Fragment) → IsSampleGrid g → IsNear b part g → StaysInside b shown → StaysIn part g shown
unfolding sample_in
near_stays b part g shown v near s n h l =
    let i = sample_inside g.xs g.ys (column_of g n) (row_of g n) (n % (g.xs * g.ys)) (mod-lt n (some_samples g v)) in
    s (sample_of g n) (sample_time g.xs g.ys (rect_of g) n)
    (outside_pixel b part g (column_of g n) (row_of g n) (sample_of g n).place near i (omega arith) (column_below g n v) (omega arith) (row_below g n v h) l)
