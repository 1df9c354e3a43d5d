-- Buckets on the grid of a picture's pixels.
use Rattle.std.proofs.Common.{◌≡◌, ◌∙◌, ap, sym, refl, ℕ, zero, suc, ◌+◌, ◌-◌, ◌*◌, ◌/◌, ◌%◌, ◌<◌, ◌≤◌, arith}
use Rattle.std.specs.Prelude.{min}
use Rattle.std.proofs.Math.Nat.{div-mul-le_self, mul-div-le}
use Rattle.std.proofs.lemmas.Nat.{div_below, le-div, mod_below, mul-le, mul-add-lt, div-mul-add, mod-mul-add, row_fits, div-add-mod'}
use Rattle.fixed_math.specs.Spots.{pixel_x, pixel_y}
use Rattle.fixed_math.specs.Buckets.{buckets_along, bucket_columns, bucket}
use Rattle.parts.specs.declared.header.Header.{Header}
use Rattle.parts.specs.Formats.{IsHeader, frame, area, bucket_total}
use Rattle.parts.specs.Pictures.{number_at, place_in}
use Rattle.parts.specs.Placing.{width_at}

-- a row or column of buckets has at most 1024
pub along_most : (side pixels : ℕ) → 4 ≤ side → pixels ≤ 4096 → buckets_along side pixels ≤ 1024
along_most side pixels h k = let e = div_below (pixels + (side - 1)) side 1025 (omega arith) (omega arith) in omega (arith, e)

pub few : (h : Header) → IsHeader h → bucket_total h ≤ 1048576
few h k =
    let w = k.wide in
    let v = k.high in
    mul-le (buckets_along h.side (h.width - 0)) (buckets_along h.side (h.height - 0)) 1024 1024
    (along_most h.side (h.width - 0) k.some_side (omega (arith, w)))
    (along_most h.side (h.height - 0) k.some_side (omega (arith, v)))

-- bucket k along so many pixels is there exactly where its first pixel is
pub along_there : (side pixels k : ℕ) → 4 ≤ side → side * k < pixels → k < buckets_along side pixels
along_there side pixels k h l = le-div (suc k) (pixels + (side - 1)) side (omega arith) (omega arith)

pub first_there : (side pixels k : ℕ) → 4 ≤ side → k < buckets_along side pixels → side * k < pixels
first_there side pixels k h l =
    let e = div-mul-le_self (pixels + (side - 1)) side in
    let f = mul-le (suc k) side ((pixels + (side - 1)) / side) side l (omega arith) in
    omega (arith, e, f)

-- the bucket along a row or column in which a pixel lies
pub along_at : (side pixels x : ℕ) → 4 ≤ side → x < pixels → x / side < buckets_along side pixels
along_at side pixels x h l = along_there side pixels (x / side) h (let e = mul-div-le x side in omega (arith, e))

-- ---- the bucket in a column, at row y of the pixels
abbrev pub columns_of : Header → ℕ
columns_of h = bucket_columns h.side (frame h)

pub column_there : (h : Header) (c : ℕ) → IsHeader h → h.side * c < h.width → c < columns_of h
column_there h c k l = along_there h.side (h.width - 0) c k.some_side (omega (arith, l))

pub column_starts : (h : Header) (c : ℕ) → IsHeader h → c < columns_of h → h.side * c < h.width
column_starts h c k l = let e = first_there h.side (h.width - 0) c k.some_side l in omega (arith, e)

pub column_is : (h : Header) (y c : ℕ) → IsHeader h → h.side * c < h.width → (y / h.side * columns_of h + c) % columns_of h ≡ c
column_is h y c k l = mod-mul-add (y / h.side) (columns_of h) c (column_there h c k l)

pub row_is : (h : Header) (y c : ℕ) → IsHeader h → h.side * c < h.width → (y / h.side * columns_of h + c) / columns_of h ≡ y / h.side
row_is h y c k l = div-mul-add (y / h.side) (columns_of h) c (column_there h c k l)

pub bucket_there : (h : Header) (y c : ℕ) → IsHeader h → y < h.height → h.side * c < h.width → y / h.side * columns_of h + c < bucket_total h
bucket_there h y c k l m = mul-add-lt (y / h.side) (columns_of h) c (buckets_along h.side (h.height - 0)) (along_at h.side (h.height - 0) y k.some_side (omega arith)) (column_there h c k m)

-- how many rows of pixels the buckets of a row have
abbrev pub height_at : Header → ℕ → ℕ
height_at h row = min (0 + h.side * row + h.side) h.height - (0 + h.side * row)

pub area_is : (h : Header) (y c : ℕ) → IsHeader h → h.side * c < h.width → area h (y / h.side * columns_of h + c) ≡ width_at h c * height_at h (y / h.side)
unfolding area
area_is h y c k l = rw (column_is h y c k l, row_is h y c k l) refl

remainder : (y side : ℕ) → side * (y / side) + y % side ≡ y
remainder y side = let e = div-add-mod' y side in omega (arith, e)

row_within : (side height y : ℕ) → 4 ≤ side → y < height → y % side < min (0 + side * (y / side) + side) height - (0 + side * (y / side))
row_within side height y h l =
    let e = remainder y side in
    let f = mod_below y side (omega arith) in
    omega (arith, e, f)

spread : (d a w t area : ℕ) → 3 * d * (a + w) ≤ 3 * d * t → area ≡ t → 3 * d * a + 3 * d * w ≤ d * (3 * area)
spread d a w t area l e = rw e (let f : 3 * d * (a + w) ≡ 3 * d * a + 3 * d * w = omega arith in let g : d * (3 * t) ≡ 3 * d * t = omega arith in omega (arith, l, f, g))

turned : (a b : ℕ) → a * b ≡ b * a
turned a b = omega arith

-- the row of pixels in its bucket fits
pub run_fits : (h : Header) (y c d : ℕ) → IsHeader h → y < h.height → h.side * c < h.width →
    3 * d * (y % h.side * width_at h c) + 3 * d * width_at h c ≤ d * (3 * area h (y / h.side * columns_of h + c))
run_fits h y c d k l m =
    let e = area_is h y c k m in
    let f = row_within h.side h.height y k.some_side l in
    let g : (y % h.side) * width_at h c + width_at h c ≤ height_at h (y / h.side) * width_at h c = row_fits (y % h.side) (width_at h c) (height_at h (y / h.side)) (width_at h c) f (omega arith) in
    let i = mul-le (3 * d) ((y % h.side) * width_at h c + width_at h c) (3 * d) (height_at h (y / h.side) * width_at h c) (omega arith) g in
    spread d ((y % h.side) * width_at h c) (width_at h c) (height_at h (y / h.side) * width_at h c) (area h (y / h.side * columns_of h + c)) i (e ∙ turned (width_at h c) (height_at h (y / h.side)))

x_over : (side c i : ℕ) → i < side → (side * c + i) / side ≡ c
x_over side c i l = let e : side * c + i ≡ c * side + i = omega arith in ap (λ n. n / side) e ∙ div-mul-add c side i l

width_below : (h : Header) (c i : ℕ) → i < width_at h c → i < h.side
width_below h c i l = omega (arith, l)

pub number_is : (h : Header) (y c i : ℕ) → i < width_at h c → number_at h (h.side * c + i) y ≡ y / h.side * columns_of h + c
unfolding number_at
number_is h y c i l = ap (λ n. y / h.side * columns_of h + n) (x_over h.side c i (width_below h c i l))

pub place_is : (h : Header) (y c i : ℕ) → IsHeader h → h.side * c < h.width → place_in (bucket h.side (frame h) (y / h.side * columns_of h + c)) (h.side * c + i) y ≡ y % h.side * width_at h c + i
place_is h y c i k l =
    let e : y - (0 + h.side * (y / h.side)) ≡ y % h.side = (let f = remainder y h.side in omega (arith, f)) in
    let g : h.side * c + i - (0 + h.side * c) ≡ i = omega arith in
    rw (column_is h y c k l, row_is h y c k l) (rw (e, g) refl)

-- ---- a pixel in its bucket
pub column_start : (side x width : ℕ) → x < width → side * (x / side) < width
column_start side x width l = let e = mul-div-le x side in omega (arith, e)

pub rest_within : (h : Header) (x : ℕ) → IsHeader h → x < h.width → x % h.side < width_at h (x / h.side)
rest_within h x k l = row_within h.side h.width x k.some_side l

pub number_of_pixel : (h : Header) (x y : ℕ) → number_at h x y ≡ y / h.side * columns_of h + x / h.side
unfolding number_at
number_of_pixel h x y = refl

pub place_of_pixel : (h : Header) (x y : ℕ) → IsHeader h → x < h.width → place_in (bucket h.side (frame h) (y / h.side * columns_of h + x / h.side)) x y ≡ y % h.side * width_at h (x / h.side) + x % h.side
place_of_pixel h x y k l =
    let r = bucket h.side (frame h) (y / h.side * columns_of h + x / h.side) in
    ap (λ i. place_in r i y) (sym (remainder x h.side)) ∙ place_is h y (x / h.side) (x % h.side) k (column_start h.side x h.width l)

pub place_within : (h : Header) (x y : ℕ) → IsHeader h → x < h.width → y < h.height →
    y % h.side * width_at h (x / h.side) + x % h.side < area h (y / h.side * columns_of h + x / h.side)
place_within h x y k l m =
    rw (area_is h y (x / h.side) k (column_start h.side x h.width l))
    (mul-add-lt (y % h.side) (width_at h (x / h.side)) (x % h.side) (height_at h (y / h.side)) (row_within h.side h.height y k.some_side m) (rest_within h x k l))

pub x_of_pixel : (h : Header) (x y : ℕ) → IsHeader h → x < h.width →
    pixel_x (bucket h.side (frame h) (y / h.side * columns_of h + x / h.side)) (y % h.side * width_at h (x / h.side) + x % h.side) ≡ x
x_of_pixel h x y k l =
    let e = mod-mul-add (y % h.side) (width_at h (x / h.side)) (x % h.side) (rest_within h x k l) in
    let f = remainder x h.side in
    let g : 0 + h.side * (x / h.side) + x % h.side ≡ x = omega (arith, f) in
    rw (column_is h y (x / h.side) k (column_start h.side x h.width l)) (rw e g)

pub y_of_pixel : (h : Header) (x y : ℕ) → IsHeader h → x < h.width →
    pixel_y (bucket h.side (frame h) (y / h.side * columns_of h + x / h.side)) (y % h.side * width_at h (x / h.side) + x % h.side) ≡ y
y_of_pixel h x y k l =
    let e = div-mul-add (y % h.side) (width_at h (x / h.side)) (x % h.side) (rest_within h x k l) in
    let f = remainder y h.side in
    let g : 0 + h.side * (y / h.side) + y % h.side ≡ y = omega (arith, f) in
    rw (column_is h y (x / h.side) k (column_start h.side x h.width l), row_is h y (x / h.side) k (column_start h.side x h.width l)) (rw e g)

-- ---- the pixels of a bucket lie in the picture
some_wide : (w hh p : ℕ) → p < w * hh → 0 < w
some_wide zero hh p l = absurd (omega (arith, l))
some_wide (suc w) hh p l = omega arith

pub pixel_in_picture : (h : Header) (n p : ℕ) → p < area h n → (pixel_x (bucket h.side (frame h) n) p < h.width) × (pixel_y (bucket h.side (frame h) n) p < h.height)
unfolding area
pixel_in_picture h n p l =
    let r = bucket h.side (frame h) n in
    let w = some_wide (r.right - r.left) (r.bottom - r.top) p l in
    let a = mod_below p (r.right - r.left) w in
    let b = div_below p (r.right - r.left) (r.bottom - r.top) w (omega (arith, l, turned (r.right - r.left) (r.bottom - r.top))) in
    let right : r.right ≤ h.width = omega arith in
    let bottom : r.bottom ≤ h.height = omega arith in
    (inside r.left r.right (p % (r.right - r.left)) h.width a right, inside r.top r.bottom (p / (r.right - r.left)) h.height b bottom)
  where
    inside : (from to at most : ℕ) → at < to - from → to ≤ most → from + at < most
    inside from to at most l m = omega (arith, l, m)
