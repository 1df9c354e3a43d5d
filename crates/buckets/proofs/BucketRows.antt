-- Where the buckets of a drawing lie, one after another.
use Rattle.std.proofs.Common.{◌≡◌, ℕ, ◌+◌, ◌-◌, ◌*◌, ◌/◌, ◌%◌, ◌<◌, ◌≤◌, ◌⊎◌, inl, inr, arith, ◌∙◌, ap}
use Rattle.std.proofs.Math.Nat.{div-add-mod, mod-lt, zero-mod, zero-div, mul-div_cancel_left, mul_comm, mul-le-mul, mul-add, mul-le-mul_left}
use Rattle.fixed_math.specs.Buckets.{bucket_columns, bucket_rows}
use Rattle.scene.specs.Scene.{FrameValue}
use Rattle.filter_ppm.specs.Bands.{IsPartOfPicture}
use Rattle.filter_ppm.proofs.Grids.{before_pixel}
use Rattle.buckets.specs.TileWalk.{Drawing, format_in, picture_rect, bucket_of, tile_count}
use Rattle.buckets.specs.Standing.{IsDrawable}
use Rattle.buckets.specs.Rows.{row_top}
use Rattle.buckets.proofs.Cover.{Cover, along_covers, some_along, few_along, begins_inside, ends_with, SameRow, NextRow, behind}

abbrev pub columns : Drawing → ℕ
columns d = bucket_columns d.side (picture_rect d.frame)

abbrev pub rows : Drawing → ℕ
rows d = bucket_rows d.side (picture_rect d.frame)

-- the columns and rows of pixels that buckets cover
abbrev pub wide : Drawing → ℕ
wide d = (picture_rect d.frame).right - (picture_rect d.frame).left

abbrev pub high : Drawing → ℕ
high d = (picture_rect d.frame).bottom - (picture_rect d.frame).top

pub some_wide : (d : Drawing) → IsDrawable d → 0 < wide d
some_wide d h = let a = h.format.crop.across in omega (arith, a)

some_high : (d : Drawing) → IsDrawable d → 0 < high d
some_high d h = let a = h.format.crop.down in omega (arith, a)

most_wide : (d : Drawing) → IsDrawable d → wide d ≤ 4096
most_wide d h = let a = h.format.crop.in_width in let b = h.format.most_width in omega (arith, a, b)

most_high : (d : Drawing) → IsDrawable d → high d ≤ 4096
most_high d h = let a = h.format.crop.in_height in let b = h.format.most_height in omega (arith, a, b)

pub across_covers : (d : Drawing) → IsDrawable d → Cover d.side (wide d) (columns d)
across_covers d h = let low = h.side_low in along_covers d.side (wide d) (omega (arith, low))

pub down_covers : (d : Drawing) → IsDrawable d → Cover d.side (high d) (rows d)
down_covers d h = let low = h.side_low in along_covers d.side (high d) (omega (arith, low))

pub some_columns : (d : Drawing) → IsDrawable d → 0 < columns d
some_columns d h = some_along d.side (wide d) (columns d) (some_wide d h) (across_covers d h)

pub some_rows : (d : Drawing) → IsDrawable d → 0 < rows d
some_rows d h = some_along d.side (high d) (rows d) (some_high d h) (down_covers d h)

pub few_columns : (d : Drawing) → IsDrawable d → columns d ≤ 1024
few_columns d h = few_along d.side (wide d) (columns d) h.side_low (most_wide d h) (across_covers d h)

pub few_rows : (d : Drawing) → IsDrawable d → rows d ≤ 1024
few_rows d h = few_along d.side (high d) (rows d) h.side_low (most_high d h) (down_covers d h)

pub few_tiles : (d : Drawing) → IsDrawable d → tile_count d ≤ 1048576
few_tiles d h = mul-le-mul (few_columns d h) (few_rows d h)

pub some_tiles : (d : Drawing) → IsDrawable d → 0 < tile_count d
some_tiles d h =
    let one : 1 ≤ rows d = (let r = some_rows d h in omega (arith, r)) in
    let most = mul-le-mul_left (columns d) one in
    let some = some_columns d h in
    omega (arith, most, some)

-- where a bucket begins
pub column_inside : (d : Drawing) (n : ℕ) → IsDrawable d → d.side * (n % columns d) < wide d
column_inside d n h = begins_inside d.side (wide d) (columns d) (n % columns d) (across_covers d h) (mod-lt n {m = columns d} (some_columns d h))

pub row_inside : (d : Drawing) (n : ℕ) → IsDrawable d → n < tile_count d → d.side * (n / columns d) < high d
row_inside d n h low =
    let turned = mul_comm (columns d) (rows d) in
    begins_inside d.side (high d) (rows d) (n / columns d) (down_covers d h) (before_pixel n (columns d) (rows d) (some_columns d h) (omega (arith, low, turned)))

pub part_of : (d : Drawing) (n : ℕ) → IsDrawable d → n < tile_count d → IsPartOfPicture (format_in d.frame) (bucket_of d n)
part_of d n h low =
    let c = column_inside d n h in
    let r = row_inside d n h low in
    let s = h.side_low in
    record { left = omega arith; across = omega (arith, c, s); right = omega arith; top = omega arith; down = omega (arith, r, s); bottom = omega arith }

-- the first bucket, and what is above a bucket's row
pub first_left : (d : Drawing) → IsDrawable d → (bucket_of d 0).left ≡ (picture_rect d.frame).left
first_left d h =
    let none : d.side * (0 % columns d) ≡ 0 = ap (λ m. d.side * m) (zero-mod (columns d)) ∙ (let e : d.side * 0 ≡ 0 = omega arith in e) in
    omega (arith, none)

pub first_top : (d : Drawing) → IsDrawable d → row_top d 0 ≡ (picture_rect d.frame).top
unfolding row_top
first_top d h =
    let none : d.side * (0 / columns d) ≡ 0 = ap (λ m. d.side * m) (zero-div (columns d)) ∙ (let e : d.side * 0 ≡ 0 = omega arith in e) in
    let down = h.format.crop.down in
    omega (arith, none, down)

pub top_is : (d : Drawing) (n : ℕ) → IsDrawable d → n < tile_count d → row_top d n ≡ (bucket_of d n).top
unfolding row_top
top_is d n h low = let r = row_inside d n h low in omega (arith, r)

-- ---- the next bucket
pub record GoesOnRow (d : Drawing) (n : ℕ) : Type 0 where
  pub left : (bucket_of d (n + 1)).left ≡ (bucket_of d n).right
  pub top : (bucket_of d (n + 1)).top ≡ (bucket_of d n).top
  pub bottom : (bucket_of d (n + 1)).bottom ≡ (bucket_of d n).bottom
  pub row : row_top d (n + 1) ≡ row_top d n
  pub inside : n + 1 < tile_count d

pub record EndsRow (d : Drawing) (n : ℕ) : Type 0 where
  pub right : (bucket_of d n).right ≡ (picture_rect d.frame).right
  pub left : (bucket_of d (n + 1)).left ≡ (picture_rect d.frame).left
  pub row : row_top d (n + 1) ≡ (bucket_of d n).bottom

pub goes_on_row : (d : Drawing) (n : ℕ) → IsDrawable d → n < tile_count d → SameRow (columns d) n → GoesOnRow d n
unfolding row_top
goes_on_row d n h low k =
    let c = columns d in
    let column = k.column in
    let row = k.row in
    let more : d.side * ((n + 1) % c) ≡ d.side * (n % c) + d.side = ap (λ m. d.side * m) column ∙ mul-add d.side (n % c) 1 ∙ (let e : d.side * (n % c) + d.side * 1 ≡ d.side * (n % c) + d.side = omega arith in e) in
    let same : d.side * ((n + 1) / c) ≡ d.side * (n / c) = ap (λ m. d.side * m) row in
    let next = column_inside d (n + 1) h in
    let whole = div-add-mod n c in
    let turned = mul_comm c (rows d) in
    let below : n / c + 1 ≤ rows d = (let r = before_pixel n c (rows d) (some_columns d h) (omega (arith, low, turned)) in omega (arith, r)) in
    let most = mul-le-mul_left c below in
    let wide = mul-add c (n / c) 1 in
    record {
      left = omega (arith, more, next);
      top = omega (arith, same);
      bottom = omega (arith, same);
      row = omega (arith, same);
      inside = omega (arith, whole, most, wide, k.inside);
    }

pub ends_row : (d : Drawing) (n : ℕ) → IsDrawable d → n < tile_count d → NextRow (columns d) n → EndsRow d n
unfolding row_top
ends_row d n h low k =
    let c = columns d in
    let all = ends_with d.side (wide d) c (n % c) (across_covers d h) k.last in
    let column = k.column in
    let none : d.side * ((n + 1) % c) ≡ 0 = ap (λ m. d.side * m) column ∙ (let e : d.side * 0 ≡ 0 = omega arith in e) in
    let row = k.row in
    let more : d.side * ((n + 1) / c) ≡ d.side * (n / c) + d.side = ap (λ m. d.side * m) row ∙ mul-add d.side (n / c) 1 ∙ (let e : d.side * (n / c) + d.side * 1 ≡ d.side * (n / c) + d.side = omega arith in e) in
    record { right = omega (arith, all); left = omega (arith, none); row = omega (arith, more) }

-- behind the last bucket all rows are done
pub all_rows : (d : Drawing) → IsDrawable d → row_top d (tile_count d) ≡ (picture_rect d.frame).bottom
unfolding row_top
all_rows d h =
    let r : d.side * (tile_count d / columns d) ≡ d.side * rows d = ap (λ m. d.side * m) (mul-div_cancel_left (rows d) {n = columns d} (some_columns d h)) in
    let enough = (down_covers d h).enough in
    omega (arith, r, enough)

-- ---- by what the code reckons
pub columns_as : (d : Drawing) (side : ℕ) (f : FrameValue) → side ≡ d.side → f ≡ d.frame → bucket_columns side (picture_rect f) ≡ columns d
columns_as d side f s e = ap (λ (k : ℕ). bucket_columns k (picture_rect f)) s ∙ ap (λ (g : FrameValue). bucket_columns d.side (picture_rect g)) e

pub in_same_row : (d : Drawing) (n : ℕ) → IsDrawable d → n < tile_count d → ((n + 1) % columns d ≡ 0 → ⊥) → GoesOnRow d n
in_same_row d n h low not_last = by_row (behind (columns d) n (some_columns d h))
  where
    by_row : SameRow (columns d) n ⊎ NextRow (columns d) n → GoesOnRow d n
    by_row (inl same) = goes_on_row d n h low same
    by_row (inr next) = absurd (not_last next.column)

pub at_row_end : (d : Drawing) (n : ℕ) → IsDrawable d → n < tile_count d → (n + 1) % columns d ≡ 0 → EndsRow d n
at_row_end d n h low last = by_row (behind (columns d) n (some_columns d h))
  where
    by_row : SameRow (columns d) n ⊎ NextRow (columns d) n → EndsRow d n
    by_row (inl same) = let c = same.column in absurd (omega (arith, c, last))
    by_row (inr next) = ends_row d n h low next
