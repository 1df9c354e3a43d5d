-- Buckets: the squares of pixels in which a picture is drawn, one after another.
use Rattle.std.specs.Prelude.{ℕ, ◌+◌, ◌-◌, ◌*◌, ◌/◌, ◌%◌, min, ◌≡◌, refl}
use Rattle.fixed_math.specs.Spots.{PixelRect, whole_frame}

-- how many buckets of a side lie along so many pixels, the last one cut where they don't fill it
abbrev pub buckets_along : ℕ → ℕ → ℕ
buckets_along side pixels = (pixels + (side - 1)) / side

-- the columns and the rows of buckets of a rectangle, and how many buckets there are
abbrev pub bucket_columns : ℕ → PixelRect → ℕ
bucket_columns side r = buckets_along side (r.right - r.left)

abbrev pub bucket_rows : ℕ → PixelRect → ℕ
bucket_rows side r = buckets_along side (r.bottom - r.top)

-- how many buckets a rectangle of pixels has
abbrev pub bucket_count : ℕ → PixelRect → ℕ
bucket_count side r = bucket_columns side r * bucket_rows side r

-- the bucket in a column and a row, from the rectangle's left top corner; the last ones are cut to the rectangle
abbrev pub bucket_at : ℕ → PixelRect → ℕ → ℕ → PixelRect
bucket_at side r column row = record {
  left = r.left + side * column;
  top = r.top + side * row;
  right = min (r.left + side * column + side) r.right;
  bottom = min (r.top + side * row + side) r.bottom;
}

-- bucket n, by rows
abbrev pub bucket : ℕ → PixelRect → ℕ → PixelRect
bucket side r n = bucket_at side r (n % bucket_columns side r) (n / bucket_columns side r)

-- a rectangle widened by so many pixels to the left and right, and to the top and bottom, and cut to a frame of that width and height
abbrev pub widened : ℕ → ℕ → ℕ → ℕ → PixelRect → PixelRect
widened across down width height r = record {
  left = r.left - across;
  top = r.top - down;
  right = min (r.right + across) width;
  bottom = min (r.bottom + down) height;
}

-- worked values: a frame of 10 by 5 pixels has six buckets of side 4, and the last one is 2 pixels wide and 1 high
six_buckets : bucket_count 4 (whole_frame 10 5) ≡ 6
six_buckets = refl

first_bucket : bucket 4 (whole_frame 10 5) 0 ≡ record { left = 0; top = 0; right = 4; bottom = 4 }
first_bucket = refl

last_bucket : bucket 4 (whole_frame 10 5) 5 ≡ record { left = 8; top = 4; right = 10; bottom = 5 }
last_bucket = refl

first_bucket_widened : widened 3 1 10 5 (bucket 4 (whole_frame 10 5) 0) ≡ record { left = 0; top = 0; right = 7; bottom = 5 }
first_bucket_widened = refl
