-- What is put: rows of buckets of a whole picture, single buckets of a part.
use Rattle.std.specs.Prelude.{◌≡◌, ℕ, ◌-◌, ◌*◌, ◌++◌, min, max, List, length, Option}
use Rattle.std.specs.List.{flat_map}
use Rattle.bound_split.specs.Lengths.{most_below}
use Rattle.parts.specs.Formats.{word}
use Rattle.outside.specs.Sink.{Written}
use Rattle.outside.specs.Frames.{PutsAll, PutsFront}
use Rattle.filter_ppm.specs.Levels.{band}
use Rattle.filter_ppm.specs.Film.{FilmValues, pixels}
use Rattle.filter_ppm.specs.Bands.{rows, ArePixels}
use Rattle.buckets.specs.declared.share.Share.{Share}
use Rattle.buckets.specs.declared.share.Share.TheVariants.{Whole, Nth}
use Rattle.buckets.specs.Shares.{numbers_in}
use Rattle.buckets.specs.Pictures.{film_of}
use Rattle.buckets.specs.TileWalk.{Drawing, format_in, picture_rect, bucket_of, tile_count, samples_at}
use Rattle.buckets.specs.Standing.{Begun}

abbrev pub film : Drawing → FilmValues
film d = film_of d.accepted d.frame

-- the bytes of the picture's pixels above a row of the frame
unfoldable pub bytes_above : Drawing → ℕ → List ℕ
bytes_above d top = band d.frame.options.one (pixels (film d) (rows (format_in d.frame) (picture_rect d.frame).top top))

-- where the row of bucket n begins; behind the last bucket that is below the picture
unfoldable pub row_top : Drawing → ℕ → ℕ
row_top d n = min (bucket_of d n).top (picture_rect d.frame).bottom

-- a row of pixels as high as bucket n, of which the columns left of `right` are the picture's
pub record IsRowTo (d : Drawing) (n right : ℕ) (row : List (List ℕ)) : Type 0 where
  pub size : length row ≡ ((picture_rect d.frame).right - (picture_rect d.frame).left) * ((bucket_of d n).bottom - (bucket_of d n).top)
  pub pixels : ArePixels (film d) (bucket_of d n).top (bucket_of d n).bottom right row

-- the rows of buckets before that of bucket n are put
abbrev pub PutsRowsTo : Begun → ℕ → Option (List Written) → Type 0
PutsRowsTo b n written = PutsAll (bytes_above b.drawing (row_top b.drawing n)) b.written written

-- some first bytes of the picture's pixels are put
abbrev pub PutsRowsInPart : Begun → Option (List Written) → Type 0
PutsRowsInPart b written = PutsFront (bytes_above b.drawing (picture_rect b.drawing.frame).bottom) b.written written

-- ---- shares
-- a bucket's number, and its pixels by rows; and those of the buckets below a number that are drawn
unfoldable pub bucket_bytes : Drawing → ℕ → List ℕ
bucket_bytes d n = word n ++ band d.frame.options.one (pixels (film d) (bucket_of d n))

-- the bytes of the buckets of a share before number n
unfoldable pub bytes_below : Drawing → ℕ → List ℕ
bytes_below d n = flat_map (bucket_bytes d) (numbers_in d.share n)

-- what is put before bucket n: of a whole picture the rows before its row, of a part the buckets before it
abbrev pub bytes_by : Share → Drawing → ℕ → List ℕ
bytes_by Whole d n = bytes_above d (row_top d n)
bytes_by (Nth part parts) d n = bytes_below d n

-- and all that is put
abbrev pub all_by : Share → Drawing → List ℕ
all_by Whole d = bytes_above d (picture_rect d.frame).bottom
all_by (Nth part parts) d = bytes_below d (tile_count d)

abbrev pub PutsTo : Begun → ℕ → Option (List Written) → Type 0
PutsTo b n written = PutsAll (bytes_by b.drawing.share b.drawing n) b.written written

abbrev pub PutsInPart : Begun → Option (List Written) → Type 0
PutsInPart b written = PutsFront (all_by b.drawing.share b.drawing) b.written written

-- a row of a whole picture has its pixels left of `right`; a part has no rows
abbrev pub HasRowBy : Share → Drawing → ℕ → ℕ → List (List ℕ) → Type 0
HasRowBy Whole d n right row = IsRowTo d n right row
HasRowBy (Nth part parts) d n right row = Unit {0}

abbrev pub HasRow : Drawing → ℕ → ℕ → List (List ℕ) → Type 0
HasRow d n right row = HasRowBy d.share d n right row

-- the report tells the most samples of the tiles before number n
abbrev pub TellsSamples : Begun → ℕ → ℕ → Type 0
TellsSamples b n most = most ≡ max b.most_samples (most_below n (samples_at b.drawing))
