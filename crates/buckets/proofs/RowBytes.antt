-- The bytes of rows of buckets, one after another.
use Rattle.std.proofs.Common.{◌≡◌, ℕ, zero, suc, ◌+◌, ◌<◌, ◌≤◌, arith, refl, sym, ◌∙◌, ap, subst, List, [], ◌∷◌, ◌++◌, length, take, Option}
use Rattle.outside.specs.Sink.{Written}
use Rattle.outside.specs.Frames.{PutsAll, PutsFront}
use Rattle.outside.proofs.Puts.{puts-none, puts-more}
use Rattle.filter_ppm.specs.Levels.{band}
use Rattle.filter_ppm.specs.Film.{pixels}
use Rattle.filter_ppm.specs.Bands.{rows, ArePixels}
use Rattle.filter_ppm.proofs.Bands.{band_done, bands_more, bands_none}
use Rattle.buckets.specs.Pictures.{picture_bytes, header_of}
use Rattle.buckets.specs.TileWalk.{Drawing, format_in, picture_rect, bucket_of, tile_count}
use Rattle.buckets.specs.Standing.{Begun, IsDrawable}
use Rattle.buckets.specs.Rows.{film, bytes_above, row_top, IsRowTo, PutsRowsTo, PutsRowsInPart}
use Rattle.buckets.proofs.BucketRows.{some_wide, part_of, top_is, first_top, all_rows, GoesOnRow, EndsRow}

-- ---- fronts of bytes
take_inside : (n : ℕ) (r s : List ℕ) → (k : ℕ) × (take k (r ++ s) ≡ take n r)
take_inside zero r s = (0, refl)
take_inside (suc n) [] s = (0, refl)
take_inside (suc n) (x ∷ r) s = let i = take_inside n r s in (suc i.0, ap (λ l. x ∷ l) i.1)

take_behind : (a l : List ℕ) (k : ℕ) → take (length a + k) (a ++ l) ≡ a ++ take k l
take_behind [] l k = let e : 0 + k ≡ k = omega arith in ap (λ j. take j l) e
take_behind (x ∷ a) l k = let e : suc (length a) + k ≡ suc (length a + k) = omega arith in ap (λ j. take j (x ∷ (a ++ l))) e ∙ ap (λ m. x ∷ m) (take_behind a l k)

-- some bytes, and then a front of others
pub front_then : (a r s whole : List ℕ) (x y z : Option (List Written)) → whole ≡ a ++ (r ++ s) → PutsAll a x y → PutsFront r y z → PutsFront whole x z
front_then a r s whole x y z is p q =
    let i = take_inside q.0 r s in
    let e : take (length a + i.0) whole ≡ a ++ take q.0 r = ap (λ l. take (length a + i.0) l) is ∙ take_behind a (r ++ s) i.0 ∙ ap (λ l. a ++ l) i.1 in
    (length a + i.0, subst (λ b. PutsAll b x z) (sym e) (puts-more a (take q.0 r) x y z p q.1))

pub front_none : (r : List ℕ) (x : Option (List Written)) → PutsFront r x x
front_none r x = (0, puts-none x)

-- ---- rows
-- what is above a row, and what is from there to another one below it
above_more : (d : Drawing) (top bottom : ℕ) → IsDrawable d → (picture_rect d.frame).top ≤ top → top ≤ bottom → bytes_above d bottom ≡ bytes_above d top ++ band d.frame.options.one (pixels (film d) (rows (format_in d.frame) top bottom))
unfolding bytes_above
above_more d top bottom h k l = sym (bands_more (film d) (picture_rect d.frame).top top bottom (some_wide d h) k l)

-- the bytes of a whole row of buckets
pub row_is : (d : Drawing) (n : ℕ) (row : List (List ℕ)) → IsDrawable d → n < tile_count d → IsRowTo d n (bucket_of d n).right row → EndsRow d n
    → row ≡ pixels (film d) (rows (format_in d.frame) (bucket_of d n).top (bucket_of d n).bottom)
row_is d n row h low is ends =
    let part = part_of d n h low in
    let down = part.down in
    band_done (film d) (bucket_of d n).top (bucket_of d n).bottom row (some_wide d h) (omega (arith, down)) is.size
    (subst (λ r. ArePixels (film d) (bucket_of d n).top (bucket_of d n).bottom r row) ends.right is.pixels)

-- a row that is put
pub row_put : (b : Begun) (n : ℕ) (row : List (List ℕ)) (w w' : Option (List Written)) → IsDrawable b.drawing → n < tile_count b.drawing → IsRowTo b.drawing n (bucket_of b.drawing n).right row → EndsRow b.drawing n
    → PutsRowsTo b n w → PutsAll (band b.drawing.frame.options.one row) w w' → PutsRowsTo b (n + 1) w'
row_put b n row w w' h low is ends before put =
    let d = b.drawing in
    let one = d.frame.options.one in
    let part = part_of d n h low in
    let down = part.down in
    let here : bytes_above d (row_top d n) ≡ bytes_above d (bucket_of d n).top = ap (bytes_above d) (top_is d n h low) in
    let more : bytes_above d (row_top d (n + 1)) ≡ bytes_above d (row_top d n) ++ band one row =
    ap (bytes_above d) ends.row ∙ above_more d (bucket_of d n).top (bucket_of d n).bottom h part.top (omega (arith, down))
    ∙ ap (λ a. a ++ band one (pixels (film d) (rows (format_in d.frame) (bucket_of d n).top (bucket_of d n).bottom))) (sym here)
    ∙ ap (λ r. bytes_above d (row_top d n) ++ band one r) (sym (row_is d n row h low is ends)) in
    subst (λ a. PutsAll a b.written w') (sym more) (puts-more (bytes_above d (row_top d n)) (band one row) b.written w w' before put)

pub row_kept : (b : Begun) (n : ℕ) (w : Option (List Written)) → GoesOnRow b.drawing n → PutsRowsTo b n w → PutsRowsTo b (n + 1) w
row_kept b n w on before = subst (λ t. PutsAll (bytes_above b.drawing t) b.written w) (sym on.row) before

-- where a row is not put, or not whole
pub rows_in_part : (b : Begun) (n : ℕ) (w : Option (List Written)) → IsDrawable b.drawing → PutsRowsTo b n w → PutsRowsInPart b w
unfolding row_top
rows_in_part b n w h before =
    let d = b.drawing in
    let height = (picture_rect d.frame).bottom in
    let rest = band d.frame.options.one (pixels (film d) (rows (format_in d.frame) (row_top d n) height)) in
    let down = h.format.crop.down in
    let behind : (picture_rect d.frame).top ≤ row_top d n = omega (arith, down) in
    let below : row_top d n ≤ height = omega arith in
    front_then (bytes_above d (row_top d n)) [] rest (bytes_above d height) b.written w w (above_more d (row_top d n) height h behind below) before (front_none [] w)

pub row_in_part : (b : Begun) (n : ℕ) (row : List (List ℕ)) (w w' : Option (List Written)) → IsDrawable b.drawing → n < tile_count b.drawing → IsRowTo b.drawing n (bucket_of b.drawing n).right row → EndsRow b.drawing n
    → PutsRowsTo b n w → PutsFront (band b.drawing.frame.options.one row) w w' → PutsRowsInPart b w'
row_in_part b n row w w' h low is ends before put =
    let d = b.drawing in
    let one = d.frame.options.one in
    let height = (picture_rect d.frame).bottom in
    let top = (bucket_of d n).top in
    let bottom = (bucket_of d n).bottom in
    let part = part_of d n h low in
    let down = part.down in
    let high = part.bottom in
    let rest = band one (pixels (film d) (rows (format_in d.frame) bottom height)) in
    let here : bytes_above d (row_top d n) ≡ bytes_above d top = ap (bytes_above d) (top_is d n h low) in
    let all : bytes_above d height ≡ bytes_above d (row_top d n) ++ (band one row ++ rest) =
    above_more d top height h part.top (omega (arith, down, high)) ∙ ap (λ l. bytes_above d top ++ l) (sym (bands_more (film d) top bottom height (some_wide d h) (omega (arith, down)) high))
    ∙ ap (λ r. bytes_above d top ++ (band one r ++ rest)) (sym (row_is d n row h low is ends)) ∙ ap (λ a. a ++ (band one row ++ rest)) (sym here) in
    front_then (bytes_above d (row_top d n)) (band one row) rest (bytes_above d height) b.written w w' all before put

-- before the first row
pub puts_first : (b : Begun) (w : Option (List Written)) → IsDrawable b.drawing → w ≡ b.written → PutsRowsTo b 0 w
unfolding bytes_above
puts_first b w h is =
    let d = b.drawing in
    let none : bytes_above d (row_top d 0) ≡ [] = ap (bytes_above d) (first_top d h) ∙ bands_none (film d) (picture_rect d.frame).top in
    subst (λ l. PutsAll l b.written w) (sym none) (subst (λ v. PutsAll [] v w) is (puts-none w))

-- behind the last row
pub puts_last : (b : Begun) (n : ℕ) (w : Option (List Written)) → IsDrawable b.drawing → n ≡ tile_count b.drawing → PutsRowsTo b n w → PutsAll (bytes_above b.drawing (picture_rect b.drawing.frame).bottom) b.written w
puts_last b n w h is before = subst (λ t. PutsAll (bytes_above b.drawing t) b.written w) (ap (row_top b.drawing) is ∙ all_rows b.drawing h) before

-- the whole picture
pub picture_is : (d : Drawing) → picture_bytes d.accepted d.frame ≡ header_of d.frame ++ bytes_above d (picture_rect d.frame).bottom
unfolding picture_bytes bytes_above
picture_is d = refl
