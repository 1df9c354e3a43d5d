-- What is put of a share of the buckets: of a whole picture row after row, of a part bucket after bucket.
use Rattle.std.proofs.Common.{◌≡◌, ℕ, ◌+◌, ◌-◌, ◌<◌, ◌≤◌, arith, refl, sym, ◌∙◌, ap, subst, true, List, [], ◌∷◌, ◌++◌, append_assoc, Option}
use Rattle.std.specs.List.{flat_map}
use Rattle.std.proofs.lemmas.List.{append-nil}
use Rattle.std.proofs.lemmas.List.Concat.{flat_map-append}
use Rattle.outside.specs.Sink.{Written}
use Rattle.outside.specs.Frames.{PutsAll, PutsFront}
use Rattle.outside.proofs.Puts.{puts-none, puts-more}
use Rattle.buckets.specs.declared.share.Share.{Share}
use Rattle.buckets.specs.declared.share.Share.TheVariants.{Whole, Nth}
use Rattle.buckets.specs.Shares.{numbers_in}
use Rattle.buckets.specs.TileWalk.{Drawing, picture_rect, bucket_of, draws, tile_count}
use Rattle.buckets.specs.Standing.{Begun, IsDrawable, IsFirstDrawn}
use Rattle.buckets.specs.Rows.{bucket_bytes, bytes_below, bytes_by, all_by, IsRowTo, HasRow, HasRowBy, PutsRowsTo, PutsRowsInPart, PutsTo, PutsInPart}
use Rattle.buckets.proofs.RowBytes.{front_then, front_none, rows_in_part, puts_first, puts_last}
use Rattle.buckets.proofs.BucketRows.{first_left}
use Rattle.buckets.proofs.Skipping.{whole_first, numbers_drawn, numbers_skip, numbers_further}

-- ---- bucket after bucket
below_none : (d : Drawing) → bytes_below d 0 ≡ []
unfolding bytes_below
below_none d = refl

below_more : (d : Drawing) (n : ℕ) → draws d n ≡ true → bytes_below d (n + 1) ≡ bytes_below d n ++ bucket_bytes d n
unfolding bytes_below
below_more d n here =
    ap (flat_map (bucket_bytes d)) (numbers_drawn d.share n here) ∙ flat_map-append (bucket_bytes d) (numbers_in d.share n) (n ∷ [])
    ∙ ap (λ l. flat_map (bucket_bytes d) (numbers_in d.share n) ++ l) (append-nil (bucket_bytes d n))

below_skip : (d : Drawing) (n m : ℕ) → IsFirstDrawn d n m → bytes_below d m ≡ bytes_below d n
unfolding bytes_below
below_skip d n m f = ap (flat_map (bucket_bytes d)) (numbers_skip d n m f)

below_further : (d : Drawing) (n j : ℕ) → (more : List ℕ) × (bytes_below d (n + j) ≡ bytes_below d n ++ more)
unfolding bytes_below
below_further d n j =
    let r = numbers_further d.share n j in
    (flat_map (bucket_bytes d) r.0, ap (flat_map (bucket_bytes d)) r.1 ∙ flat_map-append (bucket_bytes d) (numbers_in d.share n) r.0)

below_front : (d : Drawing) (n : ℕ) → n ≤ tile_count d → (more : List ℕ) × (bytes_below d (tile_count d) ≡ bytes_below d n ++ more)
below_front d n within =
    let r = below_further d n (tile_count d - n) in
    let e : n + (tile_count d - n) ≡ tile_count d = omega (arith, within) in
    (r.0, ap (bytes_below d) (sym e) ∙ r.1)

-- ---- by share
skip_by : (s : Share) (d : Drawing) (n m : ℕ) → d.share ≡ s → IsFirstDrawn d n m → bytes_by s d n ≡ bytes_by s d m
skip_by Whole d n m is f = ap (bytes_by Whole d) (sym (whole_first d n m is f))
skip_by (Nth part parts) d n m is f = sym (below_skip d n m f)

-- past buckets that aren't drawn
pub puts_skip : (b : Begun) (n m : ℕ) (w : Option (List Written)) → IsFirstDrawn b.drawing n m → PutsTo b n w → PutsTo b m w
puts_skip b n m w f before = subst (λ l. PutsAll l b.written w) (skip_by b.drawing.share b.drawing n m refl f) before

-- before the first bucket
first_by : (s : Share) (b : Begun) (w : Option (List Written)) → IsDrawable b.drawing → w ≡ b.written → PutsAll (bytes_by s b.drawing 0) b.written w
first_by Whole b w h is = puts_first b w h is
first_by (Nth part parts) b w h is = subst (λ l. PutsAll l b.written w) (sym (below_none b.drawing)) (subst (λ v. PutsAll [] v w) is (puts-none w))

pub puts_begin : (b : Begun) (first : ℕ) (w : Option (List Written)) → IsDrawable b.drawing → IsFirstDrawn b.drawing 0 first → w ≡ b.written → PutsTo b first w
puts_begin b first w h f is = puts_skip b 0 first w f (first_by b.drawing.share b w h is)

-- behind the last one
end_by : (s : Share) (b : Begun) (n : ℕ) (w : Option (List Written)) → IsDrawable b.drawing → n ≡ tile_count b.drawing → PutsAll (bytes_by s b.drawing n) b.written w → PutsAll (all_by s b.drawing) b.written w
end_by Whole b n w h is before = puts_last b n w h is before
end_by (Nth part parts) b n w h is before = subst (λ k. PutsAll (bytes_below b.drawing k) b.written w) is before

pub puts_end : (b : Begun) (n : ℕ) (w : Option (List Written)) → IsDrawable b.drawing → n ≡ tile_count b.drawing → PutsTo b n w → PutsAll (all_by b.drawing.share b.drawing) b.written w
puts_end b n w h is before = end_by b.drawing.share b n w h is before

-- where a bucket isn't put
part_by : (s : Share) (b : Begun) (n : ℕ) (w : Option (List Written)) → IsDrawable b.drawing → n ≤ tile_count b.drawing → PutsAll (bytes_by s b.drawing n) b.written w → PutsFront (all_by s b.drawing) b.written w
part_by Whole b n w h within before = rows_in_part b n w h before
part_by (Nth part parts) b n w h within before =
    let r = below_front b.drawing n within in
    front_then (bytes_below b.drawing n) [] r.0 (bytes_below b.drawing (tile_count b.drawing)) b.written w w r.1 before (front_none [] w)

pub puts_part : (b : Begun) (n : ℕ) (w : Option (List Written)) → IsDrawable b.drawing → n ≤ tile_count b.drawing → PutsTo b n w → PutsInPart b w
puts_part b n w h within before = part_by b.drawing.share b n w h within before

-- ---- a bucket of a part
pub alone_put : (b : Begun) (n part parts : ℕ) (w w' : Option (List Written)) → b.drawing.share ≡ Nth part parts → draws b.drawing n ≡ true → PutsTo b n w → PutsAll (bucket_bytes b.drawing n) w w' → PutsTo b (n + 1) w'
alone_put b n part parts w w' is here before put =
    let d = b.drawing in
    let before' : PutsAll (bytes_below d n) b.written w = subst (λ (s : Share). PutsAll (bytes_by s d n) b.written w) is before in
    let more : PutsAll (bytes_below d (n + 1)) b.written w' = subst (λ l. PutsAll l b.written w') (sym (below_more d n here)) (puts-more (bytes_below d n) (bucket_bytes d n) b.written w w' before' put) in
    subst (λ (s : Share). PutsAll (bytes_by s d (n + 1)) b.written w') (sym is) more

pub alone_part : (b : Begun) (n part parts : ℕ) (w w' : Option (List Written)) → b.drawing.share ≡ Nth part parts → draws b.drawing n ≡ true → n < tile_count b.drawing → PutsTo b n w → PutsFront (bucket_bytes b.drawing n) w w' → PutsInPart b w'
alone_part b n part parts w w' is here low before put =
    let d = b.drawing in
    let before' : PutsAll (bytes_below d n) b.written w = subst (λ (s : Share). PutsAll (bytes_by s d n) b.written w) is before in
    let r = below_front d (n + 1) (omega (arith, low)) in
    let all : bytes_below d (tile_count d) ≡ bytes_below d n ++ (bucket_bytes d n ++ r.0) = r.1 ∙ ap (λ l. l ++ r.0) (below_more d n here) ∙ append_assoc (bytes_below d n) (bucket_bytes d n) r.0 in
    subst (λ (s : Share). PutsFront (all_by s d) b.written w') (sym is) (front_then (bytes_below d n) (bucket_bytes d n) r.0 (bytes_below d (tile_count d)) b.written w w' all before' put)

-- ---- a bucket of a whole picture
pub rows_to : (b : Begun) (n : ℕ) (w : Option (List Written)) → b.drawing.share ≡ Whole → PutsTo b n w → PutsRowsTo b n w
rows_to b n w is before = subst (λ (s : Share). PutsAll (bytes_by s b.drawing n) b.written w) is before

pub rows_from : (b : Begun) (n : ℕ) (w : Option (List Written)) → b.drawing.share ≡ Whole → PutsRowsTo b n w → PutsTo b n w
rows_from b n w is before = subst (λ (s : Share). PutsAll (bytes_by s b.drawing n) b.written w) (sym is) before

pub rows_part : (b : Begun) (w : Option (List Written)) → b.drawing.share ≡ Whole → PutsRowsInPart b w → PutsInPart b w
rows_part b w is part = subst (λ (s : Share). PutsFront (all_by s b.drawing) b.written w) (sym is) part

pub row_to : (d : Drawing) (n right : ℕ) (row : List (List ℕ)) → d.share ≡ Whole → HasRow d n right row → IsRowTo d n right row
row_to d n right row is has = subst (λ (s : Share). HasRowBy s d n right row) is has

pub row_from : (d : Drawing) (n right : ℕ) (row : List (List ℕ)) → d.share ≡ Whole → IsRowTo d n right row → HasRow d n right row
row_from d n right row is has = subst (λ (s : Share). HasRowBy s d n right row) (sym is) has

pub row_none : (d : Drawing) (n right part parts : ℕ) (row : List (List ℕ)) → d.share ≡ Nth part parts → HasRow d n right row
row_none d n right part parts row is = subst (λ (s : Share). HasRowBy s d n right row) (sym is) tt

-- to the next bucket that is drawn
row_skip_by : (s : Share) (d : Drawing) (n m : ℕ) (row : List (List ℕ)) → d.share ≡ s → IsFirstDrawn d n m → HasRowBy s d n (bucket_of d n).left row → HasRowBy s d m (bucket_of d m).left row
row_skip_by Whole d n m row is f has = subst (λ k. IsRowTo d k (bucket_of d k).left row) (sym (whole_first d n m is f)) has
row_skip_by (Nth part parts) d n m row is f has = tt

pub row_skip : (d : Drawing) (n m : ℕ) (row : List (List ℕ)) → IsFirstDrawn d n m → HasRow d n (bucket_of d n).left row → HasRow d m (bucket_of d m).left row
row_skip d n m row f has = row_skip_by d.share d n m row refl f has

-- the row of the first bucket, of which nothing is drawn
pub row_begins : (d : Drawing) (first : ℕ) (row : List (List ℕ)) → IsDrawable d → IsFirstDrawn d 0 first → HasRow d first (picture_rect d.frame).left row → HasRow d first (bucket_of d first).left row
row_begins d first row h f has = by_share d.share refl has
  where
    by_share : (s : Share) → d.share ≡ s → HasRowBy s d first (picture_rect d.frame).left row → HasRowBy s d first (bucket_of d first).left row
    by_share Whole is r = subst (λ l. IsRowTo d first l row) (sym (first_left d h) ∙ ap (λ k. (bucket_of d k).left) (sym (whole_first d 0 first is f))) r
    by_share (Nth part parts) is r = tt
