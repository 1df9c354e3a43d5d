use Rattle.std.proofs.Common.{◌≡◌, ◌∙◌, sym, ap, subst, arith, length, drop, List, ℕ}
use Rattle.hider.specs.Composite.{composite}
use Rattle.filter_ppm.specs.Sampled.{film_with}
use Rattle.filter_ppm.specs.Bands.{PutsPixels}
use Rattle.buckets.specs.Rows.{IsRowTo}
use Rattle.filter_ppm.proofs.Puts.{take_front}
use Rattle.fixed_math.specs.Spots.{PixelRect}
use Rattle.filter_ppm.specs.Sampled.{FilmFormat}
use Rattle.filter_ppm.specs.Bands.{rect_with, IsPartOfPicture, seen_from, grid_over}
use Rattle.buckets.specs.TileWalk.{format_in, bucket_of}
use Rattle.buckets.proofs.BucketRows.{part_of}
use Rattle.buckets.proofs.BucketPixels.{grid_is, bucket_put}
use Rattle.buckets.proofs.row_band.put_bucket.Goals as goal

pub put-requires-clause-part : goal.put-requires-clause-part
put-requires-clause-part g c =
    let d = g.begun.drawing in
    subst (λ (r : PixelRect). IsPartOfPicture c.args.filter.now r) (sym c.bucket_at.ensures) (subst (λ (f : FilmFormat). IsPartOfPicture f (bucket_of d c.args.at)) (sym c.requires.0.film) (part_of d c.args.at c.requires.0.of.drawn.drawable c.requires.0.of.at'))

pub put-requires-clause-grid : goal.put-requires-clause-grid
put-requires-clause-grid g c =
    let d = g.begun.drawing in
    let r = rect_with c.bucket_at.result in
    c.requires.0.grid ∙ grid_is d c.args.at ∙ ap (λ (q : PixelRect). grid_over (seen_from (format_in d.frame) q) d.frame.options) (sym c.bucket_at.ensures)
    ∙ ap (λ (f : FilmFormat). grid_over (seen_from f r) f.options) (sym c.requires.0.film)

pub returns-clause-row : goal.returns-clause-row
returns-clause-row g c =
    let d = g.begun.drawing in
    let new = c.put.new.band in
    let same = c.put.auto.band in
    let value = c.as_mut_slice.ensures.value in
    let long : length new ≡ length c.args.row.now.items = (let v = ap (λ (l : List (List ℕ)). length l) value in omega (arith, same, v)) in
    let back = take_front c.args.row.now.len new (drop (length new) c.args.row.now.items) (let n = c.as_mut_slice.ensures.len in omega (arith, same, n)) in
    subst (λ (l : List (List ℕ)). IsRowTo d c.args.at (bucket_of d c.args.at).right l) (sym back)
    (bucket_put d c.args.at c.args.filter.now (rect_with c.bucket_at.result) c.args.tile.now c.args.row.now.items new c.requires.0.of.drawn.drawable c.requires.0.of.at' c.requires.0.film c.bucket_at.ensures c.requires.0.shows c.requires.1 long
    (λ f s. subst (λ (o : List (List ℕ)). PutsPixels (film_with c.args.filter.now (λ x. composite (f x))) (rect_with c.bucket_at.result) o new) value (c.in_ok-put.ensures.pixels f s)))
