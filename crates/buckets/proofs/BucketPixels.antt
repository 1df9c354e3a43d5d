-- The tile of a bucket, and its pixels in their row.
use Rattle.std.proofs.Common.{◌≡◌, ℕ, ◌<◌, ◌≤◌, arith, refl, sym, ◌∙◌, ap, subst, List, ◌++◌, length}
use Rattle.std.specs.Prelude.{All}
use Rattle.parts.specs.Formats.{word}
use Rattle.fixed_math.specs.Spots.{PixelRect}
use Rattle.hider.specs.declared.fragment.Fragment.{Fragment}
use Rattle.hider.specs.declared.sample.Sample.{Sample}
use Rattle.hider.specs.declared.sample_grid.SampleGrid.{SampleGrid}
use Rattle.hider.specs.Composite.{composite}
use Rattle.hider.specs.Tiles.{TileValue, Shows, IsSampleGrid, grid_of, rect_of}
use Rattle.filter_ppm.specs.Sampled.{FilmFormat, film_with}
use Rattle.filter_ppm.specs.Film.{pixels}
use Rattle.filter_ppm.specs.Levels.{band}
use Rattle.filter_ppm.proofs.Within.{pixels_within}
use Rattle.filter_ppm.specs.Bands.{rect_with, seen_from, grid_over, PutsPixels}
use Rattle.filter_ppm.proofs.Bands.{columns_more}
use Rattle.filter_ppm.proofs.Puts.{in_frame}
use Rattle.buckets.specs.Pictures.{micropolygons, frame_leaves}
use Rattle.buckets.specs.TileWalk.{Drawing, format_in, bucket_of, tile_rect, tile_grid, tile_count, fragments_of}
use Rattle.buckets.specs.Standing.{IsDrawable}
use Rattle.buckets.specs.Rows.{film, bucket_bytes, IsRowTo}
use Rattle.buckets.proofs.BucketRows.{part_of}

pub grid_is : (d : Drawing) (n : ℕ) → tile_grid d n ≡ grid_over (seen_from (format_in d.frame) (bucket_of d n)) d.frame.options
unfolding tile_grid
grid_is d n = refl

pub rect_is : (d : Drawing) (n : ℕ) → rect_of (tile_grid d n) ≡ tile_rect d n
unfolding tile_grid
rect_is d n = refl

-- the grid of a tile whose rectangle is given
pub grid_from : (d : Drawing) (n : ℕ) (r : List ℕ) (xs ys : ℕ) → rect_with r ≡ tile_rect d n → xs ≡ d.frame.options.xs → ys ≡ d.frame.options.ys → grid_of r xs ys ≡ tile_grid d n
unfolding tile_grid
grid_from d n r xs ys is across down =
    let over : PixelRect → ℕ → ℕ → SampleGrid = λ q x y. record { left = q.left; top = q.top; right = q.right; bottom = q.bottom; xs = x; ys = y } in
    ap (λ q. over q xs ys) is ∙ ap (λ x. over (tile_rect d n) x ys) across ∙ ap (λ y. over (tile_rect d n) d.frame.options.xs y) down

pub grid_xs : (d : Drawing) (n : ℕ) (g : SampleGrid) → g ≡ tile_grid d n → g.xs ≡ d.frame.options.xs
unfolding tile_grid
grid_xs d n g is = ap (λ (s : SampleGrid). s.xs) is

pub grid_ys : (d : Drawing) (n : ℕ) (g : SampleGrid) → g ≡ tile_grid d n → g.ys ≡ d.frame.options.ys
unfolding tile_grid
grid_ys d n g is = ap (λ (s : SampleGrid). s.ys) is

pub is_sample_grid : (d : Drawing) (n : ℕ) → IsDrawable d → n < tile_count d → IsSampleGrid (tile_grid d n)
unfolding tile_grid
is_sample_grid d n h low =
    let f = h.format in
    let p = in_frame (format_in d.frame) (bucket_of d n) f (part_of d n h low) in
    let o = h.options in
    record {
      across = omega (arith, p.across, p.in_width);
      right = omega (arith, f.most_width);
      down = omega (arith, p.down, p.in_height);
      bottom = omega (arith, f.most_height);
      some_xs = o.some_across;
      most_xs = o.most_across;
      some_ys = o.some_down;
      most_ys = o.most_down;
    }

film_is : (d : Drawing) → film_with (format_in d.frame) (λ s. composite (fragments_of d (frame_leaves d.frame) s)) ≡ film d
unfolding micropolygons
film_is d = refl

-- the pixels of a bucket are put in their row
pub bucket_put : (d : Drawing) (n : ℕ) (filter : FilmFormat) (r : PixelRect) (t : TileValue) (old new : List (List ℕ)) → IsDrawable d → n < tile_count d → filter ≡ format_in d.frame → r ≡ bucket_of d n
    → Shows t (fragments_of d (frame_leaves d.frame)) → IsRowTo d n (bucket_of d n).left old → length new ≡ length old
    → ((f : Sample → List Fragment) → Shows t f → PutsPixels (film_with filter (λ s. composite (f s))) r old new) → IsRowTo d n (bucket_of d n).right new
bucket_put d n filter r t old new h low same is shows row long puts =
    let p = part_of d n h low in
    let whole : PutsPixels (film d) (bucket_of d n) old new =
    subst (λ f. PutsPixels f (bucket_of d n) old new) (film_is d)
    (subst (λ (g : FilmFormat). PutsPixels (film_with g (λ s. composite (fragments_of d (frame_leaves d.frame) s))) (bucket_of d n) old new) same
    (subst (λ q. PutsPixels (film_with filter (λ s. composite (fragments_of d (frame_leaves d.frame) s))) q old new) is (puts (fragments_of d (frame_leaves d.frame)) shows))) in
    record { size = long ∙ row.size; pixels = columns_more (film d) (bucket_of d n) old new row.pixels whole p.right }

-- the pixels of a bucket by themselves, and their bytes behind its number
pub pixels_alone : (d : Drawing) (n : ℕ) (filter : FilmFormat) (r : PixelRect) (t : TileValue) (new : List (List ℕ)) → filter ≡ format_in d.frame → r ≡ bucket_of d n → Shows t (fragments_of d (frame_leaves d.frame))
    → ((f : Sample → List Fragment) → Shows t f → new ≡ pixels (film_with filter (λ s. composite (f s))) r) → new ≡ pixels (film d) (bucket_of d n)
pixels_alone d n filter r t new same is shows tells =
    subst (λ f. new ≡ pixels f (bucket_of d n)) (film_is d)
    (subst (λ (g : FilmFormat). new ≡ pixels (film_with g (λ s. composite (fragments_of d (frame_leaves d.frame) s))) (bucket_of d n)) same
    (subst (λ q. new ≡ pixels (film_with filter (λ s. composite (fragments_of d (frame_leaves d.frame) s))) q) is (tells (fragments_of d (frame_leaves d.frame)) shows)))

pub bytes_alone : (d : Drawing) (n one : ℕ) (new : List (List ℕ)) → one ≡ d.frame.options.one → new ≡ pixels (film d) (bucket_of d n) → word n ++ band one new ≡ bucket_bytes d n
unfolding bucket_bytes
bytes_alone d n one new same is = ap (λ k. word n ++ band k new) same ∙ ap (λ ps. word n ++ band d.frame.options.one ps) is

pub within_alone : (d : Drawing) (n one : ℕ) (new : List (List ℕ)) → IsDrawable d → one ≡ d.frame.options.one → new ≡ pixels (film d) (bucket_of d n) → All (λ p. All (λ v. v ≤ one) p) new
within_alone d n one new h same is =
    subst (λ k. All (λ p. All (λ v. v ≤ k) p) new) (sym same)
    (subst (λ (ps : List (List ℕ)). All (λ p. All (λ v. v ≤ d.frame.options.one) p) ps) (sym is) (pixels_within (film d) h.options.order h.options.within (bucket_of d n)))
