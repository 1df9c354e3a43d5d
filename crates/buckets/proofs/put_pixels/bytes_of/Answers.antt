use Rattle.std.proofs.Common.{◌≡◌, ◌∙◌, ◌≤◌, ◌++◌, sym, ap, subst, List, ℕ}
use Rattle.std.specs.Prelude.{All}
use Rattle.fixed_math.specs.Spots.{PixelRect}
use Rattle.parts.specs.Formats.{word}
use Rattle.scene.specs.Scene.{FrameValue}
use Rattle.filter_ppm.specs.Levels.{band}
use Rattle.filter_ppm.specs.Sampled.{FilmFormat}
use Rattle.filter_ppm.specs.Bands.{rect_with, IsPartOfPicture, seen_from, grid_over}
use Rattle.buckets.specs.TileWalk.{format_in, bucket_of}
use Rattle.buckets.proofs.BucketRows.{part_of, few_tiles}
use Rattle.buckets.proofs.BucketPixels.{grid_is, pixels_alone, bytes_alone, within_alone}
use Rattle.buckets.proofs.put_pixels.bytes_of.Goals as goal

pub pixels-requires-clause-part : goal.pixels-requires-clause-part
pixels-requires-clause-part g c =
    let d = g.begun.drawing in
    let q = c.requires in
    subst (λ (r : PixelRect). IsPartOfPicture c.args.filter.now r) (sym c.bucket_at.ensures) (subst (λ (f : FilmFormat). IsPartOfPicture f (bucket_of d c.args.at)) (sym q.film) (part_of d c.args.at q.of.drawn.drawable q.of.at'))

pub pixels-requires-clause-grid : goal.pixels-requires-clause-grid
pixels-requires-clause-grid g c =
    let d = g.begun.drawing in
    let q = c.requires in
    let r = rect_with c.bucket_at.result in
    q.grid ∙ grid_is d c.args.at ∙ ap (λ (z : PixelRect). grid_over (seen_from (format_in d.frame) z) d.frame.options) (sym c.bucket_at.ensures)
    ∙ ap (λ (f : FilmFormat). grid_over (seen_from f r) f.options) (sym q.film)

pub append_band-requires : goal.append_band-requires
append_band-requires g c =
    let d = g.begun.drawing in
    let q = c.requires in
    let one : c.frame.inside.options.one ≡ d.frame.options.one = ap (λ (f : FrameValue). f.options.one) (c.frame.view_is ∙ q.of.drawn.frame) in
    let is = pixels_alone d c.args.at c.args.filter.now (rect_with c.bucket_at.result) c.args.tile.now c.in_ok-pixels.pixels.items q.film c.bucket_at.ensures q.shows c.in_ok-pixels.ensures.pixels in
    subst (λ (ps : List (List ℕ)). All (λ p. All (λ v. v ≤ c.frame.inside.options.one) p) ps) (sym c.as_slice.ensures.value) (within_alone d c.args.at c.frame.inside.options.one c.in_ok-pixels.pixels.items q.of.drawn.drawable one is)

pub returns-clause-bytes : goal.returns-clause-bytes
returns-clause-bytes g c =
    let d = g.begun.drawing in
    let q = c.requires in
    let few = few_tiles d q.of.drawn.drawable in
    let one : c.frame.inside.options.one ≡ d.frame.options.one = ap (λ (f : FrameValue). f.options.one) (c.frame.view_is ∙ q.of.drawn.frame) in
    let is = pixels_alone d c.args.at c.args.filter.now (rect_with c.bucket_at.result) c.args.tile.now c.in_ok-pixels.pixels.items q.film c.bucket_at.ensures q.shows c.in_ok-pixels.ensures.pixels in
    c.in_ok-append_band.ensures ∙ ap (λ l. l ++ band c.frame.inside.options.one c.as_slice.result.now) (c.in_ok-append_number.ensures ∙ ap (λ l. l ++ word c.args.at) c.new-bytes.ensures.items)
    ∙ ap (λ ps. word c.args.at ++ band c.frame.inside.options.one ps) c.as_slice.ensures.value ∙ bytes_alone d c.args.at c.frame.inside.options.one c.in_ok-pixels.pixels.items one is
