use Rattle.std.proofs.Common.{◌∙◌, ℕ, List, sym, ap, subst}
use Rattle.hider.specs.declared.sample.Sample.{Sample}
use Rattle.hider.specs.Composite.{composite}
use Rattle.hider.specs.Tiles.{sample_count}
use Rattle.filter_ppm.specs.declared.total.Total.{Total}
use Rattle.filter_ppm.specs.Bands.{rect_with}
use Rattle.filter_ppm.specs.Sampled.{FilmFormat, IsFormat}
use Rattle.filter_ppm.specs.Sums.{AreOver, AreMeans}
use Rattle.filter_ppm.proofs.Puts.{in_frame, puts_as}
use Rattle.filter_ppm.proofs.pixel_filter.PixelFilter.put.Goals as goal

pub put_rows-requires-clause-over : goal.put_rows-requires-clause-over
put_rows-requires-clause-over c =
    subst (λ (ts : List Total). AreOver c.samples.result c.rect_of-r.result ts) (sym c.as_slice.ensures.value)
    (subst (λ (k : ℕ). AreOver k c.rect_of-r.result c.fill.new.totals.items) (sym c.samples.ensures) c.in_ok-fill.ensures.over)

pub returns-clause-pixels : goal.returns-clause-pixels
returns-clause-pixels c = λ f s.
    let format = c.args.self.now in
    let tile = c.args.tile.now in
    let r = c.rect_of-r.result in
    let options = ap (λ (v : FilmFormat). v.options) c.self.view_is in
    let weights = c.self.invariant.1 ∙ options in
    let columns = c.columns_of-columns in
    let means = subst (λ (ts : List Total). AreMeans c.self.inside.weights (λ (t : Sample). composite (f t)) tile.grid (sample_count tile.grid) r ts) (sym c.as_slice.ensures.value) (c.in_ok-fill.ensures.means f s) in
    puts_as format (λ (t : Sample). composite (f t)) (rect_with c.args.rect) r columns.result.first columns.result.end c.self.inside.options _ tile.grid c.as_slice.result.now c.args.band.now c.put_rows.new.band
    c.rect_of-r.ensures columns.ensures.left columns.ensures.right options weights c.requires.grid (in_frame format (rect_with c.args.rect) (subst (λ (v : FilmFormat). IsFormat v) c.self.view_is c.self.invariant.0) c.requires.part) means c.put_rows.ensures.inside c.put_rows.ensures.beside
