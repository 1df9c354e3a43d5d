use Rattle.std.proofs.Common.{◌≡◌, ◌∙◌, ◌-◌, ◌*◌, ℕ, List, length, drop, arith, sym, ap, subst}
use Rattle.hider.specs.declared.sample.Sample.{Sample}
use Rattle.hider.specs.Composite.{composite}
use Rattle.hider.specs.Tiles.{sample_count}
use Rattle.filter_ppm.specs.declared.total.Total.{Total}
use Rattle.filter_ppm.specs.Bands.{rect_with}
use Rattle.filter_ppm.specs.Sampled.{FilmFormat, IsFormat}
use Rattle.filter_ppm.specs.Sums.{AreOver, AreMeans}
use Rattle.filter_ppm.proofs.Puts.{in_frame, alone_as, take_front}
use Rattle.filter_ppm.proofs.pixel_filter.PixelFilter.pixels.Goals as goal

pub put_rows-requires-clause-over : goal.put_rows-requires-clause-over
put_rows-requires-clause-over c =
    subst (λ (ts : List Total). AreOver c.samples.result c.rect_of-r.result ts) (sym c.as_slice.ensures.value)
    (subst (λ (k : ℕ). AreOver k c.rect_of-r.result c.fill.new.totals.items) (sym c.samples.ensures) c.in_ok-fill.ensures.over)

pub returns-clause-pixels : goal.returns-clause-pixels
returns-clause-pixels c = λ f s.
    let format = c.args.self.now in
    let tile = c.args.tile.now in
    let r = c.rect_of-r.result in
    let colour = λ (t : Sample). composite (f t) in
    let options = ap (λ (v : FilmFormat). v.options) c.self.view_is in
    let weights = c.self.invariant.1 ∙ options in
    let new = c.put_rows.new.band in
    let band = c.in_ok-band.band in
    let same = c.put_rows.auto.band in
    let value = ap (λ (l : List (List ℕ)). length l) c.as_mut_slice.ensures.value in
    let count = c.in_ok-band.ensures.len in
    let area = c.count.ensures in
    let long : length new ≡ (r.bottom - r.top) * (r.right - r.left) = omega (arith, same, value, count, area) in
    let back = take_front band.len new (drop (length new) band.items) (let n = c.as_mut_slice.ensures.len in omega (arith, same, n)) in
    let means = subst (λ (ts : List Total). AreMeans c.self.inside.weights colour tile.grid (sample_count tile.grid) r ts) (sym c.as_slice.ensures.value) (c.in_ok-fill.ensures.means f s) in
    back ∙ alone_as format colour (rect_with c.args.rect) r c.self.inside.options _ tile.grid c.as_slice.result.now new
    c.rect_of-r.ensures options weights c.requires.grid (in_frame format (rect_with c.args.rect) (subst (λ (v : FilmFormat). IsFormat v) c.self.view_is c.self.invariant.0) c.requires.part) means c.put_rows.ensures.inside long
