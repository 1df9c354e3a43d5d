use Rattle.std.proofs.Common.{◌≡◌, ◌∙◌, sym, ap, subst, refl, []}
use Rattle.scene.specs.Scene.{FrameValue}
use Rattle.scene.specs.Settings.{OptionValues}
use Rattle.transforms.specs.declared.view.View.{View}
use Rattle.bound_split.specs.Extents.{pixels_of}
use Rattle.hider.specs.declared.sample_grid.SampleGrid.{SampleGrid}
use Rattle.hider.specs.Tiles.{IsSampleGrid}
use Rattle.buckets.specs.declared.frame.Progress.{Progress}
use Rattle.buckets.specs.TileWalk.{format_in, tile_rect}
use Rattle.buckets.specs.declared.limits.Report.{Report}
use Rattle.buckets.specs.Standing.{to_come}
use Rattle.buckets.specs.Progress.{next_of, report_before}
use Rattle.buckets.proofs.Skipping.{before_skips, tells_skip}
use Rattle.buckets.proofs.SharePuts.{row_begins}
use Rattle.buckets.proofs.BucketPixels.{grid_from, is_sample_grid}
use Rattle.buckets.proofs.Passing.{gives_first}
use Rattle.buckets.proofs.StepsOn.{stands_in, before_first, tells_none}
use Rattle.buckets.proofs.frame.started.Goals as goal

pub new-requires : goal.new-requires
new-requires g c =
    let d = g.begun.drawing in
    let q = c.requires.0.drawn in
    let options : c.frame.inside.options ≡ d.frame.options = ap (λ (v : FrameValue). v.options) (c.frame.view_is ∙ q.frame) in
    let xs = ap (λ (o : OptionValues). o.xs) (c.options.view_is ∙ options) in
    let ys = ap (λ (o : OptionValues). o.ys) (c.options.view_is ∙ options) in
    subst (λ (s : SampleGrid). IsSampleGrid s) (sym (grid_from d c.args.first c.tile_at-rect.result c.options.inside.xs c.options.inside.ys c.tile_at-rect.ensures xs ys)) (is_sample_grid d c.args.first q.drawable c.requires.0.at')

pub returns : goal.returns
returns g c =
    let b = g.begun in
    let d = b.drawing in
    let q = c.requires.0.drawn in
    let f = c.args.shown.now.frame.now in
    let first = c.args.first in
    let begins = c.requires.1.0 in
    let low = c.requires.0.at' in
    let frame : f ≡ d.frame = q.frame in
    let options : c.frame.inside.options ≡ d.frame.options = ap (λ (v : FrameValue). v.options) (c.frame.view_is ∙ frame) in
    let chosen : OptionValues = c.frame.inside.options in
    let camera : c.view-view.result.now ≡ d.frame.camera = c.view-view.ensures.value ∙ ap (λ (v : FrameValue). v.camera) (c.frame.view_is ∙ frame) in
    let p : Progress = record { drawing = record { at = first; rect = c.tile_at-rect.result; tile = c.in_ok-tile.tile; leaves = c.next-next.new.self; next = c.next-next.result }; filter = c.in_ok-new.field-0; row = c.in_ok-first_row.field-0; report = c.args.report } in
    let xs = ap (λ (o : OptionValues). o.xs) (c.options.view_is ∙ options) in
    let ys = ap (λ (o : OptionValues). o.ys) (c.options.view_is ∙ options) in
    let format : p.filter ≡ format_in d.frame = c.in_ok-new.ensures ∙ ap (λ (v : View). record { width = v.width; height = v.height; options = chosen }) camera ∙ ap (λ (o : OptionValues). record { width = d.frame.camera.width; height = d.frame.camera.height; options = o }) options in
    let walk = c.in_ok-leaves.leaves in
    let same = c.in_ok-leaves.ensures.frame ∙ frame in
    let leaves : p.drawing.leaves.sights ≡ d.frame = c.next-next.ensures.frame ∙ same in
    let told : p.report ≡ report_before b = c.requires.1.1 in
    record {
      at' = refl;
      told = told;
      stands =
          stands_in (next_of b (report_before b)) p [] b.count q.drawable (before_skips (next_of b (report_before b)) 0 first [] b.count begins (before_first b)) low (begins.drawn low) format leaves c.tile_at-rect.ensures
          (c.in_ok-tile.ensures.grid ∙ grid_from d first c.tile_at-rect.result c.options.inside.xs c.options.inside.ys c.tile_at-rect.ensures xs ys) c.in_ok-tile.ensures.empty
          (λ back tells. gives_first c.next-next.result walk.sights d.frame (pixels_of c.tile_at-rect.result) (tile_rect d first) back (λ v. to_come v walk.number walk.pieces) (λ v. to_come v c.next-next.new.self.number c.next-next.new.self.pieces)
          same c.tile_at-rect.ensures c.in_ok-leaves.ensures.all (c.next-next.ensures.next back tells))
          (row_begins d first p.row.items q.drawable begins c.in_ok-first_row.ensures)
          (tells_skip b 0 first p.report.most_samples begins (tells_none b 0 p.report.most_samples refl (ap (λ (r : Report). r.most_samples) told)));
    }
