use Rattle.std.proofs.Common.{◌∙◌, sym, subst, refl}
use Rattle.hider.specs.declared.sample_grid.SampleGrid.{SampleGrid}
use Rattle.hider.specs.Tiles.{IsSampleGrid}
use Rattle.bound_split.specs.Extents.{pixels_of}
use Rattle.buckets.specs.Standing.{to_come}
use Rattle.buckets.proofs.BucketPixels.{grid_from, is_sample_grid}
use Rattle.buckets.specs.TileWalk.{tile_rect}
use Rattle.buckets.proofs.Passing.{gives_first}
use Rattle.buckets.proofs.tile_drawing.TileDrawing.begin.Goals as goal

pub renew-requires : goal.renew-requires
renew-requires g c =
    let d = g.begun.drawing in
    let at' = c.args.self.now.at in
    let old = c.args.self.now.tile.grid in
    subst (λ (s : SampleGrid). IsSampleGrid s) (sym (grid_from d at' c.tile_at-self.result old.xs old.ys c.tile_at-self.ensures c.requires.1.0.0 c.requires.1.0.1)) (is_sample_grid d at' c.requires.0.drawn.drawable c.requires.0.at')

pub returns : goal.returns
returns g c =
    let d = g.begun.drawing in
    let at' = c.args.self.now.at in
    let old = c.args.self.now.tile.grid in
    let leaves = c.restart.new.self in
    record {
      same = refl;
      leaves = c.next-self.ensures.frame ∙ c.restart.ensures.frame;
      rect = c.tile_at-self.ensures;
      grid = c.in_ok-renew.ensures.grid ∙ grid_from d at' c.tile_at-self.result old.xs old.ys c.tile_at-self.ensures c.requires.1.0.0 c.requires.1.0.1;
      empty = c.in_ok-renew.ensures.empty;
      next = λ back tells.
          gives_first c.next-self.result leaves.sights d.frame (pixels_of c.tile_at-self.result) (tile_rect d at') back (λ v. to_come v leaves.number leaves.pieces) (λ v. to_come v c.next-self.new.self.number c.next-self.new.self.pieces)
          (c.restart.ensures.frame ∙ c.requires.1.1) c.tile_at-self.ensures c.in_ok-restart.ensures.all (c.next-self.ensures.next back tells);
    }
