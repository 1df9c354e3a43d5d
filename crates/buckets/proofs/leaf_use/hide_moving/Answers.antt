use Rattle.std.proofs.Common.{ap}
use Rattle.scene.specs.Scene.{PrimValue}
use Rattle.moving_cells.specs.MovingGrids.{values_when}
use Rattle.buckets.proofs.HiddenGrids.{cells_hidden}
use Rattle.buckets.proofs.leaf_use.hide_moving.Goals as goal

pub returns-clause-shows : goal.returns-clause-shows
returns-clause-shows c =
    cells_hidden c.args.tile.now c.hide.new.self c.args.camera.now (λ b. values_when b c.args.seen.now.grid) c.prim.inside.smooth c.args.prim.now.smooth c.prim.inside.one_sided c.args.prim.now.one_sided c.prim.inside.flip c.args.prim.now.flip
    (ap (λ (p : PrimValue). p.smooth) c.prim.view_is) (ap (λ (p : PrimValue). p.one_sided) c.prim.view_is) (ap (λ (p : PrimValue). p.flip) c.prim.view_is)
    (λ f s. c.in_ok-hide.ensures.shows f s)
