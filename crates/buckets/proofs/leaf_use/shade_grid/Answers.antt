use Rattle.std.proofs.Common.{◌≡◌, ◌∙◌, ◌*◌, ap}
use Rattle.std.specs.Prelude.{slice_get, Some}
use Rattle.scene.specs.Scene.{FrameValue}
use Rattle.displace_shade.specs.Shaded.{GridValue}
use Rattle.displace_shade.specs.Shop.{shop_set}
use Rattle.buckets.proofs.Using.{shaded_as, shaded_points}
use Rattle.buckets.proofs.leaf_use.shade_grid.Goals as goal

pub returns-clause-grid : goal.returns-clause-grid
returns-clause-grid g c =
    let shown = c.args.shown.now in
    let leaf = c.args.leaf.now in
    let r = c.requires in
    shaded_as g.begun.drawing shown.scene.now shown.index shown.frame.now (shop_set c.args.shop.now) c.args.prim.now leaf.piece leaf.p leaf.q c.in_ok-grid.grid r.0.scene r.0.frame r.1.0.set shown.there r.1.1.there r.1.1.sizes c.in_ok-grid.ensures.grid c.in_ok-grid.ensures.closing

pub returns-clause-points : goal.returns-clause-points
returns-clause-points g c =
    let shown = c.args.shown.now in
    let leaf = c.args.leaf.now in
    let there : slice_get shown.frame.now.prims leaf.piece.prim ≡ Some c.args.prim.now = ap (λ (f : FrameValue). slice_get f.prims leaf.piece.prim) c.requires.0.frame ∙ c.requires.1.1.there in
    ap (λ (v : GridValue). v.columns * v.rows) (c.in_ok-grid.ensures.grid shown.frame.now c.args.prim.now shown.there there)
    ∙ shaded_points shown.frame.now c.args.prim.now leaf.piece leaf.p leaf.q (shop_set c.args.shop.now) shown.scene.now.uses
