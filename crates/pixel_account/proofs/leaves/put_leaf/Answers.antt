use Rattle.displace_shade.specs.Shop.{shop_set}
use Rattle.buckets.proofs.Using.{shaded_as}
use Rattle.pixel_account.specs.declared.points.LeafGrid.{LeafGrid}
use Rattle.pixel_account.specs.Grids.{drawing_in}
use Rattle.pixel_account.proofs.Puts.{put_as}
use Rattle.pixel_account.proofs.leaves.put_leaf.Goals as goal

pub returns-clause-put : goal.returns-clause-put
returns-clause-put g c =
    let a = g.at.accepted in
    let f = g.at.frame in
    let shown = c.args.shown.now in
    let leaf = c.args.leaf in
    let r = c.requires in
    let grid : LeafGrid = record { prim = c.args.prim; leaf = leaf; grid = c.in_ok-grid.grid } in
    put_as a f grid c.args.stacks.now c.put_grid.new.stacks (record {
      there = r.1.1.1.0;
      leaf = r.1.1.1.1.0;
      p = r.1.1.1.1.1.0;
      q = r.1.1.1.1.1.1.0;
      shaded = shaded_as (drawing_in a f) shown.scene.now shown.index shown.frame.now (shop_set c.args.shop.now) c.args.prim.now leaf.piece leaf.p leaf.q c.in_ok-grid.grid r.0.scene r.1.0 r.1.1.0 shown.there r.1.1.1.0 r.1.1.1.1.0.sizes c.in_ok-grid.ensures.grid c.in_ok-grid.ensures.closing;
    }) c.in_ok-put_grid.ensures
