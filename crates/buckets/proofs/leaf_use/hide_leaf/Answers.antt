use Rattle.std.proofs.Common.{◌∙◌, ap, subst}
use Rattle.transforms.specs.declared.view.View.{View}
use Rattle.hider.specs.CellValues.{CellValues, micropolygons_of}
use Rattle.moving_cells.specs.MovingGrids.{values_when}
use Rattle.buckets.specs.Sampled.{ShowsMore}
use Rattle.buckets.proofs.HiddenGrids.{stays, leaf_made}
use Rattle.buckets.proofs.leaf_use.hide_leaf.Goals as goal

pub returns-in_ok-hide_grid-in-None-clause-shows : goal.returns-in_ok-hide_grid-in-None-clause-shows
returns-in_ok-hide_grid-in-None-clause-shows g c =
    let d = g.drawing in
    let p = c.args.prim.now in
    let leaf = c.args.leaf.now in
    let seen = c.args.seen.now in
    let is = c.requires.1.1 in
    let made = ap (λ (k : CellValues). micropolygons_of k p.one_sided p.flip) (stays p.smooth seen.grid c.in-None.is) ∙ leaf_made d p leaf.piece leaf.p leaf.q seen.grid c.requires.1.0.there c.requires.1.0.sizes is.1 in
    subst (λ ns. ShowsMore d.frame.camera ns c.args.tile.now c.hide_grid.new.tile) made (c.in_ok-hide_grid-in-None.ensures.shows d.frame.camera is.0)

pub returns-in_ok-hide_moving-in-Some-clause-shows : goal.returns-in_ok-hide_moving-in-Some-clause-shows
returns-in_ok-hide_moving-in-Some-clause-shows g c =
    let d = g.drawing in
    let p = c.args.prim.now in
    let leaf = c.args.leaf.now in
    let grid = c.args.seen.now.grid in
    subst (λ ns. ShowsMore d.frame.camera ns c.args.tile.now c.hide_moving.new.tile) (leaf_made d p leaf.piece leaf.p leaf.q grid c.requires.1.0.there c.requires.1.0.sizes c.requires.1.1.1)
    (subst (λ (v : View). ShowsMore v (micropolygons_of (values_when p.smooth grid) p.one_sided p.flip) c.args.tile.now c.hide_moving.new.tile) c.requires.0 c.in_ok-hide_moving-in-Some.ensures.shows)
