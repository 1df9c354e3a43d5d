use Rattle.std.proofs.Common.{◌≡◌, ◌∙◌, sym, ap, subst, ◌↔◌}
use Rattle.std.specs.Prelude.{ℤ, IsTrue}
use Rattle.patches.specs.Parts.{rect_of}
use Rattle.buckets.specs.Pictures.{prim_box}
use Rattle.bound_split.specs.Extents.{extent_of}
use Rattle.bound_split.specs.declared.extents.Extent.{Extent}
use Rattle.scene.specs.Scene.{FrameValue}
use Rattle.hider.specs.Tiles.{BlocksAll}
use Rattle.buckets.specs.Culled.{leaf_nearest}
use Rattle.buckets.specs.TileWalk.{nearest}
use Rattle.buckets.proofs.leaf_use.is_behind.Goals as goal

pub returns-clause-behind : goal.returns-clause-behind
unfolding nearest
returns-clause-behind c = λ d f same shows.
    let part = c.args.leaf.now.piece in
    let prim = c.args.prim.now in
    let deep : c.of-sight.result.extent.nearest ≡ leaf_nearest d.frame prim part =
    ap (λ (x : Extent). x.nearest) c.of-sight.ensures.sight.extent
    ∙ ap (λ (v : FrameValue). (extent_of v.camera prim.bound (prim_box prim (rect_of part))).nearest) (sym same) in
    subst (λ (z : ℤ). IsTrue c.all_behind.result ↔ BlocksAll z c.args.tile.now.grid f) deep (c.all_behind.ensures f shows)
