use Rattle.std.proofs.Common.{◌≡◌, ◌∙◌, sym, ap, true}
use Rattle.std.specs.Prelude.{◌&&◌, not}
use Rattle.bound_split.specs.Extents.{reaches, pixels_of}
use Rattle.buckets.proofs.leaf_walk.can_show.Goals as goal

pub returns : goal.returns
returns c = λ back tells.
    let nearest = c.args.sight.now.extent.nearest in
    let met : reaches c.args.sight.now.extent.reach (pixels_of c.args.rect) ≡ true = sym c.meets.ensures ∙ c.if-not-meets.false in
    let hidden : c.all_behind-behind.result ≡ back nearest = tells.told nearest c.all_behind-behind.result c.all_behind-behind.ensures in
    ap not hidden ∙ ap (λ b. b && not (back nearest)) (sym met)
