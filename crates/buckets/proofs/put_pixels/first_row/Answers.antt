use Rattle.std.proofs.Common.{◌∙◌, sym}
use Rattle.buckets.specs.TileWalk.{picture_rect}
use Rattle.buckets.proofs.SharePuts.{row_from, row_none}
use Rattle.buckets.proofs.put_pixels.first_row.Goals as goal

pub returns-in_ok-new_row-in-Whole : goal.returns-in_ok-new_row-in-Whole
returns-in_ok-new_row-in-Whole g c =
    let d = g.begun.drawing in
    let q = c.requires.drawn in
    row_from d c.args.at (picture_rect d.frame).left c.in_ok-new_row-in-Whole.field-0.items (sym q.share ∙ c.in-Whole.is) c.in_ok-new_row-in-Whole.ensures

pub returns-in-Nth : goal.returns-in-Nth
returns-in-Nth g c =
    let d = g.begun.drawing in
    let q = c.requires.drawn in
    row_none d c.args.at (picture_rect d.frame).left _ _ c.new.result.items (sym q.share ∙ c.in-Nth.is)
