use Rattle.std.proofs.Common.{◌∙◌, ◌+◌, sym}
use Rattle.buckets.specs.TileWalk.{bucket_of}
use Rattle.buckets.proofs.SharePuts.{row_from, row_none, row_to}
use Rattle.buckets.proofs.put_pixels.next_row.Goals as goal

pub turn_row-requires : goal.turn_row-requires
turn_row-requires g c =
    let d = g.begun.drawing in
    let q = c.requires in
    (q.0, row_to d c.args.at (bucket_of d c.args.at).right c.args.row.now.items (sym q.0.drawn.share ∙ c.in-Whole.is) q.1)

pub returns-in_ok-turn_row-in-Whole : goal.returns-in_ok-turn_row-in-Whole
returns-in_ok-turn_row-in-Whole g c =
    let d = g.begun.drawing in
    row_from d (c.args.at + 1) (bucket_of d (c.args.at + 1)).left c.turn_row.new.row.items (sym c.requires.0.drawn.share ∙ c.in-Whole.is) c.in_ok-turn_row-in-Whole.ensures

pub returns-in-Nth : goal.returns-in-Nth
returns-in-Nth g c =
    let d = g.begun.drawing in
    row_none d (c.args.at + 1) (bucket_of d (c.args.at + 1)).left _ _ c.args.row.now.items (sym c.requires.0.drawn.share ∙ c.in-Nth.is)
