use Rattle.hider.proofs.Pixels.{near_stays}
use Rattle.hider.proofs.near.put_near.Goals as goal

pub put_rows-requires-clause-beside : goal.put_rows-requires-clause-beside
put_rows-requires-clause-beside g c =
    near_stays c.args.bounds.now c.part_near-part.result c.args.places.now.grid (g.S.Showing.shown c.args.shown.now) c.args.places.now.valid c.part_near-part.ensures.near c.requires.inside
