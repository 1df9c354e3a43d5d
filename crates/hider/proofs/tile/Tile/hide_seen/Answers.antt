use Rattle.std.proofs.Common.{◌≡◌, ap, length, arith}
use Rattle.std.proofs.lemmas.List.{with_items_is}
use Rattle.hider.specs.CellValues.{micropolygons_of, values_of}
use Rattle.hider.specs.Fragments.{covering}
use Rattle.hider.specs.Tiles.{TileValue, Shows, HavePut}
use Rattle.hider.proofs.Showings.{shows_more}
use Rattle.hider.proofs.tile.Tile.hide_seen.Goals as goal

pub returns-clause-shows : goal.returns-clause-shows
returns-clause-shows c = λ w f h s.
    let t : TileValue = record { grid = c.self.inside.grid; lists = c.self.inside.lists.items } in
    let v : t ≡ c.args.self.now = c.self.view_is in
    let more = covering w (micropolygons_of (values_of c.args.smooth c.args.seen.now.grid) c.args.one_sided c.args.flip) in
    let shown : Shows t f = rw (← v) at s in
    let p : HavePut t.grid more t.lists c.hide_seen_grid.new.lists = rw c.deref_mut.ensures.value at (c.in_ok-hide_seen_grid.ensures w h) in
    let l = c.self.inside.lists in
    let same : length c.hide_seen_grid.new.lists ≡ l.len = omega (arith, c.hide_seen_grid.auto.lists, ap length c.deref_mut.ensures.value, l.ok.0) in
    rw (with_items_is l c.hide_seen_grid.new.lists same) (shows_more t.grid t.lists c.hide_seen_grid.new.lists more f p shown)
