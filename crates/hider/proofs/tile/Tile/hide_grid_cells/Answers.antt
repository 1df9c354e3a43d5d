use Rattle.std.proofs.Common.{◌≡◌, ap, length, arith}
use Rattle.std.proofs.lemmas.List.{with_items_is}
use Rattle.hider.specs.CellValues.{micropolygons_of, values_of}
use Rattle.hider.specs.Fragments.{covering}
use Rattle.hider.specs.Tiles.{TileValue, Shows, HavePut}
use Rattle.hider.proofs.Showings.{shows_more}
use Rattle.hider.proofs.tile.Tile.hide_grid_cells.Goals as goal

pub returns-clause-shows : goal.returns-clause-shows
returns-clause-shows c = λ f s.
    let t : TileValue = record { grid = c.self.inside.grid; lists = c.self.inside.lists.items } in
    let v : t ≡ c.args.self.now = c.self.view_is in
    let h = covering c.args.camera.now (micropolygons_of (values_of c.args.still.now.smooth c.args.still.now.grid) c.args.one_sided c.args.flip) in
    let shown : Shows t f = rw (← v) at s in
    let p : HavePut t.grid h t.lists c.hide_grid_cells.new.lists = rw c.deref_mut.ensures.value at c.in_ok-hide_grid_cells.ensures in
    let l = c.self.inside.lists in
    let same : length c.hide_grid_cells.new.lists ≡ l.len = omega (arith, c.hide_grid_cells.auto.lists, ap length c.deref_mut.ensures.value, l.ok.0) in
    rw (with_items_is l c.hide_grid_cells.new.lists same) (shows_more t.grid t.lists c.hide_grid_cells.new.lists h f p shown)
