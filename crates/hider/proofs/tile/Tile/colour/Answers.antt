use Rattle.std.proofs.Common.{◌≡◌, ◌∙◌, ap}
use Rattle.hider.specs.Composite.{composite}
use Rattle.hider.specs.Tiles.{TileValue}
use Rattle.hider.proofs.Showings.{shown_colour}
use Rattle.hider.proofs.tile.Tile.colour.Goals as goal

pub returns : goal.returns
returns c = λ f s.
    let t : TileValue = record { grid = c.self.inside.grid; lists = c.self.inside.lists.items } in
    let v : t ≡ c.args.self.now = c.self.view_is in
    let d = c.index.result.now in
    rw (← v) (shown_colour t f c.args.n d c.colour.result (rw (← v) at s) (rw (← v) at c.requires) (c.colour.ensures ∙ ap composite c.index.ensures))
