use Rattle.std.proofs.Common.{sym, subst, Bool}
use Rattle.std.specs.Prelude.{OnOk}
use Rattle.transforms.specs.declared.view.View.{View}
use Rattle.hider.specs.CellValues.{micropolygons_of, values_of}
use Rattle.hider.specs.Flat.{IsSeenBy}
use Rattle.hider.specs.Fragments.{covering}
use Rattle.hider.specs.Tiles.{HavePut}
use Rattle.hider.proofs.hiding.hide_seen_grid.Goals as goal

pub returns-then-smooth : goal.returns-then-smooth
returns-then-smooth c =
    let s = c.args.seen.now in
    subst (λ (b : Bool). OnOk c.hide_smooth_grid.result ((v : View) → IsSeenBy v s → HavePut c.args.places.now.grid (covering v (micropolygons_of (values_of b s.grid) c.args.one_sided c.args.flip)) c.args.lists.now c.hide_smooth_grid.new.lists)) (sym c.if-smooth.true)
    c.hide_smooth_grid.ensures

pub returns-else-smooth : goal.returns-else-smooth
returns-else-smooth c =
    let s = c.args.seen.now in
    subst (λ (b : Bool). OnOk c.hide_grid.result ((v : View) → IsSeenBy v s → HavePut c.args.places.now.grid (covering v (micropolygons_of (values_of b s.grid) c.args.one_sided c.args.flip)) c.args.lists.now c.hide_grid.new.lists)) (sym c.if-smooth.false)
    c.hide_grid.ensures
