use Rattle.std.proofs.Common.{map, true}
use Rattle.std.specs.List.{range_with_len}
use Rattle.transforms.specs.declared.view.View.{View}
use Rattle.hider.specs.CellValues.{micropolygon_of, values_of}
use Rattle.hider.specs.Flat.{IsSeenBy}
use Rattle.hider.specs.Fragments.{covering}
use Rattle.hider.specs.Tiles.{HavePut}
use Rattle.hider.proofs.smooth_hiding.hide_smooth_grid.Given as goal

abbrev pub invariant-loop-cell : goal.invariant-loop-cell
invariant-loop-cell l =
    (v : View) → IsSeenBy v l.seen →
    HavePut l.places.grid (covering v (map (micropolygon_of (values_of true l.seen.grid) l.one_sided l.flip) (range_with_len 0 l.cell))) l.initial.lists l.lists
