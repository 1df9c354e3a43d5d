use Rattle.std.proofs.Common.{map}
use Rattle.std.specs.List.{range_with_len}
use Rattle.hider.specs.CellValues.{micropolygon_of}
use Rattle.hider.specs.Fragments.{covering}
use Rattle.hider.specs.Tiles.{HavePut}
use Rattle.hider.proofs.hiding.hide_all.Given as goal

abbrev pub invariant-loop-cell : goal.invariant-loop-cell
invariant-loop-cell g l = HavePut l.timed.places.grid (covering l.camera (map (micropolygon_of (g.C.Cells.values l.cells) l.one_sided l.flip) (range_with_len 0 l.cell))) l.initial.lists l.lists
