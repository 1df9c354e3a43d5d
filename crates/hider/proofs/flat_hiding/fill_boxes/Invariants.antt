use Rattle.std.proofs.Common.{◌≡◌, ◌<◌, ℕ, false, length, slice_index_or}
use Rattle.transforms.specs.declared.view.View.{View}
use Rattle.hider.specs.declared.bounds.Bounds.{Bounds}
use Rattle.hider.specs.Bounding.{bounds_of}
use Rattle.hider.specs.CellValues.{values_of}
use Rattle.hider.specs.Flat.{FlatCell, AreOnRaster, IsPlaced, flat_quad}
use Rattle.hider.proofs.flat_hiding.fill_boxes.Given as goal

abbrev pub invariant-loop-cell : goal.invariant-loop-cell
invariant-loop-cell g l = record {
  counted : length l.boxes.items ≡ l.cell;
  each : (v : View) → AreOnRaster v l.grid.p.now l.seen → (i : ℕ) (d : Bounds) (f : FlatCell) → i < l.cell → IsPlaced v (values_of false l.grid).corner i f → slice_index_or l.boxes.items i d ≡ bounds_of (flat_quad f);
}
