-- What the cells of a leaf's grid show.
use Rattle.std.proofs.Common.{◌≡◌, ℕ, ◌+◌, ◌<◌, arith, refl, sym, ◌∙◌, ap, subst, List, [], ◌∷◌, Some, None}
use Rattle.std.specs.Prelude.{slice_get}
use Rattle.std.specs.List.{cons_option}
use Rattle.std.specs.Option.{option_and_then}
use Rattle.std.proofs.lemmas.Option.{slice_get-get_or}
use Rattle.std.proofs.lemmas.List.FromFn.{length-map-range_with_len, get_or-map-range_with_len}
use Rattle.transforms.specs.declared.view.View.{View}
use Rattle.scene.specs.Scene.{FrameValue}
use Rattle.shader_binding.specs.Sets.{AcceptedValue}
use Rattle.grid_variables.specs.Points.{Leaf, columns, rows}
use Rattle.displace_shade.specs.Diced.{grid_value}
use Rattle.displace_shade.specs.Shaded.{GridValue, shaded}
use Rattle.hider.specs.declared.fragment.Fragment.{Fragment}
use Rattle.hider.specs.declared.quad.Quad.{Quad}
use Rattle.hider.specs.declared.sample.Sample.{Sample}
use Rattle.hider.specs.Cells.{Micropolygon, seen_at}
use Rattle.hider.specs.Coverage.{covers}
use Rattle.hider.specs.Fragments.{fragment_of, covering}
use Rattle.moving_cells.specs.MovingGrids.{values_when}
use Rattle.buckets.specs.Pictures.{leaf_micropolygons}
use Rattle.buckets.proofs.HiddenGrids.{leaf_made}
use Rattle.pixel_record.specs.declared.fragment.GridCell.{GridCell}
use Rattle.pixel_account.specs.declared.points.LeafGrid.{LeafGrid}
use Rattle.pixel_account.specs.Origins.{grid_cell, IsOfCell}
use Rattle.pixel_account.specs.Grids.{IsGridOf, leaf_in, drawing_in, IsLeafGrid}
use Rattle.pixel_account.specs.Stacks.{cell_in_grid, cells_in_grid}

-- the grid is the leaf's
pub grid_is : (a : AcceptedValue) (f : FrameValue) (g : LeafGrid) → IsLeafGrid a f g → grid_value g.grid ≡ shaded (leaf_in f g) a.set a.scene.uses
grid_is a f g is = (is.shaded g.prim.now g.leaf.p g.leaf.q is.there is.leaf.sizes).0

shaded_columns : (l : Leaf) (a : AcceptedValue) → (shaded l a.set a.scene.uses).columns ≡ columns l
unfolding shaded
shaded_columns l a = refl

shaded_rows : (l : Leaf) (a : AcceptedValue) → (shaded l a.set a.scene.uses).rows ≡ rows l
unfolding shaded
shaded_rows l a = refl

pub lines_are : (a : AcceptedValue) (f : FrameValue) (g : LeafGrid) → IsLeafGrid a f g → IsGridOf (leaf_in f g) g
lines_are a f g is = record {
  prim = refl;
  part = refl;
  p = refl;
  q = refl;
  columns = ap (λ (v : GridValue). v.columns) (grid_is a f g is) ∙ shaded_columns (leaf_in f g) a;
  rows = ap (λ (v : GridValue). v.rows) (grid_is a f g is) ∙ shaded_rows (leaf_in f g) a;
  p_most = is.p;
  q_most = is.q;
}

-- its cells are the leaf's micropolygons
pub cells_are : (a : AcceptedValue) (f : FrameValue) (g : LeafGrid) → IsLeafGrid a f g → cells_in_grid g ≡ leaf_micropolygons a f g.prim.now g.leaf.piece
cells_are a f g is = leaf_made (drawing_in a f) g.prim.now g.leaf.piece g.leaf.p g.leaf.q g.grid is.there is.leaf.sizes is.shaded

cell_at : (g : LeafGrid) (i : ℕ) → i < (values_when g.prim.now.smooth g.grid).count → slice_get (cells_in_grid g) i ≡ Some (cell_in_grid g i)
cell_at g i lt =
    let n = (values_when g.prim.now.smooth g.grid).count in
    let long = length-map-range_with_len (cell_in_grid g) 0 n in
    let e : 0 + i ≡ i = omega arith in
    slice_get-get_or (cells_in_grid g) i (cell_in_grid g i) (omega (arith, long, lt)) ∙ ap Some (get_or-map-range_with_len (cell_in_grid g) 0 n i i (cell_in_grid g i) lt e)

-- a fragment of a cell
pub of_cell : (a : AcceptedValue) (f : FrameValue) (g : LeafGrid) (i : ℕ) (s : Sample) (c : GridCell) (quad : Quad) (x : Fragment) → IsLeafGrid a f g → i < (values_when g.prim.now.smooth g.grid).count
    → c ≡ grid_cell (leaf_in f g) (grid_value g.grid) i → seen_at f.camera s.time (cell_in_grid g i) ≡ Some quad → covers quad s.place ≡ Some x → IsOfCell a f s c quad x
of_cell a f g i s c quad x is lt same seen shows =
    subst (λ (k : GridCell). IsOfCell a f s k quad x) (sym same) (record {
      prim = g.prim.now;
      p = g.leaf.p;
      q = g.leaf.q;
      number = i;
      micropolygon = cell_in_grid g i;
      there = is.there;
      leaf = is.leaf;
      cell = ap (λ (v : GridValue). grid_cell (leaf_in f g) v i) (grid_is a f g is);
      is = ap (λ (ms : List Micropolygon). slice_get ms i) (sym (cells_are a f g is)) ∙ cell_at g i lt;
      seen = seen;
      shows = shows;
    })

-- ---- what covers a sample of one micropolygon
pub unseen_none : (v : View) (m : Micropolygon) (s : Sample) → seen_at v s.time m ≡ None → covering v (m ∷ []) s ≡ []
unfolding fragment_of
unseen_none v m s e = ap (λ o. cons_option (option_and_then (λ q. covers q s.place) o) []) e

pub uncovered_none : (v : View) (m : Micropolygon) (s : Sample) (q : Quad) → seen_at v s.time m ≡ Some q → covers q s.place ≡ None → covering v (m ∷ []) s ≡ []
unfolding fragment_of
uncovered_none v m s q e none = ap (λ o. cons_option (option_and_then (λ q. covers q s.place) o) []) e ∙ ap (λ o. cons_option o []) none

pub covered_one : (v : View) (m : Micropolygon) (s : Sample) (q : Quad) (x : Fragment) → seen_at v s.time m ≡ Some q → covers q s.place ≡ Some x → covering v (m ∷ []) s ≡ x ∷ []
unfolding fragment_of
covered_one v m s q x e some = ap (λ o. cons_option (option_and_then (λ q. covers q s.place) o) []) e ∙ ap (λ o. cons_option o []) some
