-- Where a fragment comes from: the primitive, the cell of its grid with the four points, and what the camera sees of it.
use Rattle.std.specs.Prelude.{◌≡◌, ℕ, ◌-◌, ◌/◌, ◌%◌, List, [], ◌∷◌, Contains, map, is_some, Option, Some, None, option_map, slice_get, slice_index_or}
use Rattle.fixed_math.specs.Axes.{origin}
use Rattle.patches.specs.Parts.{Part, whole_of}
use Rattle.bound_split.specs.declared.splits.Decision.TheVariants.{Dice}
use Rattle.bound_split.specs.Leaves.{leaves}
use Rattle.scene.specs.Scene.{PrimValue, FrameValue}
use Rattle.scene.specs.declared.uses.ShaderUse.{ShaderUse}
use Rattle.shader_binding.specs.Sets.{AcceptedValue}
use Rattle.grid_variables.specs.Points.{Leaf, columns, rows, u_at, v_at}
use Rattle.displace_shade.specs.Shaded.{GridValue, shaded}
use Rattle.displace_shade.specs.Shop.{leaf_of}
use Rattle.hider.specs.declared.fragment.Fragment.{Fragment}
use Rattle.hider.specs.declared.quad.Quad.{Quad}
use Rattle.hider.specs.declared.sample.Sample.{Sample}
use Rattle.hider.specs.Cells.{Micropolygon, seen_at, first_corner}
use Rattle.hider.specs.CellValues.{corner_number}
use Rattle.hider.specs.Coverage.{covers}
use Rattle.buckets.specs.Pictures.{decide, leaf_micropolygons}
use Rattle.pixel_record.specs.declared.fragment.GridPoint.{GridPoint}
use Rattle.pixel_record.specs.declared.fragment.GridCell.{GridCell}
use Rattle.pixel_record.specs.declared.primitive.ShaderRequest.{ShaderRequest}
use Rattle.pixel_record.specs.declared.primitive.PrimitiveAccount.{PrimitiveAccount}

-- ---- the primitive
abbrev pub request_of : ShaderUse → ShaderRequest
request_of u = record { name = u.name; line = u.line }

-- the request at a place among a scene's, where there is a place
abbrev pub request_at : List ShaderUse → Option ℕ → Option ShaderRequest
request_at uses None = None
request_at uses (Some n) = option_map request_of (slice_get uses n)

-- what is told of primitive n of a frame of a scene with these uses
pub record IsPrimitive (uses : List ShaderUse) (prim : PrimValue) (n : ℕ) (p : PrimitiveAccount) : Type 0 where
  pub number : p.number ≡ n
  pub line : p.line ≡ prim.line
  pub place : p.place ≡ prim.place
  pub surface : Some p.surface ≡ request_at uses (Some prim.surface)
  pub displacement : p.displacement ≡ request_at uses prim.displacement
  pub atmosphere : p.atmosphere ≡ request_at uses prim.atmosphere
  pub rate : p.rate ≡ prim.rate
  pub bound : p.bound ≡ prim.bound
  pub one_sided : p.one_sided ≡ prim.one_sided
  pub flip : p.flip ≡ prim.flip
  pub smooth : p.smooth ≡ prim.smooth
  pub moves : p.moves ≡ is_some prim.closing

-- ---- the cell
-- point n of a leaf's shaded grid
abbrev pub grid_point : Leaf → GridValue → ℕ → GridPoint
grid_point l g n = record {
  point = slice_index_or g.points n origin;
  colour = slice_index_or g.colours n origin;
  opacity = slice_index_or g.opacities n origin;
  u = u_at l n;
  v = v_at l n;
}

-- the points at the corners of cell i, in turn
abbrev pub cell_points : Leaf → GridValue → ℕ → List GridPoint
cell_points l g i = map (λ k. grid_point l g (corner_number (columns l) (first_corner (columns l) i) k)) (0 ∷ 1 ∷ 2 ∷ 3 ∷ [])

-- cell i of the grid of a leaf, of which cells go by rows
abbrev pub grid_cell : Leaf → GridValue → ℕ → GridCell
grid_cell l g i = record {
  piece = l.part;
  columns = columns l - 1;
  rows = rows l - 1;
  column = i % (columns l - 1);
  row = i / (columns l - 1);
  points = cell_points l g i;
}

-- the part is a leaf of primitive n of a frame, cut into 2 ^ p by 2 ^ q cells
pub record IsLeaf (f : FrameValue) (prim : PrimValue) (n : ℕ) (part : Part) (p q : ℕ) : Type 0 where
  pub among : Contains (leaves (decide f.camera prim) (whole_of n)) part
  pub sizes : decide f.camera prim part ≡ Dice p q

-- the fragment is what a cell of a leaf of the frame shows at the sample, of which the camera sees this quad at the sample's time
pub record IsOfCell (a : AcceptedValue) (f : FrameValue) (s : Sample) (c : GridCell) (quad : Quad) (g : Fragment) : Type 0 where
  pub prim : PrimValue
  pub p : ℕ
  pub q : ℕ
  pub number : ℕ
  pub micropolygon : Micropolygon
  pub there : slice_get f.prims c.piece.prim ≡ Some prim
  pub leaf : IsLeaf f prim c.piece.prim c.piece p q
  pub cell : c ≡ (let l = leaf_of f prim c.piece p q in grid_cell l (shaded l a.set a.scene.uses) number)
  pub is : slice_get (leaf_micropolygons a f prim c.piece) number ≡ Some micropolygon
  pub seen : seen_at f.camera s.time micropolygon ≡ Some quad
  pub shows : covers quad s.place ≡ Some g
