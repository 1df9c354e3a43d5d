-- What a frame shows: the micropolygons of its primitives, and its picture.
use Rattle.std.specs.Prelude.{◌≡◌, ℕ, ◌-◌, List, [], map, Option, Some, None, slice_get}
use Rattle.std.specs.List.{flat_map, enumerate_from}
use Rattle.outside.specs.Frames.{Picture}
use Rattle.fixed_math.specs.declared.vec3.Vec3.{Vec3}
use Rattle.patches.specs.Parts.{Part, whole_of}
use Rattle.patches.specs.Rects.{Rect}
use Rattle.patches.specs.Boxes.{Box}
use Rattle.quadrics.specs.declared.any_patch.AnyPatch.{AnyPatch}
use Rattle.quadrics.specs.AnyPatches.{patch_net, patch_width, patch_box}
use Rattle.moving.specs.MovingBoxes.{moving_box}
use Rattle.transforms.specs.declared.view.View.{View}
use Rattle.bound_split.specs.declared.splits.Decision.{Decision}
use Rattle.bound_split.specs.declared.splits.Decision.TheVariants.{SplitU, SplitV, Dice}
use Rattle.bound_split.specs.Decisions.{decision_of}
use Rattle.bound_split.specs.Leaves.{leaves}
use Rattle.scene.specs.Scene.{PrimValue, FrameValue, SceneValue}
use Rattle.scene.specs.Settings.{crop_of}
use Rattle.grid_variables.specs.Points.{Leaf}
use Rattle.grid_variables.specs.Closings.{closing_of}
use Rattle.displace_shade.specs.Shaded.{GridValue, shaded}
use Rattle.displace_shade.specs.Shop.{leaf_of}
use Rattle.hider.specs.Cells.{Micropolygon}
use Rattle.hider.specs.CellValues.{micropolygons_of as of_cells}
use Rattle.moving_cells.specs.MovingGrids.{moving_values}
use Rattle.hider.specs.Fragments.{fragments}
use Rattle.hider.specs.Composite.{composite}
use Rattle.shader_binding.specs.Sets.{AcceptedValue}
use Rattle.filter_ppm.specs.Levels.{header}
use Rattle.filter_ppm.specs.Film.{FilmValues, picture}

-- the split decision for a part of a primitive's patch
abbrev pub decide : View → PrimValue → Part → Decision
decide v p part = decision_of v p.rate p.bound (patch_width p.patch) (patch_net p.patch) part

-- the micropolygons of a shaded grid of a primitive: where its points have closing places they move there
abbrev pub grid_micropolygons : PrimValue → GridValue → Option (List Vec3) → List Micropolygon
grid_micropolygons prim g closing = of_cells (moving_values prim.smooth g.columns g.rows g.points g.colours g.opacities closing) prim.one_sided prim.flip

-- those of a leaf that is diced
unfoldable pub diced_micropolygons : AcceptedValue → Leaf → List Micropolygon
diced_micropolygons a l = let g = shaded l a.set a.scene.uses in grid_micropolygons l.prim g (closing_of l g.points)

abbrev pub micropolygons_by : AcceptedValue → FrameValue → PrimValue → Part → Decision → List Micropolygon
micropolygons_by a f prim part SplitU = []
micropolygons_by a f prim part SplitV = []
micropolygons_by a f prim part (Dice p q) = diced_micropolygons a (leaf_of f prim part p q)

-- the micropolygons of a leaf
unfoldable pub leaf_micropolygons : AcceptedValue → FrameValue → PrimValue → Part → List Micropolygon
leaf_micropolygons a f prim part = micropolygons_by a f prim part (decide f.camera prim part)

-- the box of a primitive's patch over a rectangle of parameters: where it moves, the least that holds the opening and the closing box
abbrev pub box_by : Option AnyPatch → AnyPatch → Rect → Box
box_by None patch r = patch_box patch r
box_by (Some closing) patch r = moving_box patch_box patch closing r

-- the box of a primitive over a rectangle of parameters, which holds where it is when the shutter opens and closes
abbrev pub prim_box : PrimValue → Rect → Box
prim_box prim r = box_by prim.closing prim.patch r

-- a leaf of a frame: a primitive, and a part of it that is diced
pub record FrameLeaf : Type 0 where
  pub prim : PrimValue
  pub part : Part

abbrev pub leaf_in : PrimValue → Part → FrameLeaf
leaf_in prim part = record { prim = prim; part = part }

-- the leaves of primitive n of a frame
abbrev pub prim_leaves : FrameValue → ℕ → PrimValue → List FrameLeaf
prim_leaves f n prim = map (leaf_in prim) (leaves (decide f.camera prim) (whole_of n))

-- those of its primitives from number n on, one primitive after another, and those of all of them
abbrev pub leaves_from : FrameValue → ℕ → List PrimValue → List FrameLeaf
leaves_from f n prims = flat_map (λ np. prim_leaves f np.0 np.1) (enumerate_from n prims)

-- the leaves of all primitives of a frame, in the order of the scene
abbrev pub frame_leaves : FrameValue → List FrameLeaf
frame_leaves f = leaves_from f 0 f.prims

-- the micropolygons of some leaves of a frame, one leaf after another, and those of all of them
abbrev pub micropolygons_of : AcceptedValue → FrameValue → List FrameLeaf → List Micropolygon
micropolygons_of a f xs = flat_map (λ x. leaf_micropolygons a f x.prim x.part) xs

-- all micropolygons of a frame, in the order of the scene
unfoldable pub micropolygons : AcceptedValue → FrameValue → List Micropolygon
micropolygons a f = micropolygons_of a f (frame_leaves f)

-- each sample has the composite of all micropolygons that cover it
abbrev pub film_of : AcceptedValue → FrameValue → FilmValues
film_of a f = record {
  width = f.camera.width;
  height = f.camera.height;
  options = f.options;
  colour = λ s. composite (fragments f.camera (micropolygons a f) s);
}

-- the header of its picture, and all of it
abbrev pub header_of : FrameValue → List ℕ
header_of f = header ((crop_of f.options).right - (crop_of f.options).left) ((crop_of f.options).bottom - (crop_of f.options).top) f.options

-- the bytes of a frame's picture
unfoldable pub picture_bytes : AcceptedValue → FrameValue → List ℕ
picture_bytes a f = picture (film_of a f)

-- the picture with the frame's name
abbrev pub picture_of : AcceptedValue → FrameValue → Picture
picture_of a f = record { name = f.name; bytes = picture_bytes a f }

-- f is the frame of that number of a scene
abbrev pub HasFrame : SceneValue → ℕ → FrameValue → Type 0
HasFrame s n f = slice_get s.frames n ≡ Some f
