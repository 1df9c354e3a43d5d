-- Tiles: the samples of a rectangle of pixels, and what shows at each.
use Rattle.std.specs.Prelude.{ℕ, ◌*◌, ◌<◌, ◌≤◌, ℤ, ◌≡◌, ◌⊎◌, Bool, true, refl, ◌/◌, List, [], ◌∷◌, ◌++◌, slice_index_or, length, map}
use Rattle.fixed_math.specs.declared.vec3.Vec3.{Vec3}
use Rattle.fixed_math.specs.Spots.{PixelRect, Spot, pixel_count, pixel_x}
use Rattle.transforms.specs.declared.view.View.{View}
use Rattle.hider.specs.declared.fragment.Fragment.{Fragment}
use Rattle.hider.specs.declared.sample.Sample.{Sample}
use Rattle.hider.specs.declared.sample_grid.SampleGrid.{SampleGrid}
use Rattle.hider.specs.Cells.{Micropolygon, still, cells_of}
use Rattle.hider.specs.CellValues.{grid_values, micropolygons_of}
use Rattle.hider.specs.Composite.{cut}
use Rattle.hider.specs.Fragments.{covering, put_all, fragments, IsSorted}
use Rattle.hider.specs.Kept.{keep_all, blocks}
use Rattle.hider.specs.Samples.{sample_in}

-- ---- which samples
abbrev pub rect_of : SampleGrid → PixelRect
rect_of g = record { left = g.left; top = g.top; right = g.right; bottom = g.bottom }

-- how many samples a tile has
abbrev pub sample_count : SampleGrid → ℕ
sample_count g = pixel_count (rect_of g) * (g.xs * g.ys)

-- sample n of a tile, of which samples go pixel by pixel, by rows
abbrev pub sample_of : SampleGrid → ℕ → Sample
sample_of g n = sample_in g.xs g.ys (rect_of g) n

-- the samples of a rectangle given by its left, top, right and bottom, with xs by ys a pixel
abbrev pub grid_of : List ℕ → ℕ → ℕ → SampleGrid
grid_of r xs ys = record {
  left = slice_index_or r 0 0;
  top = slice_index_or r 1 0;
  right = slice_index_or r 2 0;
  bottom = slice_index_or r 3 0;
  xs = xs;
  ys = ys;
}

-- a rectangle of some pixels within 4096 by 4096, and 1 to 16 samples a pixel in each direction
pub record IsSampleGrid (g : SampleGrid) : Type 0 where
  pub across : g.left < g.right
  pub right : g.right ≤ 4096
  pub down : g.top < g.bottom
  pub bottom : g.bottom ≤ 4096
  pub some_xs : 1 ≤ g.xs
  pub most_xs : g.xs ≤ 16
  pub some_ys : 1 ≤ g.ys
  pub most_ys : g.ys ≤ 16

-- places are those of the samples, by number; there may be more
pub record ArePlacesOf (g : SampleGrid) (spots : List Spot) : Type 0 where
  pub enough : sample_count g ≤ length spots
  pub each : (n : ℕ) (d : Spot) → n < sample_count g → slice_index_or spots n d ≡ (sample_of g n).place

-- the times of the first samples
abbrev pub AreTimesOf : SampleGrid → List ℕ → Type 0
AreTimesOf g times = (n d : ℕ) → n < length times → n < sample_count g → slice_index_or times n d ≡ (sample_of g n).time

-- nothing shows
abbrev pub AreEmpty : List (List Fragment) → Type 0
AreEmpty lists = (n : ℕ) (d : List Fragment) → n < length lists → slice_index_or lists n d ≡ []

-- ---- a tile, as contracts see it: of each sample, by number, the fragments that it has
pub record TileValue : Type 0 where
  pub grid : SampleGrid
  pub lists : List (List Fragment)

-- the tile shows at each sample the fragments that f gives there, in order of depth: it has those that can show
pub record Shows (t : TileValue) (f : Sample → List Fragment) : Type 0 where
  pub sorted : (s : Sample) → IsSorted (f s)
  pub kept : (n : ℕ) (d : List Fragment) → n < sample_count t.grid → slice_index_or t.lists n d ≡ cut (f (sample_of t.grid n))

-- with the fragments of further micropolygons
abbrev pub with_covering : View → List Micropolygon → (Sample → List Fragment) → Sample → List Fragment
with_covering v ms f s = put_all (f s) (covering v ms s)

-- where it showed all fragments of any micropolygons and had ks hidden in it, it shows those of these and ns
abbrev pub GoesOn : View → TileValue → List Micropolygon → List Micropolygon → Type 0
GoesOn v t ks ns = (ms : List Micropolygon) → Shows t (with_covering v ks (fragments v ms)) → Shows t (fragments v (ms ++ ns))

-- the same of the cells of a grid, which stay where they are
abbrev pub HidesGrid : View → TileValue → Bool → Bool → Bool → ℕ → ℕ → List Vec3 → List Vec3 → List Vec3 → Type 0
HidesGrid v t smooth one_sided flip columns rows points colours opacities =
    GoesOn v t (micropolygons_of (grid_values smooth columns rows points colours opacities) one_sided flip) (map (still one_sided flip) (cells_of smooth columns rows points colours opacities))

-- at each sample an opaque fragment lies nearer than z
abbrev pub BlocksAll : ℤ → SampleGrid → (Sample → List Fragment) → Type 0
BlocksAll z g f = (n : ℕ) → n < sample_count g → blocks z (f (sample_of g n)) ≡ true

-- ---- what changes at samples
-- the fragments of a sample, with those that h gives there besides
abbrev pub HasPut : (Sample → List Fragment) → Sample → List Fragment → List Fragment → Type 0
HasPut h s old new = new ≡ keep_all old (h s)

-- so are those of each sample
abbrev pub HavePut : SampleGrid → (Sample → List Fragment) → List (List Fragment) → List (List Fragment) → Type 0
HavePut g h old new = (n : ℕ) (d : List Fragment) → n < sample_count g → HasPut h (sample_of g n) (slice_index_or old n d) (slice_index_or new n d)

-- so are those of each from number `from` to below `to`
abbrev pub HavePutBetween : ℕ → ℕ → SampleGrid → (Sample → List Fragment) → List (List Fragment) → List (List Fragment) → Type 0
HavePutBetween from to g h old new = (n : ℕ) (d : List Fragment) → from ≤ n → n < to → HasPut h (sample_of g n) (slice_index_or old n d) (slice_index_or new n d)

-- the others are as they were
abbrev pub HaveKept : ℕ → ℕ → List (List Fragment) → List (List Fragment) → Type 0
HaveKept from to old new = (n : ℕ) (d : List Fragment) → (n < from) ⊎ (to ≤ n) → slice_index_or new n d ≡ slice_index_or old n d

-- worked values: two by three pixels with two by two samples each; the last sample is in the last pixel
abbrev worked : SampleGrid
worked = grid_of (1 ∷ 2 ∷ 3 ∷ 5 ∷ []) 2 2

count_of_six : sample_count worked ≡ 24
count_of_six = refl

last_pixel : pixel_x (rect_of worked) (23 / 4) ≡ 2
last_pixel = refl
