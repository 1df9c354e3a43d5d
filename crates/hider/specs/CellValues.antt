-- Micropolygons that are given by what can be asked of them: their corners at each time, and the colours and opacities of these.
use Rattle.std.specs.Prelude.{ℕ, zero, suc, ◌+◌, ◌-◌, ◌*◌, ◌<◌, ◌≤◌, ℤ, ◌≤ℤ◌, ◌≡◌, refl, Bool, true, false, List, [], ◌∷◌, map, slice_index_or}
use Rattle.std.specs.Int.{int_min, int_max}
use Rattle.std.specs.List.{range_with_len}
use Rattle.std.proofs.Common.{arith}
use Rattle.std.proofs.lemmas.Int.{ints, int_min_is, int_max_is}
use Rattle.fixed_math.specs.declared.vec3.Vec3.{Vec3}
use Rattle.fixed_math.specs.declared.vec3.Axis.{Axis}
use Rattle.fixed_math.specs.Axes.{part_of, origin}
use Rattle.dice.specs.declared.diced.GridRef.{GridRef}
use Rattle.hider.specs.declared.cell.CellCorner.{CellCorner}
use Rattle.hider.specs.declared.cell.Cell.{Cell}
use Rattle.hider.specs.Cells.{Micropolygon, first_corner, shade_point}

-- so many cells, each with corner k at each time, and with a colour and an opacity of corner k
pub record CellValues : Type 0 where
  pub count : ℕ
  pub corner : ℕ → ℕ → ℕ → Vec3
  pub colour : ℕ → ℕ → Vec3
  pub opacity : ℕ → ℕ → Vec3

-- corner k of cell i at a time
abbrev pub corner_when : CellValues → ℕ → ℕ → ℕ → CellCorner
corner_when v i t k = record { point = v.corner i k t; colour = v.colour i k; opacity = v.opacity i k }

-- cell i at a time
unfoldable pub cell_when : CellValues → ℕ → ℕ → Cell
cell_when v i t = record { a = corner_when v i t 0; b = corner_when v i t 1; c = corner_when v i t 2; d = corner_when v i t 3 }

-- cell i as a micropolygon
abbrev pub micropolygon_of : CellValues → Bool → Bool → ℕ → Micropolygon
micropolygon_of v one_sided flip i = record { corners = cell_when v i; one_sided = one_sided; flip = flip }

-- all of them, in order
abbrev pub micropolygons_of : CellValues → Bool → Bool → List Micropolygon
micropolygons_of v one_sided flip = map (micropolygon_of v one_sided flip) (range_with_len 0 v.count)

-- z lies between two numbers, whichever is less
abbrev pub LiesBetween : ℤ → ℤ → ℤ → Type 0
LiesBetween x y z = (int_min x y ≤ℤ z) × (z ≤ℤ int_max x y)

-- each coordinate of a corner lies at any time between those when the shutter opens and when it closes
abbrev pub MovesBetween : CellValues → Type 0
MovesBetween v = (i k t : ℕ) (a : Axis) → i < v.count → k < 4 → t ≤ 65535 → LiesBetween (part_of a (v.corner i k 0)) (part_of a (v.corner i k 65535)) (part_of a (v.corner i k t))

-- the four corners of cell i at a time
abbrev pub corners_when : CellValues → ℕ → ℕ → List Vec3
corners_when v i t = v.corner i 0 t ∷ v.corner i 1 t ∷ v.corner i 2 t ∷ v.corner i 3 t ∷ []

-- the number of corner k of a cell of a grid, whose first corner is point n
abbrev pub corner_number : ℕ → ℕ → ℕ → ℕ
corner_number columns n zero = n
corner_number columns n (suc zero) = n + 1
corner_number columns n (suc (suc zero)) = n + columns + 1
corner_number columns n (suc (suc (suc k))) = n + columns

-- the number of the point whose colour and opacity corner k of cell i has
abbrev pub shade_number : Bool → ℕ → ℕ → ℕ → ℕ
shade_number smooth columns i k = shade_point smooth (first_corner columns i) (corner_number columns (first_corner columns i) k)

-- the cells of a grid that doesn't move: of one colour and opacity each, or such that these vary over it
abbrev pub grid_values : Bool → ℕ → ℕ → List Vec3 → List Vec3 → List Vec3 → CellValues
grid_values smooth columns rows points colours opacities = record {
  count = (columns - 1) * (rows - 1);
  corner = λ i k t. slice_index_or points (corner_number columns (first_corner columns i) k) origin;
  colour = λ i k. slice_index_or colours (shade_number smooth columns i k) origin;
  opacity = λ i k. slice_index_or opacities (shade_number smooth columns i k) origin;
}

-- the cells of a grid that stays
abbrev pub values_of : Bool → GridRef → CellValues
values_of smooth g = grid_values smooth g.columns g.rows g.p.now g.ci.now g.oi.now

-- what stays lies between its two ends
pub stays_between : (z : ℤ) → LiesBetween z z z
stays_between z =
    let l = int_min_is z z in
    let g = int_max_is z z in
    (omega (arith, ints, l), omega (arith, ints, g))

-- worked values: a grid of three columns has the second cell's corners at points 1, 2, 5 and 4
third_corner : corner_number 3 (first_corner 3 1) 2 ≡ 5
third_corner = refl

-- its third corner has the colour of point 1, or where that varies, of point 5
of_the_first : shade_number false 3 1 2 ≡ 1
of_the_first = refl

of_its_own : shade_number true 3 1 2 ≡ 5
of_its_own = refl
