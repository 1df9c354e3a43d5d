-- Worked values: the decisions and leaves of two squares, at the shading rate 1 in a view of 17 by 17 pixels.
use Rattle.std.specs.Prelude.{◌≡◌, refl, ℤ, pos, neg_ℤ, List, [], ◌∷◌, Option, Some, None}
use Rattle.fixed_math.specs.declared.vec3.Vec3.{Vec3}
use Rattle.fixed_math.specs.Blossom.{blossom}
use Rattle.fixed_math.specs.Root.{isqrt, isqrt_from}
use Rattle.patches.specs.Parts.{Part, whole_of, low_u, high_u, low_v, high_v}
use Rattle.patches.specs.Nets.{bilinear_net}
use Rattle.transforms.specs.declared.view.View.{View}
use Rattle.bound_split.specs.Lengths.{place_of, sum_below, most_below, line_length, rows_length, columns_length}
use Rattle.bound_split.specs.Decisions.{cell_side, grid_size, by_lengths, decision, decision_of}
use Rattle.bound_split.specs.Leaves.{leaves_to}
use Rattle.bound_split.specs.declared.splits.Decision.{Decision}
use Rattle.bound_split.specs.declared.splits.Decision.TheVariants.{SplitU, SplitV, Dice}

abbrev one : ℤ
one = pos 65536

abbrev minus_one : ℤ
minus_one = neg_ℤ (pos 65536)

-- the window from -1 to 1 both ways, seen from depth 1 / 65536 on
abbrev view_by : Option ℤ → View
view_by fov = record { fov = fov; window = minus_one ∷ one ∷ minus_one ∷ one ∷ []; width = 17; height = 17; near = pos 1; far = pos 2147418112 }

-- the square from -1 to 1 both ways whose lower side is at the first depth and whose upper side is at the second
abbrev square : ℤ → ℤ → List Vec3
square low high =
    record { x = minus_one; y = minus_one; z = low } ∷ record { x = one; y = minus_one; z = low } ∷
    record { x = minus_one; y = one; z = high } ∷ record { x = one; y = one; z = high } ∷ []

-- the square at depth 1 fills the window of an orthographic view: 4352 long both ways, and 4096 is the most that is diced
abbrev decide_flat : Part → Decision
decide_flat = decision_of (view_by None) one (pos 0) 2 (bilinear_net (square one one))

flat_whole : decide_flat (whole_of 0) ≡ SplitU
unfolding decision by_lengths grid_size cell_side isqrt isqrt_from rows_length columns_length line_length most_below sum_below place_of blossom
flat_whole = refl

flat_half : decide_flat (low_u (whole_of 0)) ≡ SplitV
unfolding decision by_lengths grid_size cell_side isqrt isqrt_from rows_length columns_length line_length most_below sum_below place_of blossom
flat_half = refl

flat_quarter : decide_flat (low_v (low_u (whole_of 0))) ≡ Dice 4 4
unfolding decision by_lengths grid_size cell_side isqrt isqrt_from rows_length columns_length line_length most_below sum_below place_of blossom
flat_quarter = refl

-- the four quarters are the leaves
flat_leaves : leaves_to 2 decide_flat (whole_of 0) ≡
    low_v (low_u (whole_of 0)) ∷ high_v (low_u (whole_of 0)) ∷ low_v (high_u (whole_of 0)) ∷ high_v (high_u (whole_of 0)) ∷ []
unfolding leaves_to decision by_lengths grid_size cell_side isqrt isqrt_from rows_length columns_length line_length most_below sum_below place_of blossom
flat_leaves = refl

-- the square from depth -1 to depth 1 crosses the near plane, here in perspective of 90 degrees
abbrev decide_steep : Part → Decision
decide_steep = decision_of (view_by (Some (pos 5898240))) one (pos 0) 2 (bilinear_net (square minus_one one))

steep_whole : decide_steep (whole_of 0) ≡ SplitU
unfolding decision blossom
steep_whole = refl

steep_half : decide_steep (low_u (whole_of 0)) ≡ SplitV
unfolding decision blossom
steep_half = refl

-- its nearer half ends at depth 0, before the near plane
steep_before : decide_steep (low_v (low_u (whole_of 0))) ≡ Dice 0 0
unfolding decision blossom
steep_before = refl

-- the half from depth 0 on goes on by turns
steep_behind : decide_steep (high_v (low_u (whole_of 0))) ≡ SplitU
unfolding decision blossom
steep_behind = refl
