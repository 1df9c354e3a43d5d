-- Whether a part of a patch is split, and along which parameter, or diced, and how finely
-- (Cook, Carpenter and Catmull 1987, "bound and split").
use Rattle.std.specs.Prelude.{◌≡◌, refl, ℕ, ◌*◌, ◌/◌, ◌^◌, ◌≤◌, ◌<◌, max, ℤ, pos, ◌+ℤ◌, ◌-ℤ◌, nat_abs, int_lt, nat_le, nat_lt, Bool, true, false, ◌&&◌, if◌then◌else◌, Option, Some, None, unwrap_or, List, [], ◌∷◌, map, find}
use Rattle.fixed_math.specs.declared.vec3.Vec3.{Vec3}
use Rattle.fixed_math.specs.declared.vec3.Axis.TheVariants.{Z}
use Rattle.fixed_math.specs.Axes.{least, greatest}
use Rattle.fixed_math.specs.Fixed.{sqrt}
use Rattle.fixed_math.specs.Root.{isqrt, isqrt_from}
use Rattle.patches.specs.Parts.{Part, rect_of}
use Rattle.patches.specs.Rects.{Rect}
use Rattle.transforms.specs.declared.view.View.{View}
use Rattle.bound_split.specs.Lengths.{place_of, rows_length, columns_length}
use Rattle.bound_split.specs.declared.splits.Decision.{Decision}
use Rattle.bound_split.specs.declared.splits.Decision.TheVariants.{SplitU, SplitV, Dice}

-- the side of a cell of the shading rate, a raw of square pixels, in 1/256 pixel and rounded down: at least 1/16 pixel
unfoldable pub cell_side : ℤ → ℕ
cell_side rate = max 16 (nat_abs (sqrt rate) / 256)

-- the least p of 0 to 4 at which 2 ^ p cells with this side are as long as the length
unfoldable pub grid_size : ℕ → ℕ → Option ℕ
grid_size side l = find (λ p. nat_le l (side * 2 ^ p)) (0 ∷ 1 ∷ 2 ∷ 3 ∷ 4 ∷ [])

-- a parameter that is halved a times wants a split where it has no size and a is below 8
abbrev pub wants : Option ℕ → ℕ → Bool
wants (Some p) a = false
wants None a = nat_lt a 8

-- the parameter that wants a split is split, the longer one where both do; else the answer is the dicing
abbrev pub by_wants : Bool → Bool → Bool → Decision → Decision
by_wants true true u_longer dice = if u_longer then SplitU else SplitV
by_wants true false u_longer dice = SplitU
by_wants false true u_longer dice = SplitV
by_wants false false u_longer dice = dice

-- by the lengths along u and v, of a part that is halved a times along u and b times along v: where no split is wanted, the
-- two sizes, and 4 for one that is missing
unfoldable pub by_lengths : ℕ → ℕ → ℕ → ℕ → ℕ → Decision
by_lengths side a b along_u along_v =
    let p = grid_size side along_u in
    let q = grid_size side along_v in
    by_wants (wants p a) (wants q b) (nat_le along_v along_u) (Dice (unwrap_or p 4) (unwrap_or q 4))

-- splits by turns, u first, until both parameters are halved 8 times
abbrev pub by_turns : ℕ → ℕ → Decision
by_turns a b = if nat_le a b && nat_lt a 8 then SplitU else (if nat_lt b 8 then SplitV else Dice 2 2)

-- of a part with this net, in rows of w, that is halved a and b times and that displacement moves by at most the bound: a part
-- that stays before the near plane is one cell, one that may lie before it in part is split by turns, and any other goes by the
-- lengths of its net's rows and columns on the raster
unfoldable pub decision : View → ℤ → ℤ → ℕ → List Vec3 → ℕ → ℕ → Decision
decision v rate bound w net a b =
    let places = map (place_of v) net in
    if int_lt (greatest Z net +ℤ bound) v.near then Dice 0 0
    else (if int_lt (least Z net -ℤ bound) v.near then by_turns a b
    else by_lengths (cell_side rate) a b (rows_length w places) (columns_length w places))

-- the decision of a part of a surface that has these nets, in rows of w
abbrev pub decision_of : View → ℤ → ℤ → ℕ → (Rect → List Vec3) → Part → Decision
decision_of v rate bound w net p = decision v rate bound w (net (rect_of p)) p.a p.b

-- a split is decided only of a parameter that is halved less than 8 times, and a size is at most 4
abbrev pub FitsPart : Decision → Part → Type 0
FitsPart SplitU part = part.a < 8
FitsPart SplitV part = part.b < 8
FitsPart (Dice p q) part = (p ≤ 4) × (q ≤ 4)

-- worked values
side_of_one : cell_side (pos 65536) ≡ 256
unfolding cell_side isqrt isqrt_from
side_of_one = refl

side_at_least : cell_side (pos 0) ≡ 16
unfolding cell_side isqrt isqrt_from
side_at_least = refl

size_at_edge : grid_size 256 4096 ≡ Some 4
unfolding grid_size
size_at_edge = refl

size_past_edge : grid_size 256 4097 ≡ None
unfolding grid_size
size_past_edge = refl

split_equal : by_lengths 256 7 7 5000 5000 ≡ SplitU
unfolding by_lengths grid_size
split_equal = refl

split_longer : by_lengths 256 7 7 5000 5001 ≡ SplitV
unfolding by_lengths grid_size
split_longer = refl

split_other : by_lengths 256 8 7 5001 5000 ≡ SplitV
unfolding by_lengths grid_size
split_other = refl

split_none : by_lengths 256 8 8 5001 100 ≡ Dice 4 0
unfolding by_lengths grid_size
split_none = refl

turns_u : by_turns 0 0 ≡ SplitU
turns_u = refl

turns_v : by_turns 1 0 ≡ SplitV
turns_v = refl

turns_end : by_turns 8 8 ≡ Dice 2 2
turns_end = refl
