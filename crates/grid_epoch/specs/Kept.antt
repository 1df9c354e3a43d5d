-- The grids that an epoch keeps.
use Rattle.std.specs.Prelude.{◌≡◌, refl, ℕ, ◌+◌, ◌*◌, ◌^◌, ◌<◌, ◌≤◌, Bool, true, false, ◌&&◌, ◌==◌, List, [], ◌∷◌, map, length}
use Rattle.std.specs.List.{zip, list_any}
use Rattle.patches.specs.Parts.{Part, whole_of, low_u}
use Rattle.hider.specs.declared.seen_grid.SeenGrid.{SeenGrid}

-- whether two parts are the same one
abbrev pub same_part : Part → Part → Bool
same_part a b = (a.prim == b.prim) && ((a.a == b.a) && ((a.i == b.i) && ((a.b == b.b) && (a.j == b.j))))

-- whether a part is one of a list
abbrev pub has : Part → List Part → Bool
has p ps = list_any (same_part p) ps

-- the pieces of kept grids, and the points of these grids in all
abbrev pub pieces_in : List (Part × SeenGrid) → List Part
pieces_in kept = map (λ k. k.0) kept

-- how many points grids have together
abbrev pub points_in : List (Part × SeenGrid) → ℕ
points_in [] = 0
points_in (k ∷ ks) = k.1.grid.columns * k.1.grid.rows + points_in ks

-- no part stands there twice
abbrev pub AreDistinct : List Part → Type 0
AreDistinct [] = Unit {0}
AreDistinct (p ∷ ps) = (has p ps ≡ false) × AreDistinct ps

-- an epoch: how many points it may keep, and the pieces with their grids
pub record EpochValue : Type 0 where
  pub limit : ℕ
  pub kept : List (Part × SeenGrid)

-- what holds of an epoch: no piece twice, and the points within its limit
pub record IsEpoch (limit live : ℕ) (pieces : List Part) (grids : List SeenGrid) : Type 0 where
  pub alike : length grids ≡ length pieces
  pub counted : live ≡ points_in (zip pieces grids)
  pub within : live ≤ limit
  pub small : limit < 2 ^ 64
  pub distinct : AreDistinct pieces

-- worked values
whole_is_there : has (whole_of 3) (low_u (whole_of 3) ∷ whole_of 3 ∷ []) ≡ true
whole_is_there = refl

other_primitive_is_not : has (whole_of 3) (low_u (whole_of 3) ∷ whole_of 2 ∷ []) ≡ false
other_primitive_is_not = refl
