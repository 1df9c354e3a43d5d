-- Four texels around a place of a level.
use Rattle.std.specs.Prelude.{ℕ, ◌+◌, ◌*◌, ◌≤◌, ◌<◌, ◌/◌, ◌%◌, ◌^◌, pos, List, get_or, Option, Some, None, ◌≡◌}
use Rattle.fixed_math.specs.declared.vec3.Vec3.{Vec3}
use Rattle.texture.specs.declared.look.Spot.{Spot}
use Rattle.texture.specs.declared.look.Around.{Around}
use Rattle.texture.specs.declared.look.Corners.{Corners}
use Rattle.texture.specs.declared.texel.Texel.{Texel}
use Rattle.texture.specs.Images.{Image}
use Rattle.texture.specs.Pyramid.{side_at}
use Rattle.texture.specs.declared.look.Tile.{Tile}
use Rattle.texture.specs.Looks.{blend_all, mixed}
use Rattle.texture.specs.Slots.{tile_at}

-- both texels of a spot stand in a row of so many, at most 2,048
pub record IsSpot (side : ℕ) (s : Spot) : Type 0 where
  pub first : s.first < side
  pub second : s.second < side
  pub first_most : s.first < 2048
  pub second_most : s.second < 2048
  pub rest : s.rest < 65536

-- all four stand in their level of the image
pub record IsAround (p : Image) (a : Around) : Type 0 where
  pub level : a.level ≤ 11
  pub across : IsSpot (side_at p.width (2 ^ a.level)) a.across
  pub up : IsSpot (side_at p.height (2 ^ a.level)) a.up

-- a texel of the level that a tile of the image is of, in that tile
pub record IsTexel (p : Image) (k : Tile) (x y : ℕ) : Type 0 where
  pub column : x < side_at p.width (2 ^ k.level)
  pub row : y < side_at p.height (2 ^ k.level)
  pub column_most : x ≤ 2048
  pub row_most : y ≤ 2048
  pub across : x / 32 ≡ k.column
  pub up : y / 32 ≡ k.row

-- one tile has all four
pub record IsInOneTile (a : Around) : Type 0 where
  pub columns : a.across.second / 32 ≡ a.across.first / 32
  pub rows : a.up.second / 32 ≡ a.up.first / 32

-- the place of a texel among those of its tile, by rows
abbrev pub place_in : ℕ → ℕ → ℕ
place_in x y = y % 32 * 32 + x % 32

-- the tile of the first
abbrev pub first_tile : Around → Tile
first_tile a = tile_at a.which a.level a.across.first a.up.first

-- the mix of four colours that stand there
abbrev pub mixed_of : Around → Vec3 → Vec3 → Vec3 → Vec3 → Vec3
mixed_of a left right below_left below_right =
    blend_all (blend_all left right (pos a.across.rest)) (blend_all below_left below_right (pos a.across.rest)) (pos a.up.rest)

-- the mix of the four
abbrev pub mixed_at : Image → Around → Vec3
mixed_at p a = mixed p a.level a.across.first a.across.second a.up.first a.up.second (pos a.across.rest) (pos a.up.rest)

-- these texels stand at the four places among those of a tile, by rows
pub record AreKnown (xs : List (Option Texel)) (a : Around) (c : Corners) : Type 0 where
  pub left : get_or xs (place_in a.across.first a.up.first) None ≡ Some c.left
  pub right : get_or xs (place_in a.across.second a.up.first) None ≡ Some c.right
  pub below_left : get_or xs (place_in a.across.first a.up.second) None ≡ Some c.below_left
  pub below_right : get_or xs (place_in a.across.second a.up.second) None ≡ Some c.below_right
