-- The slots of a cache of tiles.
use Rattle.std.specs.Prelude.{ℕ, ◌+◌, ◌*◌, ◌/◌, ◌%◌, ◌^◌, ℤ, pos, ◌+ℤ◌, List, [], ◌∷◌, length, get_or, map, slice_set, Option, Some, None, ◌≡◌, ◌≢◌, refl}
use Rattle.fixed_math.specs.Hash.{hash32}
use Rattle.texture.specs.declared.texel.Texel.{Texel}
use Rattle.texture.specs.declared.look.Tile.{Tile}
use Rattle.texture.specs.Images.{Image}
use Rattle.texture.specs.Pyramid.{side_at, texel, four}
use Rattle.texture.specs.Looks.{colour_of, place_of, put_into}

-- a slot: none or a tile, and by rows those of its texels that are known
pub record Held : Type 0 where
  pub tile : Option Tile
  pub texels : List (Option Texel)

-- a cache: the images of its textures, and the tiles of its slots
pub record Kept : Type 0 where
  pub textures : List Image
  pub slots : List (Option Tile)

abbrev pub no_image : Image
no_image = record { width = 1; height = 1; most = 1; samples = [] }

-- the slot of a tile, by its hash
abbrev pub slot_of : Tile → ℕ
slot_of k = hash32 (k.which ∷ k.level ∷ k.column ∷ k.row ∷ []) % 256

-- those that are known are the tile's texels, by rows
abbrev pub AreOf : Image → Tile → List (Option Texel) → Type 0
AreOf p k xs = (i : ℕ) (t : Texel) → get_or xs i None ≡ Some t → colour_of t ≡ texel p k.level (k.column * 32 + i % 32) (k.row * 32 + i / 32)

-- a tile stands in its own slot, with texels of that tile of that texture
pub record IsKept (ps : List Image) (i : ℕ) (h : Held) : Type 0 where
  pub own : (k : Tile) → h.tile ≡ Some k → i ≡ slot_of k
  pub texels : (k : Tile) → h.tile ≡ Some k → AreOf (get_or ps k.which no_image) k h.texels

abbrev pub empty : Held
empty = record { tile = None; texels = [] }

-- 256 slots, each empty or with the tile that belongs there
pub record AreKept (ps : List Image) (hs : List Held) : Type 0 where
  pub size : length hs ≡ 256
  pub each : (i : ℕ) → IsKept ps i (get_or hs i empty)

-- which tiles the slots hold
abbrev pub keys_of : List Held → List (Option Tile)
keys_of hs = map (λ (h : Held). h.tile) hs

-- the slots after a tile is put into its own
abbrev pub put : List (Option Tile) → Tile → List (Option Tile)
put ss k = slice_set ss (slot_of k) (Some k)

-- a tile of an image was put into its slot, of which some texels are known then
pub record IsBrought (p : Image) (k : Tile) (place : ℕ) (old new : List Held) : Type 0 where
  pub size : length new ≡ length old
  pub keys : keys_of new ≡ put (keys_of old) k
  pub tile : (get_or new place empty).tile ≡ Some k
  pub texels : AreOf p k (get_or new place empty).texels
  pub rest : (i : ℕ) → i ≢ place → get_or new i empty ≡ get_or old i empty

-- the tile of a texel
abbrev pub tile_at : ℕ → ℕ → ℕ → ℕ → Tile
tile_at which l x y = record { which = which; level = l; column = x / 32; row = y / 32 }

-- the slots after the tiles of four texels were put into theirs
abbrev pub put_four : List (Option Tile) → ℕ → ℕ → ℕ → ℕ → ℕ → ℕ → List (Option Tile)
put_four ss which l x xx y yy = put (put (put (put ss (tile_at which l x y)) (tile_at which l xx y)) (tile_at which l x yy)) (tile_at which l xx yy)

-- the slots after a look-up, by its four texels
unfoldable pub slots_after : List (Option Tile) → ℕ → Image → ℕ → ℤ → ℤ → List (Option Tile)
slots_after ss which p l s t =
    let w = side_at p.width (2 ^ l) in
    let h = side_at p.height (2 ^ l) in
    let x = place_of s w in
    let y = place_of t h in
    put_four ss which l (put_into x w) (put_into (x +ℤ pos 1) w) (put_into y h) (put_into (y +ℤ pos 1) h)

-- 256 slots, each of them empty
pub record AreEmpty (ss : List (Option Tile)) : Type 0 where
  pub size : length ss ≡ 256
  pub each : (i : ℕ) → get_or ss i None ≡ None

-- n slots, each of them empty
pub record AreBare (n : ℕ) (hs : List Held) : Type 0 where
  pub size : length hs ≡ n
  pub each : (i : ℕ) → (get_or hs i empty).tile ≡ None

-- worked values: each look-up of four samples takes their one tile, which stands in the slot of its hash
tiles_of_four : slots_after (None ∷ []) 0 four 0 (pos 16384) (pos 16384) ≡ slots_after (None ∷ []) 0 four 0 (pos 65536) (pos 0)
unfolding slots_after
tiles_of_four = refl

slot_of_first : slot_of (tile_at 0 0 31 0) ≡ slot_of (tile_at 0 0 0 31)
slot_of_first = refl
