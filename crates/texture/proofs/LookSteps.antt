-- A look-up by its steps.
use Rattle.std.proofs.Common.{◌≡◌, ◌∙◌, ap, refl, sym, subst, ℕ, ◌^◌, ◌/◌, ◌<◌, ℤ, pos, ◌+ℤ◌, List, arith}
use Rattle.std.specs.Prelude.{Option, Some}
use Rattle.std.proofs.lemmas.List.{set-set}
use Rattle.fixed_math.specs.declared.vec3.Vec3.{Vec3}
use Rattle.texture.specs.declared.look.Tile.{Tile}
use Rattle.texture.specs.Images.{Image}
use Rattle.texture.specs.Pyramid.{side_at, texel}
use Rattle.texture.specs.declared.look.Around.{Around}
use Rattle.texture.specs.declared.look.Corners.{Corners}
use Rattle.texture.specs.declared.texel.Texel.{Texel}
use Rattle.texture.specs.Around.{IsTexel, IsInOneTile, AreKnown, first_tile, mixed_of, mixed_at}
use Rattle.texture.specs.Looks.{colour_of, place_of, rest_of, put_into, mixed, look_of}
use Rattle.texture.specs.Slots.{AreOf, put, put_four, slot_of, tile_at, slots_after}
use Rattle.texture.proofs.Filled.{known_texel}

module _ (p : Image) (a : Around) (k : Tile) (is : k ≡ first_tile a) where
  -- each of the four texels, in the tile of the first
  pub is_texel : (x y : ℕ) → x < side_at p.width (2 ^ a.level) → y < side_at p.height (2 ^ a.level) → x < 2048 → y < 2048 → x / 32 ≡ a.across.first / 32 → y / 32 ≡ a.up.first / 32 → IsTexel p k x y
  is_texel x y hx hy mx my ex ey = subst (λ k. IsTexel p k x y) (sym is) (record { column = hx; row = hy; column_most = omega (arith, mx); row_most = omega (arith, my); across = ex; up = ey })

  pub mixed_through : (m n o q r : Vec3) → m ≡ texel p k.level a.across.first a.up.first → n ≡ texel p k.level a.across.second a.up.first → o ≡ texel p k.level a.across.first a.up.second →
      q ≡ texel p k.level a.across.second a.up.second → r ≡ mixed_of a m n o q → r ≡ mixed_at p a
  mixed_through m n o q r em en eo eq er =
      let at : ℕ → ℕ → Vec3 = λ x y. texel p a.level x y in
      let l : k.level ≡ a.level = ap (λ (k : Tile). k.level) is in
      let here : (x y : ℕ) → texel p k.level x y ≡ at x y = λ x y. ap (λ l. texel p l x y) l in
      let x = a.across.first in
      let xx = a.across.second in
      let y = a.up.first in
      let yy = a.up.second in
      er ∙ ap (λ z. mixed_of a z n o q) (em ∙ here x y) ∙ ap (λ z. mixed_of a (at x y) z o q) (en ∙ here xx y)
      ∙ ap (λ z. mixed_of a (at x y) (at xx y) z q) (eo ∙ here x yy) ∙ ap (λ z. mixed_of a (at x y) (at xx y) (at x yy) z) (eq ∙ here xx yy)

pub look_through : (p : Image) (l : ℕ) (s t : ℤ) (w h x xx y yy : ℕ) (f g : ℤ) (r : Vec3) →
    w ≡ side_at p.width (2 ^ l) → h ≡ side_at p.height (2 ^ l) →
    x ≡ put_into (place_of s w) w → xx ≡ put_into (place_of s w +ℤ pos 1) w → y ≡ put_into (place_of t h) h → yy ≡ put_into (place_of t h +ℤ pos 1) h →
    f ≡ rest_of s w → g ≡ rest_of t h → r ≡ mixed p l x xx y yy f g → r ≡ look_of p l s t
unfolding look_of
look_through p l s t w h x xx y yy f g r ew eh ex exx ey eyy ef eg er =
    let H : ℕ → ℕ → Vec3 = λ w h. mixed p l (put_into (place_of s w) w) (put_into (place_of s w +ℤ pos 1) w) (put_into (place_of t h) h) (put_into (place_of t h +ℤ pos 1) h) (rest_of s w) (rest_of t h) in
    er ∙ ap (λ q. mixed p l q xx y yy f g) ex ∙ ap (λ q. mixed p l (put_into (place_of s w) w) q y yy f g) exx
    ∙ ap (λ q. mixed p l (put_into (place_of s w) w) (put_into (place_of s w +ℤ pos 1) w) q yy f g) ey
    ∙ ap (λ q. mixed p l (put_into (place_of s w) w) (put_into (place_of s w +ℤ pos 1) w) (put_into (place_of t h) h) q f g) eyy
    ∙ ap (λ q. mixed p l (put_into (place_of s w) w) (put_into (place_of s w +ℤ pos 1) w) (put_into (place_of t h) h) (put_into (place_of t h +ℤ pos 1) h) q g) ef
    ∙ ap (λ q. mixed p l (put_into (place_of s w) w) (put_into (place_of s w +ℤ pos 1) w) (put_into (place_of t h) h) (put_into (place_of t h +ℤ pos 1) h) (rest_of s w) q) eg
    ∙ ap (λ q. H q h) ew ∙ ap (λ q. H (side_at p.width (2 ^ l)) q) eh

pub slots_through : (ss : List (Option Tile)) (which : ℕ) (p : Image) (l : ℕ) (s t : ℤ) (w h x xx y yy : ℕ) (r : List (Option Tile)) →
    w ≡ side_at p.width (2 ^ l) → h ≡ side_at p.height (2 ^ l) →
    x ≡ put_into (place_of s w) w → xx ≡ put_into (place_of s w +ℤ pos 1) w → y ≡ put_into (place_of t h) h → yy ≡ put_into (place_of t h +ℤ pos 1) h →
    r ≡ put_four ss which l x xx y yy → r ≡ slots_after ss which p l s t
unfolding slots_after
slots_through ss which p l s t w h x xx y yy r ew eh ex exx ey eyy er =
    let H : ℕ → ℕ → List (Option Tile) = λ w h. put_four ss which l (put_into (place_of s w) w) (put_into (place_of s w +ℤ pos 1) w) (put_into (place_of t h) h) (put_into (place_of t h +ℤ pos 1) h) in
    er ∙ ap (λ q. put_four ss which l q xx y yy) ex ∙ ap (λ q. put_four ss which l (put_into (place_of s w) w) q y yy) exx
    ∙ ap (λ q. put_four ss which l (put_into (place_of s w) w) (put_into (place_of s w +ℤ pos 1) w) q yy) ey
    ∙ ap (λ q. put_four ss which l (put_into (place_of s w) w) (put_into (place_of s w +ℤ pos 1) w) (put_into (place_of t h) h) q) eyy
    ∙ ap (λ q. H q h) ew ∙ ap (λ q. H (side_at p.width (2 ^ l)) q) eh

-- a tile that is put into its slot once more
put_again : (ss : List (Option Tile)) (k : Tile) → put (put ss k) k ≡ put ss k
put_again ss k = set-set ss (slot_of k) (Some k) (Some k)

-- four texels of one tile
pub put_one : (ss : List (Option Tile)) (which l x xx y yy : ℕ) → xx / 32 ≡ x / 32 → yy / 32 ≡ y / 32 → put_four ss which l x xx y yy ≡ put ss (tile_at which l x y)
put_one ss which l x xx y yy ex ey =
    let k = tile_at which l x y in
    let b : tile_at which l xx y ≡ k = ap {B = Tile} (λ n. record { which = which; level = l; column = n; row = y / 32 }) ex in
    let c : tile_at which l x yy ≡ k = ap {B = Tile} (λ n. record { which = which; level = l; column = x / 32; row = n }) ey in
    let d : tile_at which l xx yy ≡ k = ap {B = Tile} (λ n. record { which = which; level = l; column = n; row = yy / 32 }) ex ∙ c in
    ap (λ q. put (put (put (put ss k) q) (tile_at which l x yy)) (tile_at which l xx yy)) b
    ∙ ap (λ q. put (put (put (put ss k) k) q) (tile_at which l xx yy)) c
    ∙ ap (λ q. put (put (put (put ss k) k) k) q) d
    ∙ put_again (put (put ss k) k) k ∙ put_again (put ss k) k ∙ put_again ss k

-- the mix of four texels of one tile that are known
pub known_mixed : (p : Image) (a : Around) (xs : List (Option Texel)) (c : Corners) (r : Vec3) → IsInOneTile a → AreOf p (first_tile a) xs → AreKnown xs a c →
    r ≡ mixed_of a (colour_of c.left) (colour_of c.right) (colour_of c.below_left) (colour_of c.below_right) → r ≡ mixed_at p a
known_mixed p a xs c r one of known e =
    let k = first_tile a in
    let x = a.across.first in
    let xx = a.across.second in
    let y = a.up.first in
    let yy = a.up.second in
    mixed_through p a k refl (colour_of c.left) (colour_of c.right) (colour_of c.below_left) (colour_of c.below_right) r
    (known_texel p k x y xs c.left of refl refl known.left) (known_texel p k xx y xs c.right of one.columns refl known.right)
    (known_texel p k x yy xs c.below_left of refl one.rows known.below_left) (known_texel p k xx yy xs c.below_right of one.columns one.rows known.below_right) e
