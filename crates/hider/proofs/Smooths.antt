-- Micropolygons of a grid whose corners have colours and opacities of their own.
use Rattle.std.proofs.Common.{◌≡◌, ℕ, ◌+◌, ◌<◌, ap, refl, sym, ◌∙◌, true, List, length, slice_index_or}
use Rattle.std.proofs.lemmas.List.{get_or_read}
use Rattle.fixed_math.specs.declared.vec3.Vec3.{Vec3}
use Rattle.fixed_math.specs.Axes.{origin}
use Rattle.dice.specs.declared.diced.GridRef.{GridRef}
use Rattle.transforms.specs.declared.view.View.{View}
use Rattle.hider.specs.declared.quad.Quad.{Quad}
use Rattle.hider.specs.declared.raster_point.RasterPoint.{RasterPoint}
use Rattle.hider.specs.Cells.{corner_of, first_corner, projected}
use Rattle.hider.specs.CellValues.{cell_when, values_of}
use Rattle.hider.specs.Flat.{FlatCell, is_seen, raster_point, are_all_seen, own_corner, IsPlaced}
use Rattle.hider.proofs.Flats.{all_seen}

-- what is read of a colour at point n
pub point_read : (items : List Vec3) (n : ℕ) (x : Vec3) → n < length items → x ≡ slice_index_or items n x → slice_index_or items n x ≡ slice_index_or items n origin
point_read items n x l is = sym is ∙ get_or_read items n x l is origin

-- a point of the grid as a camera sees it
own_corner_is : (v : View) (g : GridRef) (r : RasterPoint) (n m : ℕ) → n ≡ m → r ≡ raster_point v (slice_index_or g.p.now m origin) → r.is_seen ≡ true →
    own_corner g r n ≡ corner_of v (record { point = slice_index_or g.p.now m origin; colour = slice_index_or g.ci.now m origin; opacity = slice_index_or g.oi.now m origin })
unfolding corner_of raster_point
own_corner_is v g r n m i e s =
    let p = slice_index_or g.p.now m origin in
    let t : is_seen v p.z ≡ true = sym (ap (λ (x : RasterPoint). x.is_seen) e) ∙ s in
    rw (i, e, t) refl

-- the four corners of cell i, whose first is point n
abbrev pub own_quad : GridRef → FlatCell → ℕ → Quad
own_quad g f n = record { a = own_corner g f.a n; b = own_corner g f.b (n + 1); c = own_corner g f.c (n + g.columns + 1); d = own_corner g f.d (n + g.columns) }

pub smooth_is : (v : View) (g : GridRef) (i n : ℕ) (f : FlatCell) → n ≡ first_corner g.columns i → IsPlaced v (values_of true g).corner i f → are_all_seen f ≡ true →
    own_quad g f n ≡ projected v (cell_when (values_of true g) i 0)
unfolding projected cell_when
smooth_is v g i n f e h all =
    let s = all_seen f all in
    let m = first_corner g.columns i in
    let a = own_corner_is v g f.a n m e h.a s.a in
    let b = own_corner_is v g f.b (n + 1) (m + 1) (ap (λ (k : ℕ). k + 1) e) h.b s.b in
    let c = own_corner_is v g f.c (n + g.columns + 1) (m + g.columns + 1) (ap (λ (k : ℕ). k + g.columns + 1) e) h.c s.c in
    let d = own_corner_is v g f.d (n + g.columns) (m + g.columns) (ap (λ (k : ℕ). k + g.columns) e) h.d s.d in
    λ t. record { a = a t; b = b t; c = c t; d = d t }
