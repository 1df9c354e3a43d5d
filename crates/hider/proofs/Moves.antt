-- Where a micropolygon that moves shows: within the box on the raster of all that it passes.
use Rattle.std.proofs.Common.{◌≡◌, ℕ, ◌<◌, ◌≤◌, zero, suc, arith, refl, Bool, true, false, List, [], ◌∷◌}
use Rattle.std.specs.Prelude.{ℤ, ◌≤ℤ◌, Option, Some, None}
use Rattle.std.specs.Option.{option_and_then}
use Rattle.std.proofs.lemmas.Int.{ints, int_min_is, int_max_is}
use Rattle.fixed_math.specs.declared.vec3.Vec3.{Vec3}
use Rattle.fixed_math.specs.declared.vec3.Axis.{Axis}
use Rattle.fixed_math.specs.declared.vec3.Axis.TheVariants.{Z}
use Rattle.fixed_math.specs.Axes.{part_of, IsInBox}
use Rattle.moving.specs.Ways.{on_way}
use Rattle.moving.specs.WayLaws.{way-within}
use Rattle.transforms.specs.declared.view.View.{View}
use Rattle.hider.specs.declared.bounds.Bounds.{Bounds}
use Rattle.hider.specs.declared.cell.Cell.{Cell}
use Rattle.hider.specs.declared.moving_box.MovingBox.{MovingBox}
use Rattle.hider.specs.declared.quad.Quad.{Quad}
use Rattle.hider.specs.declared.fragment.Fragment.{Fragment}
use Rattle.hider.specs.declared.sample_grid.SampleGrid.{SampleGrid}
use Rattle.hider.specs.Cells.{Micropolygon, corner_of, projected, is_in_depth, is_all_in_depth, is_turned_away, turn, quad_of}
use Rattle.hider.specs.CellBoxes.{EnclosesCell, low_when, high_when}
use Rattle.hider.specs.CellValues.{CellValues, corner_when, corners_when, cell_when, micropolygon_of, LiesBetween, MovesBetween}
use Rattle.transforms.specs.Raster.{raster_x, raster_y}
use Rattle.hider.specs.declared.cell.CellCorner.{CellCorner}
use Rattle.hider.proofs.Sights.{all_in_depth}
use Rattle.hider.specs.Coverage.{covers}
use Rattle.hider.specs.Extents.{HoldsRaster, IsBelow, IsNoNearer, IsSeenDepth, IsCornerBetween, Passed}
use Rattle.hider.specs.Fragments.{covering, fragment_of}
use Rattle.hider.specs.Outermost.{IsInOrder}
use Rattle.hider.specs.Searching.{IsNear, LiesBeside, StaysIn, StaysInside}
use Rattle.hider.specs.Tiles.{IsSampleGrid, HavePut}
use Rattle.hider.proofs.Boxes.{in_order}
use Rattle.hider.proofs.Pixels.{near_stays}
use Rattle.hider.proofs.Cuts.{by_bool}
use Rattle.hider.proofs.Outside.{HoldsCorners, covered_seen, outside_none}

pub above_both : (l x y z : ℤ) → l ≤ℤ x → l ≤ℤ y → LiesBetween x y z → l ≤ℤ z
above_both l x y z a b h = let e = int_min_is x y in let f = h.0 in omega (arith, ints, e, f, a, b)

pub below_both : (g x y z : ℤ) → x ≤ℤ g → y ≤ℤ g → LiesBetween x y z → z ≤ℤ g
below_both g x y z a b h = let e = int_max_is x y in let f = h.1 in omega (arith, ints, e, f, a, b)

pub corner_in : (lo hi p q r : Vec3) → IsBelow lo p → IsBelow lo q → IsBelow p hi → IsBelow q hi → ((a : Axis) → LiesBetween (part_of a p) (part_of a q) (part_of a r)) → IsInBox lo hi r
corner_in lo hi p q r a b c d h x = (
  above_both (part_of x lo) (part_of x p) (part_of x q) (part_of x r) (a x) (b x) (h x),
  below_both (part_of x hi) (part_of x p) (part_of x q) (part_of x r) (c x) (d x) (h x),
)

-- a cell out of sight in depth isn't seen
unseen_none : (w : View) (one_sided flip : Bool) (k : Cell) (f : Quad → Option Fragment) → is_all_in_depth w k ≡ false → option_and_then f (quad_of w one_sided flip k) ≡ None
unfolding quad_of
unseen_none w one_sided flip k f e = rw e refl

-- what isn't shown by the projected cell isn't by what is seen of it
pub seen_none : (w : View) (one_sided flip : Bool) (k : Cell) (f : Quad → Option Fragment) → f (projected w k) ≡ None → option_and_then f (quad_of w one_sided flip k) ≡ None
unfolding quad_of
seen_none w one_sided flip k f e =
    by_bool (is_all_in_depth w k)
    (λ d. by_bool (is_turned_away one_sided flip (turn (projected w k)))
    (λ t. rw (d, t) refl)
    (λ t. rw (d, t) e))
    (λ d. rw d refl)

-- the corners at a time lie between those when the shutter opens and when it closes
corner_at : (v : CellValues) (i t k : ℕ) → MovesBetween v → i < v.count → k < 4 → t ≤ 65535 → IsCornerBetween (corners_when v i 0) (corners_when v i 65535) k (v.corner i k t)
corner_at v i t zero m h l b x = m i 0 t x h l b
corner_at v i t (suc zero) m h l b x = m i 1 t x h l b
corner_at v i t (suc (suc zero)) m h l b x = m i 2 t x h l b
corner_at v i t (suc (suc (suc zero))) m h l b x = m i 3 t x h l b
corner_at v i t (suc (suc (suc (suc k)))) m h l b x = absurd (omega (arith, l))

depth_read : (w : View) (p : CellCorner) → is_in_depth w p ≡ true → IsSeenDepth w p.point
depth_read w p e = (grind (arith, ints, e), grind (arith, ints, e))

depths_read : (w : View) (v : CellValues) (i t : ℕ) → is_all_in_depth w (cell_when v i t) ≡ true → (k : ℕ) → k < 4 → IsSeenDepth w (v.corner i k t)
unfolding cell_when
depths_read w v i t e zero l = depth_read w (corner_when v i t 0) (all_in_depth w (cell_when v i t) e).0
depths_read w v i t e (suc zero) l = depth_read w (corner_when v i t 1) (all_in_depth w (cell_when v i t) e).1
depths_read w v i t e (suc (suc zero)) l = depth_read w (corner_when v i t 2) (all_in_depth w (cell_when v i t) e).2
depths_read w v i t e (suc (suc (suc zero))) l = depth_read w (corner_when v i t 3) (all_in_depth w (cell_when v i t) e).3
depths_read w v i t e (suc (suc (suc (suc k)))) l = absurd (omega (arith, l))

pub corners_held : (w : View) (v : CellValues) (i t : ℕ) (b : Bounds) →
    ((k : ℕ) → k < 4 → (b.left ≤ℤ raster_x w (v.corner i k t)) × (raster_x w (v.corner i k t) ≤ℤ b.right) × (b.top ≤ℤ raster_y w (v.corner i k t)) × (raster_y w (v.corner i k t) ≤ℤ b.bottom)) →
    HoldsCorners b (projected w (cell_when v i t))
unfolding projected corner_of cell_when
corners_held w v i t b h =
    let p = h 0 (omega arith) in
    let q = h 1 (omega arith) in
    let r = h 2 (omega arith) in
    let s = h 3 (omega arith) in
    record {
      left = (p.0, q.0, r.0, s.0);
      right = (p.1, q.1, r.1, s.1);
      top = (p.2, q.2, r.2, s.2);
      bottom = (p.3, q.3, r.3, s.3);
    }

-- so a micropolygon that passes within a box while the shutter is open shows nothing outside it
pub stays_passed : (w : View) (v : CellValues) (i : ℕ) (one_sided flip : Bool) (b : Bounds) → MovesBetween v → i < v.count → Passed w (corners_when v i 0) (corners_when v i 65535) b →
    StaysInside b (λ s. fragment_of w s (micropolygon_of v one_sided flip i))
unfolding fragment_of
stays_passed w v i one_sided flip b m h passed s t outside =
    let k = cell_when v i s.time in
    by_bool (is_all_in_depth w k)
    (λ d. seen_none w one_sided flip k (λ q. covers q s.place)
    (outside_none b (projected w k) s.place (corners_held w v i s.time b (passed (λ n. v.corner i n s.time) (λ n l. corner_at v i s.time n m h l t) (depths_read w v i s.time d))) outside))
    (λ d. unseen_none w one_sided flip k (λ q. covers q s.place) d)

-- ---- the depth of what shows
seen_some : (w : View) (one_sided flip : Bool) (k : Cell) (g : Quad → Option Fragment) (f : Fragment) → option_and_then g (quad_of w one_sided flip k) ≡ Some f → g (projected w k) ≡ Some f
unfolding quad_of
seen_some w one_sided flip k g f e =
    by_bool (is_all_in_depth w k)
    (λ d. by_bool (is_turned_away one_sided flip (turn (projected w k)))
    (λ t. let n : None ≡ Some f = rw (d, t) at e in absurd (cc))
    (λ t. rw (d, t) at e))
    (λ d. let n : None ≡ Some f = rw d at e in absurd (cc))

-- nothing of it shows outside a box on the raster that holds the places of a box in camera space, which holds all corners at all times
pub stays_held : (w : View) (v : CellValues) (i : ℕ) (one_sided flip : Bool) (lo hi : Vec3) (b : Bounds) → ((k t : ℕ) → k < 4 → t ≤ 65535 → IsInBox lo hi (v.corner i k t)) → HoldsRaster w lo hi b →
    StaysInside b (λ s. fragment_of w s (micropolygon_of v one_sided flip i))
unfolding fragment_of
stays_held w v i one_sided flip lo hi b held h s t outside =
    let k = cell_when v i s.time in
    seen_none w one_sided flip k (λ q. covers q s.place) (outside_none b (projected w k) s.place (corners_held w v i s.time b (λ n l. h (v.corner i n s.time) (held n s.time l t))) outside)

-- ---- what is put in of one of which nothing shows but in some pixels
pub moving_stays : (w : View) (v : CellValues) (i : ℕ) (one_sided flip : Bool) (b : Bounds) (part g : SampleGrid) → IsSampleGrid g → IsNear b part g →
    StaysInside b (λ s. fragment_of w s (micropolygon_of v one_sided flip i)) → StaysIn part g (λ s. fragment_of w s (micropolygon_of v one_sided flip i))
moving_stays w v i one_sided flip b part g valid near stays = near_stays b part g (λ s. fragment_of w s (micropolygon_of v one_sided flip i)) valid near stays

-- which aren't there
pub none_put : (w : View) (m : Micropolygon) (part g : SampleGrid) (a : List (List Fragment)) → StaysIn part g (λ s. fragment_of w s m) → ((n : ℕ) → LiesBeside part g n) → HavePut g (covering w (m ∷ [])) a a
none_put w m part g a s b n d l = let e = s n l (b n) in rw e refl

-- ---- of a cell in a moving box
pub enclosing_order : (v : CellValues) (i : ℕ) (b : MovingBox) → EnclosesCell v i b → IsInOrder b
enclosing_order v i b h t l = in_order (low_when b t) (high_when b t) (v.corner i 0 t) (h 0 t (omega arith) l)

-- the least depth at a time is no less than the lesser one of those at the two ends
way_above : (z p q x : ℤ) (t : ℕ) → t ≤ 65535 → z ≤ℤ p → z ≤ℤ q → on_way t p q ≤ℤ x → z ≤ℤ x
way_above z p q x t l a b h = let e = above_both z p q (on_way t p q) a b (way-within t p q (omega (arith, l))) in omega (arith, ints, e, h)

-- no nearer than what isn't deeper than its first corner at the two ends
pub no_nearer : (w : View) (v : CellValues) (i : ℕ) (one_sided flip : Bool) (b : MovingBox) (z : ℤ) → EnclosesCell v i b → z ≤ℤ b.low.z → z ≤ℤ b.closing_low.z →
    IsNoNearer z (λ s. fragment_of w s (micropolygon_of v one_sided flip i))
unfolding fragment_of projected corner_of cell_when
no_nearer w v i one_sided flip b z held opening closing s f t e =
    let seen = covered_seen (projected w (cell_when v i s.time)) s.place f (seen_some w one_sided flip (cell_when v i s.time) (λ q. covers q s.place) f e) in
    let deep : (k : ℕ) → k < 4 → z ≤ℤ (v.corner i k s.time).z = λ k l. way_above z b.low.z b.closing_low.z (v.corner i k s.time).z s.time t opening closing (held k s.time l t Z).0 in
    seen.low z (deep 0 (omega arith)) (deep 1 (omega arith)) (deep 2 (omega arith)) (deep 3 (omega arith))
