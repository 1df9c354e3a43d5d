-- Micropolygons of a grid whose points were put on the raster before.
use Rattle.std.proofs.Common.{◌≡◌, ℕ, ◌<◌, ◌≤◌, ap, arith, refl, sym, ◌∙◌, Bool, true, false, List, [], ◌∷◌, inl, inr, slice_index_or, length}
use Rattle.std.specs.Prelude.{ℤ, pos, negsuc, zero, suc, ◌+ℤ◌, ◌<ℤ◌, ◌&&◌, int_le, Option, Some, None, is_some}
use Rattle.std.specs.List.{cons_option}
use Rattle.std.specs.Option.{option_and_then, option_or}
use Rattle.std.proofs.lemmas.Int.{ints}
use Rattle.std.proofs.lemmas.Bool.{and_parts}
use Rattle.fixed_math.specs.declared.vec3.Vec3.{Vec3}
use Rattle.fixed_math.specs.Axes.{origin}
use Rattle.fixed_math.specs.Edges.{edge}
use Rattle.fixed_math.specs.Spots.{Spot}
use Rattle.dice.specs.declared.diced.GridRef.{GridRef}
use Rattle.transforms.specs.declared.view.View.{View}
use Rattle.transforms.specs.Raster.{raster_x, raster_y}
use Rattle.hider.specs.declared.areas.Areas.{Areas}
use Rattle.hider.specs.declared.bounds.Bounds.{Bounds}
use Rattle.hider.specs.declared.cell.Cell.{Cell}
use Rattle.hider.specs.declared.facing.Facing.{Facing}
use Rattle.hider.specs.declared.fragment.Fragment.{Fragment}
use Rattle.hider.specs.declared.quad.Quad.{Quad}
use Rattle.hider.specs.declared.raster_point.RasterPoint.{RasterPoint}
use Rattle.hider.specs.declared.sample.Sample.{Sample}
use Rattle.hider.specs.declared.sample_grid.SampleGrid.{SampleGrid}
use Rattle.hider.specs.Bounding.{bounds_of, holds}
use Rattle.hider.specs.Cells.{still, corner_of, projected, is_all_in_depth, is_turned_away, turn, seen, quad_of}
use Rattle.hider.specs.CellValues.{CellValues, cell_when, grid_values, values_of, micropolygon_of}
use Rattle.hider.specs.Coverage.{is_in_three, areas_at, mean_at, means_at, by_sign, covers_facing, covers_triangle, covers}
use Rattle.hider.specs.Flat.{FlatCell, is_seen, raster_point, AreOnRaster, AreBoxes, flat_corner, flat_quad, are_all_seen, IsPlaced, IsFlat, facing_covers, held_covers, IsFacingOf}
use Rattle.hider.specs.Fragments.{fragment_of, covering}
use Rattle.hider.specs.Searching.{StaysIn, StaysInside, LiesOutside, LiesBeside, column_of, row_of}
use Rattle.hider.specs.Tiles.{HavePut, sample_of}
use Rattle.hider.specs.Weighing.{AreAreas}
use Rattle.hider.proofs.Between.{mean_at-same}
use Rattle.hider.proofs.Cuts.{by_bool}
use Rattle.hider.proofs.Depths.{not_le}
use Rattle.hider.proofs.Outside.{left_of, right_of, above, below}
use Rattle.hider.proofs.Rows.{by_lt}

-- ---- corners on the raster
corner_is : (v : View) (p colour opacity : Vec3) (f : FlatCell) (r : RasterPoint) → r ≡ raster_point v p → f.colour ≡ colour → f.opacity ≡ opacity → r.is_seen ≡ true →
    corner_of v (record { point = p; colour = colour; opacity = opacity }) ≡ flat_corner f r
unfolding corner_of raster_point
corner_is v p colour opacity f r e g h s =
    let t : is_seen v p.z ≡ true = sym (ap (λ (x : RasterPoint). x.is_seen) e) ∙ s in
    rw (e, g, h, t) refl

-- the corners of a cell of which all are seen
pub record AreSeen (f : FlatCell) : Type 0 where
  pub a : f.a.is_seen ≡ true
  pub b : f.b.is_seen ≡ true
  pub c : f.c.is_seen ≡ true
  pub d : f.d.is_seen ≡ true

pub all_seen : (f : FlatCell) → are_all_seen f ≡ true → AreSeen f
all_seen f e =
    let g = and_parts f.a.is_seen (f.b.is_seen && (f.c.is_seen && f.d.is_seen)) e in
    let h = and_parts f.b.is_seen (f.c.is_seen && f.d.is_seen) g.1 in
    let i = and_parts f.c.is_seen f.d.is_seen h.1 in
    record { a = g.0; b = h.0; c = i.0; d = i.1 }

projected_is : (v : View) (k : CellValues) (i : ℕ) (f : FlatCell) → IsFlat v k i f → AreSeen f → projected v (cell_when k i 0) ≡ flat_quad f
unfolding projected cell_when flat_quad
projected_is v k i f h s =
    let a = corner_is v (k.corner i 0 0) (k.colour i 0) (k.opacity i 0) f f.a h.placed.a (h.colour 0) (h.opacity 0) s.a in
    let b = corner_is v (k.corner i 1 0) (k.colour i 1) (k.opacity i 1) f f.b h.placed.b (h.colour 1) (h.opacity 1) s.b in
    let c = corner_is v (k.corner i 2 0) (k.colour i 2) (k.opacity i 2) f f.c h.placed.c (h.colour 2) (h.opacity 2) s.c in
    let d = corner_is v (k.corner i 3 0) (k.colour i 3) (k.opacity i 3) f f.d h.placed.d (h.colour 3) (h.opacity 3) s.d in
    rw (a, b, c, d) refl

seen_is : (v : View) (p : Vec3) (r : RasterPoint) → r ≡ raster_point v p → is_seen v p.z ≡ r.is_seen
unfolding raster_point
seen_is v p r e = sym (ap (λ (x : RasterPoint). x.is_seen) e)

depth_is : (v : View) (k : CellValues) (i : ℕ) (f : FlatCell) → IsPlaced v k.corner i f → is_all_in_depth v (cell_when k i 0) ≡ are_all_seen f
unfolding is_all_in_depth cell_when
depth_is v k i f h =
    let a = seen_is v (k.corner i 0 0) f.a h.a in
    let b = seen_is v (k.corner i 1 0) f.b h.b in
    let c = seen_is v (k.corner i 2 0) f.c h.c in
    let d = seen_is v (k.corner i 3 0) f.d h.d in
    rw (a, b, c, d) refl

-- ---- what a camera sees of a cell
seen_cell : (v : View) (one_sided flip : Bool) (k : Cell) (s : Sample) → is_all_in_depth v k ≡ true →
    fragment_of v s (still one_sided flip k) ≡ option_and_then (λ q. covers q s.place) (seen one_sided flip (projected v k))
unfolding fragment_of quad_of
seen_cell v one_sided flip k s d = rw d refl

pub seen_placed_put : (v : View) (k : CellValues) (i : ℕ) (f : FlatCell) (one_sided flip : Bool) (g : SampleGrid) (a b : List (List Fragment)) → IsPlaced v k.corner i f → are_all_seen f ≡ true →
    HavePut g (λ s. cons_option (option_and_then (λ q. covers q s.place) (seen one_sided flip (projected v (cell_when k i 0)))) []) a b → HavePut g (covering v (still one_sided flip (cell_when k i 0) ∷ [])) a b
seen_placed_put v k i f one_sided flip g a b h e p n d l =
    let u = seen_cell v one_sided flip (cell_when k i 0) (sample_of g n) (depth_is v k i f h ∙ e) in
    rw u (p n d l)

-- ---- its box, whatever its colours
place_is : (v : View) (p : Vec3) (r : RasterPoint) → r ≡ raster_point v p → r.is_seen ≡ true → r.place ≡ record { x = raster_x v p; y = raster_y v p }
unfolding raster_point
place_is v p r e s =
    let t : is_seen v p.z ≡ true = sym (ap (λ (x : RasterPoint). x.is_seen) e) ∙ s in
    rw (e, t) refl

pub placed_box : (v : View) (k : CellValues) (i : ℕ) (f : FlatCell) → IsPlaced v k.corner i f → are_all_seen f ≡ true → bounds_of (flat_quad f) ≡ bounds_of (projected v (cell_when k i 0))
unfolding bounds_of flat_quad projected corner_of cell_when
placed_box v k i f h e =
    let s = all_seen f e in
    let a = place_is v (k.corner i 0 0) f.a h.a s.a in
    let b = place_is v (k.corner i 1 0) f.b h.b s.b in
    let c = place_is v (k.corner i 2 0) f.c h.c s.c in
    let d = place_is v (k.corner i 3 0) f.d h.d s.d in
    rw (a, b, c, d) refl

pub boxes_of_any : (v : View) (g : GridRef) (boxes : List Bounds) (smooth : Bool) → AreBoxes v (values_of false g) boxes → AreBoxes v (values_of smooth g) boxes
boxes_of_any v g boxes smooth h = record { count = h.count; each = h.each }

-- ---- a cell of one colour
pub seen_flat : (v : View) (k : CellValues) (i : ℕ) (f : FlatCell) (one_sided flip : Bool) (s : Sample) → IsFlat v k i f → are_all_seen f ≡ true →
    fragment_of v s (still one_sided flip (cell_when k i 0)) ≡ option_and_then (λ q. covers q s.place) (seen one_sided flip (flat_quad f))
unfolding fragment_of quad_of
seen_flat v k i f one_sided flip s h e =
    let d = depth_is v k i f h.placed ∙ e in
    let p = projected_is v k i f h (all_seen f e) in
    rw (d, p) refl

pub unseen_placed : (v : View) (k : CellValues) (i : ℕ) (f : FlatCell) (one_sided flip : Bool) (s : Sample) → IsPlaced v k.corner i f → are_all_seen f ≡ false →
    fragment_of v s (still one_sided flip (cell_when k i 0)) ≡ None
unfolding fragment_of quad_of
unseen_placed v k i f one_sided flip s h e = let d = depth_is v k i f h ∙ e in rw d refl

-- what is put in of one that isn't seen
pub unseen_placed_put : (v : View) (k : CellValues) (i : ℕ) (f : FlatCell) (one_sided flip : Bool) (g : SampleGrid) (a : List (List Fragment)) → IsPlaced v k.corner i f → are_all_seen f ≡ false →
    HavePut g (covering v (still one_sided flip (cell_when k i 0) ∷ [])) a a
unseen_placed_put v k i f one_sided flip g a h e n d l = let u = unseen_placed v k i f one_sided flip (sample_of g n) h e in rw u refl

-- of one that is
pub seen_flat_put : (v : View) (k : CellValues) (i : ℕ) (f : FlatCell) (one_sided flip : Bool) (g : SampleGrid) (a b : List (List Fragment)) → IsFlat v k i f → are_all_seen f ≡ true →
    HavePut g (λ s. cons_option (option_and_then (λ q. covers q s.place) (seen one_sided flip (flat_quad f))) []) a b → HavePut g (covering v (still one_sided flip (cell_when k i 0) ∷ [])) a b
seen_flat_put v k i f one_sided flip g a b h e p n d l = let u = seen_flat v k i f one_sided flip (sample_of g n) h e in rw u (p n d l)

-- of one that meets no pixel of the grid
outside_seen : (q : Quad) (one_sided flip : Bool) (s : Spot) → covers q s ≡ None → option_and_then (λ r. covers r s) (seen one_sided flip q) ≡ None
outside_seen q one_sided flip s e = by_bool (is_turned_away one_sided flip (turn q)) (λ t. rw t refl) (λ t. rw t e)

pub outside_put : (q : Quad) (one_sided flip : Bool) (g part : SampleGrid) (a : List (List Fragment)) → StaysIn part g (λ s. covers q s.place) → ((n : ℕ) → LiesBeside part g n) →
    HavePut g (λ s. cons_option (option_and_then (λ r. covers r s.place) (seen one_sided flip q)) []) a a
outside_put q one_sided flip g part a s b n d l = let u = outside_seen q one_sided flip (sample_of g n).place (s n l (b n)) in rw u refl

-- a part without columns or without rows
pub no_column : (part g : SampleGrid) (n : ℕ) → part.right ≤ part.left → LiesBeside part g n
no_column part g n h = by_lt (column_of g n) part.left (λ l. inl l) (λ l. inr (inl (omega (arith, l, h))))

pub no_row : (part g : SampleGrid) (n : ℕ) → part.bottom ≤ part.top → LiesBeside part g n
no_row part g n h = by_lt (row_of g n) part.top (λ l. inr (inr (inl l))) (λ l. inr (inr (inr (omega (arith, l, h)))))

-- turned away
pub away_put : (q : Quad) (one_sided flip : Bool) (g : SampleGrid) (a : List (List Fragment)) → is_turned_away one_sided flip (turn q) ≡ true →
    HavePut g (λ s. cons_option (option_and_then (λ r. covers r s.place) (seen one_sided flip q)) []) a a
away_put q one_sided flip g a e n d l = rw e refl

-- and not
pub facing_put : (q : Quad) (one_sided flip : Bool) (g : SampleGrid) (a b : List (List Fragment)) → is_turned_away one_sided flip (turn q) ≡ false →
    HavePut g (λ s. cons_option (covers q s.place) []) a b → HavePut g (λ s. cons_option (option_and_then (λ r. covers r s.place) (seen one_sided flip q)) []) a b
facing_put q one_sided flip g a b e p n d l = rw e (p n d l)

-- ---- a triangle turned
above_is : {A : Type 0} (z : ℤ) (p q r : A) → pos 0 <ℤ z → r ≡ by_sign z p q r
above_is (pos zero) p q r h = absurd (omega (arith, ints))
above_is (pos (suc n)) p q r h = refl
above_is (negsuc n) p q r h = absurd (omega (arith, ints))

below_is : {A : Type 0} (z : ℤ) (p q r : A) → z <ℤ pos 0 → p ≡ by_sign z p q r
below_is (pos n) p q r h = absurd (omega (arith, ints))
below_is (negsuc n) p q r h = refl

none_is : {A : Type 0} (z : ℤ) (p q r : A) → z ≡ pos 0 → q ≡ by_sign z p q r
none_is (pos zero) p q r h = refl
none_is (pos (suc n)) p q r h = absurd (omega (arith, ints, h))
none_is (negsuc n) p q r h = absurd (omega (arith, ints, h))

pub facing_above : (a b c : RasterPoint) (t : Facing) → t.a.now ≡ a → t.b.now ≡ b → t.c.now ≡ c → pos 0 <ℤ edge a.place b.place c.place → IsFacingOf a b c (Some t)
unfolding covers_triangle
facing_above a b c t x y z h = record { same = λ f s. rw (x, y, z) (above_is (edge a.place b.place c.place) _ None _ h) }

pub facing_below : (a b c : RasterPoint) (t : Facing) → t.a.now ≡ a → t.b.now ≡ c → t.c.now ≡ b → edge a.place b.place c.place <ℤ pos 0 → IsFacingOf a b c (Some t)
unfolding covers_triangle
facing_below a b c t x y z h = record { same = λ f s. rw (x, y, z) (below_is (edge a.place b.place c.place) _ None _ h) }

pub facing_none : (a b c : RasterPoint) → edge a.place b.place c.place ≡ pos 0 → IsFacingOf a b c None
unfolding covers_triangle
facing_none a b c h = record { same = λ f s. none_is (edge a.place b.place c.place) _ None _ h }

-- ---- what it shows
pub flat_means : (w : Areas) (f : FlatCell) (p q r : RasterPoint) → AreAreas w →
    means_at w (flat_corner f p) (flat_corner f q) (flat_corner f r) ≡ record { depth = mean_at w p.depth q.depth r.depth; colour = f.colour; opacity = f.opacity }
flat_means w f p q r h =
    let same : (z : ℤ) → mean_at w z z z ≡ z = λ z. sym (mean_at-same w z z z h refl refl) in
    rw (same f.colour.x, same f.colour.y, same f.colour.z, same f.opacity.x, same f.opacity.y, same f.opacity.z) refl

pub facing_some : (f : FlatCell) (t : Facing) (s : Spot) (w : Areas) → is_in_three t.a.now.place t.b.now.place t.c.now.place s ≡ true → w ≡ areas_at t.a.now.place t.b.now.place t.c.now.place s →
    facing_covers f (Some t) s ≡ Some (means_at w (flat_corner f t.a.now) (flat_corner f t.b.now) (flat_corner f t.c.now))
unfolding covers_facing
facing_some f t s w i e = rw (i, e) refl

pub facing_beside : (f : FlatCell) (t : Facing) (s : Spot) → is_in_three t.a.now.place t.b.now.place t.c.now.place s ≡ false → facing_covers f (Some t) s ≡ None
unfolding covers_facing
facing_beside f t s i = rw i refl

-- in one of two triangles
pub by_first : (f : FlatCell) (t u : Option Facing) (s : Spot) → IsFacingOf f.a f.b f.c t → IsFacingOf f.a f.c f.d u → is_some (facing_covers f t s) ≡ true → covers (flat_quad f) s ≡ facing_covers f t s
unfolding covers flat_quad
by_first f t u s ht hu e =
    let x = ht.same f s in
    let y = hu.same f s in
    rw (← x, ← y) (first_of_two (facing_covers f t s) (facing_covers f u s) e)
  where
    first_of_two : (o p : Option Fragment) → is_some o ≡ true → option_or o p ≡ o
    first_of_two None p e = absurd (cc)
    first_of_two (Some x) p e = refl

pub none_of_first : (f : FlatCell) (t : Option Facing) (s : Spot) → is_some (facing_covers f t s) ≡ false → facing_covers f t s ≡ None
none_of_first f t s e = no_value (facing_covers f t s) e
  where
    no_value : (o : Option Fragment) → is_some o ≡ false → o ≡ None
    no_value None e = refl
    no_value (Some x) e = absurd (cc)

pub by_second : (f : FlatCell) (t u : Option Facing) (s : Spot) → IsFacingOf f.a f.b f.c t → IsFacingOf f.a f.c f.d u → is_some (facing_covers f t s) ≡ false → covers (flat_quad f) s ≡ facing_covers f u s
unfolding covers flat_quad
by_second f t u s ht hu e =
    let x = ht.same f s in
    let y = hu.same f s in
    let n = none_of_first f t s e in
    rw (← x, ← y, n) refl

-- ---- a grid's cells stay where they are
pub same_at_all_times : (v : View) (smooth : Bool) (columns rows : ℕ) (p ci oi : List Vec3) (i : ℕ) (one_sided flip : Bool) (g : SampleGrid) (a b : List (List Fragment)) →
    HavePut g (covering v (still one_sided flip (cell_when (grid_values smooth columns rows p ci oi) i 0) ∷ [])) a b → HavePut g (covering v (micropolygon_of (grid_values smooth columns rows p ci oi) one_sided flip i ∷ [])) a b
unfolding fragment_of cell_when
same_at_all_times v smooth columns rows p ci oi i one_sided flip g a b h n d l = h n d l

-- ---- a grid's points
pub seen_at : (v : View) (points : List Vec3) (seen : List RasterPoint) (n m : ℕ) (r : RasterPoint) → AreOnRaster v points seen → n < length points → r ≡ slice_index_or seen n r → n ≡ m →
    r ≡ raster_point v (slice_index_or points m origin)
seen_at v points seen n m r h l i e = i ∙ h.each n r l ∙ ap (λ k. raster_point v (slice_index_or points k origin)) e

-- ---- outside the box
pub not_held : (b : Bounds) (q : Quad) (s : Spot) → b ≡ bounds_of q → holds b s ≡ false → covers q s ≡ None
not_held b q s e h =
    by_bool (int_le b.left s.x)
    (λ l. by_bool (int_le s.x b.right)
    (λ r. by_bool (int_le b.top s.y)
    (λ t. let f : int_le s.y b.bottom ≡ false = rw (l, r, t) at h in below b q s e (not_le s.y b.bottom f))
    (λ t. above b q s e (not_le b.top s.y t)))
    (λ r. right_of b q s e (not_le s.x b.right r)))
    (λ l. left_of b q s e (not_le b.left s.x l))

pub turn_is : (f : FlatCell) → turn (flat_quad f) ≡ edge f.a.place f.b.place f.c.place +ℤ edge f.a.place f.c.place f.d.place
unfolding turn flat_quad
turn_is f = refl

-- ---- with a box
pub held_is : (b : Bounds) (f : FlatCell) (s : Spot) → b ≡ bounds_of (flat_quad f) → held_covers b f s ≡ covers (flat_quad f) s
held_is b f s e = by_bool (holds b s) (λ h. rw h refl) (λ h. rw h (sym (not_held b (flat_quad f) s e h)))

pub held_put : (b : Bounds) (f : FlatCell) (g : SampleGrid) (l m : List (List Fragment)) → b ≡ bounds_of (flat_quad f) →
    HavePut g (λ s. cons_option (held_covers b f s.place) []) l m → HavePut g (λ s. cons_option (covers (flat_quad f) s.place) []) l m
held_put b f g l m e p n d h = let same = held_is b f (sample_of g n).place e in rw same at (p n d h)

lt_not_le : (x y : ℤ) → x <ℤ y → int_le y x ≡ false
lt_not_le x y h = let d : false ≡ int_le y x = omega (arith, ints) in sym d

not_held_by : (b : Bounds) (s : Spot) → LiesOutside b s → holds b s ≡ false
not_held_by b s (inl h) = let e = lt_not_le s.x b.left h in rw e refl
not_held_by b s (inr (inl h)) = let e = lt_not_le b.right s.x h in by_bool (int_le b.left s.x) (λ l. rw (l, e) refl) (λ l. rw l refl)
not_held_by b s (inr (inr (inl h))) =
    let e = lt_not_le s.y b.top h in
    by_bool (int_le b.left s.x) (λ l. by_bool (int_le s.x b.right) (λ r. rw (l, r, e) refl) (λ r. rw (l, r) refl)) (λ l. rw l refl)
not_held_by b s (inr (inr (inr h))) =
    let e = lt_not_le b.bottom s.y h in
    by_bool (int_le b.left s.x)
    (λ l. by_bool (int_le s.x b.right) (λ r. by_bool (int_le b.top s.y) (λ t. rw (l, r, t, e) refl) (λ t. rw (l, r, t) refl)) (λ r. rw (l, r) refl))
    (λ l. rw l refl)

pub held_inside : (b : Bounds) (f : FlatCell) → StaysInside b (λ s. held_covers b f s.place)
held_inside b f s t l = let e = not_held_by b s.place l in rw e refl
