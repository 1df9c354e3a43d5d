-- Nothing of a leaf shows at the samples of a rectangle of pixels that it doesn't meet, and what shows of it anywhere is no nearer than
-- the box of its part, widened by the bound.
use Rattle.std.proofs.Common.{◌≡◌, ℕ, zero, suc, ◌+◌, ◌-◌, ◌*◌, ◌/◌, ◌%◌, ◌<◌, ◌≤◌, arith, refl, ◌∙◌, ap, Bool, true, false, ◌&&◌, List, [], ◌∷◌, map, Option, Some, None, ⊎_elim}
use Rattle.std.specs.Prelude.{ℤ, pos, ◌≤ℤ◌, ◌<ℤ◌, int_lt, int_le}
use Rattle.std.specs.List.{range_with_len, filter_map, cons_option}
use Rattle.std.specs.Option.{option_and_then}
use Rattle.std.proofs.lemmas.Bool.{and_parts}
use Rattle.std.proofs.lemmas.Int.{ints}
use Rattle.std.proofs.Math.Nat.{mod-lt, div-lt_iff_lt-mul, mul_comm}
use Rattle.fixed_math.specs.declared.vec3.Vec3.{Vec3}
use Rattle.fixed_math.specs.declared.vec3.Axis.TheVariants.{Z}
use Rattle.fixed_math.specs.Axes.{IsInBox}
use Rattle.fixed_math.specs.Spots.{Spot, PixelRect, pixel_x, pixel_y, pixel_count}
use Rattle.patches.specs.Boxes.{Box, Holds}
use Rattle.patches.specs.Lists.{Each}
use Rattle.patches.specs.ListLaws.{Each-weaken}
use Rattle.patches.specs.Parts.{Part, IsPart, rect_of}
use Rattle.quadrics.specs.AnyPatches.{patch_net, patch_width}
use Rattle.transforms.specs.declared.view.View.{View}
use Rattle.transforms.specs.Field.{IsView}
use Rattle.transforms.specs.Raster.{raster_x, raster_y, raster_box, side, HoldsPlaces}
use Rattle.transforms.proofs.Between.{holds_places}
use Rattle.bound_split.specs.declared.splits.Decision.{Decision}
use Rattle.bound_split.specs.declared.splits.Decision.TheVariants.{SplitU, SplitV, Dice}
use Rattle.bound_split.specs.Decisions.{FitsPart}
use Rattle.bound_split.specs.Extents.{widened, reach_of, reach_within, overlaps, reaches}
use Rattle.bound_split.proofs.Fitting.{decision-fits}
use Rattle.bound_split.proofs.Meetings.{by_bool, by_reach}
use Rattle.scene.specs.Scene.{PrimValue, FrameValue}
use Rattle.shader_binding.specs.Sets.{AcceptedValue}
use Rattle.grid_variables.specs.Points.{Leaf}
use Rattle.grid_variables.specs.Closings.{closing_of}
use Rattle.displace_shade.specs.Shaded.{GridValue, shaded}
use Rattle.displace_shade.specs.Shop.{leaf_of}
use Rattle.hider.specs.declared.cell.CellCorner.{CellCorner}
use Rattle.hider.specs.declared.cell.Cell.{Cell}
use Rattle.hider.specs.declared.fragment.Fragment.{Fragment}
use Rattle.hider.specs.declared.quad.Quad.{Quad}
use Rattle.hider.specs.declared.sample.Sample.{Sample}
use Rattle.hider.specs.Cells.{Micropolygon, first_corner, corner_of, projected, is_in_depth, is_all_in_depth, is_turned_away, turn, quad_of}
use Rattle.hider.specs.CellValues.{cell_when, micropolygon_of}
use Rattle.hider.specs.Coverage.{covers}
use Rattle.hider.specs.Fragments.{fragment_of, covering}
use Rattle.hider.specs.Samples.{sample_in}
use Rattle.hider.proofs.Grids.{corner_inside}
use Rattle.hider.proofs.Outside.{IsQuadSeen, covered_seen}
use Rattle.hider.proofs.Pixels.{sample_inside, sample_time}
use Rattle.hider.proofs.Sights.{all_in_depth}
use Rattle.moving_cells.specs.MovingGrids.{point_when, moving_values}
use Rattle.buckets.specs.Culled.{leaf_meets, leaf_nearest, IsShadedPrim}
use Rattle.buckets.specs.Pictures.{decide, prim_box, grid_micropolygons, diced_micropolygons, micropolygons_by, leaf_micropolygons}
use Rattle.buckets.proofs.ShadedPlaces.{shaded_wide, shaded_tall, shaded_few, shaded_in}

-- ---- what is seen of a cell in a box
-- all corners of a cell lie in a box
record LiesIn (lo hi : Vec3) (k : Cell) : Type 0 where
  a : IsInBox lo hi k.a.point
  b : IsInBox lo hi k.b.point
  c : IsInBox lo hi k.c.point
  d : IsInBox lo hi k.d.point

-- what shows at a place is seen of something in a box
record ShowsIn (v : View) (lo hi : Vec3) (s : Spot) (g : Fragment) : Type 0 where
  beyond_near : v.near ≤ℤ hi.z
  before_far : lo.z ≤ℤ v.far
  no_nearer : lo.z ≤ℤ g.depth
  left : (m : ℤ) → ((p : Vec3) → IsInBox lo hi p → m ≤ℤ raster_x v p) → m ≤ℤ s.x
  right : (m : ℤ) → ((p : Vec3) → IsInBox lo hi p → raster_x v p ≤ℤ m) → s.x ≤ℤ m
  top : (m : ℤ) → ((p : Vec3) → IsInBox lo hi p → m ≤ℤ raster_y v p) → m ≤ℤ s.y
  bottom : (m : ℤ) → ((p : Vec3) → IsInBox lo hi p → raster_y v p ≤ℤ m) → s.y ≤ℤ m

through : (a b c : ℤ) → a ≤ℤ b → b ≤ℤ c → a ≤ℤ c
through a b c h k = omega (arith, ints)

in_depth : (v : View) (k : CellCorner) → is_in_depth v k ≡ true → (v.near ≤ℤ k.point.z) × (k.point.z ≤ℤ v.far)
in_depth v k e =
    let both = and_parts (int_le v.near k.point.z) (int_le k.point.z v.far) e in
    let x = both.0 in
    let y = both.1 in
    (grind (arith, ints), grind (arith, ints))

quad_shows : (v : View) (lo hi : Vec3) (k : Cell) (s : Spot) (g : Fragment) → LiesIn lo hi k → is_all_in_depth v k ≡ true → IsQuadSeen (projected v k) s g → ShowsIn v lo hi s g
unfolding projected corner_of
quad_shows v lo hi k s g i depth q =
    let first = in_depth v k.a (all_in_depth v k depth).0 in
    record {
      beyond_near = through v.near k.a.point.z hi.z first.0 (i.a Z).1;
      before_far = through lo.z k.a.point.z v.far (i.a Z).0 first.1;
      no_nearer = q.low lo.z (i.a Z).0 (i.b Z).0 (i.c Z).0 (i.d Z).0;
      left = λ m h. q.left m (h k.a.point i.a) (h k.b.point i.b) (h k.c.point i.c) (h k.d.point i.d);
      right = λ m h. q.right m (h k.a.point i.a) (h k.b.point i.b) (h k.c.point i.c) (h k.d.point i.d);
      top = λ m h. q.top m (h k.a.point i.a) (h k.b.point i.b) (h k.c.point i.c) (h k.d.point i.d);
      bottom = λ m h. q.bottom m (h k.a.point i.a) (h k.b.point i.b) (h k.c.point i.c) (h k.d.point i.d);
    }

seen_shows : {P : Type 0} (v : View) (one_sided flip : Bool) (k : Cell) (f : Quad → Option Fragment) (g : Fragment) → option_and_then f (quad_of v one_sided flip k) ≡ Some g →
    (is_all_in_depth v k ≡ true → f (projected v k) ≡ Some g → P) → P
unfolding quad_of
seen_shows v one_sided flip k f g e shown =
    let none : Option Fragment = None in
    by_bool (is_all_in_depth v k)
    (λ d. by_bool (is_turned_away one_sided flip (turn (projected v k)))
    (λ t. let p : none ≡ Some g = rw (d, t) at e in absurd (cc))
    (λ t. shown d (rw (d, t) at e)))
    (λ d. let p : none ≡ Some g = rw d at e in absurd (cc))

cell_shows : (v : View) (lo hi : Vec3) (m : Micropolygon) (s : Sample) (g : Fragment) → LiesIn lo hi (m.corners s.time) → fragment_of v s m ≡ Some g → ShowsIn v lo hi s.place g
unfolding fragment_of
cell_shows v lo hi m s g i e =
    let k = m.corners s.time in
    seen_shows v m.one_sided m.flip k (λ q. covers q s.place) g e (λ depth covered. quad_shows v lo hi k s.place g i depth (covered_seen (projected v k) s.place g covered))

-- ---- samples of a rectangle of pixels
record IsSampleIn (r : PixelRect) (s : Spot) : Type 0 where
  left : pos (256 * r.left) ≤ℤ s.x
  right : s.x <ℤ pos (256 * r.right)
  top : pos (256 * r.top) ≤ℤ s.y
  bottom : s.y <ℤ pos (256 * r.bottom)

some_factor : (n a b : ℕ) → n < a * b → (0 < a) × (0 < b)
some_factor n zero b h = absurd (omega arith)
some_factor n (suc a) zero h = absurd (omega arith)
some_factor n (suc a) (suc b) h = (omega arith, omega arith)

sample_is_in : (xs ys : ℕ) (r : PixelRect) (n : ℕ) → n < pixel_count r * (xs * ys) → IsSampleIn r (sample_in xs ys r n).place
unfolding sample_in
sample_is_in xs ys r n h =
    let k = xs * ys in
    let w = r.right - r.left in
    let t = r.bottom - r.top in
    let some = (some_factor n (w * t) k h).1 in
    let pixel : n / k < w * t = (div-lt_iff_lt-mul {k = k} {x = n} {y = w * t} some).1 h in
    let wide = (some_factor (n / k) w t pixel).0 in
    let turned : w * t ≡ t * w = mul_comm w t in
    let column : n / k % w < w = mod-lt (n / k) wide in
    let row : n / k / w < t = (div-lt_iff_lt-mul {k = w} {x = n / k} {y = t} wide).1 (omega (arith, pixel, turned)) in
    let i = sample_inside xs ys (pixel_x r (n / k)) (pixel_y r (n / k)) (n % k) (mod-lt n some) in
    let a = i.left in let b = i.right in let c = i.top in let d = i.bottom in
    record { left = omega (arith, ints, a); right = omega (arith, ints, b, column); top = omega (arith, ints, c); bottom = omega (arith, ints, d, row) }

overlapping : (first last place : ℤ) (from to : ℕ) → first ≤ℤ place → place ≤ℤ last → pos (256 * from) ≤ℤ place → place <ℤ pos (256 * to) → overlaps first last from to ≡ true
overlapping first last place from to a b c d =
    let x : int_lt first (pos (256 * to)) ≡ true = grind (arith, ints) in
    let y : int_le (pos (256 * from)) last ≡ true = grind (arith, ints) in
    rw (x, y) refl

clash : {P : Type 0} (a b : ℤ) → a ≤ℤ b → b <ℤ a → P
clash a b h k = absurd (omega (arith, ints))

-- where something of a box shows at a sample of a rectangle, the box reaches the rectangle
shown_reaches : (v : View) → IsView v → (b : Box) (r : PixelRect) (s : Spot) (g : Fragment) → ShowsIn v b.low b.high s g → IsSampleIn r s → reaches (reach_of v b) r ≡ true
shown_reaches v w b r s g i at =
    by_reach v b
    (λ is none. ⊎_elim (λ (h : b.high.z <ℤ v.near). clash v.near b.high.z i.beyond_near h) (λ (h : v.far <ℤ b.low.z). clash b.low.z v.far i.before_far h) none)
    (λ is before. ap (λ q. reaches q r) is)
    (λ is near. ap (λ q. reaches q r) is ∙ within (holds_places v w b.low b.high near))
  where
    within : HoldsPlaces v b.low b.high → reaches (reach_within (raster_box v b.low b.high)) r ≡ true
    within holds =
        let box = raster_box v b.low b.high in
        let x = overlapping (side 0 0 box) (side 0 1 box) s.x r.left r.right (i.left (side 0 0 box) (λ p h. (holds p h).0)) (i.right (side 0 1 box) (λ p h. (holds p h).1)) at.left at.right in
        let y = overlapping (side 1 0 box) (side 1 1 box) s.y r.top r.bottom (i.top (side 1 0 box) (λ p h. (holds p h).2)) (i.bottom (side 1 1 box) (λ p h. (holds p h).3)) at.top at.bottom in
        ap (λ c. c && overlaps (side 1 0 box) (side 1 1 box) r.top r.bottom) x ∙ y

-- ---- the cells of a grid whose points lie in a box at a time
cell_in : (smooth : Bool) (columns rows i t : ℕ) (points colours opacities : List Vec3) (closing : Option (List Vec3)) (lo hi : Vec3) → 2 ≤ columns → 2 ≤ rows → i < (columns - 1) * (rows - 1) →
    ((n : ℕ) → n < columns * rows → IsInBox lo hi (point_when closing points n t)) → LiesIn lo hi (cell_when (moving_values smooth columns rows points colours opacities closing) i t)
unfolding cell_when
cell_in smooth columns rows i t points colours opacities closing lo hi hc hr h all =
    let most = corner_inside columns rows i hc hr h in
    let n = first_corner columns i in
    record { a = all n (omega (arith, most)); b = all (n + 1) (omega (arith, most, hc)); c = all (n + columns + 1) most; d = all (n + columns) (omega (arith, most)) }

-- ---- what shows of a leaf
given_then : (P : Fragment → Type 0) (o : Option Fragment) (rest : List Fragment) → ((g : Fragment) → o ≡ Some g → P g) → Each P rest → Each P (cons_option o rest)
given_then P None rest h e = e
given_then P (Some g) rest h e = (h g refl, e)

-- each fragment that micropolygons give has what each of one of them has
each_given : (P : Fragment → Type 0) (f : Micropolygon → Option Fragment) (m : ℕ → Micropolygon) (from n : ℕ) → ((i : ℕ) (g : Fragment) → i < from + n → f (m i) ≡ Some g → P g) → Each P (filter_map f (map m (range_with_len from n)))
each_given P f m from zero h = tt
each_given P f m from (suc n) h =
    given_then P (f (m from)) (filter_map f (map m (range_with_len (from + 1) n))) (λ g e. h from g (omega arith) e) (each_given P f m (from + 1) n (λ i g u. h i g (omega (arith, u))))

-- what shows of a primitive's leaf is seen of something in the box of its part, widened by the primitive's bound
abbrev leaf_box : PrimValue → Part → Box
leaf_box prim part = widened prim.bound (prim_box prim (rect_of part))

abbrev LeafShows : FrameValue → PrimValue → Part → Sample → Fragment → Type 0
LeafShows f prim part s g = ShowsIn f.camera (leaf_box prim part).low (leaf_box prim part).high s.place g

-- of the cells of a grid whose points lie in the box at the sample's time
grid_shows : (f : FrameValue) (prim : PrimValue) (part : Part) (g : GridValue) (closing : Option (List Vec3)) (s : Sample) → 2 ≤ g.columns → 2 ≤ g.rows →
    ((n : ℕ) → n < g.columns * g.rows → Holds (leaf_box prim part) (point_when closing g.points n s.time)) → Each (LeafShows f prim part s) (filter_map (fragment_of f.camera s) (grid_micropolygons prim g closing))
grid_shows f prim part g closing s wide tall inside =
    let b = leaf_box prim part in
    let m = micropolygon_of (moving_values prim.smooth g.columns g.rows g.points g.colours g.opacities closing) prim.one_sided prim.flip in
    each_given (LeafShows f prim part s) (fragment_of f.camera s) m 0 ((g.columns - 1) * (g.rows - 1))
    (λ i h lt e. cell_shows f.camera b.low b.high (m i) s h (cell_in prim.smooth g.columns g.rows i s.time g.points g.colours g.opacities closing b.low b.high wide tall (omega (arith, lt)) inside) e)

diced_shows : (a : AcceptedValue) (f : FrameValue) (l : Leaf) (s : Sample) → IsShadedPrim a f l.prim → IsPart l.part → l.p ≤ 4 → l.q ≤ 4 → s.time ≤ 65536 →
    Each (LeafShows f l.prim l.part s) (filter_map (fragment_of f.camera s) (diced_micropolygons a l))
unfolding diced_micropolygons
diced_shows a f l s is part_is hp hq time =
    let g = shaded l a.set a.scene.uses in
    grid_shows f l.prim l.part g (closing_of l g.points) s (shaded_wide l a.set a.scene.uses) (shaded_tall l a.set a.scene.uses)
    (λ n h. shaded_in a f l s.time n is part_is hp hq time (shaded_few l a.set a.scene.uses n h))

by_decision_shows : (a : AcceptedValue) (f : FrameValue) (prim : PrimValue) (part : Part) (d : Decision) (s : Sample) → IsShadedPrim a f prim → IsPart part → FitsPart d part → s.time ≤ 65536 →
    Each (LeafShows f prim part s) (filter_map (fragment_of f.camera s) (micropolygons_by a f prim part d))
by_decision_shows a f prim part SplitU s is part_is fits time = tt
by_decision_shows a f prim part SplitV s is part_is fits time = tt
by_decision_shows a f prim part (Dice p q) s is part_is fits time = diced_shows a f (leaf_of f prim part p q) s is part_is fits.0 fits.1 time

leaf_shows : (a : AcceptedValue) (f : FrameValue) (prim : PrimValue) (part : Part) (s : Sample) → IsShadedPrim a f prim → IsPart part → s.time ≤ 65536 → Each (LeafShows f prim part s) (covering f.camera (leaf_micropolygons a f prim part) s)
unfolding leaf_micropolygons
leaf_shows a f prim part s is part_is time =
    by_decision_shows a f prim part (decide f.camera prim part) s is part_is (decision-fits f.camera prim.rate prim.bound (patch_width prim.patch) (patch_net prim.patch (rect_of part)) part) time

none_of : (P : Fragment → Type 0) (fs : List Fragment) → ((g : Fragment) → P g → ⊥) → Each P fs → fs ≡ []
none_of P [] never e = refl
none_of P (g ∷ fs) never e = absurd (never g e.0)

unlike : (b : Bool) → b ≡ true → b ≡ false → ⊥
unlike b t f = cc

in_interval : (t : ℕ) → t ≤ 65535 → t ≤ 65536
in_interval t h = omega (arith, h)

-- ---- the two laws
-- a leaf that doesn't meet a rectangle of pixels covers none of its samples
pub left_out : (a : AcceptedValue) (f : FrameValue) (prim : PrimValue) (part : Part) (r : PixelRect) (xs ys n : ℕ) → IsShadedPrim a f prim → IsPart part → leaf_meets f prim r part ≡ false → n < pixel_count r * (xs * ys) →
    covering f.camera (leaf_micropolygons a f prim part) (sample_in xs ys r n) ≡ []
left_out a f prim part r xs ys n is part_is misses h =
    let s = sample_in xs ys r n in
    none_of (LeafShows f prim part s) (covering f.camera (leaf_micropolygons a f prim part) s)
    (λ g shows. unlike (leaf_meets f prim r part) (shown_reaches f.camera is.view (leaf_box prim part) r s.place g shows (sample_is_in xs ys r n h)) misses)
    (leaf_shows a f prim part s is part_is (in_interval s.time (sample_time xs ys r n)))

-- what covers a sample of a leaf is no nearer than the least depth of its box, less the bound
pub no_nearer : (a : AcceptedValue) (f : FrameValue) (prim : PrimValue) (part : Part) (s : Sample) → IsShadedPrim a f prim → IsPart part → s.time ≤ 65535 →
    Each (λ g. leaf_nearest f prim part ≤ℤ g.depth) (covering f.camera (leaf_micropolygons a f prim part) s)
no_nearer a f prim part s is part_is time =
    Each-weaken (LeafShows f prim part s) (λ g. leaf_nearest f prim part ≤ℤ g.depth) (covering f.camera (leaf_micropolygons a f prim part) s) (λ g shows. shows.no_nearer)
    (leaf_shows a f prim part s is part_is (in_interval s.time time))
