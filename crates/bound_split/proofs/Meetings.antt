-- A part of a surface shows nowhere where the whole doesn't, and comes no nearer.
use Rattle.std.proofs.Common.{◌≡◌, subst, get_or, to_z, of_z, ℕ, zero, suc, ◌*◌, ◌-◌, ◌<◌, ◌≤◌, arith, refl, sym, ◌∙◌, ap, Bool, true, false, cond, ◌&&◌, ◌||◌, List, [], ◌∷◌, ◌++◌, length, filter, map, ◌⊎◌, inl, inr}
use Rattle.std.specs.Prelude.{ℤ, pos, neg_ℤ, ◌+ℤ◌, ◌-ℤ◌, ◌≤ℤ◌, ◌<ℤ◌, int_lt, int_le, unsigned_abs}
use Rattle.std.proofs.lemmas.Bool.{and_parts}
use Rattle.std.specs.Int.{w64}
use Rattle.std.proofs.lemmas.Int.{ints}
use Rattle.std.proofs.lemmas.List.Elements.{filter-append}
use Rattle.fixed_math.specs.declared.vec3.Vec3.{Vec3}
use Rattle.fixed_math.specs.declared.vec3.Axis.{Axis}
use Rattle.fixed_math.specs.declared.vec3.Axis.TheVariants.{X, Y, Z}
use Rattle.fixed_math.specs.Axes.{part_of, IsInBox, AreWithin}
use Rattle.fixed_math.specs.Fixed.{add, sub}
use Rattle.fixed_math.specs.Spots.{PixelRect}
use Rattle.fixed_math.proofs.Fits.{sat_same}
use Rattle.patches.specs.Boxes.{Box, corners, Holds, IsWithin, PartsLieInBoxes}
use Rattle.patches.specs.Lists.{Each}
use Rattle.patches.specs.ListLaws.{fold_min_from, fold_max_to}
use Rattle.patches.specs.Parts.{Part, IsPart, rect_of, low_u, high_u, low_v, high_v}
use Rattle.patches.specs.Rects.{Rect, IsInside}
use Rattle.patches.proofs.Spans.{rect_of-IsRect, low_u-IsPart, high_u-IsPart, low_v-IsPart, high_v-IsPart, low_u-IsInside, high_u-IsInside, low_v-IsInside, high_v-IsInside}
use Rattle.transforms.specs.declared.view.View.{View}
use Rattle.transforms.specs.Field.{IsView, scale_of, left, right, bottom, top}
use Rattle.transforms.specs.Raster.{clamped, x_place, y_place, HoldsPlaces, raster_x, raster_y, place_of, box_corners, number, least_place, greatest_place, box_of_places, raster_box, side}
use Rattle.transforms.proofs.Between.{holds_places}
use Rattle.bound_split.specs.declared.splits.Decision.{Decision}
use Rattle.bound_split.specs.declared.splits.Decision.TheVariants.{SplitU, SplitV, Dice}
use Rattle.bound_split.specs.declared.extents.Reach.TheVariants.{Nowhere, Everywhere, Within}
use Rattle.bound_split.specs.Decisions.{FitsPart}
use Rattle.bound_split.specs.Leaves.{depth, by_decision, leaves_to, leaves}
use Rattle.bound_split.specs.Extents.{lowered, raised, widened, reach_within, reach_of, extent_of, overlaps, reaches, part_meets}

-- ---- sums that need no saturation
pub less_is : (p b : ℤ) → unsigned_abs p ≤ 1073741824 → pos 0 ≤ℤ b → b ≤ℤ pos 536870912 → sub p b ≡ p -ℤ b
less_is p b s l h = sat_same (p -ℤ b) (omega (arith, ints))

pub more_is : (p b : ℤ) → unsigned_abs p ≤ 1073741824 → pos 0 ≤ℤ b → b ≤ℤ pos 536870912 → add p b ≡ p +ℤ b
more_is p b s l h = sat_same (p +ℤ b) (omega (arith, ints))

pub lowered_is : (p : Vec3) (b : ℤ) → IsWithin 1073741824 p → pos 0 ≤ℤ b → b ≤ℤ pos 536870912 → record { x = sub p.x b; y = sub p.y b; z = sub p.z b } ≡ lowered b p
lowered_is p b s l h = rw (less_is p.x b (s X) l h, less_is p.y b (s Y) l h, less_is p.z b (s Z) l h) refl

pub raised_is : (p : Vec3) (b : ℤ) → IsWithin 1073741824 p → pos 0 ≤ℤ b → b ≤ℤ pos 536870912 → record { x = add p.x b; y = add p.y b; z = add p.z b } ≡ raised b p
raised_is p b s l h = rw (more_is p.x b (s X) l h, more_is p.y b (s Y) l h, more_is p.z b (s Z) l h) refl

-- ---- widened boxes
apart : (l h b : ℤ) → l ≤ℤ h → pos 0 ≤ℤ b → (l -ℤ b) ≤ℤ (h +ℤ b)
apart l h b o p = omega (arith, ints)

pub widened-IsOrdered : (b : ℤ) (lo hi : Vec3) → pos 0 ≤ℤ b → ((a : Axis) → part_of a lo ≤ℤ part_of a hi) → (a : Axis) → part_of a (lowered b lo) ≤ℤ part_of a (raised b hi)
widened-IsOrdered b lo hi p o X = apart lo.x hi.x b (o X) p
widened-IsOrdered b lo hi p o Y = apart lo.y hi.y b (o Y) p
widened-IsOrdered b lo hi p o Z = apart lo.z hi.z b (o Z) p

less_in : (l h z b : ℤ) → pos 0 ≤ℤ b → (l ≤ℤ z) × (z ≤ℤ h) → ((l -ℤ b) ≤ℤ (z -ℤ b)) × ((z -ℤ b) ≤ℤ (h +ℤ b))
less_in l h z b p i = let x = i.0 in let y = i.1 in (omega (arith, ints), omega (arith, ints))

more_in : (l h z b : ℤ) → pos 0 ≤ℤ b → (l ≤ℤ z) × (z ≤ℤ h) → ((l -ℤ b) ≤ℤ (z +ℤ b)) × ((z +ℤ b) ≤ℤ (h +ℤ b))
more_in l h z b p i = let x = i.0 in let y = i.1 in (omega (arith, ints), omega (arith, ints))

lowered_in : (b : ℤ) (lo hi p : Vec3) → pos 0 ≤ℤ b → IsInBox lo hi p → IsInBox (lowered b lo) (raised b hi) (lowered b p)
lowered_in b lo hi p s i X = less_in lo.x hi.x p.x b s (i X)
lowered_in b lo hi p s i Y = less_in lo.y hi.y p.y b s (i Y)
lowered_in b lo hi p s i Z = less_in lo.z hi.z p.z b s (i Z)

raised_in : (b : ℤ) (lo hi p : Vec3) → pos 0 ≤ℤ b → IsInBox lo hi p → IsInBox (lowered b lo) (raised b hi) (raised b p)
raised_in b lo hi p s i X = more_in lo.x hi.x p.x b s (i X)
raised_in b lo hi p s i Y = more_in lo.y hi.y p.y b s (i Y)
raised_in b lo hi p s i Z = more_in lo.z hi.z p.z b s (i Z)

-- a box that lies in another lies in it when both are widened
pub widened_in : (b : ℤ) (inner outer : Box) → pos 0 ≤ℤ b → Holds outer inner.low → Holds outer inner.high → Holds (widened b outer) (widened b inner).low × Holds (widened b outer) (widened b inner).high
widened_in b inner outer s l h = (lowered_in b outer.low outer.high inner.low s l, raised_in b outer.low outer.high inner.high s h)

-- ---- boxes on the raster
mixed_in : (lo hi p q r : Vec3) → IsInBox lo hi p → IsInBox lo hi q → IsInBox lo hi r → IsInBox lo hi (record { x = p.x; y = q.y; z = r.z })
mixed_in lo hi p q r i j k X = i X
mixed_in lo hi p q r i j k Y = j Y
mixed_in lo hi p q r i j k Z = k Z

-- the places of points lie between four numbers
record IsPlaced (v : View) (left top right bottom : ℤ) (p : Vec3) : Type 0 where
  from_left : left ≤ℤ raster_x v p
  to_right : raster_x v p ≤ℤ right
  from_top : top ≤ℤ raster_y v p
  to_bottom : raster_y v p ≤ℤ bottom

-- the box on the raster of a box whose corners' places lie between them does
record IsBoxPlaced (left top right bottom : ℤ) (box : List (List ℤ)) : Type 0 where
  from_left : left ≤ℤ side 0 0 box
  to_right : side 0 1 box ≤ℤ right
  from_top : top ≤ℤ side 1 0 box
  to_bottom : side 1 1 box ≤ℤ bottom

-- what holds of the places of all corners
each_corner : (P : List ℤ → Type 0) (v : View) (a b : Vec3) → ((f g h : Bool) → P (place_of v (record { x = cond f b.x a.x; y = cond g b.y a.y; z = cond h b.z a.z }))) → Each P (map (place_of v) (box_corners a b))
each_corner P v a b at = (
  at false false false,
  (at true false false, (at false true false, (at true true false, (at false false true, (at true false true, (at false true true, (at true true true, tt))))))),
)

all_above : (k : ℕ) (m : ℤ) (qs : List (List ℤ)) → 0 < length qs → Each (λ q. m ≤ℤ number k q) qs → m ≤ℤ least_place k qs
all_above k m [] some e = absurd (omega arith)
all_above k m (q ∷ qs) some e = fold_min_from (number k) (number k q) m qs e.0 e.1

all_below : (k : ℕ) (m : ℤ) (qs : List (List ℤ)) → 0 < length qs → Each (λ q. number k q ≤ℤ m) qs → greatest_place k qs ≤ℤ m
all_below k m [] some e = absurd (omega arith)
all_below k m (q ∷ qs) some e = fold_max_to (number k) (number k q) m qs e.0 e.1

box_placed : (v : View) (left top right bottom : ℤ) (a b : Vec3) →
    ((f g h : Bool) → IsPlaced v left top right bottom (record { x = cond f b.x a.x; y = cond g b.y a.y; z = cond h b.z a.z })) → IsBoxPlaced left top right bottom (raster_box v a b)
unfolding box_of_places
box_placed v left top right bottom a b at =
    let qs = map (place_of v) (box_corners a b) in
    let some : 0 < length qs = omega arith in
    record {
      from_left = all_above 0 left qs some (each_corner (λ q. left ≤ℤ number 0 q) v a b (λ f g h. (at f g h).from_left));
      to_right = all_below 0 right qs some (each_corner (λ q. number 0 q ≤ℤ right) v a b (λ f g h. (at f g h).to_right));
      from_top = all_above 1 top qs some (each_corner (λ q. top ≤ℤ number 1 q) v a b (λ f g h. (at f g h).from_top));
      to_bottom = all_below 1 bottom qs some (each_corner (λ q. number 1 q ≤ℤ bottom) v a b (λ f g h. (at f g h).to_bottom));
    }

corner_in : (lo hi a b : Vec3) → IsInBox lo hi a → IsInBox lo hi b → (f g h : Bool) → IsInBox lo hi (record { x = cond f b.x a.x; y = cond g b.y a.y; z = cond h b.z a.z })
corner_in lo hi a b i j f g h =
    let one : (c : Bool) → IsInBox lo hi (cond c b a) = λ c. either c in
    λ x. by_axis f g h x
  where
    either : (c : Bool) → IsInBox lo hi (cond c b a)
    either true = j
    either false = i

    by_axis : (f g h : Bool) (x : Axis) → (part_of x lo ≤ℤ part_of x (record { x = cond f b.x a.x; y = cond g b.y a.y; z = cond h b.z a.z })) × (part_of x (record { x = cond f b.x a.x; y = cond g b.y a.y; z = cond h b.z a.z }) ≤ℤ part_of x hi)
    by_axis true g h X = j X
    by_axis false g h X = i X
    by_axis f true h Y = j Y
    by_axis f false h Y = i Y
    by_axis f g true Z = j Z
    by_axis f g false Z = i Z

-- the box on the raster of a box in another lies in that of the other
raster_in : (v : View) → IsView v → (lo hi a b : Vec3) → v.near ≤ℤ lo.z → IsInBox lo hi a → IsInBox lo hi b →
    IsBoxPlaced (side 0 0 (raster_box v lo hi)) (side 1 0 (raster_box v lo hi)) (side 0 1 (raster_box v lo hi)) (side 1 1 (raster_box v lo hi)) (raster_box v a b)
raster_in v w lo hi a b near i j =
    box_placed v (side 0 0 (raster_box v lo hi)) (side 1 0 (raster_box v lo hi)) (side 0 1 (raster_box v lo hi)) (side 1 1 (raster_box v lo hi)) a b
    (λ f g h. let c = holds_places v w lo hi near _ (corner_in lo hi a b i j f g h) in record { from_left = c.0; to_right = c.1; from_top = c.2; to_bottom = c.3 })

-- its sides are small
clamped_low : (z : ℤ) → neg_ℤ (pos 268435456) ≤ℤ clamped z
clamped_low z = grind (arith, ints)

clamped_high : (z : ℤ) → clamped z ≤ℤ pos 268435456
clamped_high z = grind (arith, ints)

small_placed : (v : View) (p : Vec3) → IsPlaced v (neg_ℤ (pos 268435456)) (neg_ℤ (pos 268435456)) (pos 268435456) (pos 268435456) p
small_placed v p =
    let x = x_place (scale_of v) v.width (left v) (right v) p.x (unsigned_abs p.z) in
    let y = y_place (scale_of v) v.height (bottom v) (top v) p.y (unsigned_abs p.z) in
    record { from_left = clamped_low x; to_right = clamped_high x; from_top = clamped_low y; to_bottom = clamped_high y }

low_corner : (a b : Vec3) → ((x : Axis) → part_of x a ≤ℤ part_of x b) → IsInBox a b a
low_corner a b o x = (same (part_of x a), o x)
  where
    same : (z : ℤ) → z ≤ℤ z
    same z = omega (arith, ints)

reading : (least place greatest : ℤ) → neg_ℤ (pos 268435456) ≤ℤ least → least ≤ℤ place → place ≤ℤ greatest → greatest ≤ℤ pos 268435456 → (to_z w64 (of_z w64 least) ≡ least) × (to_z w64 (of_z w64 greatest) ≡ greatest)
reading least place greatest a b c d = (omega (arith, ints), omega (arith, ints))

-- what the code reads of it
pub box_read : (v : View) (a b : Vec3) (box : List (List ℤ)) → ((x : Axis) → part_of x a ≤ℤ part_of x b) → HoldsPlaces v a b → box ≡ raster_box v a b →
    Within (to_z w64 (of_z w64 (side 0 0 box))) (to_z w64 (of_z w64 (side 1 0 box))) (to_z w64 (of_z w64 (side 0 1 box))) (to_z w64 (of_z w64 (side 1 1 box))) ≡ reach_within (raster_box v a b)
box_read v a b box o holds is =
    let r = raster_box v a b in
    let near = box_placed v (neg_ℤ (pos 268435456)) (neg_ℤ (pos 268435456)) (pos 268435456) (pos 268435456) a b (λ f g h. small_placed v _) in
    let at = holds a (low_corner a b o) in
    let x = reading (side 0 0 r) (raster_x v a) (side 0 1 r) near.from_left at.0 at.1 near.to_right in
    let y = reading (side 1 0 r) (raster_y v a) (side 1 1 r) near.from_top at.2 at.3 near.to_bottom in
    within_is is x.0 y.0 x.1 y.1
  where
    within_is : box ≡ raster_box v a b → to_z w64 (of_z w64 (side 0 0 (raster_box v a b))) ≡ side 0 0 (raster_box v a b) → to_z w64 (of_z w64 (side 1 0 (raster_box v a b))) ≡ side 1 0 (raster_box v a b) →
        to_z w64 (of_z w64 (side 0 1 (raster_box v a b))) ≡ side 0 1 (raster_box v a b) → to_z w64 (of_z w64 (side 1 1 (raster_box v a b))) ≡ side 1 1 (raster_box v a b) →
        Within (to_z w64 (of_z w64 (side 0 0 box))) (to_z w64 (of_z w64 (side 1 0 box))) (to_z w64 (of_z w64 (side 0 1 box))) (to_z w64 (of_z w64 (side 1 1 box))) ≡ reach_within (raster_box v a b)
    within_is e p q s t = rw (e, p, q, s, t) refl

-- ---- the corners of a box as items of a list
pub corner_small : (m k : ℕ) (d : Vec3) (ps : List Vec3) (b : Box) → ps ≡ corners b → k < 2 → AreWithin m ps → IsWithin m (get_or ps k d)
corner_small m k d ps b is lt h = subst (λ qs. AreWithin m qs → IsWithin m (get_or qs k d)) (sym is) (of_two k lt) h
  where
    of_two : (k : ℕ) → k < 2 → AreWithin m (corners b) → IsWithin m (get_or (corners b) k d)
    of_two zero lt h = h 0
    of_two (suc zero) lt h = h 1
    of_two (suc (suc k)) lt h = absurd (omega arith)

-- ---- where a box shows
pub by_bool : {P : Type 0} (b : Bool) → (b ≡ true → P) → (b ≡ false → P) → P
by_bool true f g = f refl
by_bool false f g = g refl

-- a box shows nowhere, or it may lie before near in part, or it shows within its box on the raster
pub by_reach : {P : Type 0} (v : View) (b : Box) → (reach_of v b ≡ Nowhere → (b.high.z <ℤ v.near) ⊎ (v.far <ℤ b.low.z) → P) → (reach_of v b ≡ Everywhere → b.low.z <ℤ v.near → P) →
    (reach_of v b ≡ reach_within (raster_box v b.low b.high) → v.near ≤ℤ b.low.z → P) → P
unfolding reach_of
by_reach v b nowhere everywhere within =
    by_bool (int_lt b.high.z v.near)
    (λ h. nowhere (rw h refl) (inl (omega (arith, ints))))
    (λ h. by_bool (int_lt v.far b.low.z)
    (λ k. nowhere (rw (h, k) refl) (inr (omega (arith, ints))))
    (λ k. by_bool (int_lt b.low.z v.near)
    (λ l. everywhere (rw (h, k, l) refl) (omega (arith, ints)))
    (λ l. within (rw (h, k, l) refl) (omega (arith, ints)))))

pub reach-everywhere : (v w : View) (b : Box) → w ≡ v → false ≡ (int_lt b.high.z w.near || int_lt w.far b.low.z) → true ≡ int_lt b.low.z w.near → Everywhere ≡ reach_of v b
unfolding reach_of
reach-everywhere v w b e h k = subst (λ u. Everywhere ≡ reach_of u b) e (rw (← h, ← k) refl)

pub reach-within : (v w : View) (b : Box) → w ≡ v → false ≡ (int_lt b.high.z w.near || int_lt w.far b.low.z) → false ≡ int_lt b.low.z w.near → reach_within (raster_box v b.low b.high) ≡ reach_of v b
unfolding reach_of
reach-within v w b e h k = subst (λ u. reach_within (raster_box u b.low b.high) ≡ reach_of u b) e (rw (← h, ← k) refl)

overlaps-more : (first last first' last' : ℤ) (from to : ℕ) → first' ≤ℤ first → last ≤ℤ last' → overlaps first last from to ≡ true → overlaps first' last' from to ≡ true
overlaps-more first last first' last' from to h k e =
    let both = and_parts (int_lt first (pos (256 * to))) (int_le (pos (256 * from)) last) e in
    let x = both.0 in let y = both.1 in
    let p : int_lt first' (pos (256 * to)) ≡ true = grind (arith, ints) in
    let q : int_le (pos (256 * from)) last' ≡ true = grind (arith, ints) in
    rw (p, q) refl

within-more : (box wider : List (List ℤ)) (r : PixelRect) → IsBoxPlaced (side 0 0 wider) (side 1 0 wider) (side 0 1 wider) (side 1 1 wider) box → reaches (reach_within box) r ≡ true → reaches (reach_within wider) r ≡ true
within-more box wider r i e =
    let both = and_parts (overlaps (side 0 0 box) (side 0 1 box) r.left r.right) (overlaps (side 1 0 box) (side 1 1 box) r.top r.bottom) e in
    let x : overlaps (side 0 0 wider) (side 0 1 wider) r.left r.right ≡ true = overlaps-more (side 0 0 box) (side 0 1 box) (side 0 0 wider) (side 0 1 wider) r.left r.right i.from_left i.to_right both.0 in
    let y : overlaps (side 1 0 wider) (side 1 1 wider) r.top r.bottom ≡ true = overlaps-more (side 1 0 box) (side 1 1 box) (side 1 0 wider) (side 1 1 wider) r.top r.bottom i.from_top i.to_bottom both.1 in
    ap (λ c. c && overlaps (side 1 0 wider) (side 1 1 wider) r.top r.bottom) x ∙ y

clash : {P : Type 0} (b : Bool) → b ≡ true → b ≡ false → P
clash b t f = absurd (cc)

unseen : (v : View) (inner outer : Box) → (outer.high.z <ℤ v.near) ⊎ (v.far <ℤ outer.low.z) → outer.low.z ≤ℤ inner.low.z → inner.high.z ≤ℤ outer.high.z → reach_of v inner ≡ Nowhere
unfolding reach_of
unseen v inner outer (inl before) low high = let t : int_lt inner.high.z v.near ≡ true = grind (arith, ints) in rw t refl
unseen v inner outer (inr beyond) low high =
    let t : int_lt v.far inner.low.z ≡ true = grind (arith, ints) in
    by_bool (int_lt inner.high.z v.near) (λ s. rw s refl) (λ s. rw (s, t) refl)

-- what shows of a box shows of one that holds it
pub reach-more : (v : View) → IsView v → (inner outer : Box) (r : PixelRect) → Holds outer inner.low → Holds outer inner.high → reaches (reach_of v inner) r ≡ true → reaches (reach_of v outer) r ≡ true
reach-more v w inner outer r l h e =
    let low = (l Z).0 in let high = (h Z).1 in
    by_reach v outer
    (λ is none. clash (reaches (reach_of v inner) r) e (ap (λ q. reaches q r) (unseen v inner outer none low high)))
    (λ is before. ap (λ q. reaches q r) is)
    (λ is near. by_reach v inner
    (λ unshown none. clash (reaches (reach_of v inner) r) e (ap (λ q. reaches q r) unshown))
    (λ all before. absurd (omega (arith, ints)))
    (λ within behind.
    ap (λ q. reaches q r) is ∙ within-more (raster_box v inner.low inner.high) (raster_box v outer.low outer.high) r
    (raster_in v w outer.low outer.high inner.low inner.high near l h) (ap (λ q. reaches q r) (sym within) ∙ e)))

-- ---- parts of surfaces
-- a part of another passes a test only where that does
abbrev pub PassesUp : (Part → Bool) → Type 0
PassesUp test = (p q : Part) → IsPart p → IsPart q → IsInside (rect_of q) (rect_of p) → test q ≡ true → test p ≡ true

pub meets_up : {S : Type 0} (box : S → Rect → Box) → PartsLieInBoxes box → (s : S) (v : View) (bound : ℤ) (r : PixelRect) → IsView v → pos 0 ≤ℤ bound → PassesUp (part_meets v bound (box s) r)
meets_up box law s v bound r w low p q hp hq i e =
    let in_box = law s (rect_of q) (rect_of p) (rect_of-IsRect q hq) (rect_of-IsRect p hp) i in
    let wide = widened_in bound (box s (rect_of q)) (box s (rect_of p)) low in_box.0 in_box.1 in
    reach-more v w (widened bound (box s (rect_of q))) (widened bound (box s (rect_of p))) r wide.0 wide.1 e

-- and comes no nearer
pub nearest_up : {S : Type 0} (box : S → Rect → Box) → PartsLieInBoxes box → (s : S) (v : View) (bound : ℤ) (p q : Part) → IsPart p → IsPart q → IsInside (rect_of q) (rect_of p) →
    (extent_of v bound (box s (rect_of p))).nearest ≤ℤ (extent_of v bound (box s (rect_of q))).nearest
nearest_up box law s v bound p q hp hq i =
    let in_box = law s (rect_of q) (rect_of p) (rect_of-IsRect q hq) (rect_of-IsRect p hp) i in
    let low = (in_box.0 Z).0 in
    omega (arith, ints)

failing : (test : Part → Bool) (p q : Part) → (test q ≡ true → test p ≡ true) → test p ≡ false → test q ≡ false
failing test p q up fails = by_bool (test q) (λ t. clash (test p) (up t) fails) (λ f. f)

both_none : (test : Part → Bool) (ps qs : List Part) → filter test ps ≡ [] → filter test qs ≡ [] → filter test (ps ++ qs) ≡ []
both_none test ps qs e f = filter-append test ps qs ∙ ap (λ xs. xs ++ filter test qs) e ∙ f

by_fitting : (P : List Part → Type 0) (d : Decision) (p : Part) (u v l : List Part) → FitsPart d p → (p.a < 8 → P u) → (p.b < 8 → P v) → P l → P (by_decision d u v l)
by_fitting P SplitU p u v l fits a b c = a fits
by_fitting P SplitV p u v l fits a b c = b fits
by_fitting P (Dice m n) p u v l fits a b c = c

-- where a part fails a test that parts pass up, so does each leaf below it
pub none_below : (test : Part → Bool) (decide : Part → Decision) → PassesUp test → ((p : Part) → FitsPart (decide p) p) → (n : ℕ) (p : Part) → IsPart p → test p ≡ false → filter test (leaves_to n decide p) ≡ []
unfolding leaves_to
none_below test decide up fits zero p is fails = ap (λ b. cond b (p ∷ []) []) fails
none_below test decide up fits (suc n) p is fails =
    let half : (q : Part) → IsPart q → IsInside (rect_of q) (rect_of p) → filter test (leaves_to n decide q) ≡ [] =
    λ q part inside. none_below test decide up fits n q part (failing test p q (up p q is part inside) fails) in
    by_fitting (λ ps. filter test ps ≡ []) (decide p) p _ _ _ (fits p)
    (λ room. both_none test (leaves_to n decide (low_u p)) (leaves_to n decide (high_u p))
    (half (low_u p) (low_u-IsPart p is room) (low_u-IsInside p room)) (half (high_u p) (high_u-IsPart p is room) (high_u-IsInside p room)))
    (λ room. both_none test (leaves_to n decide (low_v p)) (leaves_to n decide (high_v p))
    (half (low_v p) (low_v-IsPart p is room) (low_v-IsInside p room)) (half (high_v p) (high_v-IsPart p is room) (high_v-IsInside p room)))
    (ap (λ b. cond b (p ∷ []) []) fails)

-- a surface's part that doesn't meet a rectangle of pixels has no leaf below it that does
pub inherits : {S : Type 0} (box : S → Rect → Box) → PartsLieInBoxes box → (s : S) (v : View) (bound : ℤ) (r : PixelRect) (decide : Part → Decision) (p : Part) → IsView v → pos 0 ≤ℤ bound → ((q : Part) → FitsPart (decide q) q) → IsPart p →
    part_meets v bound (box s) r p ≡ false → filter (part_meets v bound (box s) r) (leaves decide p) ≡ []
inherits box law s v bound r decide p w low fits is fails = none_below (part_meets v bound (box s) r) decide (meets_up box law s v bound r w low) fits (16 - depth p) p is fails
