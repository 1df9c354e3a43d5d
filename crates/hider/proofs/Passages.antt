-- The box on the raster of what a cell passes between two times.
use Rattle.std.proofs.Common.{◌≡◌, ℕ, ◌+◌, ◌*◌, ◌<◌, ◌≤◌, arith, sym, subst, inl, inr, Bool, false, None, List, length, slice_index_or, slice_set}
use Rattle.std.specs.Prelude.{ℤ, pos, negsuc, ◌≤ℤ◌, ◌<ℤ◌, int_le, unsigned_abs}
use Rattle.std.proofs.lemmas.Int.{ints, int_min_is, int_max_is}
use Rattle.std.proofs.lemmas.List.{get_or-set_other}
use Rattle.std.proofs.lemmas.Grind.{get_or-set_at}
use Rattle.fixed_math.specs.declared.vec3.Vec3.{Vec3}
use Rattle.fixed_math.specs.declared.vec3.Axis.TheVariants.{X, Y, Z}
use Rattle.fixed_math.specs.Axes.{part_of, origin, IsInBox}
use Rattle.moving.specs.WayLaws.{place-between, place-within, way-start, way-within}
use Rattle.transforms.specs.declared.view.View.{View}
use Rattle.transforms.specs.Field.{left, right, bottom, top, scale_of}
use Rattle.transforms.specs.Raster.{clamped, x_place, y_place, raster_x, raster_y}
use Rattle.hider.specs.declared.bounds.Bounds.{Bounds}
use Rattle.hider.specs.declared.sample.Sample.{Sample}
use Rattle.hider.specs.Bounding.{holds}
use Rattle.hider.specs.declared.moving_box.MovingBox.{MovingBox}
use Rattle.hider.specs.CellBoxes.{EnclosesCell, low_when, high_when}
use Rattle.hider.specs.CellValues.{CellValues, cell_when, micropolygon_of}
use Rattle.hider.specs.Cells.{projected}
use Rattle.hider.specs.Coverage.{covers}
use Rattle.hider.specs.Extents.{IsBelow, IsBelowAll, IsAboveAll, HoldsRaster, IsOutOfSight, Passed}
use Rattle.hider.specs.Fragments.{fragment_of}
use Rattle.hider.specs.Searching.{LiesOutside}
use Rattle.hider.specs.Outermost.{IsLeftmost, IsRightmost, IsTopmost, IsBottommost, IsInOrder, IsSeenAlways, PassesFrom, ShowsNothing}
use Rattle.fixed_math.specs.Spots.{Spot}
use Rattle.hider.proofs.Cuts.{by_bool}
use Rattle.hider.proofs.Depths.{not_le}
use Rattle.hider.proofs.Moves.{above_both, below_both, corner_in, corners_held, seen_none}
use Rattle.hider.proofs.Outside.{outside_none}
use Rattle.hider.proofs.Rows.{by_lt}

-- ---- the box of a box in camera space that holds both ends
pub passed_in : (w : View) (first last : List Vec3) (lo hi : Vec3) (b : Bounds) → length first ≡ 4 → length last ≡ 4 → IsBelowAll lo first → IsBelowAll lo last → IsAboveAll hi first → IsAboveAll hi last →
    HoldsRaster w lo hi b → Passed w first last b
passed_in w first last lo hi b n m lf ll hf hl h corner between seen k l =
    let i : k < length first = omega (arith, n, l) in
    let j : k < length last = omega (arith, m, l) in
    h (corner k) (corner_in lo hi (slice_index_or first k origin) (slice_index_or last k origin) (corner k) (lf k origin i) (ll k origin j) (hf k origin i) (hl k origin j) (between k l))

-- what is seen of it reaches no nearer than near, so that the box may begin there
pub passed_behind : (w : View) (first last : List Vec3) (lo hi cut : Vec3) (b : Bounds) → length first ≡ 4 → length last ≡ 4 → IsBelowAll lo first → IsBelowAll lo last → IsAboveAll hi first → IsAboveAll hi last →
    cut.x ≡ lo.x → cut.y ≡ lo.y → cut.z ≡ w.near → HoldsRaster w cut hi b → Passed w first last b
passed_behind w first last lo hi cut b n m lf ll hf hl ex ey ez h corner between seen k l =
    let i : k < length first = omega (arith, n, l) in
    let j : k < length last = omega (arith, m, l) in
    let g : IsInBox lo hi (corner k) = corner_in lo hi (slice_index_or first k origin) (slice_index_or last k origin) (corner k) (lf k origin i) (ll k origin j) (hf k origin i) (hl k origin j) (between k l) in
    h (corner k) (cut_in cut hi (corner k) (subst (λ z. z ≤ℤ (corner k).x) (sym ex) (g X).0) (subst (λ z. z ≤ℤ (corner k).y) (sym ey) (g Y).0) (subst (λ z. z ≤ℤ (corner k).z) (sym ez) (seen k l).0) (g X).1 (g Y).1 (g Z).1)
  where
    cut_in : (a b p : Vec3) → a.x ≤ℤ p.x → a.y ≤ℤ p.y → a.z ≤ℤ p.z → p.x ≤ℤ b.x → p.y ≤ℤ b.y → p.z ≤ℤ b.z → IsInBox a b p
    cut_in a b p u v x y z t X = (u, y)
    cut_in a b p u v x y z t Y = (v, z)
    cut_in a b p u v x y z t Z = (x, t)

-- and where all of it lies before near nothing is seen
pub passed_before : (w : View) (first last : List Vec3) (hi : Vec3) (b : Bounds) → length first ≡ 4 → length last ≡ 4 → IsAboveAll hi first → IsAboveAll hi last → hi.z <ℤ w.near → Passed w first last b
passed_before w first last hi b n m hf hl before corner between seen k l =
    let i : k < length first = omega (arith, n, l) in
    let j : k < length last = omega (arith, m, l) in
    let p = (slice_index_or first k origin).z in
    let q = (slice_index_or last k origin).z in
    let high : (corner k).z ≤ℤ hi.z = below_both hi.z p q (corner k).z (hf k origin i Z) (hl k origin j Z) (between k l Z) in
    let near = (seen k l).0 in
    absurd (omega (arith, ints, high, near, before))

-- ---- the raster's
clamped_low : (z : ℤ) → negsuc 268435455 ≤ℤ clamped z
clamped_low z = grind (arith, ints)

clamped_high : (z : ℤ) → clamped z ≤ℤ pos 268435456
clamped_high z = grind (arith, ints)

pub through : (x y z : ℤ) → x ≤ℤ y → y ≤ℤ z → x ≤ℤ z
through x y z h g = omega (arith, ints)

pub x_anywhere : (w : View) (p : Vec3) → (negsuc 268435455 ≤ℤ raster_x w p) × (raster_x w p ≤ℤ pos 268435456)
x_anywhere w p = let x = x_place (scale_of w) w.width (left w) (right w) p.x (unsigned_abs p.z) in (clamped_low x, clamped_high x)

pub y_anywhere : (w : View) (p : Vec3) → (negsuc 268435455 ≤ℤ raster_y w p) × (raster_y w p ≤ℤ pos 268435456)
y_anywhere w p = let y = y_place (scale_of w) w.height (bottom w) (top w) p.y (unsigned_abs p.z) in (clamped_low y, clamped_high y)

-- ---- depths
pub out_before : (w : View) (p q : ℤ) → p <ℤ w.near → q <ℤ w.near → IsOutOfSight w p q
out_before w p q a b z h near far = let e = int_max_is p q in let g = h.1 in omega (arith, ints, e, g, a, b, near)

pub out_beyond : (w : View) (p q : ℤ) → w.far <ℤ p → w.far <ℤ q → IsOutOfSight w p q
out_beyond w p q a b z h near far = let e = int_min_is p q in let g = h.0 in omega (arith, ints, e, g, a, b, far)

-- ---- moving boxes
-- the depths of one that is seen at all times
pub seen_low : (w : View) (b : MovingBox) (t : ℕ) → t ≤ 65535 → IsSeenAlways w b → w.near ≤ℤ (low_when b t).z
seen_low w b t h s = above_both w.near b.low.z b.closing_low.z (low_when b t).z s.near s.closing_near (way-within t b.low.z b.closing_low.z (omega (arith, h)))

pub seen_far : (w : View) (b : MovingBox) (t : ℕ) → t ≤ 65535 → IsSeenAlways w b → IsInOrder b → w.near ≤ℤ (high_when b t).z
seen_far w b t h s o = through w.near (low_when b t).z (high_when b t).z (seen_low w b t h s) (o t h Z)

-- the first of a cell: what holds a place has its corners in order
pub seen_first : (w : View) (b : MovingBox) (v : CellValues) (i : ℕ) → IsSeenAlways w b → EnclosesCell v i b → w.near ≤ℤ b.high.z
seen_first w b v i s held =
    let g = held 0 0 (omega arith) (omega arith) Z in
    let e = way-start b.low.z b.closing_low.z in
    let f = way-start b.high.z b.closing_high.z in
    let low : b.low.z ≤ℤ (v.corner i 0 0).z = subst (λ z. z ≤ℤ (v.corner i 0 0).z) e g.0 in
    let high : (v.corner i 0 0).z ≤ℤ b.high.z = subst (λ z. (v.corner i 0 0).z ≤ℤ z) f g.1 in
    through w.near b.low.z b.high.z s.near (through b.low.z (v.corner i 0 0).z b.high.z low high)

-- a box that holds both ends of a moving one holds at all times what that does
pub held_always : (v : CellValues) (i : ℕ) (b : MovingBox) (lo hi : Vec3) → IsBelow lo b.low → IsBelow lo b.closing_low → IsBelow b.high hi → IsBelow b.closing_high hi → EnclosesCell v i b →
    (k t : ℕ) → k < 4 → t ≤ 65535 → IsInBox lo hi (v.corner i k t)
held_always v i b lo hi lf ll hf hl held k t l h a =
    let g = held k t l h a in (
      through (part_of a lo) (part_of a (low_when b t)) (part_of a (v.corner i k t))
          (above_both (part_of a lo) (part_of a b.low) (part_of a b.closing_low) (part_of a (low_when b t)) (lf a) (ll a) (place-within t b.low b.closing_low a (omega (arith, h)))) g.0,
      through (part_of a (v.corner i k t)) (part_of a (high_when b t)) (part_of a hi) g.1
          (below_both (part_of a hi) (part_of a b.high) (part_of a b.closing_high) (part_of a (high_when b t)) (hf a) (hl a) (place-within t b.high b.closing_high a (omega (arith, h)))),
    )

-- nothing shows at a sample beside a box on the raster that holds all corners at its time
nothing_outside : (w : View) (v : CellValues) (i : ℕ) (one_sided flip : Bool) (s : Sample) (b : Bounds) →
    ((k : ℕ) → k < 4 → (b.left ≤ℤ raster_x w (v.corner i k s.time)) × (raster_x w (v.corner i k s.time) ≤ℤ b.right) × (b.top ≤ℤ raster_y w (v.corner i k s.time)) × (raster_y w (v.corner i k s.time) ≤ℤ b.bottom)) →
    LiesOutside b s.place → fragment_of w s (micropolygon_of v one_sided flip i) ≡ None
unfolding fragment_of
nothing_outside w v i one_sided flip s b held outside =
    let k = cell_when v i s.time in
    seen_none w one_sided flip k (λ q. covers q s.place) (outside_none b (projected w k) s.place (corners_held w v i s.time b held) outside)

pub right_of_place : (w : View) (b : MovingBox) (s : Sample) (c : ℤ) → s.time ≤ 65535 → IsLeftmost w (low_when b s.time).x (low_when b s.time).z (high_when b s.time).z c → s.place.x <ℤ c → ShowsNothing w b s
right_of_place w b s c t side before v i one_sided flip held =
    let at : ℕ → Vec3 = λ k. v.corner i k s.time in
    nothing_outside w v i one_sided flip s (record { left = c; right = pos 268435456; top = negsuc 268435455; bottom = pos 268435456 })
    (λ k l. let g = held k s.time l t in (side (at k) (g X).0 (g Z).0 (g Z).1, (x_anywhere w (at k)).1, (y_anywhere w (at k)).0, (y_anywhere w (at k)).1))
    (inl before)

pub left_of_place : (w : View) (b : MovingBox) (s : Sample) (c : ℤ) → s.time ≤ 65535 → IsRightmost w (high_when b s.time).x (low_when b s.time).z (high_when b s.time).z c → c <ℤ s.place.x → ShowsNothing w b s
left_of_place w b s c t side behind v i one_sided flip held =
    let at : ℕ → Vec3 = λ k. v.corner i k s.time in
    nothing_outside w v i one_sided flip s (record { left = negsuc 268435455; right = c; top = negsuc 268435455; bottom = pos 268435456 })
    (λ k l. let g = held k s.time l t in ((x_anywhere w (at k)).0, side (at k) (g X).1 (g Z).0 (g Z).1, (y_anywhere w (at k)).0, (y_anywhere w (at k)).1))
    (inr (inl behind))

pub below_place : (w : View) (b : MovingBox) (s : Sample) (c : ℤ) → s.time ≤ 65535 → IsTopmost w (high_when b s.time).y (low_when b s.time).z (high_when b s.time).z c → s.place.y <ℤ c → ShowsNothing w b s
below_place w b s c t side before v i one_sided flip held =
    let at : ℕ → Vec3 = λ k. v.corner i k s.time in
    nothing_outside w v i one_sided flip s (record { left = negsuc 268435455; right = pos 268435456; top = c; bottom = pos 268435456 })
    (λ k l. let g = held k s.time l t in ((x_anywhere w (at k)).0, (x_anywhere w (at k)).1, side (at k) (g Y).1 (g Z).0 (g Z).1, (y_anywhere w (at k)).1))
    (inr (inr (inl before)))

pub above_place : (w : View) (b : MovingBox) (s : Sample) (c : ℤ) → s.time ≤ 65535 → IsBottommost w (low_when b s.time).y (low_when b s.time).z (high_when b s.time).z c → c <ℤ s.place.y → ShowsNothing w b s
above_place w b s c t side behind v i one_sided flip held =
    let at : ℕ → Vec3 = λ k. v.corner i k s.time in
    nothing_outside w v i one_sided flip s (record { left = negsuc 268435455; right = pos 268435456; top = negsuc 268435455; bottom = c })
    (λ k l. let g = held k s.time l t in ((x_anywhere w (at k)).0, (x_anywhere w (at k)).1, (y_anywhere w (at k)).0, side (at k) (g Y).0 (g Z).0 (g Z).1))
    (inr (inr (inr behind)))

-- ---- steps of time
-- a box in camera space that holds a moving box at two times holds it between them
held_between : (l g : Vec3) (b : MovingBox) (from t to : ℕ) → from ≤ t → t ≤ to → IsBelow l (low_when b from) → IsBelow l (low_when b to) → IsBelow (high_when b from) g → IsBelow (high_when b to) g →
    (p : Vec3) → IsInBox (low_when b t) (high_when b t) p → IsInBox l g p
held_between l g b from t to h k lf ll hf hl p inside a = (
  through (part_of a l) (part_of a (low_when b t)) (part_of a p)
      (above_both (part_of a l) (part_of a (low_when b from)) (part_of a (low_when b to)) (part_of a (low_when b t)) (lf a) (ll a) (place-between from t to b.low b.closing_low a h k)) (inside a).0,
  through (part_of a p) (part_of a (high_when b t)) (part_of a g) (inside a).1
      (below_both (part_of a g) (part_of a (high_when b from)) (part_of a (high_when b to)) (part_of a (high_when b t)) (hf a) (hl a) (place-between from t to b.high b.closing_high a h k)),
)

-- so the box on the raster of the former holds all that shows between
pub passes_from : (w : View) (b : MovingBox) (lo hi : Vec3) (box : Bounds) (from to : ℕ) → to ≤ 65535 → IsBelow lo (low_when b from) → IsBelow lo (low_when b to) → IsBelow (high_when b from) hi → IsBelow (high_when b to) hi →
    HoldsRaster w lo hi box → PassesFrom w b from to box
passes_from w b lo hi box from to t lf ll hf hl holds v i one_sided flip held s low high outside =
    nothing_outside w v i one_sided flip s box
    (λ k l. holds (v.corner i k s.time) (held_between lo hi b from s.time to low high lf ll hf hl (v.corner i k s.time) (held k s.time l (omega (arith, high, t))))) outside

-- the first boxes are those of what passes in their steps of time
abbrev pub AreStepsPassed : View → MovingBox → ℕ → List Bounds → Type 0
AreStepsPassed w b n boxes = (k : ℕ) (d : Bounds) → k < n → PassesFrom w b (8192 * k) (8192 * k + 8191) (slice_index_or boxes k d)

pub step_passed : (w : View) (b : MovingBox) (n : ℕ) (boxes : List Bounds) (box : Bounds) → n < length boxes → PassesFrom w b (8192 * n) (8192 * n + 8191) box → AreStepsPassed w b n boxes → AreStepsPassed w b (n + 1) (slice_set boxes n box)
step_passed w b n boxes box r passes each k d l =
    by_lt k n
    (λ before. subst (λ x. PassesFrom w b (8192 * k) (8192 * k + 8191) x) (sym (get_or-set_other boxes n k box d (λ e. omega (arith, before, e)))) (each k d before))
    (λ behind.
    let same : k ≡ n = omega (arith, l, behind) in
    subst (λ x. PassesFrom w b (8192 * k) (8192 * k + 8191) x) (sym (get_or-set_at boxes n k box d same r)) (subst (λ (m : ℕ). PassesFrom w b (8192 * m) (8192 * m + 8191) box) (sym same) passes))

-- ---- a place that a box doesn't hold lies outside it
pub outside_of : (b : Bounds) (s : Spot) → holds b s ≡ false → LiesOutside b s
outside_of b s e =
    by_bool (int_le b.left s.x)
    (λ l. by_bool (int_le s.x b.right)
    (λ r. by_bool (int_le b.top s.y)
    (λ t. let f : int_le s.y b.bottom ≡ false = rw (l, r, t) at e in inr (inr (inr (not_le s.y b.bottom f))))
    (λ t. inr (inr (inl (not_le b.top s.y t)))))
    (λ r. inr (inl (not_le s.x b.right r))))
    (λ l. inl (not_le b.left s.x l))
