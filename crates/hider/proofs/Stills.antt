-- Micropolygons that are at the same points at both ends of the shutter's interval.
use Rattle.std.proofs.Common.{◌≡◌, ℕ, ◌<◌, ◌≤◌, ap, arith, refl, Bool, List, [], ◌∷◌, inl, inr}
use Rattle.std.specs.Prelude.{ℤ, Some, None, slice_index_or}
use Rattle.std.specs.Option.{option_and_then}
use Rattle.std.specs.List.{cons_option}
use Rattle.std.proofs.lemmas.Int.{ints, int_min_is, int_max_is}
use Rattle.fixed_math.specs.declared.vec3.Vec3.{Vec3}
use Rattle.fixed_math.specs.declared.vec3.Axis.{Axis}
use Rattle.fixed_math.specs.declared.vec3.Axis.TheVariants.{X, Y, Z}
use Rattle.fixed_math.specs.Axes.{part_of, origin}
use Rattle.transforms.specs.declared.view.View.{View}
use Rattle.hider.specs.declared.bounds.Bounds.{Bounds}
use Rattle.hider.specs.declared.cell.Cell.{Cell}
use Rattle.hider.specs.declared.quad.Quad.{Quad}
use Rattle.hider.specs.declared.sample.Sample.{Sample}
use Rattle.hider.specs.declared.sample_grid.SampleGrid.{SampleGrid}
use Rattle.hider.specs.declared.fragment.Fragment.{Fragment}
use Rattle.hider.specs.Bounding.{bounds_of}
use Rattle.hider.specs.Cells.{still, quad_of}
use Rattle.hider.specs.CellValues.{CellValues, cell_when, corners_when, micropolygon_of, LiesBetween, MovesBetween}
use Rattle.hider.specs.Coverage.{covers}
use Rattle.hider.specs.Fragments.{fragment_of, covering}
use Rattle.hider.specs.Searching.{LiesOutside, StaysInside}
use Rattle.hider.specs.Tiles.{HavePut, rect_of, sample_of}
use Rattle.hider.proofs.Outside.{left_of, right_of, above, below}
use Rattle.hider.proofs.Pixels.{sample_time}

-- ---- what lies between a number and itself
between_same : (x y z : ℤ) → x ≡ y → LiesBetween x y z → z ≡ x
between_same x y z e h =
    let l = int_min_is x y in
    let g = int_max_is x y in
    let a = h.0 in
    let b = h.1 in
    omega (arith, ints, l, g, a, b, e)

same_parts : (p q : Vec3) → p.x ≡ q.x → p.y ≡ q.y → p.z ≡ q.z → p ≡ q
same_parts p q x y z = λ i. record { x = x i; y = y i; z = z i }

same_point : (p q r : Vec3) → q ≡ r → ((a : Axis) → LiesBetween (part_of a q) (part_of a r) (part_of a p)) → p ≡ q
same_point p q r e h =
    same_parts p q (between_same q.x r.x p.x (ap (part_of X) e) (h X)) (between_same q.y r.y p.y (ap (part_of Y) e) (h Y)) (between_same q.z r.z p.z (ap (part_of Z) e) (h Z))

-- so the cell is the same at all times
pub same_cell : (v : CellValues) (i t : ℕ) → MovesBetween v → i < v.count → t ≤ 65535 → corners_when v i 0 ≡ corners_when v i 65535 → cell_when v i t ≡ cell_when v i 0
unfolding cell_when
same_cell v i t m h l s =
    let a : v.corner i 0 t ≡ v.corner i 0 0 = same_point (v.corner i 0 t) (v.corner i 0 0) (v.corner i 0 65535) (ap (λ xs. slice_index_or xs 0 origin) s) (λ x. m i 0 t x h (omega arith) l) in
    let b : v.corner i 1 t ≡ v.corner i 1 0 = same_point (v.corner i 1 t) (v.corner i 1 0) (v.corner i 1 65535) (ap (λ xs. slice_index_or xs 1 origin) s) (λ x. m i 1 t x h (omega arith) l) in
    let c : v.corner i 2 t ≡ v.corner i 2 0 = same_point (v.corner i 2 t) (v.corner i 2 0) (v.corner i 2 65535) (ap (λ xs. slice_index_or xs 2 origin) s) (λ x. m i 2 t x h (omega arith) l) in
    let d : v.corner i 3 t ≡ v.corner i 3 0 = same_point (v.corner i 3 t) (v.corner i 3 0) (v.corner i 3 65535) (ap (λ xs. slice_index_or xs 3 origin) s) (λ x. m i 3 t x h (omega arith) l) in
    rw (a, b, c, d) refl

-- and shows what one that stays shows
still_shown : (w : View) (v : CellValues) (i : ℕ) (one_sided flip : Bool) (s : Sample) → cell_when v i s.time ≡ cell_when v i 0 →
    fragment_of w s (micropolygon_of v one_sided flip i) ≡ fragment_of w s (still one_sided flip (cell_when v i 0))
unfolding fragment_of
still_shown w v i one_sided flip s e = ap (λ k. option_and_then (λ q. covers q s.place) (quad_of w one_sided flip k)) e

pub still_put : (w : View) (v : CellValues) (i : ℕ) (one_sided flip : Bool) (g : SampleGrid) (a b : List (List Fragment)) → MovesBetween v → i < v.count →
    corners_when v i 0 ≡ corners_when v i 65535 → HavePut g (covering w (still one_sided flip (cell_when v i 0) ∷ [])) a b → HavePut g (covering w (micropolygon_of v one_sided flip i ∷ [])) a b
still_put w v i one_sided flip g a b m h s put n d l =
    let o = sample_of g n in
    let e = still_shown w v i one_sided flip o (same_cell v i o.time m h (sample_time g.xs g.ys (rect_of g) n) s) in
    rw e (put n d l)

-- ---- a still one shows nothing outside its box
pub covers_inside : (q : Quad) (b : Bounds) → b ≡ bounds_of q → StaysInside b (λ s. covers q s.place)
covers_inside q b e s t l = by_side l
  where
    by_side : LiesOutside b s.place → covers q s.place ≡ None
    by_side (inl h) = left_of b q s.place e h
    by_side (inr (inl h)) = right_of b q s.place e h
    by_side (inr (inr (inl h))) = above b q s.place e h
    by_side (inr (inr (inr h))) = below b q s.place e h

unseen_still : (w : View) (s : Sample) (one_sided flip : Bool) (k : Cell) → quad_of w one_sided flip k ≡ None → fragment_of w s (still one_sided flip k) ≡ None
unfolding fragment_of
unseen_still w s one_sided flip k e = ap (option_and_then (λ q. covers q s.place)) e

seen_still : (w : View) (s : Sample) (one_sided flip : Bool) (k : Cell) (q : Quad) → quad_of w one_sided flip k ≡ Some q → fragment_of w s (still one_sided flip k) ≡ covers q s.place
unfolding fragment_of
seen_still w s one_sided flip k q e = ap (option_and_then (λ q. covers q s.place)) e

-- what is put in of one that isn't seen, and of one that is
pub unseen_put : (w : View) (one_sided flip : Bool) (k : Cell) (g : SampleGrid) (a : List (List Fragment)) → quad_of w one_sided flip k ≡ None → HavePut g (covering w (still one_sided flip k ∷ [])) a a
unseen_put w one_sided flip k g a e n d h = let f = unseen_still w (sample_of g n) one_sided flip k e in rw f refl

pub seen_put : (w : View) (one_sided flip : Bool) (k : Cell) (q : Quad) (g : SampleGrid) (a b : List (List Fragment)) → quad_of w one_sided flip k ≡ Some q → HavePut g (λ s. cons_option (covers q s.place) []) a b →
    HavePut g (covering w (still one_sided flip k ∷ [])) a b
seen_put w one_sided flip k q g a b e p n d h =
    let f = seen_still w (sample_of g n) one_sided flip k q e in
    rw f (p n d h)
