-- Cells beyond one side of a tile's pixels.
use Rattle.std.proofs.Common.{◌≡◌, ℕ, zero, suc, ◌+◌, ◌++◌, length, sym, ◌<◌, arith, refl, subst, ◌∙◌, slice_index_or, Bool, List, [], ◌∷◌, inl, inr}
use Rattle.std.specs.List.{cons_option}
use Rattle.std.specs.Option.{option_and_then}
use Rattle.std.proofs.lemmas.Int.{ints}
use Rattle.transforms.specs.declared.view.View.{View}
use Rattle.hider.specs.declared.bounds.Bounds.{Bounds}
use Rattle.hider.specs.declared.fragment.Fragment.{Fragment}
use Rattle.hider.specs.declared.quad.Quad.{Quad}
use Rattle.hider.specs.declared.sample_grid.SampleGrid.{SampleGrid}
use Rattle.hider.specs.Bounding.{bounds_of}
use Rattle.hider.specs.Cells.{still, seen, projected}
use Rattle.hider.specs.CellValues.{CellValues, cell_when}
use Rattle.hider.specs.Coverage.{covers}
use Rattle.hider.specs.Flat.{FlatCell, raster_point, flat_quad, are_all_seen, AreBoxes, IsPlaced}
use Rattle.hider.specs.Fragments.{covering}
use Rattle.hider.specs.Searching.{IsBeside, IsNear, LiesBeside}
use Rattle.hider.specs.Tiles.{HavePut, IsSampleGrid}
use Rattle.hider.proofs.Cuts.{by_bool}
use Rattle.hider.proofs.Flats.{unseen_placed_put, seen_placed_put, placed_box, outside_put, no_column, no_row}
use Rattle.hider.proofs.Pixels.{near_stays}
use Rattle.hider.proofs.Rows.{by_lt}
use Rattle.hider.proofs.Stills.{covers_inside}

-- it meets no pixel
abbrev part_at : SampleGrid → ℕ → ℕ → ℕ → ℕ → SampleGrid
part_at g left top right bottom = record { left = left; top = top; right = right; bottom = bottom; xs = g.xs; ys = g.ys }

near_none : (q : Quad) (one_sided flip : Bool) (g part : SampleGrid) (a : List (List Fragment)) → IsSampleGrid g → IsNear (bounds_of q) part g → ((n : ℕ) → LiesBeside part g n) →
    HavePut g (λ s. cons_option (option_and_then (λ r. covers r s.place) (seen one_sided flip q)) []) a a
near_none q one_sided flip g part a valid near beside =
    let b = bounds_of q in
    outside_put q one_sided flip g part a (near_stays b part g (λ s. covers q s.place) valid near (covers_inside q b refl)) beside

box_beside : (q : Quad) (one_sided flip : Bool) (g : SampleGrid) (a : List (List Fragment)) → IsSampleGrid g → IsBeside (bounds_of q) g →
    HavePut g (λ s. cons_option (option_and_then (λ r. covers r s.place) (seen one_sided flip q)) []) a a
box_beside q one_sided flip g a valid (inl e) =
    near_none q one_sided flip g (part_at g g.left g.top g.left g.bottom) a valid
    (record {
      left = λ p u l m. absurd (omega (arith, l, m));
      right = λ p u l. omega (arith, ints, e, l);
      top = λ p u l m. absurd (omega (arith, l, m));
      bottom = λ p u l. absurd (omega (arith, u, l));
    })
    (λ n. no_column (part_at g g.left g.top g.left g.bottom) g n (omega arith))
box_beside q one_sided flip g a valid (inr (inl e)) =
    near_none q one_sided flip g (part_at g g.right g.top g.right g.bottom) a valid
    (record {
      left = λ p u l m. omega (arith, ints, e, u);
      right = λ p u l. absurd (omega (arith, u, l));
      top = λ p u l m. absurd (omega (arith, l, m));
      bottom = λ p u l. absurd (omega (arith, u, l));
    })
    (λ n. no_column (part_at g g.right g.top g.right g.bottom) g n (omega arith))
box_beside q one_sided flip g a valid (inr (inr (inl e))) =
    near_none q one_sided flip g (part_at g g.left g.top g.right g.top) a valid
    (record {
      left = λ p u l m. absurd (omega (arith, l, m));
      right = λ p u l. absurd (omega (arith, u, l));
      top = λ p u l m. absurd (omega (arith, l, m));
      bottom = λ p u l. omega (arith, ints, e, l);
    })
    (λ n. no_row (part_at g g.left g.top g.right g.top) g n (omega arith))
box_beside q one_sided flip g a valid (inr (inr (inr e))) =
    near_none q one_sided flip g (part_at g g.left g.bottom g.right g.bottom) a valid
    (record {
      left = λ p u l m. absurd (omega (arith, l, m));
      right = λ p u l. absurd (omega (arith, u, l));
      top = λ p u l m. omega (arith, ints, e, u);
      bottom = λ p u l. absurd (omega (arith, u, l));
    })
    (λ n. no_row (part_at g g.left g.bottom g.right g.bottom) g n (omega arith))

pub beside_put : (v : View) (k : CellValues) (boxes : List Bounds) (i : ℕ) (d : Bounds) (one_sided flip : Bool) (g : SampleGrid) (a : List (List Fragment)) → IsSampleGrid g → AreBoxes v k boxes → i < k.count →
    IsBeside (slice_index_or boxes i d) g → HavePut g (covering v (still one_sided flip (cell_when k i 0) ∷ [])) a a
beside_put v k boxes i d one_sided flip g a valid are low beside =
    let f : FlatCell = record {
      a = raster_point v (k.corner i 0 0);
      b = raster_point v (k.corner i 1 0);
      c = raster_point v (k.corner i 2 0);
      d = raster_point v (k.corner i 3 0);
      colour = k.colour i 0;
      opacity = k.opacity i 0;
    } in
    let placed : IsPlaced v k.corner i f = record { a = refl; b = refl; c = refl; d = refl } in
    let there : IsBeside (bounds_of (flat_quad f)) g = subst (λ (c : Bounds). IsBeside c g) (are.each i d f low placed) beside in
    let q = projected v (cell_when k i 0) in
    by_bool (are_all_seen f)
    (λ e. seen_placed_put v k i f one_sided flip g a a placed e (box_beside q one_sided flip g a valid (subst (λ (c : Bounds). IsBeside c g) (placed_box v k i f placed e) there)))
    (λ e. unseen_placed_put v k i f one_sided flip g a placed e)

-- ---- boxes, cell by cell
same_box : (v : View) (k : CellValues) (i : ℕ) (f h : FlatCell) → IsPlaced v k.corner i f → IsPlaced v k.corner i h → bounds_of (flat_quad f) ≡ bounds_of (flat_quad h)
unfolding bounds_of flat_quad
same_box v k i f h p q = rw (p.a ∙ sym q.a, p.b ∙ sym q.b, p.c ∙ sym q.c, p.d ∙ sym q.d) refl

pushed_old : (bs : List Bounds) (b : Bounds) (i : ℕ) (d : Bounds) → i < length bs → slice_index_or (bs ++ b ∷ []) i d ≡ slice_index_or bs i d
pushed_old [] b i d l = absurd (omega (arith, l))
pushed_old (c ∷ bs) b zero d l = refl
pushed_old (c ∷ bs) b (suc i) d l = pushed_old bs b i d (omega (arith, l))

pushed_new : (bs : List Bounds) (b : Bounds) (i : ℕ) (d : Bounds) → i ≡ length bs → slice_index_or (bs ++ b ∷ []) i d ≡ b
pushed_new [] b zero d e = refl
pushed_new [] b (suc i) d e = absurd (omega (arith, e))
pushed_new (c ∷ bs) b zero d e = absurd (omega (arith, e))
pushed_new (c ∷ bs) b (suc i) d e = pushed_new bs b i d (omega (arith, e))

pub length_pushed : (bs : List Bounds) (b : Bounds) → length (bs ++ b ∷ []) ≡ length bs + 1
length_pushed [] b = refl
length_pushed (c ∷ bs) b = let e = length_pushed bs b in omega (arith, e)

-- the boxes of the first n cells
abbrev pub AreFirstBoxes : View → CellValues → ℕ → List Bounds → Type 0
AreFirstBoxes v k n boxes = (i : ℕ) (d : Bounds) (f : FlatCell) → i < n → IsPlaced v k.corner i f → slice_index_or boxes i d ≡ bounds_of (flat_quad f)

pub one_more_box : (v : View) (k : CellValues) (n : ℕ) (boxes : List Bounds) (b : Bounds) (f : FlatCell) → length boxes ≡ n → IsPlaced v k.corner n f → b ≡ bounds_of (flat_quad f) → AreFirstBoxes v k n boxes → AreFirstBoxes v k (n + 1) (boxes ++ b ∷ [])
one_more_box v k n boxes b f long placed is before = λ i d h l other.
    by_lt i n
    (λ low. pushed_old boxes b i d (omega (arith, long, low)) ∙ before i d h low other)
    (λ high.
    let last : i ≡ n = omega (arith, l, high) in
    let same = same_box v k n f h placed (subst (λ (m : ℕ). IsPlaced v k.corner m h) last other) in
    pushed_new boxes b i d (omega (arith, long, last)) ∙ is ∙ same)
