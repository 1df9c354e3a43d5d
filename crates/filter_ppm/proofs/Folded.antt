-- The weights of a gaussian for pairs of offsets.
use Rattle.std.proofs.Common.{◌≡◌, ◌≢◌, ◌∙◌, ap, sym, arith, refl, ℕ, ◌+◌, ◌-◌, ◌*◌, ◌/◌, ◌%◌, ◌<◌, ◌≤◌, ℤ, pos, ◌+ℤ◌, ◌-ℤ◌, List, length, get_or}
use Rattle.std.proofs.lemmas.Int.{ints}
use Rattle.std.proofs.lemmas.Nat.{div-mul-add, mod-mul-add}
use Rattle.fixed_math.specs.Fixed.{add}
use Rattle.scene.specs.declared.filter.Filter.{Filter}
use Rattle.scene.specs.declared.filter.Filter.TheVariants.{Gaussian}
use Rattle.filter_ppm.specs.declared.bells.Side.{Side}
use Rattle.filter_ppm.specs.Tables.{part, joined, power, IsTable}
use Rattle.filter_ppm.specs.Bells.{number, IsSide, IsBell, AreFirstBells, AreBells, IsBellRow}
use Rattle.fixed_math.proofs.Sat.{add_comm}
use Rattle.filter_ppm.proofs.Grids.{before_pixel}
use Rattle.filter_ppm.proofs.Rows.{earlier_row}
use Rattle.filter_ppm.proofs.Spans.{by_lt}

-- the place that serves for a place
pub served : (f : Filter) (w : ℕ) (s : Side) (k r : ℕ) → IsSide f w s → k < w → (k < s.count → r ≡ k) → (s.count ≤ k → r ≡ s.width - k) → (r < s.count) × (number f w r ≡ number f w k)
served f w s k r h inside near far = by_lt k s.count
    (λ l. let e = near l in (omega (arith, e, l), ap (number f w) e))
    (λ ge. let e : r ≡ w - k = far ge ∙ ap (λ (v : ℕ). v - k) h.width in
    let o = h.opposite k ge inside in
    let below = o.0 in
    (omega (arith, e, below), ap (number f w) e ∙ o.1))

pub even_side : (f : Filter) (w : ℕ) (table : List ℤ) (s : Side) → IsTable f w table → s.width ≡ length table → s.count ≡ length table / 2 + 1 →
    ((k : ℕ) → length table / 2 + 1 ≤ k → k < length table → get_or table (length table - k) (pos 0) ≡ get_or table k (pos 0)) → IsSide f w s
even_side f w table s t width count even =
    let long = t.long in
    record {
      width = width ∙ long;
      opposite = λ k ge lt.
          let low : length table / 2 + 1 ≤ k = omega (arith, ge, count) in
          let below : k < length table = omega (arith, lt, long) in
          let other : w - k < w = omega (arith, low, lt) in
          let place : length table - k ≡ w - k = ap (λ (v : ℕ). v - k) long in (
            omega (arith, low, lt, count, long),
            sym (t.parts (w - k) other) ∙ sym (ap (λ (p : ℕ). get_or table p (pos 0)) place) ∙ even k low below ∙ t.parts k lt,
          );
    }

pub whole_side : (f : Filter) (w : ℕ) (table : List ℤ) (s : Side) → IsTable f w table → s.width ≡ length table → s.count ≡ length table → IsSide f w s
whole_side f w table s t width count =
    let long = t.long in
    record { width = width ∙ long; opposite = λ k ge lt. absurd (omega (arith, ge, lt, count, long)) }

-- the weights of all pairs of squares, by rows
pub bells_from : (wx wy : ℕ) (across down : List ℤ) (columns rows : Side) (weights : List ℕ) → IsTable Gaussian wx across → IsTable Gaussian wy down → IsSide Gaussian wx columns → IsSide Gaussian wy rows →
    1 ≤ columns.count → columns.count ≤ length across → length weights ≤ length down * columns.count → AreFirstBells across down columns.count weights → AreBells Gaussian wx wy columns rows weights
unfolding joined
bells_from wx wy across down columns rows weights tx ty sx sy some wide_enough high_enough first = record {
  across = λ _. sx;
  down = λ _. sy;
  each = λ i j inside within kept.
      let c = columns.count in
      let m : (j * c + i) % c ≡ i = mod-mul-add j c i inside in
      let d : (j * c + i) / c ≡ j = div-mul-add j c i inside in
      let row : (j * c + i) / c < length down = before_pixel (j * c + i) c (length down) (omega (arith, some)) (omega (arith, within, high_enough)) in
      let e = rw (m, d) at (first (j * c + i) within kept) in
      let wide = tx.long in
      let high = ty.long in
      let p = tx.parts i (omega (arith, inside, wide_enough, wide)) in
      let q = ty.parts j (omega (arith, row, d, high)) in
      e ∙ rw (p, q) refl;
}

pub no_bells : (f : Filter) (wx wy : ℕ) (columns rows : Side) (weights : List ℕ) → length weights ≡ 0 → AreBells f wx wy columns rows weights
no_bells f wx wy columns rows weights none = record {
  across = λ some. absurd (omega (arith, some, none));
  down = λ some. absurd (omega (arith, some, none));
  each = λ i j inside within kept. absurd (omega (arith, within, none));
}

pub row_from : (f : Filter) (wx wy : ℕ) (columns rows : Side) (weights : List ℕ) (place row start : ℕ) → AreBells f wx wy columns rows weights → place < wy → start ≡ row * columns.count →
    (place < rows.count → row ≡ place) → (rows.count ≤ place → row ≡ rows.width - place) → IsBellRow f wx (number f wy place) columns start weights
row_from f wx wy columns rows weights place row start h inside es near far = record {
  side = h.across;
  each = λ i in_row within kept.
      let there : row * columns.count + i < length weights = rw es at within in
      let some : 0 < length weights = omega (arith, there) in
      let is = served f wy rows place row (h.down some) inside near far in
      rw es (h.each i row in_row there (rw es at kept) ∙ ap (joined f (number f wx i)) is.1);
}

-- a weight is that of the pair turned round, where both tables are the same
pub turned_bell : (across down : List ℤ) (columns k : ℕ) (weights : List ℕ) → ((i : ℕ) → i < length across → get_or across i (pos 0) ≡ get_or down i (pos 0)) → AreFirstBells across down columns weights →
    k ≡ length weights → columns ≤ length across → k % columns < k / columns → k / columns < columns → IsBell across down columns k (get_or weights (k % columns * columns + k / columns) 0)
turned_bell across down columns k weights same first is wide less low =
    let i = k % columns in
    let j = k / columns in
    let some : 0 < columns = omega (arith, low) in
    let before : i * columns + j < j * columns = earlier_row i j columns j less low in
    let parts : j * columns + i ≡ k = omega arith in
    let inside : i * columns + j < length weights = omega (arith, before, parts, is) in
    let m : (i * columns + j) % columns ≡ j = mod-mul-add i columns j low in
    let d : (i * columns + j) / columns ≡ i = div-mul-add i columns j low in
    let p : get_or across j (pos 0) ≡ get_or down j (pos 0) = same j (omega (arith, low, wide)) in
    let q : get_or across i (pos 0) ≡ get_or down i (pos 0) = same i (omega (arith, less, low, wide)) in
    let turned : add (get_or across j (pos 0)) (get_or down i (pos 0)) ≡ add (get_or across i (pos 0)) (get_or down j (pos 0)) =
    ap (λ z. add z (get_or down i (pos 0))) p ∙ add_comm (get_or down j (pos 0)) (get_or down i (pos 0)) ∙ ap (λ z. add z (get_or down j (pos 0))) (sym q) in
    λ kept. (let e = rw (m, d) at (first (i * columns + j) inside kept) in e) ∙ ap power turned

pub weight_by : (f : Filter) (wx : ℕ) (q : ℤ) (s : Side) (start : ℕ) (weights : List ℕ) (place at : ℕ) → IsBellRow f wx q s start weights → place < wx → (place < s.count → at ≡ place) → (s.count ≤ place → at ≡ s.width - place) →
    start + at < length weights → get_or weights (start + at) 0 ≢ 0 → pos (get_or weights (start + at) 0) ≡ joined f (number f wx place) q
weight_by f wx q s start weights place at h inside near far within kept =
    let some : 0 < length weights = omega (arith, within) in
    let is = served f wx s place at (h.side some) inside near far in
    h.each at is.0 within kept ∙ ap (λ (p : ℤ). joined f p q) is.1

-- an offset's number by its place
pub number_is : (f : Filter) (w k : ℕ) (d : ℤ) → pos k ≡ d +ℤ pos (w / 2) → number f w k ≡ part f w d
number_is f w k d e =
    let at_d : pos k -ℤ pos (w / 2) ≡ d = omega (arith, ints, e) in
    ap (part f w) at_d
