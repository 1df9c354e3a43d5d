-- Sums of weighted colours.
use Rattle.std.proofs.Common.{◌≡◌, ℕ, ◌+◌, ◌*◌, ◌^◌, ◌<◌, ◌≤◌, ◌∙◌, ap, arith, refl, to_z, of_z}
use Rattle.std.specs.Prelude.{ℤ, pos, ◌≤ℤ◌, ◌+ℤ◌, ◌*ℤ◌, unsigned_abs}
use Rattle.std.proofs.lemmas.Int.{ints, unsigned_abs-mul}
use Rattle.std.proofs.lemmas.Nat.{mul-le}
use lib.Signed.{mag}
use Rattle.std.specs.Int.{w128}
use Rattle.fixed_math.proofs.Fits.{read_back, abs_add}
use Rattle.filter_ppm.specs.Mean.{Totals, AreTotals}

-- one channel more
pub part_size : (sum w v : ℤ) → unsigned_abs v ≤ 2147483647 → unsigned_abs (sum +ℤ w *ℤ v) ≤ unsigned_abs sum + unsigned_abs w * 2147483647
part_size sum w v h =
    let a = abs_add sum (w *ℤ v) in
    let b : unsigned_abs (w *ℤ v) ≤ unsigned_abs w * 2147483647 = rw (unsigned_abs-mul w v) (mul-le (unsigned_abs w) (unsigned_abs v) (unsigned_abs w) 2147483647 (omega arith) h) in
    omega (arith, a, b)

-- one colour more
pub totals_more : (t n : Totals) (w : ℤ) → AreTotals t → t.count < 33554432 → pos 0 ≤ℤ w → unsigned_abs w ≤ 2147483647 →
    n.count ≡ t.count + 1 → n.weight ≡ t.weight +ℤ w →
    unsigned_abs n.x ≤ unsigned_abs t.x + unsigned_abs w * 2147483647 →
    unsigned_abs n.y ≤ unsigned_abs t.y + unsigned_abs w * 2147483647 →
    unsigned_abs n.z ≤ unsigned_abs t.z + unsigned_abs w * 2147483647 → AreTotals n
totals_more t n w a room low high count weight x y z =
    let l = a.weight_low in
    let h = a.weight_high in
    let hx = a.x_high in
    let hy = a.y_high in
    let hz = a.z_high in
    let s : unsigned_abs n.weight ≡ unsigned_abs t.weight + unsigned_abs w = omega (arith, ints) in
    record {
      few = omega arith;
      weight_low = omega (arith, ints);
      weight_high = omega arith;
      x_high = omega arith;
      y_high = omega arith;
      z_high = omega arith;
    }

abbrev pub totals : ℕ → ℤ → ℤ → ℤ → ℤ → Totals
totals n w x y z = record { count = n; weight = w; x = x; y = y; z = z }

pub same_totals : (n : ℕ) (w x y z w' x' y' z' : ℤ) → w ≡ w' → x ≡ x' → y ≡ y' → z ≡ z' → totals n w x y z ≡ totals n w' x' y' z'
same_totals n w x y z w' x' y' z' a b c d = rw (a, b, c, d) refl

-- reading totals and their parts back from 128 bits
pub record IsRead (t : Totals) : Type 0 where
  pub weight : to_z w128 (of_z w128 t.weight) ≡ t.weight
  pub x : to_z w128 (of_z w128 t.x) ≡ t.x
  pub y : to_z w128 (of_z w128 t.y) ≡ t.y
  pub z : to_z w128 (of_z w128 t.z) ≡ t.z

read_small : (n m : ℕ) (v : ℤ) → n ≤ 33554432 → m ≤ n * 2147483647 → unsigned_abs v ≤ m * 2147483647 → to_z w128 (of_z w128 v) ≡ v
read_small n m v f g h = omega (arith, ints)

pub read_total : (t : Totals) → AreTotals t → IsRead t
read_total t a = record {
  weight = read_small t.count (unsigned_abs t.weight) t.weight a.few a.weight_high (omega arith);
  x = read_small t.count (unsigned_abs t.weight) t.x a.few a.weight_high a.x_high;
  y = read_small t.count (unsigned_abs t.weight) t.y a.few a.weight_high a.y_high;
  z = read_small t.count (unsigned_abs t.weight) t.z a.few a.weight_high a.z_high;
}

pub read_size : (r s w : ℤ) → mag r < 2 ^ 127 → to_z w128 (of_z w128 s) ≡ s → to_z w128 (of_z w128 w) ≡ w →
    unsigned_abs r ≤ unsigned_abs (to_z w128 (of_z w128 s)) + unsigned_abs (to_z w128 (of_z w128 w)) * 2147483647 →
    unsigned_abs (to_z w128 (of_z w128 r)) ≤ unsigned_abs s + unsigned_abs w * 2147483647
read_size r s w f e v h =
    let a = ap unsigned_abs (read_back r f) in
    let b = ap unsigned_abs e in
    let d = ap unsigned_abs v in
    omega (arith, a, b, d)

pub read_part : (r s w u v : ℤ) → mag r < 2 ^ 127 → to_z w128 (of_z w128 s) ≡ s → to_z w128 (of_z w128 w) ≡ w → w ≡ u →
    r ≡ to_z w128 (of_z w128 s) +ℤ to_z w128 (of_z w128 w) *ℤ v → to_z w128 (of_z w128 r) ≡ s +ℤ u *ℤ v
read_part r s w u v f a b e h = read_back r f ∙ h ∙ rw (a, b, e) refl
