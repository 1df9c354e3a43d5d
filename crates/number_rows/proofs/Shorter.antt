-- Planes that have numbers for more places have them for fewer.
use Rattle.std.proofs.Common.{◌≡◌, refl, ℕ, ◌+◌, ◌<◌, ◌≤◌, ℤ, pos, List, length, get_or, arith}
use Rattle.number_rows.specs.declared.plane.Plane.{Plane}
use Rattle.number_rows.specs.declared.plane.Plane.TheVariants.{Row, Value}
use Rattle.number_rows.specs.declared.plane.Planes.{Planes}
use Rattle.number_rows.specs.declared.plane.TripleRows.{TripleRows}
use Rattle.number_rows.specs.Planes.{IsPlane, ArePlanes, IsRow, IsInRows, plane_at}

pub shorter : (p : Plane) (n i : ℕ) → IsPlane n p → i < n → IsPlane (i + 1) p
shorter (Row r) n i h l = omega arith
shorter (Value x) n i h l = tt

pub all_shorter : (p : Planes) (n i : ℕ) → ArePlanes n p → i < n → ArePlanes (i + 1) p
all_shorter p n i h l = record { x = shorter p.x n i h.x l; y = shorter p.y n i h.y l; z = shorter p.z n i h.z l }

-- planes that are three rows
plane_same : (p : Plane) (xs : List ℤ) (i : ℕ) → IsRow xs p → plane_at p i ≡ get_or xs i (pos 0)
plane_same (Row r) xs i e = rw e refl
plane_same (Value x) xs i e = absurd e

plane_long : (p : Plane) (xs : List ℤ) (n : ℕ) → IsRow xs p → IsPlane n p → n ≤ length xs
plane_long (Row r) xs n e h = rw e h
plane_long (Value x) xs n e h = absurd e

pub in_rows : (r : TripleRows) (p : Planes) → IsRow r.x.now p.x → IsRow r.y.now p.y → IsRow r.z.now p.z → IsInRows r p
in_rows r p ex ey ez = record {
  same = λ i. rw (plane_same p.x r.x.now i ex, plane_same p.y r.y.now i ey, plane_same p.z r.z.now i ez) refl;
  long = λ n i h l.
      let hx = plane_long p.x r.x.now n ex h.x in
      let hy = plane_long p.y r.y.now n ey h.y in
      let hz = plane_long p.z r.z.now n ez h.z in record { x = omega (arith, hx, l); y = omega (arith, hy, l); z = omega (arith, hz, l) };
}
