-- Sums of weighted colours as samples are added.
use Rattle.std.proofs.Common.{◌≡◌, ℕ, ◌+◌, ◌*◌, ◌≤◌, ◌∙◌, ap, arith, refl, to_z, of_z, List, [], ◌++◌, length, take, drop}
use Rattle.std.specs.Prelude.{ℤ, pos, ◌≤ℤ◌, ◌+ℤ◌, ◌*ℤ◌, unsigned_abs}
use Rattle.std.specs.Int.{w64}
use Rattle.std.proofs.lemmas.Int.{ints, to_z-of_z, fits_signed_from_abs, unsigned_abs-mul}
use Rattle.std.proofs.lemmas.Nat.{mul-le}
use Rattle.std.proofs.lemmas.List.{append-nil, drop_all, take_all}
use Rattle.fixed_math.specs.declared.vec3.Vec3.{Vec3}
use Rattle.filter_ppm.specs.declared.total.Total.{Total}
use Rattle.filter_ppm.specs.Sums.{none, with_weighed, IsOver}

pub same_total : (t : Total) (v : ℤ) (c : Vec3) (w x y z : ℤ) → w ≡ t.weight +ℤ v → x ≡ t.x +ℤ v *ℤ c.x → y ≡ t.y +ℤ v *ℤ c.y → z ≡ t.z +ℤ v *ℤ c.z
    → ◌≡◌ {A = Total} (record { weight = w; x = x; y = y; z = z }) (with_weighed t v c)
unfolding with_weighed
same_total t v c w x y z ew ex ey ez = rw (ew, ex, ey, ez) refl

-- weight 0 adds nothing
none_times : (z : ℤ) → pos 0 *ℤ z ≡ pos 0
none_times z = omega (arith, ints)

more_none : (z : ℤ) → z +ℤ pos 0 ≡ z
more_none z = omega (arith, ints)

pub nothing_added : (t : Total) (w : ℤ) (c : Vec3) → w ≡ pos 0 → t ≡ with_weighed t w c
unfolding with_weighed
nothing_added t w c e = rw (e, none_times c.x, none_times c.y, none_times c.z, more_none t.weight, more_none t.x, more_none t.y, more_none t.z) refl

pub over_none : (t : Total) → t ≡ none → IsOver 0 t
over_none t e = rw e (record { low = omega (arith, ints); high = omega arith; x_high = omega arith; y_high = omega arith; z_high = omega arith })

pub over_more : (n : ℕ) (t : Total) → IsOver n t → IsOver (n + 1) t
over_more n t h =
    let high = h.high in
    record { low = h.low; high = omega (arith, high); x_high = h.x_high; y_high = h.y_high; z_high = h.z_high }

-- ---- a product of 64 bits
pub product_size : (w v : ℤ) → unsigned_abs v ≤ 2147483647 → unsigned_abs (w *ℤ v) ≤ unsigned_abs w * 2147483647
product_size w v h = rw (unsigned_abs-mul w v) (mul-le (unsigned_abs w) (unsigned_abs v) (unsigned_abs w) 2147483647 (omega arith) h)

pub product_read : (w v : ℤ) → unsigned_abs w ≤ 2147483647 → unsigned_abs v ≤ 2147483647 → to_z w64 (of_z w64 (to_z w64 (of_z w64 w) *ℤ to_z w64 (of_z w64 v))) ≡ w *ℤ v
product_read w v h k =
    let e : to_z w64 (of_z w64 w) ≡ w = to_z-of_z w64 w (fits_signed_from_abs w64 w (omega arith)) in
    let f : to_z w64 (of_z w64 v) ≡ v = to_z-of_z w64 v (fits_signed_from_abs w64 v (omega arith)) in
    let x = product_size w v k in
    rw (e, f) (to_z-of_z w64 (w *ℤ v) (fits_signed_from_abs w64 (w *ℤ v) (omega arith)))

-- one colour more
pub over_next : (n : ℕ) (t r : Total) (w : ℤ) → IsOver n t → pos 0 ≤ℤ w → unsigned_abs w ≤ 2147483647 → r.weight ≡ t.weight +ℤ w →
    unsigned_abs r.x ≤ unsigned_abs t.x + unsigned_abs w * 2147483647 →
    unsigned_abs r.y ≤ unsigned_abs t.y + unsigned_abs w * 2147483647 →
    unsigned_abs r.z ≤ unsigned_abs t.z + unsigned_abs w * 2147483647 → IsOver (n + 1) r
over_next n t r w h low small weight x y z =
    let l = h.low in
    let a = h.high in
    let hx = h.x_high in
    let hy = h.y_high in
    let hz = h.z_high in
    let s : unsigned_abs r.weight ≡ unsigned_abs t.weight + unsigned_abs w = omega (arith, ints) in
    record { low = omega (arith, ints); high = omega arith; x_high = omega arith; y_high = omega arith; z_high = omega arith }

-- what stands in a vector of n items after a call wrote all of them
pub written_back : (n : ℕ) (new old : List Total) → length new ≡ length old → n ≡ length old → take n (new ++ drop (length new) old) ≡ new
written_back n new old e h =
    let rest : drop (length new) old ≡ [] = drop_all (length new) old (omega (arith, e)) in
    ap (λ l. take n (new ++ l)) rest ∙ ap (take n) (append-nil new) ∙ take_all n new (omega (arith, e, h))
