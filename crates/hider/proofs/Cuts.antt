-- The composite of a list is that of its cut.
use Rattle.std.proofs.Common.{◌≡◌, ap, arith, refl, sym, ◌∙◌, Bool, true, false, List, [], ◌∷◌, ℕ, suc, ◌+◌, ◌<◌, ◌++◌, drop, drop-cons, length, get_or}
use Rattle.std.specs.Prelude.{ℤ, pos, negsuc, neg_ℤ, ◌+ℤ◌, ◌-ℤ◌, ◌*ℤ◌, ◌≤ℤ◌}
use Rattle.std.proofs.lemmas.Int.{ints}
use Rattle.std.proofs.lemmas.Bool.{eqb-true, and_parts}
use Rattle.fixed_math.specs.Fixed.{sat, add, mul}
use Rattle.fixed_math.specs.declared.vec3.Axis.{Axis}
use Rattle.fixed_math.specs.declared.vec3.Axis.TheVariants.{X, Y, Z}
use Rattle.fixed_math.specs.Axes.{part_of}
use Rattle.fixed_math.proofs.Sat.{mul_comm, mul_one, sat_low, sat_high, sat_of_raw}
use Rattle.hider.specs.declared.fragment.Fragment.{Fragment}
use Rattle.hider.specs.Composite.{is_one, is_opaque, cut, composite_from, composite}

pub by_bool : {P : Type 0} (b : Bool) → (b ≡ true → P) → (b ≡ false → P) → P
by_bool true f g = f refl
by_bool false f g = g refl

sat-sat : (z : ℤ) → sat (sat z) ≡ sat z
sat-sat z = sat_of_raw (sat z) (sat_low z) (sat_high z)

pub nothing_passes : (z : ℤ) → mul (pos 0) z ≡ pos 0
nothing_passes z = let e : pos 0 *ℤ z ≡ pos 0 = omega (arith, ints) in rw e

nothing_left : (p : ℤ) → mul p (pos 65536 -ℤ pos 65536) ≡ pos 0
nothing_left p = let e : p *ℤ pos 0 ≡ pos 0 = omega (arith, ints) in rw e

add_nothing : (z : ℤ) → add (sat z) (pos 0) ≡ sat z
add_nothing z = let e : sat z +ℤ pos 0 ≡ sat z = omega (arith, ints) in rw e (sat-sat z)

-- through which all passes
pub all_passes : (z : ℤ) → neg_ℤ (pos 2147483647) ≤ℤ z → z ≤ℤ pos 2147483647 → z ≡ add (pos 0) (mul (pos 65536) z)
all_passes z low high =
    let e : pos 0 +ℤ z ≡ z = omega (arith, ints) in
    rw (mul_comm (pos 65536) z, mul_one z low high, e) (sym (sat_of_raw z low high))

-- one fragment further
pub laid_further : (a : Axis) (c p : ℤ) (l : List Fragment) (i : ℕ) (f : Fragment) (rest : List Fragment) → i < length l → f ≡ get_or l i f →
    composite_from a (add c (mul p (part_of a f.colour))) (mul p (pos 65536 -ℤ part_of a f.opacity)) (drop (i + 1) l ++ rest) ≡ composite_from a c p (drop i l ++ rest)
laid_further a c p l i f rest h e = rw (at_place l i f h e) refl
  where
    at_place : (l : List Fragment) (i : ℕ) (f : Fragment) → i < length l → f ≡ get_or l i f → drop i l ≡ f ∷ drop (i + 1) l
    at_place l i f h e =
        let n : i + 1 ≡ suc i = omega arith in
        rw n (drop-cons l i f h ∙ ap (λ (x : Fragment). x ∷ drop (suc i) l) (sym e))

composite_past : (a : Axis) (z : ℤ) (fs : List Fragment) → composite_from a (sat z) (pos 0) fs ≡ sat z
composite_past a z [] = refl
composite_past a z (f ∷ fs) = rw (nothing_passes (part_of a f.colour), nothing_passes (pos 65536 -ℤ part_of a f.opacity), add_nothing z) (composite_past a z fs)

is_one_true : (z : ℤ) → is_one z ≡ true → z ≡ pos 65536
is_one_true (pos n) e = ap pos (eqb-true n 65536 e)
is_one_true (negsuc n) e = cc

opaque_part : (f : Fragment) (a : Axis) → is_opaque f ≡ true → part_of a f.opacity ≡ pos 65536
unfolding is_opaque
opaque_part f X e = is_one_true f.opacity.x (and_parts _ _ e).0
opaque_part f Y e = is_one_true f.opacity.y (and_parts _ _ (and_parts _ _ e).1).0
opaque_part f Z e = is_one_true f.opacity.z (and_parts _ _ (and_parts _ _ e).1).1

pub composite_from-cut : (a : Axis) (c p : ℤ) (fs : List Fragment) → composite_from a c p (cut fs) ≡ composite_from a c p fs
composite_from-cut a c p [] = refl
composite_from-cut a c p (f ∷ fs) =
    let e = composite_from-cut a (add c (mul p (part_of a f.colour))) (mul p (pos 65536 -ℤ part_of a f.opacity)) fs in
    by_bool (is_opaque f)
    (λ o. let q = opaque_part f a o in rw (o, q, nothing_left p) (sym (composite_past a (c +ℤ mul p (part_of a f.colour)) fs)))
    (λ o. rw o e)

pub composite-cut : (fs : List Fragment) → composite (cut fs) ≡ composite fs
unfolding composite
composite-cut fs =
    let x = composite_from-cut X (pos 0) (pos 65536) fs in
    let y = composite_from-cut Y (pos 0) (pos 65536) fs in
    let z = composite_from-cut Z (pos 0) (pos 65536) fs in
    cc
