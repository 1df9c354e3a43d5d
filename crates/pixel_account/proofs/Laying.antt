-- Fragments laid over one another, one after another.
use Rattle.std.proofs.Common.{◌≡◌, refl, ◌∙◌, List, [], ◌∷◌, ◌++◌}
use Rattle.std.specs.Prelude.{ℤ, pos, ◌-ℤ◌}
use Rattle.fixed_math.specs.Fixed.{add, mul}
use Rattle.fixed_math.specs.declared.vec3.Axis.{Axis}
use Rattle.fixed_math.specs.declared.vec3.Axis.TheVariants.{X, Y, Z}
use Rattle.fixed_math.specs.Axes.{part_of}
use Rattle.hider.specs.declared.fragment.Fragment.{Fragment}
use Rattle.hider.specs.Composite.{composite_from, composite}
use Rattle.pixel_account.specs.declared.laid.Laid.{Laid}
use Rattle.pixel_account.specs.Account.{passed_from, passed_through}
use Rattle.pixel_account.specs.Laying.{IsLaid}

passed_more : (i : Axis) (p : ℤ) (fs : List Fragment) (g : Fragment) → passed_from i p (fs ++ g ∷ []) ≡ mul (passed_from i p fs) (pos 65536 -ℤ part_of i g.opacity)
passed_more i p [] g = refl
passed_more i p (f ∷ fs) g = passed_more i (mul p (pos 65536 -ℤ part_of i f.opacity)) fs g

composite_more : (i : Axis) (c p : ℤ) (fs : List Fragment) (g : Fragment) → composite_from i c p (fs ++ g ∷ []) ≡ add (composite_from i c p fs) (mul (passed_from i p fs) (part_of i g.colour))
composite_more i c p [] g = refl
composite_more i c p (f ∷ fs) g = composite_more i (add c (mul p (part_of i f.colour))) (mul p (pos 65536 -ℤ part_of i f.opacity)) fs g

pub laid_more : (fs : List Fragment) (g : Fragment) (old new : Laid) → IsLaid fs old →
    new.colour.x ≡ add old.colour.x (mul old.passed.x g.colour.x) → new.colour.y ≡ add old.colour.y (mul old.passed.y g.colour.y) → new.colour.z ≡ add old.colour.z (mul old.passed.z g.colour.z) →
    new.passed.x ≡ mul old.passed.x (pos 65536 -ℤ g.opacity.x) → new.passed.y ≡ mul old.passed.y (pos 65536 -ℤ g.opacity.y) → new.passed.z ≡ mul old.passed.z (pos 65536 -ℤ g.opacity.z) →
    IsLaid (fs ++ g ∷ []) new
unfolding composite passed_through
laid_more fs g old new is cx cy cz px py pz =
    let c = is.colour in
    let p = is.passed in
    record {
      colour = rw (composite_more X (pos 0) (pos 65536) fs g, composite_more Y (pos 0) (pos 65536) fs g, composite_more Z (pos 0) (pos 65536) fs g) (
          let x : new.colour.x ≡ add (composite_from X (pos 0) (pos 65536) fs) (mul (passed_from X (pos 65536) fs) g.colour.x) = cx ∙ rw (c, p) refl in
          let y : new.colour.y ≡ add (composite_from Y (pos 0) (pos 65536) fs) (mul (passed_from Y (pos 65536) fs) g.colour.y) = cy ∙ rw (c, p) refl in
          let z : new.colour.z ≡ add (composite_from Z (pos 0) (pos 65536) fs) (mul (passed_from Z (pos 65536) fs) g.colour.z) = cz ∙ rw (c, p) refl in
          rw (← x, ← y, ← z) refl);
      passed = rw (passed_more X (pos 65536) fs g, passed_more Y (pos 65536) fs g, passed_more Z (pos 65536) fs g) (
          let x : new.passed.x ≡ mul (passed_from X (pos 65536) fs) (pos 65536 -ℤ g.opacity.x) = px ∙ rw p refl in
          let y : new.passed.y ≡ mul (passed_from Y (pos 65536) fs) (pos 65536 -ℤ g.opacity.y) = py ∙ rw p refl in
          let z : new.passed.z ≡ mul (passed_from Z (pos 65536) fs) (pos 65536 -ℤ g.opacity.z) = pz ∙ rw p refl in
          rw (← x, ← y, ← z) refl);
    }
