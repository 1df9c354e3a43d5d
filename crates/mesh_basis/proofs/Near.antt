-- Points that pass the test of their range are within it.
use Rattle.std.proofs.Common.{◌≡◌, ℕ, zero, suc, ◌<◌, ◌^◌, Bool, true, false, is_some, nat_le, List, [], ◌∷◌, Option, Some, None, arith, refl, sym, subst, length, if◌then◌else◌, slice_index_or, unsigned_abs}
use Rattle.std.specs.Prelude.{ℤ}
use Rattle.std.specs.List.{list_all}
use Rattle.std.proofs.lemmas.Bool.{false≢true, and_parts}
use borrow.Author.Tests.{leb-true}
use Rattle.fixed_math.specs.declared.vec3.Vec3.{Vec3}
use Rattle.fixed_math.specs.declared.vec3.Axis.TheVariants.{X, Y, Z}
use Rattle.fixed_math.specs.Axes.{origin, AreWithin}
use Rattle.patches.specs.Boxes.{IsWithin}
use Rattle.patches.specs.BoxLaws.{Each-AreWithin}
use Rattle.mesh_basis.specs.Ranges.{of_numbers, is_in_range, are_in_range}

kept : Bool → ℤ → Option ℤ
kept b x = if b then Some x else None

all_kept : (a b c : Bool) (x y z : ℤ) → is_some (of_numbers (kept a x) (kept b y) (kept c z)) ≡ true → (a ≡ true) × (b ≡ true) × (c ≡ true)
unfolding kept
all_kept true true true x y z h = (refl, refl, refl)
all_kept true true false x y z h = absurd (false≢true h)
all_kept true false c x y z h = absurd (false≢true h)
all_kept false b c x y z h = absurd (false≢true h)

pub point_near : (p : Vec3) → is_in_range p ≡ true → IsWithin (2 ^ 30) p
unfolding kept
point_near p h X = leb-true _ _ (all_kept (nat_le (unsigned_abs p.x) 1073741824) (nat_le (unsigned_abs p.y) 1073741824) (nat_le (unsigned_abs p.z) 1073741824) p.x p.y p.z h).0
point_near p h Y = leb-true _ _ (all_kept (nat_le (unsigned_abs p.x) 1073741824) (nat_le (unsigned_abs p.y) 1073741824) (nat_le (unsigned_abs p.z) 1073741824) p.x p.y p.z h).1
point_near p h Z = leb-true _ _ (all_kept (nat_le (unsigned_abs p.x) 1073741824) (nat_le (unsigned_abs p.y) 1073741824) (nat_le (unsigned_abs p.z) 1073741824) p.x p.y p.z h).2

origin_near : IsWithin (2 ^ 30) origin
origin_near X = omega arith
origin_near Y = omega arith
origin_near Z = omega arith

pub are_near : (ps : List Vec3) → are_in_range ps ≡ true → (k : ℕ) → IsWithin (2 ^ 30) (slice_index_or ps k origin)
are_near [] h k = origin_near
are_near (p ∷ ps) h zero = point_near p (and_parts (is_in_range p) (list_all is_in_range ps) h).0
are_near (p ∷ ps) h (suc k) = are_near ps (and_parts (is_in_range p) (list_all is_in_range ps) h).1 k

-- four points of a mesh
pub four_near : (p q r s : Vec3) → IsWithin (2 ^ 30) p → IsWithin (2 ^ 30) q → IsWithin (2 ^ 30) r → IsWithin (2 ^ 30) s → AreWithin (2 ^ 30) (p ∷ q ∷ r ∷ s ∷ [])
four_near p q r s a b c d = Each-AreWithin (2 ^ 30) (p ∷ q ∷ r ∷ s ∷ []) (a, (b, (c, (d, tt))))

near_from : (ps : List Vec3) → are_in_range ps ≡ true → (k : ℕ) (d : Vec3) → k < length ps → IsWithin (2 ^ 30) (slice_index_or ps k d)
near_from [] h k d l = absurd (omega arith)
near_from (p ∷ ps) h zero d l = point_near p (and_parts (is_in_range p) (list_all is_in_range ps) h).0
near_from (p ∷ ps) h (suc k) d l = near_from ps (and_parts (is_in_range p) (list_all is_in_range ps) h).1 k d (omega arith)

-- a point that was read of them
pub item_near : (ps : List Vec3) (k : ℕ) (r : Vec3) → are_in_range ps ≡ true → k < length ps → r ≡ slice_index_or ps k r → IsWithin (2 ^ 30) r
item_near ps k r h l e = subst (IsWithin (2 ^ 30)) (sym e) (near_from ps h k r l)
