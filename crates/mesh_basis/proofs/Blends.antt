-- Sizes of blends, and patches made of rows.
use Rattle.std.proofs.Common.{◌≡◌, ◌∙◌, ap, sym, arith, ℕ, ◌*◌, ◌≤◌, [], List, Option, Some, unsigned_abs, to_z, of_z}
use Rattle.std.specs.Int.{w128}
use Rattle.std.specs.Prelude.{ℤ, ◌+ℤ◌, ◌*ℤ◌, option_map}
use Rattle.std.proofs.lemmas.Int.{ints, unsigned_abs-mul, to_z-of_z, fits_signed_from_abs}
use Rattle.std.proofs.lemmas.Nat.{mul-le}
use Rattle.fixed_math.specs.declared.vec3.Vec3.{Vec3}
use Rattle.patches.specs.declared.patch.Patch.TheVariants.{Bicubic}
use Rattle.mesh_basis.specs.Bases.{AreSmall, blend}
use Rattle.mesh_basis.specs.Ranges.{points_in_range}
use Rattle.mesh_basis.specs.Meshes.{bezier_row, bicubic_of}
use Rattle.mesh_basis.specs.declared.basis.Basis.{Basis}
use Rattle.mesh_basis.specs.declared.blend.Weights.{Weights}
use Rattle.mesh_basis.proofs.Rows.{both, rows_in_range}

pub part_abs : (w x : ℤ) (r : ℕ) → unsigned_abs w ≤ 8 → unsigned_abs x ≤ r → unsigned_abs (w *ℤ x) ≤ 8 * r
part_abs w x r h k = rw (unsigned_abs-mul w x) (mul-le (unsigned_abs w) (unsigned_abs x) 8 r h k)

four_abs : (a b c d : ℤ) (r : ℕ) → unsigned_abs a ≤ r → unsigned_abs b ≤ r → unsigned_abs c ≤ r → unsigned_abs d ≤ r → unsigned_abs (a +ℤ (b +ℤ (c +ℤ d))) ≤ 4 * r
four_abs a b c d r e f g h = omega (arith, ints)

pub blend_abs : (w : Weights) (a b c d : ℤ) (r : ℕ) → AreSmall w → unsigned_abs a ≤ r → unsigned_abs b ≤ r → unsigned_abs c ≤ r → unsigned_abs d ≤ r → unsigned_abs (blend w a b c d) ≤ 32 * r
blend_abs w a b c d r s e f g h =
    let z = four_abs (w.first *ℤ a) (w.second *ℤ b) (w.third *ℤ c) (w.fourth *ℤ d) (8 * r)
    (part_abs w.first a r s.first e) (part_abs w.second b r s.second f) (part_abs w.third c r s.third g) (part_abs w.fourth d r s.fourth h) in
    omega (arith, z)

-- the patch, from the answers for its four rows
pub made_from : (bu bv : Basis) (net : List Vec3) (o1 o2 o3 o4 : Option (List Vec3)) →
    o1 ≡ points_in_range (bezier_row bu bv net 0) → o2 ≡ points_in_range (bezier_row bu bv net 1) → o3 ≡ points_in_range (bezier_row bu bv net 2) → o4 ≡ points_in_range (bezier_row bu bv net 3) →
    option_map (λ ps. Bicubic ps) (both o1 (both o2 (both o3 (both o4 (Some []))))) ≡ bicubic_of bu bv net
unfolding bicubic_of
made_from bu bv net o1 o2 o3 o4 e f g h =
    ap (option_map (λ ps. Bicubic ps)) (rw (e, f, g, h) (sym (rows_in_range (bezier_row bu bv net 0) (bezier_row bu bv net 1) (bezier_row bu bv net 2) (bezier_row bu bv net 3))))

pub blend_same : (w : Weights) (a b c d p q r s : ℤ) → a ≡ p → b ≡ q → c ≡ r → d ≡ s → blend w a b c d ≡ blend w p q r s
blend_same w a b c d p q r s e f g h = rw (e, f, g, h)

pub small_back : (z : ℤ) → unsigned_abs z ≤ 8 → to_z w128 (of_z w128 z) ≡ z
small_back z h = to_z-of_z w128 z (fits_signed_from_abs w128 z (omega arith))

pub blend_value : (w : Weights) (a b c d j k l m p q r s f g h i back behind all : ℤ) → j ≡ w.first → k ≡ w.second → l ≡ w.third → m ≡ w.fourth → p ≡ a → q ≡ b → r ≡ c → s ≡ d →
    f ≡ j *ℤ p → g ≡ k *ℤ q → h ≡ l *ℤ r → i ≡ m *ℤ s → back ≡ h +ℤ i → behind ≡ g +ℤ back → all ≡ f +ℤ behind → all ≡ blend w a b c d
blend_value w a b c d j k l m p q r s f g h i back behind all ej ek el em ea eb ec ed ef eg eh ei e1 e2 e3 =
    e3 ∙ rw (e2, e1, ef, eg, eh, ei, ej, ek, el, em, ea, eb, ec, ed)
