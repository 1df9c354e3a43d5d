use Rattle.std.proofs.Common.{arith, ◌≡◌, ◌≤◌, ◌^◌, ◌∙◌, ap, subst, sym, ℤ, unsigned_abs, to_z, of_z}
use Rattle.std.specs.Int.{w128}
use Rattle.std.proofs.lemmas.Int.{to_z-of_z, fits_signed_from_abs}
use Rattle.fixed_math.specs.Fixed.{sat}
use Rattle.fixed_math.specs.declared.vec3.Axis.TheVariants.{X, Y, Z}
use Rattle.fixed_math.proofs.Fits.{sat_same}
use Rattle.calls.proofs.surfaces.at.Goals as goal

small : (z r : ℤ) → r ≡ sat (to_z w128 (of_z w128 z)) → unsigned_abs z ≤ 2 ^ 30 → unsigned_abs r ≤ 2 ^ 30
small z r e h = subst (λ x. unsigned_abs x ≤ 2 ^ 30) (sym (e ∙ ap sat (to_z-of_z w128 z (fits_signed_from_abs w128 z (omega arith))) ∙ sat_same z (omega arith))) h

pub returns : goal.returns
returns c X = small c.args.x c.sat.result c.sat.ensures c.requires.x_small
returns c Y = small c.args.y c.sat-2.result c.sat-2.ensures c.requires.y_small
returns c Z = small c.args.z c.sat-3.result c.sat-3.ensures c.requires.z_small
