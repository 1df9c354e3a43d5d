use Rattle.std.proofs.Common.{rules, arith, ◌∙◌, ◌≡◌, pos, ◌*ℤ◌, w32, w64, FitsSigned}
use Rattle.std.proofs.lemmas.Int.{ints, to_z-of_z}
use Rattle.fixed_math.proofs.Floor.{floor_by_fits}
use Rattle.lanes.proofs.Quotients.{div_is}
use Rattle.lanes.proofs.quotient.div.Goals as goal

pub returns-clause-value : goal.returns-clause-value
returns-clause-value c =
    let a_is : FitsSigned w32 c.args.a = c.ranges.a in
    let b_is : FitsSigned w32 c.args.b = c.ranges.b in
    let t = c.turned.result in
    let t_fits : FitsSigned w64 t = omega (arith, ints, c.turned.ensures.bound) in
    let top_fits : FitsSigned w64 (t *ℤ pos 65536) = omega (arith, ints, c.turned.ensures.bound) in
    let turned_is = simp to_z-of_z at c.turned.ensures.value in
    let d_is = simp to_z-of_z at c.unsigned_abs-d.ensures.value in
    let q_is = simp to_z-of_z at c.floor_by.ensures.value in
    let q_fits = floor_by_fits w64 (t *ℤ pos 65536) c.unsigned_abs-d.result top_fits in
    let q_fits_2 : FitsSigned w64 c.floor_by.result = rw q_is q_fits in
    let cut_fits : FitsSigned w32 c.sat.result = omega (arith, ints, c.sat.ensures.raw.0, c.sat.ensures.raw.1) in
    let s_is = simp to_z-of_z at c.sat.ensures.value in
    let some : c.args.b ≡ pos 0 → ⊥ = search rules in
    simp to_z-of_z (s_is ∙ rw (q_is, turned_is, d_is) (div_is c.args.a c.args.b some))
