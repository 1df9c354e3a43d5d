use Rattle.std.proofs.Common.{◌≡◌, ◌<◌, ◌+◌, ◌∙◌, ap, to_z, of_z, arith, refl}
use Rattle.std.specs.Int.{w128}
use Rattle.std.specs.Prelude.{pos, ◌+ℤ◌, ◌≤ℤ◌}
use Rattle.fixed_math.proofs.Fits.{read_back}
use Rattle.filter_ppm.specs.Mean.{Totals, with_colour}
use Rattle.filter_ppm.proofs.Means.{totals_more, totals, same_totals, read_total, read_size, read_part}
use Rattle.filter_ppm.proofs.sums.Sums.add.Goals as goal

pub invariant_of-self : goal.invariant_of-self
invariant_of-self c =
    let t = c.self.inside in
    let w = c.raw_of-weight.result in
    let old = totals t.count t.weight t.x t.y t.z in
    let new = totals (t.count + 1) (to_z w128 (of_z w128 c.plus.result)) (to_z w128 (of_z w128 c.with_part.result))
    (to_z w128 (of_z w128 c.with_part-2.result)) (to_z w128 (of_z w128 c.with_part-3.result)) in
    let r = read_total old c.self.invariant in
    let v = read_back w c.raw_of-weight.type_inv in
    let low : pos 0 ≤ℤ w = rw (c.raw_of-weight.ensures.value) c.requires.weight in
    let weight : to_z w128 (of_z w128 c.plus.result) ≡ t.weight +ℤ w = read_back c.plus.result c.plus.type_inv ∙ c.plus.ensures.value ∙ rw (r.weight, v) refl in
    let count = ap (λ (x : Totals). x.count) c.self.view_is in
    let room : t.count < 33554432 = omega (arith, c.requires.room, count) in
    totals_more old new w c.self.invariant room low c.raw_of-weight.ensures.size refl weight
    (read_size c.with_part.result t.x w c.with_part.type_inv r.x v c.with_part.ensures.size)
    (read_size c.with_part-2.result t.y w c.with_part-2.type_inv r.y v c.with_part-2.ensures.size)
    (read_size c.with_part-3.result t.z w c.with_part-3.type_inv r.z v c.with_part-3.ensures.size)

pub returns : goal.returns
returns c =
    let t = c.self.inside in
    let w = c.raw_of-weight.result in
    let k = c.args.c in
    let r = read_total (totals t.count t.weight t.x t.y t.z) c.self.invariant in
    let v = read_back w c.raw_of-weight.type_inv in
    let e = c.raw_of-weight.ensures.value in
    let weight : to_z w128 (of_z w128 c.plus.result) ≡ t.weight +ℤ c.args.w =
    read_back c.plus.result c.plus.type_inv ∙ c.plus.ensures.value ∙ rw (r.weight, v, e) refl in
    same_totals (t.count + 1) _ _ _ _ _ _ _ _ weight
    (read_part c.with_part.result t.x w c.args.w k.x c.with_part.type_inv r.x v e c.with_part.ensures.value)
    (read_part c.with_part-2.result t.y w c.args.w k.y c.with_part-2.type_inv r.y v e c.with_part-2.ensures.value)
    (read_part c.with_part-3.result t.z w c.args.w k.z c.with_part-3.type_inv r.z v e c.with_part-3.ensures.value)
    ∙ ap (λ (x : Totals). with_colour x c.args.w k) c.self.view_is
