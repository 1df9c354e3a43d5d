use Rattle.std.proofs.Common.{◌≡◌, ◌∙◌, ◌^◌, arith, to_z, of_z}
use Rattle.std.specs.Int.{w128}
use Rattle.fixed_math.proofs.Fits.{read_back}
use Rattle.mesh_basis.specs.Bases.{blend}
use Rattle.mesh_basis.proofs.Blends.{blend_abs, blend_value, small_back}
use Rattle.mesh_basis.proofs.blend.blend.Goals as goal

pub plus-back-requires : goal.plus-back-requires
plus-back-requires c =
    let third = (rw (read_back c.args.c c.ranges.c.sfits) at (c.part-third.ensures.bound (2 ^ 60))) c.requires.fits_c in
    let fourth = (rw (read_back c.args.d c.ranges.d.sfits) at (c.part-fourth.ensures.bound (2 ^ 60))) c.requires.fits_d in
    rw (read_back c.part-third.result c.part-third.type_inv, read_back c.part-fourth.result c.part-fourth.type_inv) (omega (arith, third, fourth))

pub plus-behind-requires : goal.plus-behind-requires
plus-behind-requires c =
    let second = (rw (read_back c.args.b c.ranges.b.sfits) at (c.part-second.ensures.bound (2 ^ 60))) c.requires.fits_b in
    let third = (rw (read_back c.args.c c.ranges.c.sfits) at (c.part-third.ensures.bound (2 ^ 60))) c.requires.fits_c in
    let fourth = (rw (read_back c.args.d c.ranges.d.sfits) at (c.part-fourth.ensures.bound (2 ^ 60))) c.requires.fits_d in
    let back = rw (read_back c.part-third.result c.part-third.type_inv, read_back c.part-fourth.result c.part-fourth.type_inv) at c.plus-back.ensures.bound in
    rw (read_back c.part-second.result c.part-second.type_inv, read_back c.plus-back.result c.plus-back.type_inv) (omega (arith, second, third, fourth, back))

pub plus-requires : goal.plus-requires
plus-requires c =
    let first = (rw (read_back c.args.a c.ranges.a.sfits) at (c.part-first.ensures.bound (2 ^ 60))) c.requires.fits_a in
    let second = (rw (read_back c.args.b c.ranges.b.sfits) at (c.part-second.ensures.bound (2 ^ 60))) c.requires.fits_b in
    let third = (rw (read_back c.args.c c.ranges.c.sfits) at (c.part-third.ensures.bound (2 ^ 60))) c.requires.fits_c in
    let fourth = (rw (read_back c.args.d c.ranges.d.sfits) at (c.part-fourth.ensures.bound (2 ^ 60))) c.requires.fits_d in
    let back = rw (read_back c.part-third.result c.part-third.type_inv, read_back c.part-fourth.result c.part-fourth.type_inv) at c.plus-back.ensures.bound in
    let behind = rw (read_back c.part-second.result c.part-second.type_inv, read_back c.plus-back.result c.plus-back.type_inv) at c.plus-behind.ensures.bound in
    rw (read_back c.part-first.result c.part-first.type_inv, read_back c.plus-behind.result c.plus-behind.type_inv) (omega (arith, first, second, third, fourth, back, behind))

pub returns-clause-value : goal.returns-clause-value
returns-clause-value c =
    let first = read_back c.part-first.result c.part-first.type_inv ∙ c.part-first.ensures.value in
    let second = read_back c.part-second.result c.part-second.type_inv ∙ c.part-second.ensures.value in
    let third = read_back c.part-third.result c.part-third.type_inv ∙ c.part-third.ensures.value in
    let fourth = read_back c.part-fourth.result c.part-fourth.type_inv ∙ c.part-fourth.ensures.value in
    let back = read_back c.plus-back.result c.plus-back.type_inv ∙ c.plus-back.ensures.value in
    let behind = read_back c.plus-behind.result c.plus-behind.type_inv ∙ c.plus-behind.ensures.value in
    let all = read_back c.plus.result c.plus.type_inv ∙ c.plus.ensures.value in
    let w = c.args.weights in
    let small = c.requires.small in
    blend_value w c.args.a c.args.b c.args.c c.args.d _ _ _ _ _ _ _ _ _ _ _ _ _ _ _
    (small_back w.first small.first) (small_back w.second small.second) (small_back w.third small.third) (small_back w.fourth small.fourth)
    (read_back c.args.a c.ranges.a.sfits) (read_back c.args.b c.ranges.b.sfits) (read_back c.args.c c.ranges.c.sfits) (read_back c.args.d c.ranges.d.sfits)
    first second third fourth back behind all

pub returns-clause-bound : goal.returns-clause-bound
returns-clause-bound c = λ r e f g h.
    let value : to_z w128 (of_z w128 c.plus.result) ≡ blend c.args.weights c.args.a c.args.b c.args.c c.args.d = returns-clause-value c in
    rw value (blend_abs c.args.weights c.args.a c.args.b c.args.c c.args.d r c.requires.small e f g h)
