use Rattle.std.proofs.Common.{pos, w64, FitsSigned}
use Rattle.std.proofs.lemmas.Int.{to_z-of_z}
use Rattle.builtins.proofs.Noises.{plane_is}
use Rattle.builtins.proofs.blended.along_y.Goals as goal

pub returns-clause-value : goal.returns-clause-value
returns-clause-value c =
    let z_is : FitsSigned w64 c.args.z = c.ranges.z in
    let third = simp to_z-of_z at c.word-third.ensures in
    plane_is (pos c.args.u) (pos c.args.v) c.args.x c.args.y c.args.z c.args.rows.now.near c.args.rows.now.next c.args.rows.now.far_near c.args.rows.now.far_next c.word-third.result
    (pos c.lattice.result) (pos c.lattice-2.result) (pos c.lattice-3.result) (pos c.lattice-4.result) (pos c.blend-low.result) (pos c.blend-high.result) (pos c.blend.result)
    c.requires.near c.requires.next c.requires.far_near c.requires.far_next third
    c.lattice.ensures.value c.lattice-2.ensures.value c.lattice-3.ensures.value c.lattice-4.ensures.value
    c.blend-low.ensures.value c.blend-high.ensures.value c.blend.ensures.value
