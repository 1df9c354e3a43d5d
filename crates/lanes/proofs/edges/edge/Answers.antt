use Rattle.std.proofs.Common.{arith, ◌∙◌, w32, w64, FitsSigned}
use Rattle.std.proofs.lemmas.Int.{ints, to_z-of_z}
use Rattle.lanes.specs.Rows.{at}
use Rattle.lanes.proofs.Sides.{inside_is}
use Rattle.lanes.proofs.edges.edge.Goals as goal

pub returns-clause-each : goal.returns-clause-each
returns-clause-each c = λ i h.
    let ax : FitsSigned w32 (at c.args.a 0) = omega (arith, ints, c.requires.a 0) in
    let ay : FitsSigned w32 (at c.args.a 1) = omega (arith, ints, c.requires.a 1) in
    let bx : FitsSigned w32 (at c.args.b 0) = omega (arith, ints, c.requires.b 0) in
    let by : FitsSigned w32 (at c.args.b 1) = omega (arith, ints, c.requires.b 1) in
    let dx : FitsSigned w64 c.difference.result = omega (arith, ints, c.difference.ensures.bound) in
    let dy : FitsSigned w64 c.difference-2.result = omega (arith, ints, c.difference-2.ensures.bound) in
    let dx_is = simp to_z-of_z at c.difference.ensures.value in
    let dy_is = simp to_z-of_z at c.difference-2.ensures.value in
    let each = simp to_z-of_z at (c.edge_from.ensures.each i h) in
    each ∙ rw (dx_is, dy_is) (inside_is (at c.args.a 0) (at c.args.a 1) (at c.args.b 0) (at c.args.b 1) (at c.args.xs.now i) (at c.args.ys.now i))
