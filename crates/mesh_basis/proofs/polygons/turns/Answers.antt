use Rattle.std.proofs.Common.{refl, ◌∙◌, arith}
use Rattle.fixed_math.proofs.Fits.{read_back}
use Rattle.mesh_basis.specs.Polygons.{turn, sum_from}
use Rattle.mesh_basis.proofs.Runs.{sum_next}
use Rattle.mesh_basis.proofs.polygons.turns.Goals as goal

pub loop-k-init : goal.loop-k-init
unfolding sum_from
loop-k-init c = (refl, omega arith)

pub loop-k-preserved : goal.loop-k-preserved
loop-k-preserved c =
    let f = turn c.args.points.now c.args.axis in
    let next = read_back c.turn.result c.turn.type_inv in
    let all = read_back c.plus-sum.result c.plus-sum.type_inv in
    let bound = rw next at c.plus-sum.ensures.bound in
    let small = c.loop-k.invariant.1 in
    let one = c.turn.ensures.bound in
    let first = c.loop-k.auto.k in
    (sum_next f c.loop-k.k _ _ _ first (all ∙ c.plus-sum.ensures.value) c.loop-k.invariant.0 (next ∙ c.turn.ensures.value), rw all (omega (arith, bound, small, one, first)))
