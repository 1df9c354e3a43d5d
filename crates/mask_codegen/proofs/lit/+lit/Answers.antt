use Rattle.std.proofs.Common.{arith}
use Rattle.mask_codegen.proofs.Lighting.{lit_found, lit_on, lit_branch, lit_loop}
use Rattle.mask_codegen.proofs.lit.+lit.Goals as goal

pub has_lights-returns-then-node_has : goal.has_lights-returns-then-node_has
has_lights-returns-then-node_has t c =
    lit_found c.args.nodes.now c.loop-node.node-index c.node-item.result (omega arith) c.node-item.is c.node_has.result c.node_has.ensures c.loop-node.invariant c.if-node_has.true

pub has_lights-loop-node-preserved : goal.has_lights-loop-node-preserved
has_lights-loop-node-preserved t c =
    lit_on c.args.nodes.now c.loop-node.node-index c.node-item.result (omega arith) c.node-item.is c.node_has.result c.node_has.ensures c.loop-node.invariant c.if-node_has.false

pub node_has-returns-in-If : goal.node_has-returns-in-If
node_has-returns-in-If t c =
    lit_branch c.args.node.now c.in-If.test c.in-If.then c.in-If.otherwise _ _ c.has_lights-a.result c.has_lights-b.result c.either.result c.in-If.is
    c.as_slice.ensures c.has_lights-a.ensures c.as_slice-in-If.ensures c.has_lights-b.ensures c.either.ensures

pub node_has-returns-in-Loop : goal.node_has-returns-in-Loop
node_has-returns-in-Loop t c =
    lit_loop c.args.node.now c.in-Loop.uniform c.in-Loop.ask c.in-Loop.test c.in-Loop.step c.in-Loop.body _ _ _ c.has_lights-a-in-Loop.result c.has_lights-b-in-Loop.result c.has_lights-c.result
    c.either-in-Loop.result c.either-in-Loop-2.result c.in-Loop.is c.as_slice-in-Loop.ensures c.has_lights-a-in-Loop.ensures c.as_slice-in-Loop-2.ensures c.has_lights-b-in-Loop.ensures
    c.as_slice-in-Loop-3.ensures c.has_lights-c.ensures c.either-in-Loop.ensures c.either-in-Loop-2.ensures
