use Rattle.std.proofs.Common.{arith}
use Rattle.displace_shade.proofs.Unlit.{lit_found, lit_on, lit_branch, lit_loop}
use Rattle.displace_shade.proofs.asking.+asking.Goals as goal

pub asks_lights-returns-then-node_asks : goal.asks_lights-returns-then-node_asks
asks_lights-returns-then-node_asks t c =
    lit_found c.args.nodes.now c.loop-node.node-index c.node-item.result (omega arith) c.node-item.is c.node_asks.result c.node_asks.ensures c.loop-node.invariant c.if-node_asks.true

pub asks_lights-loop-node-preserved : goal.asks_lights-loop-node-preserved
asks_lights-loop-node-preserved t c =
    lit_on c.args.nodes.now c.loop-node.node-index c.node-item.result (omega arith) c.node-item.is c.node_asks.result c.node_asks.ensures c.loop-node.invariant c.if-node_asks.false

pub node_asks-returns-in-If : goal.node_asks-returns-in-If
node_asks-returns-in-If t c =
    lit_branch c.args.node.now c.in-If.test c.in-If.then c.in-If.otherwise _ _ c.asks_lights-a.result c.asks_lights-b.result c.either.result c.in-If.is
    c.as_slice.ensures c.asks_lights-a.ensures c.as_slice-in-If.ensures c.asks_lights-b.ensures c.either.ensures

pub node_asks-returns-in-Loop : goal.node_asks-returns-in-Loop
node_asks-returns-in-Loop t c =
    lit_loop c.args.node.now c.in-Loop.uniform c.in-Loop.ask c.in-Loop.test c.in-Loop.step c.in-Loop.body _ _ _ c.asks_lights-a-in-Loop.result c.asks_lights-b-in-Loop.result c.asks_lights-c.result
    c.either-in-Loop.result c.either-in-Loop-2.result c.in-Loop.is c.as_slice-in-Loop.ensures c.asks_lights-a-in-Loop.ensures c.as_slice-in-Loop-2.ensures c.asks_lights-b-in-Loop.ensures
    c.as_slice-in-Loop-3.ensures c.asks_lights-c.ensures c.either-in-Loop.ensures c.either-in-Loop-2.ensures
