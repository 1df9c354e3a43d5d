use Rattle.std.proofs.Common.{arith, []}
use Rattle.std.proofs.lemmas.Result.{on_ok_weaker}
use Rattle.mask_codegen.proofs.Naming.{named_next, named_branch, named_loop, named_lights}
use Rattle.mask_codegen.proofs.named.+named.Goals as goal

pub name_all-loop-node-preserved : goal.name_all-loop-node-preserved
name_all-loop-node-preserved t c =
    named_next c.args.nodes.now c.loop-node.node-index c.node-item.result _ c.loop-node.seen.items c.name_node.new.seen.items (omega arith) c.node-item.is c.loop-node.invariant c.in_ok-name_node.ensures

pub name_node-returns-in_ok-name_all-in-If : goal.name_node-returns-in_ok-name_all-in-If
name_node-returns-in_ok-name_all-in-If t c =
    on_ok_weaker c.name_all-in-If.result
    (named_branch c.args.node.now c.args.seen.now.items c.name.new.seen.items c.name_all.new.seen.items c.name_all-in-If.new.seen.items [] c.in-If.test c.in-If.then c.in-If.otherwise _ _ c.in-If.is
    c.in_ok-name-in-If.ensures c.as_slice-in-If.ensures c.in_ok-name_all-in-If.ensures c.as_slice-in-If-2.ensures) c.name_all-in-If.ensures

pub name_node-returns-in_ok-name_all-in-Loop-2 : goal.name_node-returns-in_ok-name_all-in-Loop-2
name_node-returns-in_ok-name_all-in-Loop-2 t c =
    on_ok_weaker c.name_all-in-Loop-3.result
    (named_loop c.args.node.now c.args.seen.now.items c.name_all-in-Loop.new.seen.items c.name-in-Loop.new.seen.items c.name_all-in-Loop-2.new.seen.items c.name_all-in-Loop-3.new.seen.items
    c.in-Loop.uniform c.in-Loop.ask c.in-Loop.test c.in-Loop.step c.in-Loop.body _ _ _ c.in-Loop.is c.as_slice-in-Loop.ensures c.in_ok-name_all-in-Loop.ensures c.in_ok-name-in-Loop.ensures
    c.as_slice-in-Loop-2.ensures c.in_ok-name_all-in-Loop-2.ensures c.as_slice-in-Loop-3.ensures) c.name_all-in-Loop-3.ensures

pub name_node-returns-in_ok-name_each-in-Lights : goal.name_node-returns-in_ok-name_each-in-Lights
name_node-returns-in_ok-name_each-in-Lights t c =
    on_ok_weaker c.name_all-in-Lights.result
    (named_lights c.args.node.now c.args.seen.now.items c.name_each-in-Lights.new.seen.items c.name_all-in-Lights.new.seen.items [] [] c.in-Lights.over c.in-Lights.args _ c.in-Lights.body _ c.in-Lights.is
    c.as_slice-in-Lights.ensures c.in_ok-name_each-in-Lights.ensures c.as_slice-in-Lights-2.ensures) c.name_all-in-Lights.ensures
