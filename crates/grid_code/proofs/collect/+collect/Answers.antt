use Rattle.std.proofs.Common.{arith, ◌++◌, map, sym, ap, ◌∙◌}
use Rattle.grid_code.specs.Code.{end, branch, loops, lights}
use Rattle.grid_code.specs.View.{block_of}
use Rattle.grid_code.specs.Texts.{texts_in}
use Rattle.grid_code.proofs.Blocks.{block_size, branch_is, loop_is, lights_is}
use Rattle.grid_code.proofs.Gathered.{gathering_small, gathering_next, one_gathered, two_gathered, three_gathered, follows}
use Rattle.grid_code.proofs.collect.+collect.Goals as goal

pub collect-collect_node-requires : goal.collect-collect_node-requires
collect-collect_node-requires t c =
    let small = gathering_small c.args.nodes.now c.loop-node.node-index _ _ c.node-item.result c.loop-node.invariant (omega arith) c.node-item.is in
    omega (arith, c.decreases, small)

pub collect-loop-node-preserved : goal.collect-loop-node-preserved
collect-loop-node-preserved t c = gathering_next c.args.nodes.now c.loop-node.node-index _ _ c.node-item.result c.loop-node.invariant (omega arith) c.node-item.is _ c.in_ok-collect_node.ensures

pub collect_node-collect-requires : goal.collect_node-collect-requires
collect_node-collect-requires t c =
    let s = ap block_size (branch_is c.args.node.now c.in-If.test c.in-If.then c.in-If.otherwise end c.in-If.is) in
    let d = ap (λ l. block_size (block_of l)) c.as_slice.ensures in
    omega (arith, c.decreases, s, d)

pub collect_node-collect-requires-in-If : goal.collect_node-collect-requires-in-If
collect_node-collect-requires-in-If t c =
    let s = ap block_size (branch_is c.args.node.now c.in-If.test c.in-If.then c.in-If.otherwise end c.in-If.is) in
    let d = ap (λ l. block_size (block_of l)) c.as_slice-in-If.ensures in
    omega (arith, c.decreases, s, d)

pub collect_node-collect-requires-in-Loop : goal.collect_node-collect-requires-in-Loop
collect_node-collect-requires-in-Loop t c =
    let s = ap block_size (loop_is c.args.node.now c.in-Loop.uniform c.in-Loop.ask c.in-Loop.test c.in-Loop.step c.in-Loop.body end c.in-Loop.is) in
    let d = ap (λ l. block_size (block_of l)) c.as_slice-in-Loop.ensures in
    omega (arith, c.decreases, s, d)

pub collect_node-collect-requires-in-Loop-2 : goal.collect_node-collect-requires-in-Loop-2
collect_node-collect-requires-in-Loop-2 t c =
    let s = ap block_size (loop_is c.args.node.now c.in-Loop.uniform c.in-Loop.ask c.in-Loop.test c.in-Loop.step c.in-Loop.body end c.in-Loop.is) in
    let d = ap (λ l. block_size (block_of l)) c.as_slice-in-Loop-2.ensures in
    omega (arith, c.decreases, s, d)

pub collect_node-collect-requires-in-Loop-3 : goal.collect_node-collect-requires-in-Loop-3
collect_node-collect-requires-in-Loop-3 t c =
    let s = ap block_size (loop_is c.args.node.now c.in-Loop.uniform c.in-Loop.ask c.in-Loop.test c.in-Loop.step c.in-Loop.body end c.in-Loop.is) in
    let d = ap (λ l. block_size (block_of l)) c.as_slice-in-Loop-3.ensures in
    omega (arith, c.decreases, s, d)

pub collect_node-collect-requires-in-Lights : goal.collect_node-collect-requires-in-Lights
collect_node-collect-requires-in-Lights t c =
    let s = ap block_size (lights_is c.args.node.now c.in-Lights.over c.in-Lights.args c.in-Lights.body end c.in-Lights.is) in
    let d = ap (λ l. block_size (block_of l)) c.as_slice-in-Lights.ensures in
    omega (arith, c.decreases, s, d)

pub collect_node-returns-in_ok-collect-in-If : goal.collect_node-returns-in_ok-collect-in-If
collect_node-returns-in_ok-collect-in-If t c =
    let q = branch_is c.args.node.now c.in-If.test c.in-If.then c.in-If.otherwise end c.in-If.is
    ∙ ap (λ l. branch c.in-If.test (block_of l) (block_of c.in-If.otherwise) end) (sym c.as_slice.ensures)
    ∙ ap (λ l. branch c.in-If.test (block_of c.as_slice.result.now) (block_of l) end) (sym c.as_slice-in-If.ensures) in
    follows c.collect-in-If.result (λ h. two_gathered _ _ _ (texts_in (block_of c.as_slice.result.now)) (texts_in (block_of c.as_slice-in-If.result.now)) c.in_ok-collect-in-If.ensures h ∙ ap (λ x. map (λ t. t.now) c.args.texts.now.items ++ texts_in x) (sym q)) c.collect-in-If.ensures

pub collect_node-returns-in_ok-collect-in-Loop-2 : goal.collect_node-returns-in_ok-collect-in-Loop-2
collect_node-returns-in_ok-collect-in-Loop-2 t c =
    let u = c.in-Loop.uniform in
    let test = c.in-Loop.test in
    let ask = c.as_slice-in-Loop.result.now in
    let step = c.as_slice-in-Loop-2.result.now in
    let body = c.as_slice-in-Loop-3.result.now in
    let q = loop_is c.args.node.now u c.in-Loop.ask test c.in-Loop.step c.in-Loop.body end c.in-Loop.is
    ∙ ap (λ l. loops u (block_of l) test (block_of c.in-Loop.step) (block_of c.in-Loop.body) end) (sym c.as_slice-in-Loop.ensures)
    ∙ ap (λ l. loops u (block_of ask) test (block_of l) (block_of c.in-Loop.body) end) (sym c.as_slice-in-Loop-2.ensures)
    ∙ ap (λ l. loops u (block_of ask) test (block_of step) (block_of l) end) (sym c.as_slice-in-Loop-3.ensures) in
    follows c.collect-in-Loop-3.result (λ h. three_gathered _ _ _ _ (texts_in (block_of ask)) (texts_in (block_of step)) (texts_in (block_of body)) c.in_ok-collect-in-Loop.ensures c.in_ok-collect-in-Loop-2.ensures h ∙ ap (λ x. map (λ t. t.now) c.args.texts.now.items ++ texts_in x) (sym q)) c.collect-in-Loop-3.ensures

pub collect_node-returns-in-Lights : goal.collect_node-returns-in-Lights
collect_node-returns-in-Lights t c =
    let q = lights_is c.args.node.now c.in-Lights.over c.in-Lights.args c.in-Lights.body end c.in-Lights.is
    ∙ ap (λ l. lights c.in-Lights.over c.in-Lights.args (block_of l) end) (sym c.as_slice-in-Lights.ensures) in
    follows c.collect-in-Lights.result (λ h. one_gathered _ _ (texts_in (block_of c.as_slice-in-Lights.result.now)) h ∙ ap (λ x. map (λ t. t.now) c.args.texts.now.items ++ texts_in x) (sym q)) c.collect-in-Lights.ensures
