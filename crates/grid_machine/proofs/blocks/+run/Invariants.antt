use Rattle.std.proofs.Common.{◌≡◌, ◌+◌, ◌-◌, ◌*◌}
use Rattle.grid_code.specs.Code.{end}
use Rattle.grid_code.specs.View.{with_node, block_of}
use Rattle.grid_machine.specs.State.{beside, state_of, lit_ground, Kept}
use Rattle.grid_code.proofs.Blocks.{block_size}
use Rattle.grid_machine.proofs.Nodes.{Running}
use Rattle.grid_machine.proofs.Masks.{Turning}
use Rattle.grid_machine.proofs.Lit.{Showing}
use Rattle.grid_machine.proofs.blocks.+run.Given as goal

abbrev pub decreases-run_block : goal.decreases-run_block
decreases-run_block g l = 4 * block_size (block_of l.block.now) + 2

abbrev pub decreases-run_node : goal.decreases-run_node
decreases-run_node g l = 4 * block_size (with_node l.node.now end) + 1

abbrev pub decreases-run_branch : goal.decreases-run_branch
decreases-run_branch g l = 4 * (block_size (block_of l.then.now) + block_size (block_of l.otherwise.now)) + 3

abbrev pub decreases-run_loop : goal.decreases-run_loop
decreases-run_loop g l = 4 * (block_size (block_of l.ask.now) + block_size (block_of l.step.now) + block_size (block_of l.body.now)) + 3

abbrev pub decreases-run_kept_loop : goal.decreases-run_kept_loop
decreases-run_kept_loop g l = 4 * (block_size (block_of l.ask.now) + block_size (block_of l.step.now) + block_size (block_of l.body.now)) + 4

abbrev pub decreases-run_lights : goal.decreases-run_lights
decreases-run_lights g l = 4 * block_size (block_of l.body.now) + 4

abbrev pub decreases-run_seen : goal.decreases-run_seen
decreases-run_seen g l = 4 * block_size (block_of l.body.now) + 3

abbrev pub decreases-run_lit : goal.decreases-run_lit
decreases-run_lit g l = 4 * block_size (block_of l.body.now) + 3

abbrev pub invariant-run_block-loop-node : goal.invariant-run_block-loop-node
invariant-run_block-loop-node g l =
    let f = l.initial.m.registers.frame.now in
    let ls = g.L.Illumination.lighting l.initial.lights in
    let ps = g.T.Textures.images l.initial.textures in
    (Kept l.initial.m l.m × ((g.L.Illumination.lighting l.lights ≡ ls) × (g.T.Textures.images l.textures ≡ ps))) × Running (lit_ground (beside ls.lights ps) f) f.places f.varying.now f.uniform.now f.setting.texts.now l.most l.block l.node-index (state_of l.initial.m) (state_of l.m)

abbrev pub invariant-run_loop-loop-turn : goal.invariant-run_loop-loop-turn
invariant-run_loop-loop-turn g l =
    let f = l.initial.m.registers.frame.now in
    let ls = g.L.Illumination.lighting l.initial.lights in
    let ps = g.T.Textures.images l.initial.textures in
    (Kept l.initial.m l.m × ((g.L.Illumination.lighting l.lights ≡ ls) × (g.T.Textures.images l.textures ≡ ps))) × Turning (lit_ground (beside ls.lights ps) f) l.uniform (block_of l.ask) l.test (block_of l.step) (block_of l.body) f.places f.varying.now f.uniform.now l.most (l.most - l._turn) (state_of l.initial.m) (state_of l.m)

abbrev pub invariant-run_seen-loop-n : goal.invariant-run_seen-loop-n
invariant-run_seen-loop-n g l =
    let f = l.initial.m.registers.frame.now in
    let ls = g.L.Illumination.lighting l.initial.lights in
    let ps = g.T.Textures.images l.initial.textures in
    (Kept l.initial.m l.m × ((g.L.Illumination.lighting l.lights ≡ ls) × (g.T.Textures.images l.textures ≡ ps))) × Showing (lit_ground (beside ls.lights ps) f) f.places f.varying.now f.uniform.now l.most l.fn.place l.fn.args (block_of l.body) l.n (state_of l.initial.m) (state_of l.m)
