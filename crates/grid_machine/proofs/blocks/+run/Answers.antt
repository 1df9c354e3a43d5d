use Rattle.std.proofs.Common.{arith, ◌≡◌, ◌<◌, ◌+◌, ◌-◌, ℕ, suc, get_or, true, false, refl, sym, ap, ◌∙◌, subst}
use Rattle.std.specs.List.{list_all}
use Rattle.grid_code.specs.Code.{end, branch, loops, sum, texture, lights}
use Rattle.grid_code.specs.Valid.{are_three}
use Rattle.std.specs.Prelude.{◌||◌, Option, Some, is_some}
use Rattle.fixed_math.specs.declared.vec3.Vec3.{Vec3}
use Rattle.sl_ast.specs.declared.kinds.LightStmt.TheVariants.{Illuminance, Illuminate, Solar}
use Rattle.sl_ast.specs.declared.kinds.Predefined.TheVariants as names
use Rattle.builtins.specs.Lights.{is_in_cone}
use Rattle.builtins.specs.Values.{triple_of}
use Rattle.grid_code.specs.Names.{name_at, lit_at}
use Rattle.grid_code.proofs.Both.{left, right}
use Rattle.builtins.specs.Lights.{Light}
use Rattle.light_rows.specs.Scopes.{scope_at}
use Rattle.light_rows.specs.Seen.{unasked, shown_by, HasPlanes, IsShown}
use Rattle.light_rows.proofs.Views.{shown_there}
use Rattle.number_rows.specs.Planes.{triple_at, ArePlanes}
use Rattle.grid_machine.specs.Writes.{aimed_at}
use Rattle.grid_machine.proofs.HeldReads.{reads_held}
use Rattle.grid_machine.proofs.Shapes.{read_held}
use Rattle.grid_machine.proofs.Near.{read_near, reads_near}
use Rattle.grid_machine.proofs.Lit.{from_near, in_cone_near, shown_is, view_from, part_steps, lit_kept, showing_init, showing_next, showing_end}
use Rattle.grid_code.specs.Masked.{State, read, reads, from_light, entered, kindled}
use Rattle.grid_code.specs.Masked.{going as going_of}
use Rattle.grid_code.specs.Uses.{has}
use Rattle.grid_code.specs.View.{with_node, block_of}
use Rattle.grid_machine.specs.State.{beside, state_of, Near, ground_of, lit_ground, lights_registers, ReadyIn, Runs}
use Rattle.grid_machine.proofs.Kept.{NearBy, has_kept, places_kept, beside_same, kept_on, kept_live, ready_kept, runs_kept, begin_kept, any_kept}
use Rattle.grid_code.proofs.Blocks.{branch_is, loop_is, lights_is, block_size}
use Rattle.grid_machine.proofs.Nodes.{running_ready, running_small, running_next, running_end, asleep_runs, put_steps, differ_steps, texture_steps}
use Rattle.grid_machine.proofs.Masks.{Turning, one_at, parts_at, turning_step, turning_stop, turning_end, looped_steps}
use Rattle.grid_machine.proofs.blocks.+run.Goals as goal

pub run_block-run_node-requires : goal.run_block-run_node-requires
run_block-run_node-requires g t c =
    let inv = c.loop-node.invariant in
    let small = running_small _ _ _ _ _ _ _ _ _ _ c.node-item.result inv.1 (omega arith) c.node-item.is in
    λ κs lives. (
      omega (arith, c.decreases, small),
      (
        lives.0,
        (
          lives.1,
          (
            inv.0.0.whole,
            (
              ready_kept c.args.m.now c.loop-node.m (with_node c.node-item.result end) inv.0.0 (running_ready _ _ _ _ _ _ _ _ _ _ c.node-item.result inv.1 (omega arith) c.node-item.is),
              places_kept c.args.m.now c.loop-node.m (g.L.Illumination.lighting c.args.lights.now) (g.L.Illumination.lighting c.loop-node.lights) inv.0.0 inv.0.1.0 c.requires.places,
            ),
          ),
        ),
      ),
    )

pub run_block-loop-node-preserved : goal.run_block-loop-node-preserved
run_block-loop-node-preserved g t c =
    let ls = (beside (g.L.Illumination.lighting c.args.lights.now).lights (g.T.Textures.images c.args.textures.now)) in
    let ls1 = (beside (g.L.Illumination.lighting c.loop-node.lights).lights (g.T.Textures.images c.loop-node.textures)) in
    let inv = c.loop-node.invariant in (
      (kept_on _ _ _ inv.0.0 c.run_node.ensures.kept, (c.run_node.ensures.same ∙ inv.0.1.0, c.run_node.ensures.images ∙ inv.0.1.1)),
      running_next _ _ _ _ _ _ _ _ _ _ c.node-item.result inv.1 (omega arith) c.node-item.is (state_of c.run_node.new.m) (runs_kept ls ls1 c.args.m.now c.loop-node.m c.run_node.new.m c.args.most (with_node c.node-item.result end) inv.0.0 (beside_same (ap (λ s. s.lights) inv.0.1.0) inv.0.1.1) c.run_node.ensures.masked),
    )

pub run_block-returns-after-loop-node-clause-masked : goal.run_block-returns-after-loop-node-clause-masked
run_block-returns-after-loop-node-clause-masked g t c = running_end _ _ _ _ _ _ _ _ _ _ c.loop-node.invariant.1 (omega arith)

pub run_block-returns-else-any-clause-masked : goal.run_block-returns-else-any-clause-masked
run_block-returns-else-any-clause-masked g t c =
    let m = c.args.m.now in
    let f = m.registers.frame.now in
    asleep_runs (lit_ground (beside (g.L.Illumination.lighting c.args.lights.now).lights (g.T.Textures.images c.args.textures.now)) f) f.places f.varying.now f.uniform.now c.args.most (block_of c.args.block.now) (state_of m) (sym c.any.ensures ∙ c.if-any.false)

pub run_node-sum-requires : goal.run_node-sum-requires
run_node-sum-requires g t c =
    let m = c.args.m.now in
    let r = m.registers.frame.now in
    let f = subst (λ x. ReadyIn m (with_node x end)) c.in-Sum.is c.requires.ready in
    record { whole = c.requires.whole; to = f.0; args = subst (λ qs. list_all (has r.varying.now r.uniform.now) qs ≡ true) (sym c.as_slice.ensures) f.1.0; points = f.1.1.0; shape = f.1.1.1.0; places = c.requires.places }

pub run_node-returns-in-Sum-clause-masked : goal.run_node-returns-in-Sum-clause-masked
run_node-returns-in-Sum-clause-masked g t c =
    let m = c.args.m.now in
    let ls = (beside (g.L.Illumination.lighting c.args.lights.now).lights (g.T.Textures.images c.args.textures.now)) in
    subst (λ x. Runs ls c.args.most (with_node x end) m c.sum.new.self) (sym c.in-Sum.is)
    (subst (λ qs. Runs ls c.args.most (sum c.in-Sum.to c.in-Sum.sum qs end) m c.sum.new.self) c.as_slice.ensures c.sum.ensures.near)

pub run_node-look_up-requires : goal.run_node-look_up-requires
run_node-look_up-requires g t c =
    let m = c.args.m.now in
    let r = m.registers.frame.now in
    let f = subst (λ x. ReadyIn m (with_node x end)) c.in-Texture.is c.requires.ready in
    record {
      whole = c.requires.whole;
      has = f.0;
      args = subst (λ qs. list_all (has r.varying.now r.uniform.now) qs ≡ true) (sym c.as_slice-in-Texture.ensures) f.1.0;
      three = subst (λ qs. are_three qs ≡ true) (sym c.as_slice-in-Texture.ensures) f.1.1.0;
      shape = f.1.1.1.0;
    }

pub run_node-returns-in-Texture-clause-masked : goal.run_node-returns-in-Texture-clause-masked
run_node-returns-in-Texture-clause-masked g t c =
    let m = c.args.m.now in
    let r = m.registers.frame.now in
    let ls = (beside (g.L.Illumination.lighting c.args.lights.now).lights (g.T.Textures.images c.args.textures.now)) in
    let f = subst (λ x. ReadyIn m (with_node x end)) c.in-Texture.is c.requires.ready in
    let some : 0 < r.places = let s = r.some in omega arith in
    let qs = c.as_slice-in-Texture.result.now in
    subst (λ x. Runs ls c.args.most (with_node x end) m c.look_up.new.self) (sym c.in-Texture.is)
    (subst (λ l. Runs ls c.args.most (texture c.in-Texture.to c.in-Texture.node l end) m c.look_up.new.self) c.as_slice-in-Texture.ensures
    (texture_steps (lit_ground ls r) r.places r.varying.now r.uniform.now c.args.most c.in-Texture.to c.in-Texture.node qs (state_of m) (state_of c.look_up.new.self) some r.shape r.wide r.tall
    (subst (λ l. list_all (has r.varying.now r.uniform.now) l ≡ true) (sym c.as_slice-in-Texture.ensures) f.1.0) c.look_up.ensures.near))

pub run_node-run_lights-requires : goal.run_node-run_lights-requires
run_node-run_lights-requires g t c =
    let m = c.args.m.now in
    let r = m.registers.frame.now in
    let q = lights_is c.args.node.now c.in-Lights.over c.in-Lights.args c.in-Lights.body end c.in-Lights.is in
    let f = subst (ReadyIn m) q c.requires.ready in
    let s = ap block_size q in
    let d = c.as_slice-in-Lights.ensures in
    let d2 = c.as_slice-in-Lights-2.ensures in
    let ds2 = ap (λ l. block_size (block_of l)) d2 in
    λ κs lives. (omega (arith, c.decreases), (lives.0, (lives.1, (c.requires.whole, (subst (λ qs. list_all (has r.varying.now r.uniform.now) qs ≡ true) (sym d) f.0, (f.1.0, (subst (λ l. ReadyIn m (block_of l)) (sym d2) f.1.1.0, c.requires.places)))))))

pub run_node-returns-in-Lights-clause-masked : goal.run_node-returns-in-Lights-clause-masked
run_node-returns-in-Lights-clause-masked g t c =
    let m = c.args.m.now in
    let ls = (beside (g.L.Illumination.lighting c.args.lights.now).lights (g.T.Textures.images c.args.textures.now)) in
    let over = c.in-Lights.over in
    let q = lights_is c.args.node.now over c.in-Lights.args c.in-Lights.body end c.in-Lights.is in
    let e = q ∙ ap (λ l. lights over l (block_of c.in-Lights.body) end) (sym c.as_slice-in-Lights.ensures) ∙ ap (λ l. lights over c.as_slice-in-Lights.result.now (block_of l) end) (sym c.as_slice-in-Lights-2.ensures) in
    subst (λ b. Runs ls c.args.most b m c.run_lights.new.m) (sym e) c.run_lights.ensures.masked

pub run_node-run_branch-requires : goal.run_node-run_branch-requires
run_node-run_branch-requires g t c =
    let m = c.args.m.now in
    let q = branch_is c.args.node.now c.in-If.test c.in-If.then c.in-If.otherwise end c.in-If.is in
    let f = subst (ReadyIn m) q c.requires.ready in
    let s = ap block_size q in
    let d = c.as_slice-in-If.ensures in
    let d2 = c.as_slice-in-If-2.ensures in
    let ds = ap (λ l. block_size (block_of l)) d in
    let ds2 = ap (λ l. block_size (block_of l)) d2 in
    λ κs lives. (omega (arith, c.decreases), (lives.0, (lives.1, (c.requires.whole, (f.0, (subst (λ l. ReadyIn m (block_of l)) (sym d) f.1.0, (subst (λ l. ReadyIn m (block_of l)) (sym d2) f.1.1.0, c.requires.places)))))))

pub run_node-run_kept_loop-requires : goal.run_node-run_kept_loop-requires
run_node-run_kept_loop-requires g t c =
    let m = c.args.m.now in
    let q = loop_is c.args.node.now c.in-Loop.uniform c.in-Loop.ask c.in-Loop.test c.in-Loop.step c.in-Loop.body end c.in-Loop.is in
    let f = subst (ReadyIn m) q c.requires.ready in
    let s = ap block_size q in
    let d = c.as_slice-in-Loop.ensures in
    let d2 = c.as_slice-in-Loop-2.ensures in
    let d3 = c.as_slice-in-Loop-3.ensures in
    let ds = ap (λ l. block_size (block_of l)) d in
    let ds2 = ap (λ l. block_size (block_of l)) d2 in
    let ds3 = ap (λ l. block_size (block_of l)) d3 in
    λ κs lives. (omega (arith, c.decreases), (lives.0, (lives.1, (c.requires.whole, (subst (λ l. ReadyIn m (block_of l)) (sym d) f.0, (f.1.0, (subst (λ l. ReadyIn m (block_of l)) (sym d2) f.1.1.0, (subst (λ l. ReadyIn m (block_of l)) (sym d3) f.1.1.1.0, c.requires.places))))))))

pub run_node-returns-in-Put-clause-masked : goal.run_node-returns-in-Put-clause-masked
run_node-returns-in-Put-clause-masked g t c =
    let ls = (beside (g.L.Illumination.lighting c.args.lights.now).lights (g.T.Textures.images c.args.textures.now)) in
    let m = c.args.m.now in
    let r = m.registers.frame.now in
    let f = subst (λ x. ReadyIn m (with_node x end)) c.in-Put.is c.requires.ready in
    let pos : 0 < r.places = let s = r.some in omega arith in
    subst (λ x. Runs ls c.args.most (with_node x end) m c.put.new.self) (sym c.in-Put.is)
    (put_steps (lit_ground ls r) (ground_of r) r.places r.varying.now r.uniform.now c.args.most r.setting.texts.now c.in-Put.to c.in-Put.source (state_of m) (state_of c.put.new.self) refl pos f.1.0 c.put.ensures.near)

pub run_node-returns-in-Differ-clause-masked : goal.run_node-returns-in-Differ-clause-masked
run_node-returns-in-Differ-clause-masked g t c =
    let ls = (beside (g.L.Illumination.lighting c.args.lights.now).lights (g.T.Textures.images c.args.textures.now)) in
    let m = c.args.m.now in
    let r = m.registers.frame.now in
    let f = subst (λ x. ReadyIn m (with_node x end)) c.in-Differ.is c.requires.ready in
    let pos : 0 < r.places = let s = r.some in omega arith in
    subst (λ x. Runs ls c.args.most (with_node x end) m c.differ.new.self) (sym c.in-Differ.is)
    (differ_steps (lit_ground ls r) r.places r.varying.now r.uniform.now c.args.most c.in-Differ.to c.in-Differ.difference c.in-Differ.of (state_of m) (state_of c.differ.new.self) pos r.shape r.wide r.tall f.1.0 c.differ.ensures.near)

pub run_node-returns-in-If-clause-masked : goal.run_node-returns-in-If-clause-masked
run_node-returns-in-If-clause-masked g t c =
    let ls = (beside (g.L.Illumination.lighting c.args.lights.now).lights (g.T.Textures.images c.args.textures.now)) in
    let m = c.args.m.now in
    let q = branch_is c.args.node.now c.in-If.test c.in-If.then c.in-If.otherwise end c.in-If.is in
    let e = q ∙ ap (λ l. branch c.in-If.test (block_of l) (block_of c.in-If.otherwise) end) (sym c.as_slice-in-If.ensures) ∙ ap (λ l. branch c.in-If.test (block_of c.as_slice-in-If.result.now) (block_of l) end) (sym c.as_slice-in-If-2.ensures) in
    subst (λ b. Runs ls c.args.most b m c.run_branch.new.m) (sym e) c.run_branch.ensures.masked

pub run_node-returns-in-Loop-clause-masked : goal.run_node-returns-in-Loop-clause-masked
run_node-returns-in-Loop-clause-masked g t c =
    let ls = (beside (g.L.Illumination.lighting c.args.lights.now).lights (g.T.Textures.images c.args.textures.now)) in
    let m = c.args.m.now in
    let u = c.in-Loop.uniform in
    let test = c.in-Loop.test in
    let step = c.in-Loop.step in
    let body = c.in-Loop.body in
    let one = c.as_slice-in-Loop in
    let two = c.as_slice-in-Loop-2 in
    let three = c.as_slice-in-Loop-3 in
    let e = loop_is c.args.node.now u c.in-Loop.ask test step body end c.in-Loop.is ∙ ap (λ l. loops u (block_of l) test (block_of step) (block_of body) end) (sym one.ensures)
    ∙ ap (λ l. loops u (block_of one.result.now) test (block_of l) (block_of body) end) (sym two.ensures) ∙ ap (λ l. loops u (block_of one.result.now) test (block_of two.result.now) (block_of l) end) (sym three.ensures) in
    subst (λ b. Runs ls c.args.most b m c.run_kept_loop.new.m) (sym e) c.run_kept_loop.ensures.masked

pub run_kept_loop-run_loop-requires : goal.run_kept_loop-run_loop-requires
run_kept_loop-run_loop-requires g t c = λ κs lives. (omega (arith, c.decreases), (lives.0, (lives.1, (c.requires.whole, (c.requires.ask, (c.requires.has, (c.requires.step, (c.requires.body, c.requires.places))))))))

pub run_kept_loop-returns-clause-masked : goal.run_kept_loop-returns-clause-masked
run_kept_loop-returns-clause-masked g t c =
    let ls = (beside (g.L.Illumination.lighting c.args.lights.now).lights (g.T.Textures.images c.args.textures.now)) in
    let m = c.args.m.now in
    let k = c.run_loop.new.m in
    let r = m.registers.frame.now in
    looped_steps (lit_ground ls r) c.args.uniform (block_of c.args.ask.now) c.args.test (block_of c.args.step.now) (block_of c.args.body.now) r.places r.varying.now r.uniform.now c.args.most (state_of m) (state_of k) (state_of m).live (state_of m).staying c.run_loop.ensures.turns (λ i l. refl) (λ i l. refl)

pub run_node-returns-in-Break-clause-masked : goal.run_node-returns-in-Break-clause-masked
run_node-returns-in-Break-clause-masked g t c =
    let ls = (beside (g.L.Illumination.lighting c.args.lights.now).lights (g.T.Textures.images c.args.textures.now)) in
    subst (λ x. Runs ls c.args.most (with_node x end) c.args.m.now c.leave.new.self) (sym c.in-Break.is) (c.leave.ensures.masked ls c.args.most)

pub run_node-returns-in-Continue-clause-masked : goal.run_node-returns-in-Continue-clause-masked
run_node-returns-in-Continue-clause-masked g t c =
    let ls = (beside (g.L.Illumination.lighting c.args.lights.now).lights (g.T.Textures.images c.args.textures.now)) in
    subst (λ x. Runs ls c.args.most (with_node x end) c.args.m.now c.skip.new.self) (sym c.in-Continue.is) (c.skip.ensures.masked ls c.args.most)

pub run_loop-returns-then-not-any-clause-turns : goal.run_loop-returns-then-not-any-clause-turns
run_loop-returns-then-not-any-clause-turns g t c =
    let ls = (beside (g.L.Illumination.lighting c.args.lights.now).lights (g.T.Textures.images c.args.textures.now)) in
    let m = c.args.m.now in
    let r = m.registers.frame.now in
    let inv = c.loop-turn.invariant in
    let m1 = c.run_block.new.m in
    let sh1 = kept_on _ _ _ inv.0.0 c.run_block.ensures.kept in
    let k : ℕ = c.args.most - (c.loop-turn._turn + 1) in
    let e : c.args.most - c.loop-turn._turn ≡ suc k = omega arith in
    let none = any_kept m m1 (λ i. get_or c.going-going.result.places i false) (going_of c.args.uniform c.args.test (state_of m1)) false sh1 c.going-going.ensures (sym c.any.ensures ∙ c.if-not-any.true) in
    turning_stop (lit_ground ls r) c.args.uniform (block_of c.args.ask.now) c.args.test (block_of c.args.step.now) (block_of c.args.body.now) r.places r.varying.now r.uniform.now c.args.most k (state_of m) (state_of c.loop-turn.m) (state_of m1) c.requires.has
    (subst (λ q. Turning (lit_ground ls r) c.args.uniform (block_of c.args.ask.now) c.args.test (block_of c.args.step.now) (block_of c.args.body.now) r.places r.varying.now r.uniform.now c.args.most q (state_of m) (state_of c.loop-turn.m)) e inv.1)
    (runs_kept ls (beside (g.L.Illumination.lighting c.loop-turn.lights).lights (g.T.Textures.images c.loop-turn.textures)) m c.loop-turn.m m1 c.args.most (block_of c.args.ask.now) inv.0.0 (beside_same (ap (λ s. s.lights) inv.0.1.0) inv.0.1.1) c.run_block.ensures.masked) none

pub run_loop-loop-turn-preserved : goal.run_loop-loop-turn-preserved
run_loop-loop-turn-preserved g t c =
    let ls = (beside (g.L.Illumination.lighting c.args.lights.now).lights (g.T.Textures.images c.args.textures.now)) in
    let m = c.args.m.now in
    let r = m.registers.frame.now in
    let n = c.args.most in
    let inv = c.loop-turn.invariant in
    let m1 = c.run_block.new.m in
    let m2 = c.begin_turn.new.self in
    let m3 = c.run_block-in-loop-turn.new.m in
    let m4 = c.run_block-in-loop-turn-2.new.m in
    let sh1 = kept_on m c.loop-turn.m m1 inv.0.0 c.run_block.ensures.kept in
    let sh2 = kept_on m m1 m2 sh1 c.begin_turn.ensures.kept in
    let sh3 = kept_on m m2 m3 sh2 c.run_block-in-loop-turn.ensures.kept in
    let m3l = record m3 { live = m3.staying } in
    let sh3l = kept_live m m3 m3.staying sh3 in
    let e1 = c.run_block.ensures.same ∙ inv.0.1.0 in
    let f1 = c.run_block.ensures.images ∙ inv.0.1.1 in
    let e2 = c.run_block-in-loop-turn.ensures.same ∙ e1 in
    let f2 = c.run_block-in-loop-turn.ensures.images ∙ f1 in
    let k : ℕ = n - (c.loop-turn._turn + 1) in
    let e : n - c.loop-turn._turn ≡ suc k = omega arith in
    let some = any_kept m m1 (λ i. get_or c.going-going.result.places i false) (going_of c.args.uniform c.args.test (state_of m1)) true sh1 c.going-going.ensures (sym c.any.ensures ∙ c.if-not-any.false) in (
      (kept_on m m3l m4 sh3l c.run_block-in-loop-turn-2.ensures.kept, (c.run_block-in-loop-turn-2.ensures.same ∙ e2, c.run_block-in-loop-turn-2.ensures.images ∙ f2)),
      turning_step (lit_ground ls r) c.args.uniform (block_of c.args.ask.now) c.args.test (block_of c.args.step.now) (block_of c.args.body.now) r.places r.varying.now r.uniform.now n k (state_of m) (state_of c.loop-turn.m) (state_of m1) (state_of m2) (state_of m3) (state_of m4) c.requires.has
          (subst (λ q. Turning (lit_ground ls r) c.args.uniform (block_of c.args.ask.now) c.args.test (block_of c.args.step.now) (block_of c.args.body.now) r.places r.varying.now r.uniform.now n q (state_of m) (state_of c.loop-turn.m)) e inv.1)
          (runs_kept ls (beside (g.L.Illumination.lighting c.loop-turn.lights).lights (g.T.Textures.images c.loop-turn.textures)) m c.loop-turn.m m1 n (block_of c.args.ask.now) inv.0.0 (beside_same (ap (λ s. s.lights) inv.0.1.0) inv.0.1.1) c.run_block.ensures.masked) some
          (begin_kept m m1 c.args.uniform c.args.test (state_of m2) (λ i. get_or c.going-going.result.places i false) sh1 c.going-going.ensures c.begin_turn.ensures.near)
          (runs_kept ls (beside (g.L.Illumination.lighting c.run_block.new.lights).lights (g.T.Textures.images c.run_block.new.textures)) m m2 m3 n (block_of c.args.body.now) sh2 (beside_same (ap (λ s. s.lights) e1) f1) c.run_block-in-loop-turn.ensures.masked)
          (state_of m3).staying (λ i l. refl)
          (runs_kept ls (beside (g.L.Illumination.lighting c.run_block-in-loop-turn.new.lights).lights (g.T.Textures.images c.run_block-in-loop-turn.new.textures)) m m3l m4 n (block_of c.args.step.now) sh3l (beside_same (ap (λ s. s.lights) e2) f2) c.run_block-in-loop-turn-2.ensures.masked),
    )

pub run_loop-returns-clause-turns : goal.run_loop-returns-clause-turns
run_loop-returns-clause-turns g t c =
    let ls = (beside (g.L.Illumination.lighting c.args.lights.now).lights (g.T.Textures.images c.args.textures.now)) in
    let m = c.args.m.now in
    let r = m.registers.frame.now in
    let inv = c.loop-turn.invariant in
    let e : c.args.most - c.loop-turn._turn ≡ 0 = omega arith in
    turning_end (lit_ground ls r) c.args.uniform (block_of c.args.ask.now) c.args.test (block_of c.args.step.now) (block_of c.args.body.now) r.places r.varying.now r.uniform.now c.args.most (state_of m) (state_of c.loop-turn.m) (state_of c.run_block-2.new.m)
    (subst (λ q. Turning (lit_ground ls r) c.args.uniform (block_of c.args.ask.now) c.args.test (block_of c.args.step.now) (block_of c.args.body.now) r.places r.varying.now r.uniform.now c.args.most q (state_of m) (state_of c.loop-turn.m)) e inv.1)
    (runs_kept ls (beside (g.L.Illumination.lighting c.loop-turn.lights).lights (g.T.Textures.images c.loop-turn.textures)) m c.loop-turn.m c.run_block-2.new.m c.args.most (block_of c.args.ask.now) inv.0.0 (beside_same (ap (λ s. s.lights) inv.0.1.0) inv.0.1.1) c.run_block-2.ensures.masked)

pub run_lit-returns-clause-near : goal.run_lit-returns-clause-near
run_lit-returns-clause-near g t c k p f near ep ef =
    let ls = (beside (g.L.Illumination.lighting c.args.lights.now).lights (g.T.Textures.images c.args.textures.now)) in
    let m = c.args.m.now in
    let r = m.registers.frame.now in
    let m2 = c.kindle.new.self in
    let m3 = c.run_block.new.m in
    part_steps (lit_ground ls r) r.places r.varying.now r.uniform.now c.args.most p (λ i. get_or c.args.seen.now.places i false) (λ x. kindled r.places f x) (block_of c.args.body.now) k (state_of m) (state_of m2) (state_of m3)
    (λ i. get_or c.and-m.result.places i false) (λ i. get_or c.or-m.result.places i false) near ep c.and-m.ensures (λ x nx. c.kindle.ensures.near x f nx ef)
    (runs_kept ls ls m m2 m3 c.args.most (block_of c.args.body.now) (kept_on m record m { live = c.and-m.result } m2 (kept_live m m c.and-m.result record { frame = refl; whole = c.requires.whole }) c.kindle.ensures.kept) refl c.run_block.ensures.masked)
    (λ i l. c.or-m.ensures i l ∙ ap (λ b. get_or m3.live.places i false || b) (c.without-others.ensures i l))

pub run_seen-loop-n-init : goal.run_seen-loop-n-init
run_seen-loop-n-init g t c =
    let m = c.args.m.now in
    let r = m.registers.frame.now in
    ((record { frame = refl; whole = c.requires.whole }, (refl, refl)), showing_init (lit_ground (beside (g.L.Illumination.lighting c.args.lights.now).lights (g.T.Textures.images c.args.textures.now)) r) r.places r.varying.now r.uniform.now c.args.most c.args.place c.args.args.now (block_of c.args.body.now) (state_of m))

pub run_seen-enter-requires : goal.run_seen-enter-requires
run_seen-enter-requires g t c =
    let m = c.args.m.now in
    let m1 = record c.loop-n.m { live = c.and-m.result } in
    let inv = c.loop-n.invariant in
    let k1 = kept_live m c.loop-n.m c.and-m.result inv.0.0 in
    let ans = c.answers-answers.result in
    let of = c.answers-answers.ensures in
    let e2 = c.ask.ensures.same ∙ inv.0.1.0 in
    record {
      whole = k1.whole;
      direction = has_kept m m1 (name_at names.L) k1 c.requires.direction;
      colour = has_kept m m1 (name_at names.Cl) k1 c.requires.colour;
      planes = subst (λ p. HasPlanes p ans) (ap (λ s. s.places) e2 ∙ c.requires.places ∙ sym (ap (λ f. f.now.places) k1.frame)) of.planes;
    }

pub run_seen-seen-seen-requires : goal.run_seen-seen-seen-requires
run_seen-seen-seen-requires g t c =
    let inv = c.loop-n.invariant in
    let ans = c.answers-answers.result in
    let few = c.args.m.now.registers.frame.now.few in
    let of = c.answers-answers.ensures in
    let e2 = c.ask.ensures.same ∙ inv.0.1.0 in
    record { planes = subst (λ p. HasPlanes p ans) (ap (λ s. s.places) e2 ∙ c.requires.places) of.planes; count = few }

pub run_seen-ask-requires-clause-points : goal.run_seen-ask-requires-clause-points
run_seen-ask-requires-clause-points g t c =
    let few = c.args.m.now.registers.frame.now.few in
    subst (λ p. ArePlanes p c.planes.result) (sym (ap (λ s. s.places) c.loop-n.invariant.0.1.0 ∙ c.requires.places)) (c.planes.ensures.planes _ few)

pub run_seen-run_block-requires : goal.run_seen-run_block-requires
run_seen-run_block-requires g t c =
    let m = c.args.m.now in
    let m1 = record c.loop-n.m { live = c.and-m.result } in
    let inv = c.loop-n.invariant in
    let k2 = kept_on m m1 c.enter.new.self (kept_live m c.loop-n.m c.and-m.result inv.0.0) c.enter.ensures.kept in
    λ κs lives. (
      omega (arith, c.decreases),
      (
        lives.0,
        (
          lives.1,
          (
            c.enter.ensures.kept.whole,
            (
              ready_kept m c.enter.new.self (block_of c.args.body.now) k2 c.requires.body,
              places_kept m c.enter.new.self (g.L.Illumination.lighting c.args.lights.now) (g.L.Illumination.lighting c.ask.new.self) k2 (c.ask.ensures.same ∙ inv.0.1.0) c.requires.places,
            ),
          ),
        ),
      ),
    )

pub run_seen-loop-n-preserved : goal.run_seen-loop-n-preserved
run_seen-loop-n-preserved g t c =
    let ls = g.L.Illumination.lighting c.args.lights.now in
    let ls2 = g.L.Illumination.lighting c.ask.new.self in
    let ps = g.T.Textures.images c.args.textures.now in
    let ps2 = g.T.Textures.images c.loop-n.textures in
    let m0 = c.args.m.now in
    let r = m0.registers.frame.now in
    let v = r.varying.now in
    let u = r.uniform.now in
    let n = c.loop-n.n in
    let m = c.loop-n.m in
    let m1 = record m { live = c.and-m.result } in
    let m2 = c.enter.new.self in
    let m3 = c.run_block.new.m in
    let inv = c.loop-n.invariant in
    let place = c.args.place in
    let qs = c.args.args.now in
    let body = block_of c.args.body.now in
    let seen = c.seen-seen.result.places in
    let k2 = kept_on m0 m1 m2 (kept_live m0 m c.and-m.result inv.0.0) c.enter.ensures.kept in
    let e2 = c.ask.ensures.same ∙ inv.0.1.0 in
    let same = ap (λ s. s.places) inv.0.1.0 ∙ c.requires.places in
    let ans = c.answers-answers.result in
    let of = c.answers-answers.ensures in
    let same2 = ap (λ s. s.places) e2 ∙ c.requires.places in
    let light : State → ℕ → Light = λ s j. get_or ls.lights n unasked (λ i. triple_of (read s place i)) j in
    let is : (s : State) → Near r.places v u s (state_of m0) → (j : ℕ) → j < r.places → IsShown ans j (light s j) = λ s near j l.
    subst (λ w. IsShown ans j (get_or w.lights n unasked (λ i. triple_of (read s place i)) j)) e2
    (of.each (λ i. triple_of (read s place i)) (λ i k.
    let b = subst (λ p. i < p) same2 k in
    ap triple_of (read_near r.places v u s (state_of m0) place i near c.requires.place b ∙ sym (read_held m0 place i)) ∙ sym (c.scope_of-scope.ensures.points i b) ∙ sym (c.planes.ensures.each i)
    ∙ sym (c.ask.ensures.turned i (subst (λ p. i < p) (sym same) b))) j (subst (λ p. j < p) (sym same2) l)) in
    let shows : (s : State) → Near r.places v u s (state_of m0) → (j : ℕ) → j < r.places → shown_by (scope_at c.scope_of-scope.result j) (light s j) ≡ view_from ls.lights n place qs s j = λ s near j l.
    shown_is (reads s qs j) (scope_at c.scope_of-scope.result j) (light s j) (λ d.
    c.scope_of-scope.ensures.cone j d l ∙ ap (λ vs. is_in_cone vs d) (reads_held m0 qs j ∙ sym (reads_near r.places v u s (state_of m0) qs j near c.requires.args l))) in
    let there : (s : State) → Near r.places v u s (state_of m0) → (j : ℕ) → j < r.places → get_or c.and-m.result.places j false ≡ true → view_from ls.lights n place qs s j ≡ Some (triple_at ans.towards j, triple_at ans.colours j) = λ s near j l on.
    sym (shows s near j l)
    ∙ shown_there ans j (light s j) (scope_at c.scope_of-scope.result j) (is s near j l) (sym (c.seen-seen.ensures (light s j) j l (is s near j l)) ∙ right (get_or m.live.places j false) (get_or seen j false) (sym (c.and-m.ensures j l) ∙ on)) in
    let entering = subst (λ x. (s : State) (f : ℕ → Option (Vec3 × Vec3)) → NearBy x s (state_of m1) → ((i : ℕ) → i < x.now.places → (state_of m1).live i ≡ true → f i ≡ Some (triple_at ans.towards i, triple_at ans.colours i)) → NearBy x (entered x.now.places f s) (state_of m2)) inv.0.0.frame c.enter.ensures.near in (
      (kept_live m0 m3 c.or-m.result (kept_on m0 m2 m3 k2 c.run_block.ensures.kept), (c.run_block.ensures.same ∙ e2, c.run_block.ensures.images ∙ inv.0.1.1)),
      showing_next (lit_ground (beside ls.lights ps) r) r.places v u c.args.most place qs body n (state_of m0) (state_of m) (state_of record m3 { live = c.or-m.result }) (let z = c.count-n-end.ensures in omega arith) inv.1 (λ s h ns nh.
          part_steps (lit_ground (beside ls.lights ps) r) r.places v u c.args.most (λ j. is_some (view_from ls.lights n place qs s j)) (λ j. get_or seen j false) (λ x. entered r.places (view_from ls.lights n place qs s) x) body h (state_of m) (state_of m2) (state_of m3)
          (λ i. get_or c.and-m.result.places i false) (λ i. get_or c.or-m.result.places i false) nh (λ j l. sym (c.seen-seen.ensures (light s j) j l (is s ns j l) ∙ ap is_some (shows s ns j l))) c.and-m.ensures (λ k nk. entering k (view_from ls.lights n place qs s) nk (there s ns))
          (runs_kept (beside ls.lights ps) (beside ls2.lights ps2) m0 m2 m3 c.args.most body k2 (beside_same (ap (λ s. s.lights) e2) inv.0.1.1) c.run_block.ensures.masked)
          (λ i l. c.or-m.ensures i l ∙ ap (λ b. get_or m3.live.places i false || b) (c.without-others.ensures i l))),
    )

pub run_seen-returns-clause-masked : goal.run_seen-returns-clause-masked
run_seen-returns-clause-masked g t c =
    let ls = (beside (g.L.Illumination.lighting c.args.lights.now).lights (g.T.Textures.images c.args.textures.now)) in
    let m = c.args.m.now in
    let r = m.registers.frame.now in
    showing_end (lit_ground ls r) r.places r.varying.now r.uniform.now c.args.most c.args.place c.args.args.now (block_of c.args.body.now) c.loop-n.n (state_of m) (state_of c.loop-n.m) (let z = c.count-n-end.ensures in omega arith) c.loop-n.invariant.1

pub run_lights-returns-in-Illuminate-clause-kept : goal.run_lights-returns-in-Illuminate-clause-kept
run_lights-returns-in-Illuminate-clause-kept g t c = kept_on c.args.m.now c.aim.new.self c.run_lit.new.m c.aim.ensures.kept c.run_lit.ensures.kept

pub run_lights-returns-in-Solar-clause-kept : goal.run_lights-returns-in-Solar-clause-kept
run_lights-returns-in-Solar-clause-kept g t c = kept_on c.args.m.now c.aim_along.new.self c.run_lit-in-Solar.new.m c.aim_along.ensures.kept c.run_lit-in-Solar.ensures.kept

pub run_lights-returns-in-Illuminate-clause-masked : goal.run_lights-returns-in-Illuminate-clause-masked
run_lights-returns-in-Illuminate-clause-masked g t c =
    let ls = (beside (g.L.Illumination.lighting c.args.lights.now).lights (g.T.Textures.images c.args.textures.now)) in
    let m = c.args.m.now in
    let m1 = c.aim.new.self in
    let m2 = c.run_lit.new.m in
    let r = m.registers.frame.now in
    let v = r.varying.now in
    let u = r.uniform.now in
    let body = block_of c.args.body.now in
    let place = c.in-Some.place.now in
    let qs = c.in-Some.cone.now in
    let e = c.in-Some.ensures.cases.0 in
    let h = subst (λ x. list_all (has v u) x ≡ true) e c.requires.args in
    let hp = left (has v u place) _ h in
    let hc = right (has v u place) _ h in
    let given = subst (λ w. list_all (has v u) (lights_registers w) ≡ true) c.in-Illuminate.is c.requires.has in
    let points = left (has v u (name_at names.Ps)) _ (right (has v u lit_at) _ (right (has v u (name_at names.L)) _ given)) in
    let k1 = c.aim.ensures.kept in
    let lit = lit_kept ls c.args.most body c.within-seen.result.places m m1 m2 k1 c.run_lit.ensures.near in
    subst (λ w. Runs ls c.args.most (lights w c.args.args.now body end) m m2) (sym c.in-Illuminate.is) (subst (λ x. Runs ls c.args.most (lights Illuminate x body end) m m2) (sym e) (λ s near.
    lit s (λ i. is_in_cone (reads s qs i) (from_light s place i)) (from_light s place) (subst (λ x. NearBy m.registers.frame s x) (sym c.aim.ensures.same) near)
    (λ i l. in_cone_near r.places v u s (state_of m) place qs near hp hc points i l
    ∙ sym (c.within-seen.ensures i (subst (λ f. i < f.now.places) (sym k1.frame) l) ∙ ap (λ x. is_in_cone (reads x qs i) (aimed_at m1 i)) c.aim.ensures.same ∙ ap (is_in_cone (reads (state_of m) qs i)) (c.aim.ensures.aimed i l)))
    (λ i l. from_near r.places v u s (state_of m) place qs near hp hc points i l ∙ sym (c.aim.ensures.aimed i l))))

pub run_lights-returns-in-Solar-clause-masked : goal.run_lights-returns-in-Solar-clause-masked
run_lights-returns-in-Solar-clause-masked g t c =
    let ls = (beside (g.L.Illumination.lighting c.args.lights.now).lights (g.T.Textures.images c.args.textures.now)) in
    let m = c.args.m.now in
    let m1 = c.aim_along.new.self in
    let m2 = c.run_lit-in-Solar.new.m in
    let r = m.registers.frame.now in
    let v = r.varying.now in
    let u = r.uniform.now in
    let few = r.few in
    let body = block_of c.args.body.now in
    let axis = c.in-Some.place.now in
    let qs = c.in-Some.cone.now in
    let e = c.in-Some.ensures.cases.0 in
    let hp = left (has v u axis) _ (subst (λ x. list_all (has v u) x ≡ true) e c.requires.args) in
    let lit = lit_kept ls c.args.most body c.full.result.places m m1 m2 c.aim_along.ensures.kept c.run_lit-in-Solar.ensures.near in
    subst (λ w. Runs ls c.args.most (lights w c.args.args.now body end) m m2) (sym c.in-Solar.is) (subst (λ x. Runs ls c.args.most (lights Solar x body end) m m2) (sym e) (λ s near.
    lit s (λ i. true) (λ i. triple_of (read s axis i)) (subst (λ x. NearBy m.registers.frame s x) (sym c.aim_along.ensures.same) near) (λ i l. sym (c.full.ensures i (omega arith)))
    (λ i l. ap triple_of (read_near r.places v u s (state_of m) axis i near hp l) ∙ sym (c.aim_along.ensures.aimed i l))))

pub run_branch-run_block-requires : goal.run_branch-run_block-requires
run_branch-run_block-requires g t c = λ κs lives. (omega (arith, c.decreases), (lives.0, (lives.1, (c.requires.whole, (c.requires.then, c.requires.places)))))

pub run_branch-run_block-requires-else-holds : goal.run_branch-run_block-requires-else-holds
run_branch-run_block-requires-else-holds g t c = λ κs lives. (omega (arith, c.decreases), (lives.0, (lives.1, (c.requires.whole, (c.requires.otherwise, c.requires.places)))))

pub run_branch-run_block-requires-in-Varying : goal.run_branch-run_block-requires-in-Varying
run_branch-run_block-requires-in-Varying g t c =
    let m = c.args.m.now in
    let k1 = kept_live m m c.and-m.result record { frame = refl; whole = c.requires.whole } in
    λ κs lives. (omega (arith, c.decreases), (lives.0, (lives.1, (k1.whole, (c.requires.then, c.requires.places)))))

pub run_branch-run_block-requires-in-Varying-2 : goal.run_branch-run_block-requires-in-Varying-2
run_branch-run_block-requires-in-Varying-2 g t c =
    let m = c.args.m.now in
    let m2 = c.run_block-in-Varying.new.m in
    let k1 = kept_live m m c.and-m.result record { frame = refl; whole = c.requires.whole } in
    let k3 = kept_live m m2 c.without-m.result (kept_on m record m { live = c.and-m.result } m2 k1 c.run_block-in-Varying.ensures.kept) in
    λ κs lives. (
      omega (arith, c.decreases),
      (
        lives.0,
        (
          lives.1,
          (
            k3.whole,
            (
              ready_kept m record m2 { live = c.without-m.result } (block_of c.args.otherwise.now) k3 c.requires.otherwise,
              places_kept m record m2 { live = c.without-m.result } (g.L.Illumination.lighting c.args.lights.now) (g.L.Illumination.lighting c.run_block-in-Varying.new.lights) k3 c.run_block-in-Varying.ensures.same c.requires.places,
            ),
          ),
        ),
      ),
    )

pub run_branch-returns-then-holds-clause-masked : goal.run_branch-returns-then-holds-clause-masked
run_branch-returns-then-holds-clause-masked g t c =
    let ls = (beside (g.L.Illumination.lighting c.args.lights.now).lights (g.T.Textures.images c.args.textures.now)) in
    let m = c.args.m.now in
    let r = m.registers.frame.now in
    one_at (lit_ground ls r) r.places r.varying.now r.uniform.now c.args.most c.args.test c.in-Uniform.field-0 c.in-Uniform.field-1 true (block_of c.args.then.now) (block_of c.args.otherwise.now) (state_of m) (state_of c.run_block.new.m) c.in-Uniform.is c.requires.has
    (sym c.holds.ensures ∙ c.if-holds.true) c.run_block.ensures.masked

pub run_branch-returns-else-holds-clause-masked : goal.run_branch-returns-else-holds-clause-masked
run_branch-returns-else-holds-clause-masked g t c =
    let ls = (beside (g.L.Illumination.lighting c.args.lights.now).lights (g.T.Textures.images c.args.textures.now)) in
    let m = c.args.m.now in
    let r = m.registers.frame.now in
    one_at (lit_ground ls r) r.places r.varying.now r.uniform.now c.args.most c.args.test c.in-Uniform.field-0 c.in-Uniform.field-1 false (block_of c.args.then.now) (block_of c.args.otherwise.now) (state_of m) (state_of c.run_block-else-holds.new.m) c.in-Uniform.is c.requires.has
    (sym c.holds.ensures ∙ c.if-holds.false) c.run_block-else-holds.ensures.masked

pub run_branch-returns-in-Varying-clause-kept : goal.run_branch-returns-in-Varying-clause-kept
run_branch-returns-in-Varying-clause-kept g t c =
    let m = c.args.m.now in
    let m2 = c.run_block-in-Varying.new.m in
    let m4 = c.run_block-in-Varying-2.new.m in
    let k1 = kept_live m m c.and-m.result record { frame = refl; whole = c.requires.whole } in
    let k3 = kept_live m m2 c.without-m.result (kept_on m record m { live = c.and-m.result } m2 k1 c.run_block-in-Varying.ensures.kept) in
    kept_live m m4 c.or-m.result (kept_on m record m2 { live = c.without-m.result } m4 k3 c.run_block-in-Varying-2.ensures.kept)

pub run_branch-returns-in-Varying-clause-masked : goal.run_branch-returns-in-Varying-clause-masked
run_branch-returns-in-Varying-clause-masked g t c =
    let ls = (beside (g.L.Illumination.lighting c.args.lights.now).lights (g.T.Textures.images c.args.textures.now)) in
    let m = c.args.m.now in
    let r = m.registers.frame.now in
    let m1 = record m { live = c.and-m.result } in
    let m2 = c.run_block-in-Varying.new.m in
    let m3 = record m2 { live = c.without-m.result } in
    let m4 = c.run_block-in-Varying-2.new.m in
    let n = c.args.most in
    let k1 = kept_live m m c.and-m.result record { frame = refl; whole = c.requires.whole } in
    let k3 = kept_live m m2 c.without-m.result (kept_on m m1 m2 k1 c.run_block-in-Varying.ensures.kept) in
    parts_at (lit_ground ls r) r.places r.varying.now r.uniform.now n c.args.test c.in-Varying.field-0 c.in-Varying.field-1 (block_of c.args.then.now) (block_of c.args.otherwise.now) (state_of m) (state_of m2) (state_of m4)
    (λ i. get_or c.tests-set.result.places i false) (λ i. get_or c.and-m.result.places i false) (λ i. get_or c.without-m.result.places i false) (λ i. get_or c.or-m.result.places i false) c.in-Varying.is c.requires.has c.tests-set.ensures
    c.and-m.ensures c.run_block-in-Varying.ensures.masked c.without-m.ensures
    (runs_kept ls (beside (g.L.Illumination.lighting c.run_block-in-Varying.new.lights).lights (g.T.Textures.images c.run_block-in-Varying.new.textures)) m m3 m4 n (block_of c.args.otherwise.now) k3 (beside_same (ap (λ s. s.lights) c.run_block-in-Varying.ensures.same) c.run_block-in-Varying.ensures.images) c.run_block-in-Varying-2.ensures.masked) c.or-m.ensures

pub run_loop-run_block-requires : goal.run_loop-run_block-requires
run_loop-run_block-requires g t c =
    let m = c.args.m.now in
    let inv = c.loop-turn.invariant in
    λ κs lives. (
      omega (arith, c.decreases),
      (
        lives.0,
        (
          lives.1,
          (
            inv.0.0.whole,
            (
              ready_kept m c.loop-turn.m (block_of c.args.ask.now) inv.0.0 c.requires.ask,
              places_kept m c.loop-turn.m (g.L.Illumination.lighting c.args.lights.now) (g.L.Illumination.lighting c.loop-turn.lights) inv.0.0 inv.0.1.0 c.requires.places,
            ),
          ),
        ),
      ),
    )

pub run_loop-run_block-requires-in-loop-turn : goal.run_loop-run_block-requires-in-loop-turn
run_loop-run_block-requires-in-loop-turn g t c =
    let m = c.args.m.now in
    let m2 = c.begin_turn.new.self in
    let inv = c.loop-turn.invariant in
    let k2 = kept_on m c.run_block.new.m m2 (kept_on m c.loop-turn.m c.run_block.new.m inv.0.0 c.run_block.ensures.kept) c.begin_turn.ensures.kept in
    λ κs lives. (
      omega (arith, c.decreases),
      (
        lives.0,
        (
          lives.1,
          (
            k2.whole,
            (
              ready_kept m m2 (block_of c.args.body.now) k2 c.requires.body,
              places_kept m m2 (g.L.Illumination.lighting c.args.lights.now) (g.L.Illumination.lighting c.run_block.new.lights) k2 (c.run_block.ensures.same ∙ inv.0.1.0) c.requires.places,
            ),
          ),
        ),
      ),
    )

pub run_loop-run_block-requires-in-loop-turn-2 : goal.run_loop-run_block-requires-in-loop-turn-2
run_loop-run_block-requires-in-loop-turn-2 g t c =
    let m = c.args.m.now in
    let m2 = c.begin_turn.new.self in
    let m3 = c.run_block-in-loop-turn.new.m in
    let inv = c.loop-turn.invariant in
    let k2 = kept_on m c.run_block.new.m m2 (kept_on m c.loop-turn.m c.run_block.new.m inv.0.0 c.run_block.ensures.kept) c.begin_turn.ensures.kept in
    let k3 = kept_live m m3 m3.staying (kept_on m m2 m3 k2 c.run_block-in-loop-turn.ensures.kept) in
    λ κs lives. (
      omega (arith, c.decreases),
      (
        lives.0,
        (
          lives.1,
          (
            k3.whole,
            (
              ready_kept m record m3 { live = m3.staying } (block_of c.args.step.now) k3 c.requires.step,
              places_kept m record m3 { live = m3.staying } (g.L.Illumination.lighting c.args.lights.now) (g.L.Illumination.lighting c.run_block-in-loop-turn.new.lights) k3 (c.run_block-in-loop-turn.ensures.same ∙ c.run_block.ensures.same ∙ inv.0.1.0) c.requires.places,
            ),
          ),
        ),
      ),
    )

pub run_loop-run_block-requires-2 : goal.run_loop-run_block-requires-2
run_loop-run_block-requires-2 g t c =
    let m = c.args.m.now in
    let inv = c.loop-turn.invariant in
    λ κs lives. (
      omega (arith, c.decreases),
      (
        lives.0,
        (
          lives.1,
          (
            inv.0.0.whole,
            (
              ready_kept m c.loop-turn.m (block_of c.args.ask.now) inv.0.0 c.requires.ask,
              places_kept m c.loop-turn.m (g.L.Illumination.lighting c.args.lights.now) (g.L.Illumination.lighting c.loop-turn.lights) inv.0.0 inv.0.1.0 c.requires.places,
            ),
          ),
        ),
      ),
    )

pub run_lit-run_block-requires : goal.run_lit-run_block-requires
run_lit-run_block-requires g t c =
    let m = c.args.m.now in
    let m2 = c.kindle.new.self in
    let k1 = kept_live m m c.and-m.result record { frame = refl; whole = c.requires.whole } in
    let k2 = kept_on m record m { live = c.and-m.result } m2 k1 c.kindle.ensures.kept in
    λ κs lives. (
      omega (arith, c.decreases),
      (
        lives.0,
        (
          lives.1,
          (
            k2.whole,
            (
              ready_kept m m2 (block_of c.args.body.now) k2 c.requires.body,
              places_kept m m2 (g.L.Illumination.lighting c.args.lights.now) (g.L.Illumination.lighting c.args.lights.now) k2 refl c.requires.places,
            ),
          ),
        ),
      ),
    )

pub run_lights-run_seen-requires : goal.run_lights-run_seen-requires
run_lights-run_seen-requires g t c =
    let r = c.args.m.now.registers.frame.now in
    let v = r.varying.now in
    let u = r.uniform.now in
    let h = subst (λ x. list_all (has v u) x ≡ true) c.in-Some.ensures.cases.0 c.requires.args in
    let given = subst (λ w. list_all (has v u) (lights_registers w) ≡ true) c.in-Illuminance.is c.requires.has in
    let direction = has v u (name_at names.L) in
    λ κs lives. (
      omega (arith, c.decreases),
      (
        lives.0,
        (
          lives.1,
          (
            c.requires.whole,
            (
              left (has v u c.in-Some.place.now) _ h,
              (right (has v u c.in-Some.place.now) _ h, (left direction _ given, (left (has v u (name_at names.Cl)) _ (right direction _ given), (c.requires.body, c.requires.places)))),
            ),
          ),
        ),
      ),
    )

pub run_lights-run_lit-requires : goal.run_lights-run_lit-requires
run_lights-run_lit-requires g t c =
    let m = c.args.m.now in
    let m1 = c.aim.new.self in
    let r = m.registers.frame.now in
    let v = r.varying.now in
    let u = r.uniform.now in
    let k1 = c.aim.ensures.kept in
    let given = subst (λ w. list_all (has v u) (lights_registers w) ≡ true) c.in-Illuminate.is c.requires.has in
    let direction = has v u (name_at names.L) in
    λ κs lives. (
      omega (arith, c.decreases),
      (
        lives.0,
        (
          lives.1,
          (
            k1.whole,
            (
              has_kept m m1 (name_at names.L) k1 (left direction _ given),
              (
                has_kept m m1 lit_at k1 (left (has v u lit_at) _ (right direction _ given)),
                (ready_kept m m1 (block_of c.args.body.now) k1 c.requires.body, places_kept m m1 (g.L.Illumination.lighting c.args.lights.now) (g.L.Illumination.lighting c.args.lights.now) k1 refl c.requires.places),
              ),
            ),
          ),
        ),
      ),
    )

pub run_lights-run_lit-requires-in-Solar : goal.run_lights-run_lit-requires-in-Solar
run_lights-run_lit-requires-in-Solar g t c =
    let m = c.args.m.now in
    let m1 = c.aim_along.new.self in
    let r = m.registers.frame.now in
    let v = r.varying.now in
    let u = r.uniform.now in
    let k1 = c.aim_along.ensures.kept in
    let given = subst (λ w. list_all (has v u) (lights_registers w) ≡ true) c.in-Solar.is c.requires.has in
    let direction = has v u (name_at names.L) in
    λ κs lives. (
      omega (arith, c.decreases),
      (
        lives.0,
        (
          lives.1,
          (
            k1.whole,
            (
              has_kept m m1 (name_at names.L) k1 (left direction _ given),
              (
                has_kept m m1 lit_at k1 (left (has v u lit_at) _ (right direction _ given)),
                (ready_kept m m1 (block_of c.args.body.now) k1 c.requires.body, places_kept m m1 (g.L.Illumination.lighting c.args.lights.now) (g.L.Illumination.lighting c.args.lights.now) k1 refl c.requires.places),
              ),
            ),
          ),
        ),
      ),
    )

pub run_node-put-requires : goal.run_node-put-requires
run_node-put-requires g t c =
    let f = subst (λ x. ReadyIn c.args.m.now (with_node x end)) c.in-Put.is c.requires.ready in
    record { whole = c.requires.whole; has = f.0; ready = f.1.0; shape = f.1.1.0 }

pub run_node-differ-requires : goal.run_node-differ-requires
run_node-differ-requires g t c =
    let f = subst (λ x. ReadyIn c.args.m.now (with_node x end)) c.in-Differ.is c.requires.ready in
    record { whole = c.requires.whole; has = f.0; of = f.1.0; shape = f.1.1.0 }

pub run_lights-aim-requires : goal.run_lights-aim-requires
run_lights-aim-requires g t c =
    let r = c.args.m.now.registers.frame.now in
    let v = r.varying.now in
    let u = r.uniform.now in
    let h = subst (λ x. list_all (has v u) x ≡ true) c.in-Some.ensures.cases.0 c.requires.args in
    let given = subst (λ w. list_all (has v u) (lights_registers w) ≡ true) c.in-Illuminate.is c.requires.has in
    record { whole = c.requires.whole; has = left (has v u c.in-Some.place.now) _ h; points = left (has v u (name_at names.Ps)) _ (right (has v u lit_at) _ (right (has v u (name_at names.L)) _ given)) }

pub run_lights-within-seen-requires : goal.run_lights-within-seen-requires
run_lights-within-seen-requires g t c =
    let m = c.args.m.now in
    let r = m.registers.frame.now in
    let k1 = c.aim.ensures.kept in
    let h = subst (λ x. list_all (has r.varying.now r.uniform.now) x ≡ true) c.in-Some.ensures.cases.0 c.requires.args in
    record { whole = k1.whole; has = subst (λ f. list_all (has f.now.varying.now f.now.uniform.now) c.in-Some.cone.now ≡ true) (sym k1.frame) (right (has r.varying.now r.uniform.now c.in-Some.place.now) _ h) }

pub run_lights-aim_along-requires : goal.run_lights-aim_along-requires
run_lights-aim_along-requires g t c =
    let r = c.args.m.now.registers.frame.now in
    let v = r.varying.now in
    let u = r.uniform.now in
    record { whole = c.requires.whole; has = left (has v u c.in-Some.place.now) _ (subst (λ x. list_all (has v u) x ≡ true) c.in-Some.ensures.cases.0 c.requires.args) }

pub run_lit-kindle-requires : goal.run_lit-kindle-requires
run_lit-kindle-requires g t c =
    let m = c.args.m.now in
    let k1 = kept_live m m c.and-m.result record { frame = refl; whole = c.requires.whole } in
    record { whole = k1.whole; direction = c.requires.direction; lit = c.requires.lit }

pub run_loop-going-going-requires : goal.run_loop-going-going-requires
run_loop-going-going-requires g t c =
    let m = c.args.m.now in
    let k1 = kept_on m c.loop-turn.m c.run_block.new.m c.loop-turn.invariant.0.0 c.run_block.ensures.kept in
    record { whole = k1.whole; has = has_kept m c.run_block.new.m c.args.test k1 c.requires.has }

pub run_lights-returns-in-Illuminance-clause-masked : goal.run_lights-returns-in-Illuminance-clause-masked
run_lights-returns-in-Illuminance-clause-masked g t c =
    let ls = (beside (g.L.Illumination.lighting c.args.lights.now).lights (g.T.Textures.images c.args.textures.now)) in
    let m = c.args.m.now in
    let m1 = c.run_seen.new.m in
    let body = block_of c.args.body.now in
    subst (λ w. Runs ls c.args.most (lights w c.args.args.now body end) m m1) (sym c.in-Illuminance.is) (subst (λ x. Runs ls c.args.most (lights Illuminance x body end) m m1) (sym c.in-Some.ensures.cases.0) c.run_seen.ensures.masked)
