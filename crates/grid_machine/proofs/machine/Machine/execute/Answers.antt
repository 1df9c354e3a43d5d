use Rattle.std.proofs.Common.{◌≡◌, ◌≤◌, true, refl, sym, ℕ, List, subst}
use Rattle.std.specs.List.{list_all}
use Rattle.sl_ast.specs.Variables.{variables}
use Rattle.grid_code.specs.declared.code.Register.{Register}
use Rattle.grid_code.specs.Masked.{masked, State as Grid}
use Rattle.grid_code.specs.Uses.{has, names_at}
use Rattle.grid_code.specs.View.{block_of}
use Rattle.grid_machine.specs.Run.{uniform_inputs, varying_inputs, assigned, loaded, started, fresh}
use Rattle.grid_machine.specs.State.{beside, state_of, lit_ground, NearIn, ReadyIn}
use Rattle.grid_machine.proofs.Kept.{kept_on, ready_kept, places_kept, runs_kept, NearBy, StepsBy}
use Rattle.grid_machine.proofs.Starts.{row_holds}
use Rattle.grid_machine.proofs.machine.Machine.execute.Goals as goal

pub assign_all-requires : goal.assign_all-requires
assign_all-requires t c = record { whole = c.requires.whole; has = c.requires.has_uniforms; known = c.requires.known; shapes = c.requires.shapes }

pub load_all-requires : goal.load_all-requires
load_all-requires t c =
    let k1 = c.assign_all.ensures.kept in
    let p = c.args.self.now.registers.frame.now.places in
    record {
      whole = k1.whole;
      has = subst (λ f. list_all (has f.now.varying.now f.now.uniform.now) c.args.varyings.now ≡ true) (sym k1.frame) c.requires.has_varyings;
      raws = c.requires.raws;
      long = c.requires.long;
      wide = subst (λ f. f.now.places ≤ c.args.width) (sym k1.frame) (subst (λ w. p ≤ w) (sym c.requires.width) (row_holds p));
    }

pub start-requires : goal.start-requires
start-requires t c =
    let k2 = kept_on c.args.self.now c.assign_all.new.self c.load_all.new.self c.assign_all.ensures.kept c.load_all.ensures.kept in
    record { whole = k2.whole; has = subst (λ f. list_all (has f.now.varying.now f.now.uniform.now) (names_at c.args.code.now.kind) ≡ true) (sym k2.frame) c.requires.has_names }

pub run_block-requires : goal.run_block-requires
run_block-requires t c =
    let m0 = c.args.self.now in
    let m3 = c.start.new.self in
    let fs = t.L.Illumination.lighting c.args.lights.now in
    let k3 = kept_on m0 c.load_all.new.self m3 (kept_on m0 c.assign_all.new.self c.load_all.new.self c.assign_all.ensures.kept c.load_all.ensures.kept) c.start.ensures.kept in
    record {
      whole = k3.whole;
      ready = ready_kept m0 m3 (block_of c.as_slice.result.now) k3 (subst (λ ns. ReadyIn m0 (block_of ns)) (sym c.as_slice.ensures) c.requires.ready);
      places = places_kept m0 m3 fs fs k3 refl c.requires.places;
    }

pub returns-clause-kept : goal.returns-clause-kept
returns-clause-kept t c =
    let m0 = c.args.self.now in
    let k3 = kept_on m0 c.load_all.new.self c.start.new.self (kept_on m0 c.assign_all.new.self c.load_all.new.self c.assign_all.ensures.kept c.load_all.ensures.kept) c.start.ensures.kept in
    kept_on m0 c.start.new.self c.run_block.new.m k3 c.run_block.ensures.kept

pub returns-clause-near : goal.returns-clause-near
returns-clause-near t c =
    let m0 = c.args.self.now in
    let m1 = c.assign_all.new.self in
    let m2 = c.load_all.new.self in
    let m3 = c.start.new.self in
    let m4 = c.run_block.new.m in
    let fs = beside (t.L.Illumination.lighting c.args.lights.now).lights (t.T.Textures.images c.args.textures.now) in
    let f = m0.registers.frame.now in
    let p = f.places in
    let kind = c.args.code.now.kind in
    let rows = c.args.rows.now in
    let vs = c.args.values.now in
    let w = c.args.width in
    let k1 = c.assign_all.ensures.kept in
    let k2 = kept_on m0 m1 m2 k1 c.load_all.ensures.kept in
    let k3 = kept_on m0 m2 m3 k2 c.start.ensures.kept in
    let g1 : Grid = assigned p c.args.uniforms.now vs fresh in
    let g2 : Grid = loaded p w rows c.args.varyings.now 0 g1 in
    let g3 : Grid = started p (variables kind) g2 in
    let n1 = c.assign_all.ensures.near fresh c.requires.fresh in
    let n2 = subst (λ x. (g : Grid) → NearBy x g (state_of m1) → NearBy x (loaded x.now.places w rows c.args.varyings.now 0 g) (state_of m2)) k1.frame c.load_all.ensures.near g1 n1 in
    let n3 = subst (λ x. (g : Grid) → NearBy x g (state_of m2) → NearBy x (started x.now.places (variables kind) g) (state_of m3)) k2.frame c.start.ensures.near g2 n2 in
    let st = subst (λ l. StepsBy fs m0.registers.frame 65536 (block_of l) (state_of m3) (state_of m4)) c.as_slice.ensures (runs_kept fs fs m0 m3 m4 65536 (block_of c.as_slice.result.now) k3 refl c.run_block.ensures.masked) in
    let whole = λ (x : ℕ) (us ls : List Register). NearIn m0 (masked (block_of c.args.code.now.nodes) (lit_ground fs f) p 65536 (started p (variables kind) (loaded p x rows ls 0 (assigned p us vs fresh)))) (state_of m4) in
    let ui = uniform_inputs kind c.args.code.now.params in
    let vi = varying_inputs kind c.args.code.now.params in
    subst (λ x. whole x ui vi) c.requires.width (subst (λ us. whole w us vi) c.requires.uniforms (subst (λ ls. whole w c.args.uniforms.now ls) c.requires.varyings (st g3 n3)))
