use Rattle.std.proofs.Common.{◌≡◌, ℕ, ◌<◌, true, [], map, refl, sym, ap, ◌∙◌, subst, arith}
use Rattle.std.specs.List.{list_all}
use Rattle.std.specs.Prelude.{not}
use Rattle.sl_ast.specs.declared.kinds.Predefined.TheVariants as names
use Rattle.sl_ast.specs.declared.typed.Value.{Value}
use Rattle.sl_ast.specs.declared.typed.Value.TheVariants.{Triple}
use Rattle.grid_code.specs.Masked.{State, masked}
use Rattle.grid_code.specs.Names.{name_at, lit_at, first_free}
use Rattle.grid_code.specs.Shapes.{register_shape}
use Rattle.grid_code.specs.Uses.{has, registers_from}
use Rattle.grid_code.specs.View.{block_of}
use Rattle.grid_machine.specs.Asked.{begun_at, answer_at}
use Rattle.grid_machine.specs.Run.{assigned, fresh}
use Rattle.place_values.specs.Cells.{is_known}
use Rattle.grid_machine.specs.State.{beside, state_of, lines_of, lit_ground, ReadyIn}
use Rattle.grid_code.specs.Valid.{has_light_statement}
use Rattle.grid_machine.proofs.Begins.{ground_by}
use Rattle.grid_machine.proofs.LookUps.{no_images}
use Rattle.grid_machine.proofs.Answering.{answer_near, class_is}
use Rattle.grid_machine.proofs.Kept.{kept_on, has_kept, ready_kept, runs_kept, written_kept, NearBy, StepsBy}
use Rattle.grid_machine.proofs.Near.{near_on, write_near}
use Rattle.light_rows.specs.Seen.{HasPlaces, IsAnswer}
use Rattle.number_rows.specs.Planes.{triple_at, ArePlanes}
use Rattle.grid_machine.proofs.Validity.{light_registers_pass}
use Rattle.grid_machine.proofs.machine.Machine.asked.Goals as goal

pub assign_all-requires : goal.assign_all-requires
assign_all-requires c =
    let k1 = c.reset.ensures.kept in
    record {
      whole = k1.whole;
      has = subst (λ f. list_all (has f.now.varying.now f.now.uniform.now) c.args.registers.now ≡ true) (sym k1.frame) c.requires.has;
      known = subst (λ f. list_all (is_known f.now.setting.texts.now) c.args.values.now ≡ true) (sym k1.frame) c.requires.known;
      shapes = c.requires.light.shapes ∙ ap (map register_shape) (sym c.requires.registers);
    }

pub set_triples-requires : goal.set_triples-requires
set_triples-requires c =
    let m0 = c.args.self.now in
    let m2 = c.assign_all.new.self in
    let k2 = kept_on m0 c.reset.new.self m2 c.reset.ensures.kept c.assign_all.ensures.kept in
    record {
      whole = k2.whole;
      has = has_kept m0 m2 (name_at names.Ps) k2 (light_registers_pass _ c.args.code.now.kind c.requires.light.kind c.requires.names).1.1.1;
      triple = refl;
      planes = subst (λ f. ArePlanes f.now.places c.args.points.now) (sym k2.frame) c.requires.points;
    }

pub run_block-requires-clause-ready : goal.run_block-requires-clause-ready
run_block-requires-clause-ready c =
    let m0 = c.args.self.now in
    let k2 = kept_on m0 c.reset.new.self c.assign_all.new.self c.reset.ensures.kept c.assign_all.ensures.kept in
    let k4 = kept_on m0 c.assign_all.new.self c.set_triples.new.self k2 c.set_triples.ensures.kept in
    ready_kept m0 c.set_triples.new.self (block_of c.as_slice.result.now) k4 (subst (λ ns. ReadyIn m0 (block_of ns)) (sym c.as_slice.ensures) c.requires.ready)

pub answer-requires : goal.answer-requires
answer-requires c =
    let m0 = c.args.self.now in
    let m2 = c.assign_all.new.self in
    let m4 = c.set_triples.new.self in
    let m5 = c.run_block.new.m in
    let k4 = kept_on m0 m2 m4 (kept_on m0 c.reset.new.self m2 c.reset.ensures.kept c.assign_all.ensures.kept) c.set_triples.ensures.kept in
    let k5 = kept_on m0 m4 m5 k4 c.run_block.ensures.kept in
    let all = light_registers_pass _ c.args.code.now.kind c.requires.light.kind c.requires.names in
    record { whole = k5.whole; direction = has_kept m0 m5 (name_at names.L) k5 all.0; colour = has_kept m0 m5 (name_at names.Cl) k5 all.1.0; lit = has_kept m0 m5 lit_at k5 all.1.1.0; places = subst (λ f. HasPlaces f.now.places c.args.answers.now) (sym k5.frame) c.requires.places }

pub returns-clause-places : goal.returns-clause-places
returns-clause-places c =
    let m0 = c.args.self.now in
    let m2 = c.assign_all.new.self in
    let m4 = c.set_triples.new.self in
    let m5 = c.run_block.new.m in
    let k4 = kept_on m0 m2 m4 (kept_on m0 c.reset.new.self m2 c.reset.ensures.kept c.assign_all.ensures.kept) c.set_triples.ensures.kept in
    let k5 = kept_on m0 m4 m5 k4 c.run_block.ensures.kept in
    subst (λ f. HasPlaces f.now.places c.answer.new.answers) k5.frame c.answer.ensures.places

pub returns-clause-kept : goal.returns-clause-kept
returns-clause-kept c =
    let m0 = c.args.self.now in
    let m2 = c.assign_all.new.self in
    let m4 = c.set_triples.new.self in
    kept_on m0 m4 c.run_block.new.m (kept_on m0 m2 m4 (kept_on m0 c.reset.new.self m2 c.reset.ensures.kept c.assign_all.ensures.kept) c.set_triples.ensures.kept) c.run_block.ensures.kept

pub returns-clause-each : goal.returns-clause-each
returns-clause-each c q e i l =
    let code = c.args.code.now in
    let values = c.args.values.now in
    let m0 = c.args.self.now in
    let m1 = c.reset.new.self in
    let m2 = c.assign_all.new.self in
    let m4 = c.set_triples.new.self in
    let m5 = c.run_block.new.m in
    let f = m0.registers.frame in
    let p = f.now.places in
    let v = f.now.varying.now in
    let u = f.now.uniform.now in
    let k1 = c.reset.ensures.kept in
    let k2 = kept_on m0 m1 m2 k1 c.assign_all.ensures.kept in
    let k4 = kept_on m0 m2 m4 k2 c.set_triples.ensures.kept in
    let k5 = kept_on m0 m4 m5 k4 c.run_block.ensures.kept in
    let regs = registers_from first_free code.params in
    let g2 : State = assigned p regs values fresh in
    let n2 = subst (λ rs. NearBy f (assigned p rs values fresh) (state_of m2)) c.requires.registers (subst (λ x. (g : State) → NearBy x g (state_of m1) → NearBy x (assigned x.now.places c.args.registers.now values g) (state_of m2)) k1.frame c.assign_all.ensures.near fresh c.reset.ensures.near) in
    let some : 0 < p = let s = f.now.some in omega arith in
    let row : ℕ → Value = λ j. Triple (triple_at c.args.points.now j) in
    let n4 = near_on p v u _ _ _ (write_near p v u (name_at names.Ps) (λ j. Triple (q j)) row g2 (state_of m2) some n2 (λ j b. ap (λ t. Triple t) (e j b))) (written_kept m0 m2 (name_at names.Ps) row (state_of m4) k2 c.set_triples.ensures.near) in
    let run = subst (λ ns. StepsBy (beside [] []) f 65536 (block_of ns) (state_of m4) (state_of m5)) c.as_slice.ensures (runs_kept (beside [] []) (beside [] []) m0 m4 m5 65536 (block_of c.as_slice.result.now) k4 refl c.run_block.ensures.masked) in
    let g5 : State = masked (block_of code.nodes) (lit_ground (beside [] []) f.now) p 65536 (begun_at code.params p values q) in
    let n5 = run (begun_at code.params p values q) n4 in
    let has_all = light_registers_pass _ code.kind c.requires.light.kind c.requires.names in
    subst (IsAnswer c.answer.new.answers i)
    (ap (λ b. answer_at (not b) (state_of m5) i) c.requires.ambient ∙ answer_near p v u g5 (state_of m5) i (not code.ambient) n5 l has_all.0 has_all.1.0 has_all.1.1.0
    ∙ ap (λ b. answer_at b g5 i) (class_is code.kind (block_of code.nodes) code.ambient c.requires.light.kind code.lit)
    ∙ ap (λ im. answer_at (has_light_statement (block_of code.nodes)) (masked (block_of code.nodes) (ground_by (lines_of f.now) f.now.setting.spaces.now [] im) p 65536 (begun_at code.params p values q)) i) (no_images f.now))
    (c.answer.ensures.each i (subst (λ x. i < x.now.places) (sym k5.frame) l))
