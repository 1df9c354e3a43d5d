use Rattle.std.proofs.Common.{ℕ, ◌<◌, ap, sym, subst, ◌∙◌}
use Rattle.fixed_math.specs.declared.vec3.Vec3.{Vec3}
use Rattle.grid_code.specs.View.{block_of}
use Rattle.light_rows.specs.Seen.{AtPlaces, HasPlaces, IsAnswer}
use Rattle.number_rows.specs.Planes.{triple_at, ArePlanes}
use Rattle.grid_machine.specs.Asked.{asked}
use Rattle.grid_machine.specs.State.{Ready, lines_of}
use Rattle.grid_registers.specs.declared.frame.Frame.{Frame}
use Rattle.grid_machine.proofs.Fitting.{fitting_ready}
use Rattle.grid_machine.proofs.lamps.Lantern.ask.Goals as goal

pub asked-requires-clause-ready : goal.asked-requires-clause-ready
asked-requires-clause-ready c =
    let lamp = c.args.self.now.lamp in
    subst (λ (f : Frame). Ready f.varying.now f.uniform.now f.setting.texts.now (block_of lamp.code.now.nodes)) (sym c.take_up.ensures.frame)
    (fitting_ready lamp.frame.now lamp.code.now lamp.registers.now lamp.values.now lamp.fits)

pub asked-requires-clause-points : goal.asked-requires-clause-points
asked-requires-clause-points c =
    subst (λ n. ArePlanes n c.planes-x.result) (c.requires.points ∙ sym c.requires.level.placed.places ∙ sym (ap (λ f. f.places) c.take_up.ensures.frame)) c.planes-x.ensures.planes

pub asked-requires-clause-places : goal.asked-requires-clause-places
asked-requires-clause-places c = subst (λ n. HasPlaces n c.args.self.now.answers) (sym c.requires.level.placed.places ∙ sym (ap (λ f. f.places) c.take_up.ensures.frame)) c.requires.level.rows

pub returns-clause-of_room : goal.returns-clause-of_room
returns-clause-of_room c = record {
  places = ap (λ f. f.now.places) c.asked.ensures.kept.frame ∙ ap (λ f. f.places) c.take_up.ensures.frame ∙ c.requires.level.placed.places;
  room = ap (λ f. f.now.room) c.asked.ensures.kept.frame ∙ ap (λ f. f.room) c.take_up.ensures.frame ∙ c.requires.level.placed.room;
}

pub returns-clause-level : goal.returns-clause-level
returns-clause-level c = record {
  placed = c.requires.level.placed;
  rows = subst (λ n. HasPlaces n c.asked.new.answers) (ap (λ f. f.places) c.take_up.ensures.frame ∙ c.requires.level.placed.places) c.asked.ensures.places;
  ambient = c.asked.ensures.ambient ∙ c.requires.level.ambient;
}

pub returns-clause-answers : goal.returns-clause-answers
returns-clause-answers c q e i l =
    let lamp = c.args.self.now.lamp in
    let placed = c.requires.level.placed.places in
    subst (λ (f : Frame). (q : ℕ → Vec3) → AtPlaces f.places q (triple_at c.planes-x.result) → (i : ℕ) → i < f.places → IsAnswer c.asked.new.answers i (asked (lines_of f) f.places f.setting.spaces.now lamp.code.now lamp.values.now q i)) c.take_up.ensures.frame
    c.asked.ensures.each q (λ j k. e j (subst (λ n. j < n) placed k) ∙ sym (c.planes-x.ensures.each j)) i (subst (λ n. i < n) (sym placed) l)
