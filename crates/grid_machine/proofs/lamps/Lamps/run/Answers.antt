use Rattle.std.proofs.Common.{◌<◌, Bool, false, map, get_or, sym, ap, ◌∙◌, subst}
use Rattle.std.proofs.lemmas.List.{map-set, get_or-set_same, length-map}
use Rattle.grid_machine.specs.declared.lamp.Lamp.{Lamp}
use Rattle.grid_machine.specs.declared.lamps.Lantern.{Lantern}
use Rattle.std.proofs.lemmas.List.Elements.{All-set}
use Rattle.grid_machine.specs.Lamps.{IsLevel, IsKept, asked_by, asked_of, AnswersAt}
use Rattle.grid_machine.proofs.Lanterns.{images_kept, level_by, get_or_any}
use Rattle.grid_machine.proofs.lamps.Lamps.run.Goals as goal

pub invariant_of-self : goal.invariant_of-self
invariant_of-self c =
    let s = c.args.self.now in
    let n = c.args.n in
    let f = s.machine.registers.frame.now in
    let a = c.ask.ensures in
    record {
      level = All-set (IsLevel s.places s.room) s.lanterns.items n c.ask.new.self (level_by f.places s.places f.room s.room c.ask.new.self s.of_room.places s.of_room.room a.level) s.level;
      kept = All-set (IsKept s.places s.points) s.lanterns.items n c.ask.new.self record { answered = λ e. subst (λ p. AnswersAt p s.points c.ask.new.self) s.of_room.places a.answers } s.kept;
      long = s.long;
      rows = s.rows;
      whole = a.whole;
      of_room = record { places = a.of_room.places ∙ s.of_room.places; room = a.of_room.room ∙ s.of_room.room };
    }

pub returns-clause-lamps : goal.returns-clause-lamps
returns-clause-lamps c =
    let k = c.index_mut.result.now in
    images_kept asked_by c.args.self.now.lanterns.items c.args.n c.ask.new.self k c.requires (ap asked_of c.ask.ensures.lamp ∙ ap asked_by c.index_mut.ensures.value)

pub returns-clause-given : goal.returns-clause-given
returns-clause-given c =
    let ks = c.args.self.now.lanterns.items in
    let given : Lantern → Bool = λ k. k.given in
    ap (λ bs. get_or bs c.args.n false) (map-set given ks c.args.n c.ask.new.self) ∙ get_or-set_same (map given ks) c.args.n c.ask.new.self.given false (subst (λ m. c.args.n < m) (sym (length-map ks given)) c.requires) ∙ c.ask.ensures.given

pub returns-clause-lamp : goal.returns-clause-lamp
returns-clause-lamp c d =
    let ks = c.args.self.now.lanterns.items in
    let n = c.args.n in
    let k = c.index_mut.result.now in
    let lamp : Lantern → Lamp = λ x. x.lamp in
    ap lamp (get_or-set_same ks n c.ask.new.self d c.requires) ∙ c.ask.ensures.lamp ∙ ap lamp (c.index_mut.ensures.value ∙ get_or_any ks n k d c.requires)
