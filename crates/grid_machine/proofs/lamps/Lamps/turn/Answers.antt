use Rattle.std.proofs.Common.{All, length, sym, ap, ◌∙◌, subst}
use Rattle.std.proofs.lemmas.List.{with_items_is}
use Rattle.grid_machine.specs.Lamps.{IsLevel, IsKept}
use Rattle.grid_machine.proofs.lamps.Lamps.turn.Goals as goal

pub invariant_of-self : goal.invariant_of-self
invariant_of-self c =
    let s = c.args.self.now in
    let f = c.forget in
    let before = c.deref_mut.ensures.value in
    let is = with_items_is s.lanterns f.new.lanterns (f.ensures.long ∙ ap length before ∙ sym s.lanterns.ok.0) in
    record {
      level = subst (All (IsLevel s.places s.room)) (sym is) (f.ensures.level s.places s.room (subst (All (IsLevel s.places s.room)) (sym before) s.level));
      kept = subst (All (IsKept s.places c.take.new.self)) (sym is) (f.ensures.kept s.places c.take.new.self);
      long = c.take.ensures.size ∙ s.long;
      rows = s.rows;
      whole = s.whole;
      of_room = s.of_room;
    }
