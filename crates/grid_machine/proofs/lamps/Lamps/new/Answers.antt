use Rattle.std.proofs.Common.{◌<◌, List, All, length, ap, sym, subst, ◌∙◌}
use Rattle.grid_machine.specs.Lamps.{IsLevel}
use Rattle.grid_machine.specs.State.{lines_of}
use Rattle.grid_machine.specs.declared.lamps.Lantern.{Lantern}
use Rattle.grid_machine.proofs.Roomy.{some_lights}
use Rattle.grid_machine.proofs.lamps.Lamps.new.Goals as goal

pub first_frame-requires : goal.first_frame-requires
first_frame-requires g c =
    let grid = c.args.grid.now in
    let lights = c.args.lights.now in
    subst (λ (xs : List Lantern). 0 < length xs) (sym c.deref.ensures.value)
    (some_lights (lines_of grid) grid.places (g.L.Lights.many lights) (g.L.Lights.places lights) (g.L.Lights.codes lights) (g.L.Lights.params lights) c.in_ok-lanterns.lanterns.items c.requires.some c.in_ok-lanterns.ensures.lights)

pub invariant_of-result : goal.invariant_of-result
invariant_of-result g c =
    let level = c.in_ok-lanterns.ensures.level in
    let first = c.first_frame.ensures c.args.grid.now.places c.room_of-room.result (subst (All (IsLevel c.args.grid.now.places c.room_of-room.result)) (sym c.deref.ensures.value) level) in
    record {
      level = level;
      kept = c.in_ok-lanterns.ensures.kept _;
      long = c.in_ok-zeros.ensures;
      rows = c.in_ok-new.ensures;
      whole = c.in_ok-machine.ensures.whole;
      of_room = record { places = ap (λ f. f.places) c.in_ok-machine.ensures.frame ∙ first.0; room = ap (λ f. f.room) c.in_ok-machine.ensures.frame ∙ first.1 };
    }
