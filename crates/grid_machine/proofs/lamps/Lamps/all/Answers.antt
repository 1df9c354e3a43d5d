use Rattle.std.proofs.Common.{◌++◌, ◌∷◌, [], ap, ◌∙◌}
use Rattle.grid_machine.specs.Asked.{asked}
use Rattle.grid_machine.specs.State.{lines_of}
use Rattle.grid_machine.proofs.Level.{asked_more}
use Rattle.grid_machine.proofs.lamps.Lamps.all.Goals as goal

pub loop-n-preserved : goal.loop-n-preserved
loop-n-preserved g c =
    let grid = c.args.grid.now in
    let n = c.loop-n.n in
    let spaces = g.L.Lights.places c.args.lights.now in
    let codes = g.L.Lights.codes c.args.lights.now in
    let values = g.L.Lights.params c.args.lights.now in
    let inv = c.loop-n.invariant in
    record {
      level = c.in_ok-add.ensures.level inv.level;
      kept = λ p. c.in_ok-add.ensures.kept p (inv.kept p);
      lights = c.in_ok-add.ensures.asked ∙ ap (λ ls. ls ++ asked (lines_of grid) grid.places (spaces n) (codes n) (values n) ∷ []) inv.lights ∙ asked_more (lines_of grid) grid.places n spaces codes values;
    }
