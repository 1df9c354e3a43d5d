use Rattle.std.proofs.Common.{refl}
use Rattle.hider.specs.Steps.{in_step}
use Rattle.hider.proofs.Rows.{rows_done_next}
use Rattle.hider.proofs.steps.StepSamples.put_rows.Goals as goal

pub loop-row-preserved : goal.loop-row-preserved
loop-row-preserved g c =
    let w = c.width-width.ensures.value in
    rows_done_next c.args.places.now.grid c.args.part.now c.loop-row.row _ _ (in_step c.args.self.now.step (g.S.Showing.shown c.args.shown.now)) c.args.lists.now c.loop-row.lists c.put_between.new.lists
    c.args.places.now.valid c.requires.part c.requires.beside (record { first_is = rw w refl; last_is = rw w refl }) c.loop-row.invariant
    c.put_between.ensures.others c.in_ok-put_between.ensures.ok
