use Rattle.std.proofs.Common.{arith}
use Rattle.hider.specs.CellValues.{micropolygon_of}
use Rattle.hider.specs.Fragments.{fragment_of}
use Rattle.hider.proofs.StepPuts.{all_steps}
use Rattle.hider.proofs.hiding.hide_moving.Goals as goal

pub returns : goal.returns
returns g c =
    let m = c.args.shown.now in
    let t = c.loop-step-test.false in
    all_steps c.args.timed.now.places.grid c.loop-step.step (λ s. fragment_of m.camera.now s (micropolygon_of (g.C.Cells.values m.cells.now) m.one_sided m.flip m.cell)) c.args.lists.now c.loop-step.lists (omega (arith, t)) c.loop-step.invariant
