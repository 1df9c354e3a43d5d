use Rattle.std.proofs.Common.{ℕ, arith, sym, subst}
use Rattle.std.specs.Prelude.{Option}
use Rattle.hider.specs.declared.fragment.Fragment.{Fragment}
use Rattle.hider.specs.declared.sample.Sample.{Sample}
use Rattle.hider.specs.CellValues.{micropolygon_of}
use Rattle.hider.specs.Fragments.{fragment_of}
use Rattle.hider.specs.Searching.{StaysIn}
use Rattle.hider.specs.Steps.{in_step}
use Rattle.hider.proofs.StepPuts.{step_stays}
use Rattle.hider.proofs.hiding.hide_step.Goals as goal

pub put_rows-requires-clause-beside : goal.put_rows-requires-clause-beside
put_rows-requires-clause-beside g c =
    let m = c.args.shown.now in
    let timed = c.args.timed.now in
    let grid = timed.places.grid in
    let k = c.args.step in
    let shown : Sample → Option Fragment = λ s. fragment_of m.camera.now s (micropolygon_of (g.C.Cells.values m.cells.now) m.one_sided m.flip m.cell) in
    let part = c.part_near-part.result in
    let same = (timed.known k c.index-timed-step.result (let a = timed.all in omega (arith, a, c.requires.step))).1 in
    subst (λ (j : ℕ). StaysIn part grid (in_step j shown)) (sym same)
    (step_stays _ part grid k shown timed.places.valid c.part_near-part.ensures.near (m.in_steps k _ c.requires.step))
