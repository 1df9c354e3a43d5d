use Rattle.std.proofs.Common.{[]}
use Rattle.std.specs.List.{cons_option}
use Rattle.hider.specs.CellValues.{micropolygon_of}
use Rattle.hider.specs.Fragments.{fragment_of}
use Rattle.hider.specs.Tiles.{HavePut}
use Rattle.hider.proofs.StepPuts.{before_step}
use Rattle.hider.proofs.hiding.hide_moving.Given as goal

abbrev pub invariant-loop-step : goal.invariant-loop-step
invariant-loop-step g l =
    HavePut l.timed.places.grid (λ s. cons_option (before_step l.step (λ s. fragment_of l.shown.camera.now s (micropolygon_of (g.C.Cells.values l.shown.cells.now) l.shown.one_sided l.shown.flip l.shown.cell)) s) []) l.initial.lists l.lists
