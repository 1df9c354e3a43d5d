use Rattle.std.proofs.Common.{◌∙◌, ap, sym}
use Rattle.bound_split.specs.declared.extents.Extent.{Extent}
use Rattle.bound_split.specs.Decisions.{decision_of}
use Rattle.bound_split.specs.Extents.{reaches, pixels_of}
use Rattle.bound_split.proofs.Fitting.{decision-fits}
use Rattle.bound_split.proofs.Meetings.{inherits}
use Rattle.bound_split.proofs.extents.meets.Goals as goal

pub returns-clause-inherited : goal.returns-clause-inherited
returns-clause-inherited g c = λ rate fails.
    inherits g.S.Surface.box_in g.met.S.Surface.parts c.args.s.now c.args.camera.now c.args.bound (pixels_of c.args.tile)
    (decision_of c.args.camera.now rate c.args.bound (g.S.Surface.width_of c.args.s.now) (g.S.Surface.net_of c.args.s.now)) c.args.piece.now
    c.view-view.ensures.valid c.requires.low (λ q. decision-fits c.args.camera.now rate c.args.bound (g.S.Surface.width_of c.args.s.now) _ q) c.recall.ensures
    (sym (c.meets.ensures ∙ ap (λ (e : Extent). reaches e.reach (pixels_of c.args.tile)) c.extent_of.ensures.value) ∙ fails)
