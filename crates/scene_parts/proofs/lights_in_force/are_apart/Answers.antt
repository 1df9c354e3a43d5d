use Rattle.std.proofs.Common.{◌≡◌, ◌∙◌, sym, subst, ◌++◌}
use Rattle.scene_parts.specs.Lights.{made_before}
use Rattle.scene_parts.proofs.BoundedLights.{earlier_first}
use Rattle.scene_parts.proofs.lights_in_force.are_apart.Goals as goal

pub returns-then-bound-first : goal.returns-then-bound-first
returns-then-bound-first c = λ t lights low.
    subst (λ o. made_before o (lights ++ c.args.later.now) ≡ lights) (sym c.in-Some.is)
    (earlier_first c.args.bound c.in-Some.first lights c.args.later.now low c.if-bound-first.true (sym c.are_past.ensures ∙ t))
