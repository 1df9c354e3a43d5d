use Rattle.std.proofs.Common.{◌≡◌, ℕ, ◌<◌, ◌==◌, not, All, ap, subst, sym, ◌∙◌}
use Rattle.std.proofs.lemmas.List.Elements.{All-filter}
use Rattle.std.proofs.lemmas.Result.{IfOk-weaker}
use Rattle.scene_parts.specs.Lights.{without_light}
use Rattle.scene_parts.proofs.BoundedLights.{all_left}
use Rattle.scene_parts.proofs.lights_in_force.without_below.Goals as goal

pub returns-in_ok-left-clause-below : goal.returns-in_ok-left-clause-below
returns-in_ok-left-clause-below c =
    let k = c.args.light in
    let lights = c.args.lights.now in
    let low = λ (n : ℕ). n < c.args.bound in
    let left = c.in_ok-left.ensures ∙ ap (without_light k) c.in_ok-joined.ensures in
    IfOk-weaker c.of.result (λ l. l ≡ c.in_ok-left.left) (λ l. All low l)
    (λ l is. subst (λ ns. All low ns) (sym (is ∙ left)) (All-filter (λ n. not (n == k)) low lights c.requires)) c.of.ensures

pub returns-else-light-bound-clause-left : goal.returns-else-light-bound-clause-left
returns-else-light-bound-clause-left c =
    let k = c.args.light in
    let lights = c.args.lights.now in
    IfOk-weaker c.shared.result (λ l. l ≡ lights) (λ l. l ≡ without_light k lights)
    (λ l is. is ∙ sym (all_left c.args.bound k lights c.requires c.if-light-bound.false)) c.shared.ensures
