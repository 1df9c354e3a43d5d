use Rattle.std.proofs.Common.{map, sym, ap, ◌∙◌}
use Rattle.std.proofs.lemmas.List.{map-id}
use Rattle.fixed_math.specs.Axes.{origin}
use Rattle.grid_variables.specs.Points.{sight, sight_by}
use Rattle.grid_variables.proofs.Results.{if_ok}
use Rattle.grid_variables.proofs.Over.{over_alike}
use Rattle.grid_variables.proofs.moves.sights.Goals as goal

pub returns-in-Some : goal.returns-in-Some
returns-in-Some c = sym (ap (λ o. map (sight_by o) c.args.points.now) c.in-Some.is ∙ map-id c.args.points.now)

pub returns-in-None : goal.returns-in-None
returns-in-None c =
    if_ok c.same.result _ _
    (λ is h. h ∙ sym (over_alike (sight c.args.view.now) c.ahead.result c.args.points.now origin (λ p. ap (λ o. sight_by o p) c.in-None.is ∙ sym (c.ahead.ensures p))))
    c.same.ensures
