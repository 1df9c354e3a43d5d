use Rattle.std.proofs.Common.{map, sym, ap, ◌∙◌}
use Rattle.grid_variables.specs.Points.{turned}
use Rattle.grid_variables.specs.Places.{point_count, over}
use Rattle.grid_variables.proofs.Results.{if_ok}
use Rattle.grid_variables.proofs.Dicing.{of_patch, of_flat}
use Rattle.grid_variables.proofs.stages.geometric_normals.Goals as goal

pub returns-in-Some : goal.returns-in-Some
returns-in-Some c =
    let l = c.args.leaf.now in
    if_ok c.same.result _ _
    (λ ns h. h ∙ ap (λ n. over n (λ i. c.turned.result)) c.point_count.ensures.value ∙ ap (λ q. over (point_count l) (λ i. q)) (c.turned.ensures ∙ ap (λ f. turned f c.in-Some.flat) c.flip.ensures)
    ∙ of_flat l c.in-Some.flat (sym c.flat.ensures ∙ c.in-Some.is)) c.same.ensures

pub returns-in_ok-units-in-None : goal.returns-in_ok-units-in-None
returns-in_ok-units-in-None c =
    let l = c.args.leaf.now in
    if_ok c.all_turned.result _ _
    (λ ns h. of_patch l ns.now (h ∙ ap (λ f. map (λ n. turned f n) c.in_ok-units-in-None.field-0.now) c.flip-in-None.ensures ∙ ap (map (λ n. turned l.prim.flip n)) c.in_ok-units-in-None.ensures) (sym c.flat.ensures ∙ c.in-None.is))
    c.all_turned.ensures
