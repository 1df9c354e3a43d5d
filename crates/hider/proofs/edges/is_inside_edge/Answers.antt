use Rattle.std.proofs.Common.{◌∙◌, ap}
use Rattle.fixed_math.specs.Edges.{edge, by_side, is_inside}
use Rattle.hider.proofs.Small.{read_whole}
use Rattle.hider.proofs.edges.is_inside_edge.Goals as goal

pub returns : goal.returns
unfolding is_inside
returns c =
    c.is_on_side.ensures ∙ ap (λ z. by_side z c.owns_places.result) (read_whole c.edge_at.result c.edge_at.type_inv ∙ c.edge_at.ensures.value)
    ∙ ap (λ d. by_side (edge c.args.a c.args.b c.args.s) d) c.owns_places.ensures
