use Rattle.std.proofs.Common.{◌∙◌, sym, [], ◌∷◌, slice_index_or}
use Rattle.mesh_basis.proofs.Near.{are_near}
use Rattle.primitives.proofs.forms.round_at.Goals as goal

pub round-requires : goal.round-requires
round-requires c =
    are_near (
    slice_index_or c.placed_arc.result 0 c.index-placed_arc-0.result ∷ slice_index_or c.placed_arc.result 1 c.index-placed_arc-1.result
    ∷ slice_index_or c.placed_arc.result 2 c.index-placed_arc-2.result ∷ slice_index_or c.placed_arc-2.result 0 c.index-placed_arc-0-2.result
    ∷ slice_index_or c.placed_arc-2.result 1 c.index-placed_arc-1-2.result ∷ slice_index_or c.placed_arc-2.result 2 c.index-placed_arc-2-2.result
    ∷ slice_index_or c.placed_arc-3.result 0 c.index-placed_arc-0-3.result ∷ slice_index_or c.placed_arc-3.result 1 c.index-placed_arc-1-3.result
    ∷ slice_index_or c.placed_arc-3.result 2 c.index-placed_arc-2-3.result ∷ []
    ) (sym c.are_in_range.ensures ∙ c.if-are_in_range.true)
