use Rattle.std.proofs.Common.{ap, ◌∙◌}
use Rattle.place_rows.specs.Layout.{row_length}
use Rattle.grid_rows.specs.Rows.{triple_in}
use Rattle.grid_variables.proofs.Over.{over_more}
use Rattle.grid_rows.proofs.left.triples_from.Goals as goal

pub loop-i-preserved : goal.loop-i-preserved
loop-i-preserved c =
    over_more (triple_in c.args.rows.now (row_length c.args.points) c.args.first) c.loop-i.i c.loop-i.triples.items c.push.new.self.items c.triple_at.result c.in_ok-push.ensures.items
    (c.triple_at.ensures ∙ ap (λ w. triple_in c.args.rows.now w c.args.first c.loop-i.i) c.length_of_row-width.ensures.value) c.loop-i.invariant
