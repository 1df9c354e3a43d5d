use Rattle.std.proofs.Common.{ap, ◌∙◌, arith}
use Rattle.std.proofs.lemmas.List.{get_or_read}
use Rattle.fixed_math.specs.Axes.{origin}
use Rattle.builtins.specs.Triples.{normalize}
use Rattle.grid_variables.specs.Points.{turned}
use Rattle.grid_variables.proofs.Over.{taken_more}
use Rattle.grid_variables.proofs.at_points.units.Goals as goal

pub loop-vector-preserved : goal.loop-vector-preserved
loop-vector-preserved c =
    let read = get_or_read c.args.vectors.now c.loop-vector.vector-index c.vector-item.result (omega arith) c.vector-item.is origin in
    taken_more (λ v. turned c.args.flip (normalize v)) c.args.vectors.now c.loop-vector.vector-index c.loop-vector.units.items c.push.new.self.items c.turned.result origin (omega arith) c.in_ok-push.ensures.items
    (c.turned.ensures ∙ ap (turned c.args.flip) (c.normalize.ensures ∙ ap normalize read)) c.loop-vector.invariant
