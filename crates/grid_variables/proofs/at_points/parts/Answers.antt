use Rattle.std.proofs.Common.{ap, ◌∙◌, arith}
use Rattle.std.proofs.lemmas.List.{get_or_read}
use Rattle.fixed_math.specs.Axes.{origin, part_of}
use Rattle.grid_variables.proofs.Over.{taken_more}
use Rattle.grid_variables.proofs.at_points.parts.Goals as goal

pub loop-triple-preserved : goal.loop-triple-preserved
loop-triple-preserved c =
    let read = get_or_read c.args.triples.now c.loop-triple.triple-index c.triple-item.result (omega arith) c.triple-item.is origin in
    taken_more (part_of c.args.axis) c.args.triples.now c.loop-triple.triple-index c.loop-triple.numbers.items c.push.new.self.items c.part.result origin (omega arith) c.in_ok-push.ensures.items (c.part.ensures ∙ ap (part_of c.args.axis) read) c.loop-triple.invariant
