use Rattle.std.proofs.Common.{refl}
use Rattle.grid_variables.proofs.Over.{over_more}
use Rattle.grid_variables.proofs.moves.same.Goals as goal

pub loop-point-preserved : goal.loop-point-preserved
loop-point-preserved c = over_more (λ i. c.args.triple.now) c.loop-point._point c.loop-point.triples.items c.push.new.self.items _ c.in_ok-push.ensures.items refl c.loop-point.invariant
