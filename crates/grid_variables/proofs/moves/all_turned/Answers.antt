use Rattle.std.proofs.Common.{map, sym, ap, ◌∙◌, arith}
use Rattle.std.proofs.lemmas.List.{get_or_read, map-id}
use Rattle.fixed_math.specs.Axes.{origin}
use Rattle.grid_variables.specs.Points.{turned}
use Rattle.grid_variables.proofs.Over.{taken_more}
use Rattle.grid_variables.proofs.moves.all_turned.Goals as goal

pub loop-normal-preserved : goal.loop-normal-preserved
loop-normal-preserved c =
    let read = get_or_read c.args.normals.now c.loop-normal.normal-index c.normal-item.result (omega arith) c.normal-item.is origin in
    taken_more (λ n. turned c.args.flip n) c.args.normals.now c.loop-normal.normal-index c.loop-normal.turning.items c.push.new.self.items c.turned.result origin (omega arith) c.in_ok-push.ensures.items
    (c.turned.ensures ∙ ap (turned c.args.flip) read) c.loop-normal.invariant

pub returns-then-not-flip : goal.returns-then-not-flip
returns-then-not-flip c = sym (ap (λ b. map (λ n. turned b n) c.args.normals.now) c.if-not-flip.true ∙ map-id c.args.normals.now)
