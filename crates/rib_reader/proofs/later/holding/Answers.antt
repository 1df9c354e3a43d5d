use Rattle.std.proofs.Common.{map, rules}
use Rattle.std.proofs.lemmas.List.{map-append}
use Rattle.rib_reader.specs.Holding.{holding}
use Rattle.rib_reader.proofs.LastNamed.{next_held}
use Rattle.rib_reader.proofs.later.holding.Goals.{then-is_last+in_ok-push, else-is_last}
use Rattle.rib_reader.proofs.later.holding.Goals as goal

pub loop-place-preserved : goal.loop-place-preserved
loop-place-preserved c =
    next_held c.args.params.now c.loop-place.place c.index-params-place.result (map (λ p. p.now) c.loop-place.held.items) (map (λ p. p.now) c.if-is_last.held.items) (holding c.args.params.now) c.is_last.result
    c.loop-place-test.true c.index-params-place.is (search rules)
    (elim c.if-is_last.branch [ then-is_last+in_ok-push w ↦ search (rules, map-append) | else-is_last w ↦ search rules ])
    c.loop-place.invariant
