use Rattle.std.proofs.Common.{◌∙◌, sym}
use Rattle.moving_maps.specs.PairLaws.{after-same}
use Rattle.moving_maps.proofs.moving_map.MovingMap.before.Goals as goal

pub invariant_of-result : goal.invariant_of-result
invariant_of-result c = λ stays.
    let m = c.self.inside in
    let n = c.first.inside in
    after-same m.times n.times m.first m.last n.first n.last c.in_ok-opening.opening c.in_ok-closing.closing c.self.invariant c.first.invariant
    (sym c.before-2.ensures.value ∙ c.in_ok-opening.was) (sym c.before-3.ensures.value ∙ c.in_ok-closing.was)
    (sym c.joined.ensures ∙ stays)
