use Rattle.std.proofs.Common.{◌∙◌, ap, sym}
use Rattle.moving_maps.specs.MapPairs.{map_behind}
use Rattle.moving_maps.specs.PairLaws.{behind-same}
use Rattle.moving_maps.proofs.moving_map.MovingMap.behind.Goals as goal

pub invariant_of-result : goal.invariant_of-result
invariant_of-result c = λ stays.
    let w = c.args.when.now in
    let k = c.args.change.now in
    let m = c.self.inside in
    behind-same w k m.times m.first m.last c.in_ok-first.first c.in_ok-last.last c.self.invariant
    (ap (λ b. map_behind b k m.first) (sym c.is_first.ensures) ∙ sym c.on_if.ensures ∙ c.in_ok-first.was)
    (ap (λ b. map_behind b k m.last) (sym c.is_last.ensures) ∙ sym c.on_if-2.ensures ∙ c.in_ok-last.was)
    (sym c.times_behind.ensures ∙ stays)
