use Rattle.std.proofs.Common.{◌≡◌, map, take}
use Rattle.primitives.proofs.spread.each.Given as goal

abbrev pub invariant-loop-param : goal.invariant-loop-param
invariant-loop-param l = map (λ p. p.now) l.all.items ≡ take l.param-index l.params
