use Rattle.std.proofs.Common.{◌≡◌, map, take}
use Rattle.scene.proofs.variables.copies_of.Given as goal

abbrev pub invariant-loop-param : goal.invariant-loop-param
invariant-loop-param l = l.copies.items ≡ map (λ q. q.now) (take l.param-index l.params)
