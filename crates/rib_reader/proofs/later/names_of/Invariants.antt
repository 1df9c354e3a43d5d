use Rattle.std.proofs.Common.{◌≡◌, map, take}
use Rattle.rib_reader.proofs.later.names_of.Given as goal

abbrev pub invariant-loop-param : goal.invariant-loop-param
invariant-loop-param l = l.names ≡ map (λ p. p.name) (take l.param-index l.params)
