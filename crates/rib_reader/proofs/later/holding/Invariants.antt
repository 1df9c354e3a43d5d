use Rattle.std.proofs.Common.{◌≡◌, ◌++◌, drop, map}
use Rattle.rib_reader.specs.Holding.{holding}
use Rattle.rib_reader.proofs.later.holding.Given as goal

abbrev pub invariant-loop-place : goal.invariant-loop-place
invariant-loop-place l = map (λ p. p.now) l.held.items ++ holding (drop l.place l.params) ≡ holding l.params
