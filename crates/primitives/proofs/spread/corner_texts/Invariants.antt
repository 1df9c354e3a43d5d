use Rattle.std.proofs.Common.{◌≡◌, map}
use Rattle.std.specs.List.{range_with_len}
use Rattle.primitives.proofs.spread.corner_texts.Given as goal

abbrev pub invariant-loop : goal.invariant-loop
invariant-loop l = l.spread.items ≡ map (λ _. l.text) (range_with_len 0 l.counter)
