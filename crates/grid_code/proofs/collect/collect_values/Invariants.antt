use Rattle.std.proofs.Common.{◌≡◌, ◌++◌, map, drop}
use Rattle.grid_code.specs.Texts.{texts_of_all}
use Rattle.grid_code.proofs.collect.collect_values.Given as goal

abbrev pub invariant-loop-value : goal.invariant-loop-value
invariant-loop-value l = map (λ t. t.now) l.texts.items ++ texts_of_all (drop l.value-index l.values) ≡ map (λ t. t.now) l.initial.texts.items ++ texts_of_all l.values
