use Rattle.std.proofs.Common.{◌≡◌, ◌++◌, drop}
use Rattle.mask_codegen.specs.Collected.{numbers_among}
use Rattle.mask_codegen.proofs.sets.matching.Given as goal

abbrev pub invariant-loop-register : goal.invariant-loop-register
invariant-loop-register l = l.numbers.items ++ numbers_among l.uniform l.shape (drop l.register-index l.seen) ≡ numbers_among l.uniform l.shape l.seen
