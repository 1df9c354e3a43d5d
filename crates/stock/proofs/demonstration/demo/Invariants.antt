use Rattle.std.proofs.Common.{◌≡◌, ◌++◌}
use Rattle.std.specs.List.{range_with_len, flat_map}
use Rattle.stock.specs.Demo.{first_lines, patch_lines}
use Rattle.stock.proofs.demonstration.demo.Given as goal

abbrev pub invariant-loop-patch : goal.invariant-loop-patch
invariant-loop-patch l = l.text.items ≡ first_lines ++ flat_map patch_lines (range_with_len 0 l.patch)
