use Rattle.std.proofs.Common.{◌≡◌, map, take}
use Rattle.rib_reader.specs.declared.args.Arg.TheVariants.{Number}
use Rattle.rib_reader.proofs.groups.each_number.Given as goal

abbrev pub invariant-loop-number : goal.invariant-loop-number
invariant-loop-number l = l.values.items ≡ map (λ d. Number d) (take l.number-index l.numbers)
