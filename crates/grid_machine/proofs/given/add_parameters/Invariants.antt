use Rattle.std.proofs.Common.{◌≡◌, ◌+◌, ◌++◌, drop}
use Rattle.grid_code.specs.Names.{first_free}
use Rattle.grid_code.specs.Uses.{registers_from}
use Rattle.grid_machine.proofs.given.add_parameters.Given as goal

abbrev pub invariant-loop-n : goal.invariant-loop-n
invariant-loop-n l = l.registers.items ++ registers_from (l.n + first_free) (drop l.n l.params) ≡ l.initial.registers.items ++ registers_from first_free l.params
