use Rattle.std.proofs.Common.{◌≡◌, ◌+◌, ◌++◌, drop}
use Rattle.grid_code.specs.Names.{first_free}
use Rattle.grid_machine.specs.Run.{params_of}
use Rattle.grid_machine.proofs.given.add_inputs.Given as goal

abbrev pub invariant-loop-n : goal.invariant-loop-n
invariant-loop-n l = l.registers.items ++ params_of l.uniform (l.n + first_free) (drop l.n l.params) ≡ l.initial.registers.items ++ params_of l.uniform first_free l.params
