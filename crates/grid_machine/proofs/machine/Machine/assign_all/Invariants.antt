use Rattle.grid_machine.specs.State.{state_of, Kept}
use Rattle.grid_machine.proofs.Loads.{Assigning}
use Rattle.grid_machine.proofs.machine.Machine.assign_all.Given as goal

abbrev pub invariant-loop-k : goal.invariant-loop-k
invariant-loop-k l =
    let f = l.initial.self.registers.frame.now in
    Kept l.initial.self l.self × Assigning f.places f.varying.now f.uniform.now l.to l.values l.k (state_of l.initial.self) (state_of l.self)
