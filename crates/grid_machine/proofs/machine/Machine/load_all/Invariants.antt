use Rattle.std.proofs.Common.{◌≡◌, ◌+◌, ◌*◌, length, drop}
use Rattle.grid_machine.specs.Run.{rows_of}
use Rattle.grid_machine.specs.State.{state_of, Kept}
use Rattle.grid_machine.proofs.Loads.{Loading}
use Rattle.grid_machine.proofs.machine.Machine.load_all.Given as goal

abbrev pub invariant-loop-k : goal.invariant-loop-k
invariant-loop-k l =
    let f = l.initial.self.registers.frame.now in
    Kept l.initial.self l.self × ((l.start + rows_of (drop l.k l.to) * l.width ≡ length l.rows) × Loading f.places f.varying.now f.uniform.now l.width l.rows l.to l.k l.start (state_of l.initial.self) (state_of l.self))
