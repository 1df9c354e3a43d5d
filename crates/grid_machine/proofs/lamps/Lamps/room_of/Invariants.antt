use Rattle.std.proofs.Common.{ℕ, ◌<◌}
use Rattle.grid_registers.specs.Rooms.{HasRoom}
use Rattle.grid_machine.proofs.lamps.Lamps.room_of.Given as goal

abbrev pub invariant-loop-n : goal.invariant-loop-n
invariant-loop-n g l = (k : ℕ) → k < l.n → HasRoom (g.L.Lights.codes l.lights k).varying (g.L.Lights.codes l.lights k).uniform l.places l.room
