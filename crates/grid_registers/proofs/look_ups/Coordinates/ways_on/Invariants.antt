use Rattle.std.proofs.Common.{◌≡◌, length}
use Rattle.grid_registers.specs.LookUps.{AreWays}
use Rattle.grid_registers.proofs.look_ups.Coordinates.ways_on.Given as goal

abbrev pub invariant-loop-place : goal.invariant-loop-place
invariant-loop-place l = (length l.ways ≡ length l.initial.ways) × AreWays l.sides l.self l.place l.on l.ways
