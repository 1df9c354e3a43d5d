use Rattle.std.proofs.Common.{◌≡◌, All, map}
use Rattle.light_rows.specs.declared.triples.Triples.{Triples}
use Rattle.grid_machine.specs.Asked.{asked_all}
use Rattle.grid_machine.specs.Lamps.{IsLevel, IsKept, asked_by}
use Rattle.grid_machine.specs.State.{lines_of}
use Rattle.grid_machine.proofs.lamps.Lamps.all.Given as goal

abbrev pub invariant-loop-n : goal.invariant-loop-n
invariant-loop-n g l = record {
  level : All (IsLevel l.grid.places l.room) l.lanterns.items;
  kept : (p : Triples) → All (IsKept l.grid.places p) l.lanterns.items;
  lights : map asked_by l.lanterns.items ≡ asked_all (lines_of l.grid) l.grid.places l.n (g.L.Lights.places l.lights) (g.L.Lights.codes l.lights) (g.L.Lights.params l.lights);
}
