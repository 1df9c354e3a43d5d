use Rattle.std.proofs.Common.{◌≡◌, ℕ, All, map, length}
use Rattle.std.specs.List.{AllWithin}
use Rattle.light_rows.specs.declared.triples.Triples.{Triples}
use Rattle.grid_machine.specs.Lamps.{IsLevel, IsKept, asked_by}
use Rattle.grid_registers.specs.declared.room.Room.{Room}
use Rattle.grid_machine.proofs.lamps.forget.Given as goal

abbrev pub invariant-loop-n : goal.invariant-loop-n
invariant-loop-n l = record {
  long : length l.lanterns ≡ length l.initial.lanterns;
  lamps : map asked_by l.lanterns ≡ map asked_by l.initial.lanterns;
  level : (c : ℕ) (r : Room) → All (IsLevel c r) l.initial.lanterns → All (IsLevel c r) l.lanterns;
  kept : (c : ℕ) (p : Triples) → AllWithin (IsKept c p) l.lanterns 0 l.n;
}
