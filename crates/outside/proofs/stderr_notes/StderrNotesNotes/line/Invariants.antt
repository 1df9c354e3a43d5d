use Rattle.std.proofs.Common.{◌≡◌, length, ◌-◌}
use Rattle.outside.proofs.stderr_notes.StderrNotesNotes.line.Given as goal

abbrev pub invariant-loop-at : goal.invariant-loop-at
invariant-loop-at g l = l.self-inside.faults ≡ l.initial.self-inside.faults

abbrev pub decreases-loop-at : goal.decreases-loop-at
decreases-loop-at g l = length l.text - l.at
