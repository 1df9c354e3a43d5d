-- Each frame is closed before the next.
use Rattle.std.proofs.Common.{◌≡◌, false}
use Rattle.calls.proofs.files.frames_in_memory_stay_apart.Given as goal

abbrev pub invariant-loop-name : goal.invariant-loop-name
invariant-loop-name g l = l.sink.is_open ≡ false
