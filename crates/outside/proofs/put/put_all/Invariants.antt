use Rattle.std.proofs.Common.{length, ◌-◌, ◌≡◌, true, take, ◌≤◌}
use Rattle.outside.specs.Frames.{PutsAll}
use Rattle.outside.proofs.put.put_all.Given as goal

abbrev pub invariant-loop-at : goal.invariant-loop-at
invariant-loop-at g l = record {
  within : l.at ≤ length l.bytes;
  in_frame : g.O.FrameSink.is_open l.frames ≡ true;
  put : PutsAll (take l.at l.bytes) (g.O.FrameSink.written l.initial.frames) (g.O.FrameSink.written l.frames);
  later : g.O.FrameSink.faults l.initial.frames ≤ g.O.FrameSink.faults l.frames;
}

abbrev pub decreases-loop-at : goal.decreases-loop-at
decreases-loop-at g l = length l.bytes - l.at
