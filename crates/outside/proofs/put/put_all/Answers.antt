use Rattle.std.proofs.Common.{ℕ, arith, length, take, drop, ◌+◌, ◌-◌, length-drop, length-take}
use Rattle.outside.specs.Frames.{PutsAll}
use Rattle.outside.proofs.Puts.{puts-none, puts_first, on_err}
use Rattle.outside.proofs.put.put_all.Goals as goal

pub loop-at-init : goal.loop-at-init
loop-at-init g c = record { within = omega arith; in_frame = c.requires; put = puts-none _; later = omega arith }

pub returns-in_err-at-clause-err : goal.returns-in_err-at-clause-err
returns-in_err-at-clause-err g c =
    let w = c.in_err-at.ensures.written in
    let put : (n : ℕ) × PutsAll (take n c.args.bytes.now) (g.O.FrameSink.written c.args.frames.now) (g.O.FrameSink.written c.put.new.self) =
    (c.loop-at.at + w.0, puts_first c.args.bytes.now c.loop-at.at w.0 _ _ _ c.loop-at.invariant.put w.1) in
    on_err _ _ put

pub loop-at-preserved : goal.loop-at-preserved
loop-at-preserved g c =
    let w = c.in_ok-at.ensures.written in
    record {
      within = omega (arith, w.1, length-drop c.loop-at.at c.args.bytes.now, length-take (length c.args.bytes.now - c.loop-at.at) (drop c.loop-at.at c.args.bytes.now));
      in_frame = c.put.ensures.open;
      put = puts_first c.args.bytes.now c.loop-at.at c.in_ok-at.field-0 _ _ _ c.loop-at.invariant.put w.2;
      later = omega arith;
    }
