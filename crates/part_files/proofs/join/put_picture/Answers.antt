use Rattle.std.proofs.Common.{arith, rules}
use Rattle.outside.specs.Frames.{Picture}
use Rattle.outside.proofs.Entries.{adds-puts, put-err, ended-ok, ended-err}
use Rattle.outside.proofs.Stepping.{rose_after}
use Rattle.part_files.proofs.join.put_picture.Goals as goal

pub returns-in_err-put_all : goal.returns-in_err-put_all
returns-in_err-put_all g c =
    let p : Picture = record { name = c.args.name.now; bytes = c.args.bytes.now } in
    let begins = c.in_ok-begin.ensures in
    let puts = c.in_err-put_all.ensures in
    record {
      closed = search rules;
      ok = search rules;
      err = put-err c.from_residual-in_err-put_all.result p (g.O.FrameSink.written c.args.frames.now) (g.O.FrameSink.written c.begin.new.self) (g.O.FrameSink.written c.put_all.new.frames)
          begins.written puts.err;
      later = omega (arith, begins.cause.later, puts.cause.later);
      failed = λ _. rose_after _ _ _ begins.cause.later puts.cause.failed;
    }

pub returns : goal.returns
returns g c =
    let p : Picture = record { name = c.args.name.now; bytes = c.args.bytes.now } in
    let x = g.O.FrameSink.written c.args.frames.now in
    let y = g.O.FrameSink.written c.begin.new.self in
    let z = g.O.FrameSink.written c.put_all.new.frames in
    let begins = c.in_ok-begin.ensures in
    let puts = c.in_ok-put_all.ensures in
    let put = adds-puts c.args.name.now c.args.bytes.now x y z begins.written puts.ok in
    record {
      closed = search rules;
      ok = ended-ok c.end.result p x z (g.O.FrameSink.written c.end.new.self) put c.end.ensures.written;
      err = ended-err c.end.result p x z (g.O.FrameSink.written c.end.new.self) put c.end.ensures.written;
      later = omega (arith, begins.cause.later, puts.cause.later, c.end.ensures.cause.later);
      failed = search rules;
    }
