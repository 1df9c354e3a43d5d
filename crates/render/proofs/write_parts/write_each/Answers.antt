use Rattle.std.proofs.Common.{◌∷◌, [], ◌∙◌, subst, sym, arith, rules}
use Rattle.acceptance.specs.PrimFit.{FitsScene}
use Rattle.outside.proofs.Stepping.{rose_after}
use Rattle.outside.specs.Frames.{whole, Adds, AddsPart}
use Rattle.shader_binding.specs.Sets.{SetValue}
use Rattle.buckets.specs.Shopped.{shaded_by}
use Rattle.render.specs.Parts.{part_picture}
use Rattle.render.proofs.Parting.{next_added, next_in_part, all_added}
use Rattle.render.proofs.write_parts.write_each.Goals as goal

pub returns-in_err-drawn_part : goal.returns-in_err-drawn_part
returns-in_err-drawn_part g c =
    let a = shaded_by c.args.scene.now c.args.shop.now in
    let f = c.index-frames-index.result in
    let x = g.O.FrameSink.written c.args.sink.now in
    let y = g.O.FrameSink.written c.loop-index.sink in
    let z = g.O.FrameSink.written c.drawn_part.new.sink in
    record {
      closed = search rules;
      ok = search rules;
      err = next_in_part c.from_residual.result c.args.task a c.frames_in-frames.result.now c.args.scene.now.frames c.loop-index.index f x y z c.frames_in-frames.ensures c.loop-index-test.true c.index-frames-index.is
          c.loop-index.invariant.added
          (subst (λ (s : SetValue). AddsPart (part_picture c.args.task (record { scene = c.args.scene.now; set = s }) (record { place = c.loop-index.index; frame = f })) y z)
          c.loop-index.invariant.set c.in_err-drawn_part.ensures.sink.err);
      later = omega (arith, c.loop-index.invariant.later, c.in_err-drawn_part.ensures.sink.later);
      failed = λ h. rose_after _ _ _ c.loop-index.invariant.later (c.in_err-drawn_part.ensures.sink.failed (search rules));
    }

pub drawn_part-requires-clause-fits : goal.drawn_part-requires-clause-fits
drawn_part-requires-clause-fits g c = subst (λ (s : SetValue). FitsScene s c.args.scene.now) (sym c.loop-index.invariant.set) c.requires.fits

pub loop-index-preserved : goal.loop-index-preserved
loop-index-preserved g c =
    let a = shaded_by c.args.scene.now c.args.shop.now in
    let f = c.index-frames-index.result in
    let x = g.O.FrameSink.written c.args.sink.now in
    let y = g.O.FrameSink.written c.loop-index.sink in
    let z = g.O.FrameSink.written c.drawn_part.new.sink in
    let one = subst (λ (s : SetValue). Adds (whole (part_picture c.args.task (record { scene = c.args.scene.now; set = s }) (record { place = c.loop-index.index; frame = f })) ∷ []) y z)
    c.loop-index.invariant.set c.in_ok-drawn_part.ensures.sink.ok in
    record {
      closed = c.in_ok-drawn_part.ensures.sink.closed;
      added = next_added c.args.task a c.frames_in-frames.result.now c.loop-index.index f x y z c.loop-index-test.true c.index-frames-index.is c.loop-index.invariant.added one;
      later = omega (arith, c.loop-index.invariant.later, c.drawn_part.ensures.sink.later);
      set = c.in_ok-drawn_part.ensures.shop.set ∙ c.loop-index.invariant.set;
      count = omega (arith, c.loop-index.invariant.count, c.in_ok-drawn_part.ensures.shop.count);
    }

pub returns : goal.returns
returns g c =
    record {
      closed = c.loop-index.invariant.closed;
      ok = all_added c.args.task (shaded_by c.args.scene.now c.args.shop.now) c.frames_in-frames.result.now c.args.scene.now.frames c.loop-index.index (g.O.FrameSink.written c.args.sink.now) (g.O.FrameSink.written c.loop-index.sink)
          c.frames_in-frames.ensures (omega (arith, c.loop-index-test.false)) c.loop-index.invariant.added;
      err = tt;
      later = c.loop-index.invariant.later;
      failed = search rules;
    }
