use Rattle.std.proofs.Common.{◌≡◌, ◌<◌, ◌∷◌, [], ◌∙◌, ap, sym, subst, List, length, arith, rules}
use Rattle.std.specs.Prelude.{option_map, string_bytes}
use Rattle.outside.specs.Frames.{whole, Adds}
use Rattle.outside.proofs.Entries.{adds-next}
use Rattle.outside.proofs.Puts.{on_err}
use Rattle.outside.proofs.Stepping.{rose_after}
use Rattle.render.proofs.Courses.{says-next-line}
use Rattle.render.specs.Summary.{summary_of}
use Rattle.render.specs.Answers.{LeavesFrame, DrawsInPart}
use Rattle.render.proofs.Obeying.{draws-in-part, of-error}
use Rattle.scene.specs.Scene.{FrameValue}
use Rattle.shader_binding.specs.Sets.{SetValue}
use Rattle.acceptance.specs.PrimFit.{FitsScene}
use Rattle.buckets.specs.Pictures.{picture_of}
use Rattle.buckets.specs.Shopped.{shaded_by}
use Rattle.render.proofs.write.write_frames.Goals as goal

pub finished-requires-clause-fits : goal.finished-requires-clause-fits
finished-requires-clause-fits g c = subst (λ (s : SetValue). FitsScene s c.args.scene.now) (sym c.loop-index.invariant.set) c.requires.fits

pub finished-requires-clause-count : goal.finished-requires-clause-count
finished-requires-clause-count g c =
    let low : c.loop-index.index < length c.frames_in-frames.result.now = c.loop-index-test.true in
    let same = ap (λ (fs : List FrameValue). length fs) c.frames_in-frames.ensures in
    omega (arith, low, same, c.requires.fits.few, c.loop-index.invariant.count)

pub finished-requires-clause-epochs : goal.finished-requires-clause-epochs
finished-requires-clause-epochs g c =
    let low : c.loop-index.index < length c.frames_in-frames.result.now = c.loop-index-test.true in
    let same = ap (λ (fs : List FrameValue). length fs) c.frames_in-frames.ensures in
    omega (arith, low, same, c.requires.fits.few, c.loop-index.invariant.epochs)

pub loop-index-preserved : goal.loop-index-preserved
loop-index-preserved g c =
    let a = shaded_by c.args.scene.now c.args.shop.now in
    let f = c.index-frames-index.result in
    let first = g.O.FrameSink.written c.args.sink.now in
    let before = g.O.FrameSink.written c.loop-index.sink in
    let behind = g.O.FrameSink.written c.finished.new.sink in
    let one = subst (λ (s : SetValue). Adds (whole (picture_of (record { scene = c.args.scene.now; set = s }) f) ∷ []) before behind) c.loop-index.invariant.set c.in_ok-line.ensures.sink.ok in
    let line : option_map string_bytes c.in_ok-line.line ≡ summary_of c.args.options a f =
    subst (λ (s : SetValue). option_map string_bytes c.in_ok-line.line ≡ summary_of c.args.options (record { scene = c.args.scene.now; set = s }) f) c.loop-index.invariant.set c.in_ok-line.ensures.summary in
    record {
      closed = c.in_ok-line.ensures.sink.closed;
      added = adds-next (picture_of a) c.frames_in-frames.result.now c.loop-index.index f first before behind c.loop-index-test.true c.index-frames-index.is c.loop-index.invariant.added one;
      says = says-next-line (summary_of c.args.options a) c.frames_in-frames.result.now c.loop-index.index f (option_map string_bytes c.in_ok-line.line) _ _ _ _ _ _
          c.loop-index-test.true c.index-frames-index.is line c.loop-index.invariant.says c.tell.ensures;
      later = omega (arith, c.loop-index.invariant.later, c.finished.ensures.sink.later);
      set = c.in_ok-line.ensures.shop.set ∙ c.loop-index.invariant.set;
      count = omega (arith, c.loop-index.invariant.count, c.in_ok-line.ensures.shop.count);
      epochs = omega (arith, c.loop-index.invariant.epochs, c.in_ok-line.ensures.epochs);
    }

pub returns-in_err-line-clause-sink : goal.returns-in_err-line-clause-sink
returns-in_err-line-clause-sink g c =
    let a = shaded_by c.args.scene.now c.args.shop.now in
    let f = c.index-frames-index.result in
    let first = g.O.FrameSink.written c.args.sink.now in
    let before = g.O.FrameSink.written c.loop-index.sink in
    let behind = g.O.FrameSink.written c.finished.new.sink in
    let o = c.args.options in
    let fault = c.in_err-line.field-0.0 in
    let left = subst (λ (s : SetValue). LeavesFrame fault (picture_of (record { scene = c.args.scene.now; set = s }) f) before behind) c.loop-index.invariant.set c.in_err-line.ensures.sink.err in
    record {
      closed = search rules;
      ok = search rules;
      err = on_err _ _ (of-error c.from_residual.result fault (λ e. DrawsInPart o a e first behind _ _ _ _) c.from_residual.ensures.1
          (draws-in-part o a fault c.frames_in-frames.result.now c.loop-index.index f first before behind _ _ _ _ c.frames_in-frames.ensures c.loop-index-test.true c.index-frames-index.is
          c.loop-index.invariant.added left c.loop-index.invariant.says));
      later = omega (arith, c.loop-index.invariant.later, c.in_err-line.ensures.sink.later);
      failed = λ h. rose_after _ _ _ c.loop-index.invariant.later (c.in_err-line.ensures.sink.failed (search rules));
    }
