use Rattle.std.proofs.Common.{arith, rules}
use Rattle.outside.proofs.Puts.{on_err}
use Rattle.buckets.specs.Shopped.{shaded_by}
use Rattle.buckets.specs.Pictures.{picture_of}
use Rattle.render.proofs.Courses.{part-left, whole-left}
use Rattle.render.proofs.write.finished.Goals as goal

pub returns-in_err-done-clause-sink : goal.returns-in_err-done-clause-sink
returns-in_err-done-clause-sink g c =
    let p = picture_of (shaded_by c.args.shown.now.scene.now c.args.shop.now) c.args.shown.now.frame.now in
    let s = c.in_err-done.ensures.sink in
    record { closed = search rules; ok = search rules; err = on_err c.from_residual.result _ (part-left c.from_residual.result p _ _ s.err); later = s.later; failed = λ h. s.failed (search rules) }

pub returns-in_err-line_of-clause-sink : goal.returns-in_err-line_of-clause-sink
returns-in_err-line_of-clause-sink g c =
    let p = picture_of (shaded_by c.args.shown.now.scene.now c.args.shop.now) c.args.shown.now.frame.now in
    let s = c.in_ok-done.ensures.sink in
    record { closed = search rules; ok = search rules; err = on_err c.from_residual-in_err-line_of.result _ (whole-left c.from_residual-in_err-line_of.result p _ _ c.from_residual-in_err-line_of.ensures.1 s.ok); later = s.later; failed = search rules }
