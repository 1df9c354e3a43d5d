use Rattle.std.proofs.Common.{◌≡◌, ◌≤◌, Some, ap, subst}
use Rattle.std.proofs.lemmas.Result.{IfOk-weaker}
use Rattle.outside.specs.HeldFrames.{HeldFrames}
use Rattle.render.specs.Run.{HasStatus, AddsFrames, AddsFirstFrames}
use Rattle.conformance.specs.Names.{texts}
use Rattle.conformance.specs.Answer.{answer_text, Answers}
use Rattle.conformance.proofs.Answering.{answer_is}
use Rattle.conformance.proofs.answer.answer.Goals as goal

pub returns : goal.returns
returns c =
    let name = c.args.case.name.now in
    let words = texts c.args.case.words.items in
    let files = c.args.case.library.files in
    let status = c.run-status.result in
    let notes = c.text.result.now in
    let old = c.in_ok-frames.frames.written in
    let new = c.run-status.new.frames.written in
    let run = c.run-status.ensures in
    let same = c.deref.ensures.value in
    IfOk-weaker c.lines.result (λ t. t.items ≡ answer_text name status notes new) (λ t. Answers name words files t.items)
    (λ t is. answer_is name words files status notes t.items old new (ap (λ (held : HeldFrames). held.written) c.in_ok-frames.ensures) is
    (subst (λ ws. status ≤ 6 → HasStatus (texts ws) files status) same run.verdict)
    (subst (λ ws. status ≡ 0 → AddsFrames (texts ws) files (Some old) (Some new)) same run.done)
    (subst (λ ws. AddsFirstFrames (texts ws) files (Some old) (Some new)) same run.left)
    run.before) c.lines.ensures
