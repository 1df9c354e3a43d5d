use Rattle.std.proofs.Common.{refl, subst}
use Rattle.std.specs.Prelude.{IfErr}
use Rattle.outside.specs.Causes.{Told}
use Rattle.command_line.specs.Texts.{texts}
use Rattle.why_words.specs.Question.{question_of}
use Rattle.why_run.specs.Verdict.{verdict_of, name_of}
use Rattle.why_run.specs.Answers.{IsOf}
use Rattle.why_run.specs.Run.{Answers}
use Rattle.why_run.proofs.Running.{told_line, told_done, done_line, done_complete, one_stop, on_ok_is}
use Rattle.why_run.proofs.program.run.Goals as goal

pub returns-in-Ok-clause-verdict : goal.returns-in-Ok-clause-verdict
returns-in-Ok-clause-verdict g c = λ _.
    let held = g.L.Library.held c.args.library.now in
    let v = verdict_of (texts c.args.words.now) in
    let o = g.O.Notes.lines c.args.output.now in
    let p = g.O.Notes.lines c.carried_out-answer.new.output in
    told_done held v o p (on_ok_is c.carried_out-answer.result.0 _ (Told held (λ files. Answers (v files) o p)) c.in-Ok.is c.carried_out-answer.ensures.done)

pub returns-in-Ok-clause-complete : goal.returns-in-Ok-clause-complete
returns-in-Ok-clause-complete g c = λ _ _.
    let held = g.L.Library.held c.args.library.now in
    let v = verdict_of (texts c.args.words.now) in
    let o = g.O.Notes.lines c.args.output.now in
    let p = g.O.Notes.lines c.carried_out-answer.new.output in
    done_complete held v o p 0 9 refl (on_ok_is c.carried_out-answer.result.0 _ (Told held (λ files. Answers (v files) o p)) c.in-Ok.is c.carried_out-answer.ensures.done)

pub returns-in-Ok-clause-says : goal.returns-in-Ok-clause-says
returns-in-Ok-clause-says g c =
    let held = g.L.Library.held c.args.library.now in
    let v = verdict_of (texts c.args.words.now) in
    let o = g.O.Notes.lines c.args.output.now in
    let p = g.O.Notes.lines c.carried_out-answer.new.output in
    done_line held (name_of (question_of (texts c.args.words.now))) v o p _ _
    (on_ok_is c.carried_out-answer.result.0 _ (Told held (λ files. Answers (v files) o p)) c.in-Ok.is c.carried_out-answer.ensures.done)

pub returns-in-Err-clause-says : goal.returns-in-Err-clause-says
returns-in-Err-clause-says g c =
    let held = g.L.Library.held c.args.library.now in
    let name = name_of (question_of (texts c.args.words.now)) in
    let v = verdict_of (texts c.args.words.now) in
    told_line held name c.carried_out-answer.result.1.now c.in-Err.stop v c.tell.result _ _ _ _
    (subst (λ r. IfErr r (λ s. Told held (λ files. IsOf name s (v files)))) c.in-Err.is c.carried_out-answer.ensures.stopped)
    (λ isnt. c.carried_out-answer.ensures.named (λ e. isnt (one_stop c.carried_out-answer.result.0 _ _ c.in-Err.is e))) c.tell.ensures.tells
