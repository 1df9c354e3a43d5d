use Rattle.std.proofs.Common.{Some, ap, ◌∙◌}
use Rattle.std.specs.Prelude.{not, string_bytes}
use Rattle.render.specs.Answers.{accepted_in}
use Rattle.why_words.specs.Question.{question_view}
use Rattle.why_run.specs.Verdict.{frame_asked, verdict_of_question}
use Rattle.why_run.proofs.Answering.{answered, some_there, stopped, stop_told}
use Rattle.why_run.proofs.explained.answer.Goals as goal

pub returns-in_err-accepted-clause-gives : goal.returns-in_err-accepted-clause-gives
returns-in_err-accepted-clause-gives g c =
    let held = g.L.Library.held c.args.library.now in
    let q = question_view c.args.question.now in
    let s = c.in_err-accepted.field-0.0 in
    stop_told held q.name c.from_residual.result s (verdict_of_question (Some q)) c.from_residual.ensures.1 (stopped held q s c.in_err-accepted.ensures.gives)

pub returns-clause-gives : goal.returns-clause-gives
returns-clause-gives g c =
    let q = question_view c.args.question.now in
    let a = accepted_in c.in_ok-accepted.accepted in
    answered (g.L.Library.held c.args.library.now) q a c.in_ok-account.account (string_bytes c.in_ok-account_text.field-0) c.in_ok-accepted.ensures.gives
    (some_there c.frame_asked.result (λ f. f.now) (frame_asked q a.scene.frames) c.frame_asked.ensures (c.is_none.ensures ∙ ap not c.if-is_none.false))
    c.in_ok-account.ensures c.in_ok-account_text.ensures
