use Rattle.std.proofs.Common.{◌≡◌, Option, option_map, ap, sym, subst}
use Rattle.std.specs.Prelude.{OnOk, IfErr}
use Rattle.outside.specs.Asked.{AsksFront}
use Rattle.outside.specs.Causes.{Told}
use Rattle.command_line.specs.Texts.{texts}
use Rattle.why_words.specs.Question.{Question, question_of, question_view}
use Rattle.why_words.specs.declared.question.Question as code
use Rattle.why_run.specs.Verdict.{verdict_of_question, name_of, asked_for_question}
use Rattle.why_run.specs.Answers.{IsOf}
use Rattle.why_run.specs.Run.{Answers}
use Rattle.why_run.proofs.Running.{usage_of}
use Rattle.why_run.proofs.program.carried_out.Goals as goal

pub returns-in-Ok-Some-clause-done : goal.returns-in-Ok-Some-clause-done
returns-in-Ok-Some-clause-done g c =
    let is = subst (λ (o : Option code.Question). option_map question_view o ≡ question_of (texts c.args.words.now)) c.in-Ok-Some.field-0-is c.in-Ok-Some.ensures.question in
    let held = g.L.Library.held c.args.library.now in
    subst (λ (o : Option Question). OnOk c.answered.result (Told held (λ files. Answers (verdict_of_question o files) (g.O.Notes.lines c.args.output.now) (g.O.Notes.lines c.answered.new.output)))) is c.answered.ensures.done

pub returns-in-Ok-Some-clause-stopped : goal.returns-in-Ok-Some-clause-stopped
returns-in-Ok-Some-clause-stopped g c =
    let is = subst (λ (o : Option code.Question). option_map question_view o ≡ question_of (texts c.args.words.now)) c.in-Ok-Some.field-0-is c.in-Ok-Some.ensures.question in
    let held = g.L.Library.held c.args.library.now in
    subst (λ (o : Option Question). IfErr c.answered.result (λ s. Told held (λ files. IsOf (name_of o) s (verdict_of_question o files)))) is c.answered.ensures.stopped

pub returns-in-Ok-Some-clause-named : goal.returns-in-Ok-Some-clause-named
returns-in-Ok-Some-clause-named g c = λ _.
    let is = subst (λ (o : Option code.Question). option_map question_view o ≡ question_of (texts c.args.words.now)) c.in-Ok-Some.field-0-is c.in-Ok-Some.ensures.question in
    ap name_of is

pub returns-in-Ok-Some-clause-library : goal.returns-in-Ok-Some-clause-library
returns-in-Ok-Some-clause-library g c =
    let is = subst (λ (o : Option code.Question). option_map question_view o ≡ question_of (texts c.args.words.now)) c.in-Ok-Some.field-0-is c.in-Ok-Some.ensures.question in
    let held = g.L.Library.held c.args.library.now in
    let l = c.answered.ensures.library in
    record {
      held = l.held;
      asked = subst (λ (o : Option Question). Told held (λ files. AsksFront (asked_for_question o files) (g.L.Library.asked c.args.library.now) (g.L.Library.asked c.answered.new.library))) is l.asked;
      later = l.later;
      read = l.read;
    }

pub returns-in-Ok-None-clause-stopped : goal.returns-in-Ok-None-clause-stopped
returns-in-Ok-None-clause-stopped g c =
    let is = subst (λ (o : Option code.Question). option_map question_view o ≡ question_of (texts c.args.words.now)) c.in-Ok-None.field-0-is c.in-Ok-None.ensures.question in
    usage_of (g.L.Library.held c.args.library.now) (name_of (question_of (texts c.args.words.now))) (question_of (texts c.args.words.now)) (sym is)
