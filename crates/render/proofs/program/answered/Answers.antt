use Rattle.std.proofs.Common.{◌≡◌, sym, subst, Option, Some, option_map}
use Rattle.outside.specs.Causes.{Told}
use Rattle.outside.specs.Asked.{AsksFront}
use Rattle.command_line.specs.Texts.{texts}
use Rattle.command_line.specs.Command.{Command, command_of, command_view}
use Rattle.command_line.specs.declared.command.Command as code
use Rattle.render.specs.Verdict.{asked_for_command}
use Rattle.render.proofs.Obeying.{obeys-nothing, obeys-usage}
use Rattle.render.proofs.program.answered.Goals as goal

pub returns-in-Err-clause-course : goal.returns-in-Err-clause-course
returns-in-Err-clause-course g c = obeys-nothing (command_of (texts c.args.words.now)) (g.L.Library.held c.args.library.now) _ _ _

pub returns-in-Ok-Some-clause-library : goal.returns-in-Ok-Some-clause-library
returns-in-Ok-Some-clause-library g c =
    let held = g.L.Library.held c.args.library.now in
    let before = g.L.Library.asked c.args.library.now in
    let then = g.L.Library.asked c.carried_out.new.library in
    let is : option_map command_view (Some c.in-Ok-Some.command) ≡ command_of (texts c.args.words.now) =
    subst (λ (o : Option code.Command). option_map command_view o ≡ command_of (texts c.args.words.now)) c.in-Ok-Some.field-0-is c.in-Ok-Some.ensures.command in
    let l = c.carried_out.ensures.library in
    record {
      held = l.held;
      asked = subst (λ (command : Option Command). Told held (λ files. AsksFront (asked_for_command command files) before then)) is l.asked;
      later = l.later;
      read = l.read;
    }

pub returns-in-Ok-None-clause-course : goal.returns-in-Ok-None-clause-course
returns-in-Ok-None-clause-course g c =
    obeys-usage (command_of (texts c.args.words.now)) (g.L.Library.held c.args.library.now) _ _ _
    (sym (subst (λ (o : Option code.Command). option_map command_view o ≡ command_of (texts c.args.words.now)) c.in-Ok-None.field-0-is c.in-Ok-None.ensures.command))
