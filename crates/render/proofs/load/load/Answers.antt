use Rattle.std.proofs.Common.{subst, Ok, ◌∙◌, arith, rules}
use Rattle.outside.proofs.Stepping.{rose_after}
use Rattle.outside.specs.Causes.{Told}
use Rattle.command_line.specs.Command.{source_view, scene_view}
use Rattle.render.specs.Verdict.{text_of_source}
use Rattle.render.specs.Notes.{scene_name}
use Rattle.render.specs.Answers.{GivesText}
use Rattle.render.proofs.Loading.{scene_asked, text_asked_too}
use Rattle.render.proofs.load.load.Goals as goal

pub returns-in_err-scene_text-clause-library : goal.returns-in_err-scene_text-clause-library
returns-in_err-scene_text-clause-library g c =
    let l = c.in_err-scene_text.ensures.library in
    record {
      held = l.held;
      asked = scene_asked (g.L.Library.held c.args.library.now) (scene_view c.args.command.now) _ _ l.asked;
      later = l.later;
      read = λ h. l.read (search rules);
    }

pub returns-in-None-clause-library : goal.returns-in-None-clause-library
returns-in-None-clause-library g c =
    let l = c.in_ok-scene_text.ensures.library in
    record {
      held = l.held;
      asked = scene_asked (g.L.Library.held c.args.library.now) (scene_view c.args.command.now) _ _ l.asked;
      later = l.later;
      read = search rules;
    }

pub returns-in_err-accepted-in-Some-clause-library : goal.returns-in_err-accepted-in-Some-clause-library
returns-in_err-accepted-in-Some-clause-library g c =
    let l = c.in_ok-scene_text.ensures.library in
    let k = c.in_err-accepted-in-Some.ensures.library in
    record {
      held = k.held ∙ l.held;
      asked = text_asked_too (g.L.Library.held c.args.library.now) (g.L.Library.held c.scene_text.new.library) (scene_view c.args.command.now) c.in-Some.text.items c.deref.result.now
          (g.L.Library.asked c.args.library.now) (g.L.Library.asked c.scene_text.new.library) (g.L.Library.asked c.accept.new.library) c.scene_text.ensures.library.held c.deref.ensures.value
          (subst (λ t. Told (g.L.Library.held c.args.library.now) (λ files. GivesText (scene_name (source_view c.args.command.now.source)) (Ok t) (text_of_source files (source_view c.args.command.now.source))))
          c.in-Some.is c.in_ok-scene_text.ensures.gives)
          c.in_ok-scene_text.ensures.library.asked_all c.accept.ensures.library.asked;
      later = omega (arith, l.later, k.later);
      read = λ h. rose_after _ _ _ l.later (k.read (search rules));
    }

pub returns-in_ok-accepted-in-Some-clause-library : goal.returns-in_ok-accepted-in-Some-clause-library
returns-in_ok-accepted-in-Some-clause-library g c =
    let l = c.in_ok-scene_text.ensures.library in
    let k = c.in_ok-accepted-in-Some.ensures.library in
    record {
      held = k.held ∙ l.held;
      asked = text_asked_too (g.L.Library.held c.args.library.now) (g.L.Library.held c.scene_text.new.library) (scene_view c.args.command.now) c.in-Some.text.items c.deref.result.now
          (g.L.Library.asked c.args.library.now) (g.L.Library.asked c.scene_text.new.library) (g.L.Library.asked c.accept.new.library) c.scene_text.ensures.library.held c.deref.ensures.value
          (subst (λ t. Told (g.L.Library.held c.args.library.now) (λ files. GivesText (scene_name (source_view c.args.command.now.source)) (Ok t) (text_of_source files (source_view c.args.command.now.source))))
          c.in-Some.is c.in_ok-scene_text.ensures.gives)
          c.in_ok-scene_text.ensures.library.asked_all c.accept.ensures.library.asked;
      later = omega (arith, l.later, k.later);
      read = search rules;
    }
