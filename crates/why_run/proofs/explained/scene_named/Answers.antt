use Rattle.std.proofs.Common.{◌≡◌, Ok, Err, ap, ◌∙◌, subst, arith, rules}
use Rattle.outside.proofs.Stepping.{rose_after}
use Rattle.outside.specs.Causes.{Told}
use Rattle.outside.specs.Library.{held_as}
use Rattle.shader_binding.specs.Sets.{AcceptedValue}
use Rattle.acceptance.specs.Causes.{Reads, cause_in}
use Rattle.acceptance.specs.Answers.{Because}
use Rattle.acceptance.specs.declared.refusal.Refusal.{Refusal}
use Rattle.render.specs.Verdict.{text_of_held}
use Rattle.render.specs.Answers.{GivesText, accepted_in}
use Rattle.why_run.proofs.Asking.{file_asked, all_asked}
use Rattle.why_run.proofs.Giving.{of_text, of_none, scene_refused, fault_read}
use Rattle.why_run.proofs.explained.scene_named.Goals as goal

pub returns-in_err-text-clause-library : goal.returns-in_err-text-clause-library
returns-in_err-text-clause-library g c =
    let l = c.in_err-text.ensures.library in
    record {
      held = l.held;
      asked = file_asked (g.L.Library.held c.args.library.now) c.args.name.now _ _ l.asked;
      later = l.later;
      read = λ h. l.read (ap (λ (q : Refusal). Err q) (fault_read c.from_residual.result _ c.from_residual.ensures.1 h));
    }

pub returns-in-None-clause-gives : goal.returns-in-None-clause-gives
returns-in-None-clause-gives g c =
    let held = g.L.Library.held c.args.library.now in
    let name = c.args.name.now in
    of_none held name (subst (λ t. Told held (λ files. GivesText name (Ok t) (text_of_held name (held_as files name)))) c.in-None.is c.in_ok-text.ensures.gives)

pub returns-in-None-clause-library : goal.returns-in-None-clause-library
returns-in-None-clause-library g c =
    let l = c.in_ok-text.ensures.library in
    record {
      held = l.held;
      asked = file_asked (g.L.Library.held c.args.library.now) c.args.name.now _ _ l.asked;
      later = l.later;
      read = search rules;
    }

pub returns-in_err-accept-in-Some-clause-gives : goal.returns-in_err-accept-in-Some-clause-gives
returns-in_err-accept-in-Some-clause-gives g c =
    let held = g.L.Library.held c.args.library.now in
    let name = c.args.name.now in
    scene_refused held name c.from_residual-in_err-accept-in-Some.result _ c.from_residual-in_err-accept-in-Some.ensures.1
    (of_text held (g.L.Library.held c.fetch_text.new.library) name c.in-Some.text.items c.deref.result.now (λ (read : Reads AcceptedValue). Because c.in_err-accept-in-Some.field-0.0 (cause_in read)) c.fetch_text.ensures.library.held c.deref.ensures.value
    (subst (λ t. Told held (λ files. GivesText name (Ok t) (text_of_held name (held_as files name)))) c.in-Some.is c.in_ok-text.ensures.gives) c.in_err-accept-in-Some.ensures.gives)

pub returns-in_err-accept-in-Some-clause-library : goal.returns-in_err-accept-in-Some-clause-library
returns-in_err-accept-in-Some-clause-library g c =
    let held = g.L.Library.held c.args.library.now in
    let name = c.args.name.now in
    let l = c.in_ok-text.ensures.library in
    let k = c.in_err-accept-in-Some.ensures.library in
    record {
      held = k.held ∙ l.held;
      asked = all_asked held (g.L.Library.held c.fetch_text.new.library) name c.in-Some.text.items c.deref.result.now
          (g.L.Library.asked c.args.library.now) (g.L.Library.asked c.fetch_text.new.library) (g.L.Library.asked c.accept.new.library) c.fetch_text.ensures.library.held c.deref.ensures.value
          (subst (λ t. Told held (λ files. GivesText name (Ok t) (text_of_held name (held_as files name)))) c.in-Some.is c.in_ok-text.ensures.gives)
          c.in_ok-text.ensures.library.asked_all c.accept.ensures.library.asked;
      later = omega (arith, l.later, k.later);
      read = λ h. rose_after _ _ _ l.later (k.read (ap (λ (q : Refusal). Err q) (fault_read c.from_residual-in_err-accept-in-Some.result _ c.from_residual-in_err-accept-in-Some.ensures.1 h)));
    }

pub returns-in_ok-accept-in-Some-clause-gives : goal.returns-in_ok-accept-in-Some-clause-gives
returns-in_ok-accept-in-Some-clause-gives g c =
    let held = g.L.Library.held c.args.library.now in
    let name = c.args.name.now in
    of_text held (g.L.Library.held c.fetch_text.new.library) name c.in-Some.text.items c.deref.result.now (λ (read : Reads AcceptedValue). read ≡ Ok (accepted_in c.in_ok-accept-in-Some.field-0)) c.fetch_text.ensures.library.held c.deref.ensures.value
    (subst (λ t. Told held (λ files. GivesText name (Ok t) (text_of_held name (held_as files name)))) c.in-Some.is c.in_ok-text.ensures.gives) c.in_ok-accept-in-Some.ensures.gives

pub returns-in_ok-accept-in-Some-clause-library : goal.returns-in_ok-accept-in-Some-clause-library
returns-in_ok-accept-in-Some-clause-library g c =
    let held = g.L.Library.held c.args.library.now in
    let name = c.args.name.now in
    let l = c.in_ok-text.ensures.library in
    let k = c.in_ok-accept-in-Some.ensures.library in
    record {
      held = k.held ∙ l.held;
      asked = all_asked held (g.L.Library.held c.fetch_text.new.library) name c.in-Some.text.items c.deref.result.now
          (g.L.Library.asked c.args.library.now) (g.L.Library.asked c.fetch_text.new.library) (g.L.Library.asked c.accept.new.library) c.fetch_text.ensures.library.held c.deref.ensures.value
          (subst (λ t. Told held (λ files. GivesText name (Ok t) (text_of_held name (held_as files name)))) c.in-Some.is c.in_ok-text.ensures.gives)
          c.in_ok-text.ensures.library.asked_all c.accept.ensures.library.asked;
      later = omega (arith, l.later, k.later);
      read = search rules;
    }
