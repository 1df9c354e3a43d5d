use Rattle.std.proofs.Common.{◌≡◌, ◌+◌, ◌-◌, refl, arith, rules, ap, ◌∙◌, subst, ℕ, List, [], ◌∷◌, length, length-append, Option, Ok}
use Rattle.outside.specs.Causes.{Told}
use Rattle.outside.specs.Library.{Files, held_as}
use Rattle.outside.proofs.Asking.{asks_all-none}
use Rattle.outside.proofs.Stepping.{rose_after}
use Rattle.part_files.specs.Parts.{part_name, part_within, total_length}
use Rattle.part_files.proofs.Joining.{none_read, none_asked, more_texts, more_room, asked_more, asked_last, asked_some, unread_parts}
use Rattle.part_files.proofs.join.fetch_parts.Goals as goal

pub loop-part-init : goal.loop-part-init
loop-part-init g c =
    let held = g.L.Library.held c.args.library.now in
    let asked = g.L.Library.asked c.args.library.now in
    record {
      held = refl;
      read = none_read held c.args.name.now c.new-texts.result.items c.new-texts.ensures.items;
      count = ap (λ (ts : List (List ℕ)). length ts) c.new-texts.ensures.items;
      room = ap (λ (ts : List (List ℕ)). 134217728 + total_length ts) c.new-texts.ensures.items;
      asked = none_asked held c.args.name.now asked (asks_all-none asked);
      later = omega arith;
    }

pub returns-in_err-text-clause-library : goal.returns-in_err-text-clause-library
returns-in_err-text-clause-library g c =
    let i = c.loop-part.invariant in
    let l = c.in_err-text.ensures.library in
    record {
      held = l.held ∙ i.held;
      asked = asked_last (g.L.Library.held c.args.library.now) c.args.name.now c.loop-part.part c.args.count c.loop-part.texts.items _ _ _ c.loop-part-test.true i.read i.asked l.asked;
      later = omega (arith, i.later, l.later);
      read = λ h. rose_after _ _ _ i.later (l.read (search rules));
    }

pub returns-in_err-text-clause-gives : goal.returns-in_err-text-clause-gives
returns-in_err-text-clause-gives g c =
    let i = c.loop-part.invariant in
    unread_parts (g.L.Library.held c.args.library.now) _ c.args.name.now c.loop-part.part c.args.count c.loop-part.room c.loop-part.texts.items _ c.in_err-text.field-0.0
    c.from_residual.ensures.1 i.held c.loop-part-test.true i.read i.room c.in_err-text.ensures.gives

pub returns-in_err-push-clause-library : goal.returns-in_err-push-clause-library
returns-in_err-push-clause-library g c =
    let i = c.loop-part.invariant in
    let l = c.fetch_part.ensures.library in
    record {
      held = l.held ∙ i.held;
      asked = asked_last (g.L.Library.held c.args.library.now) c.args.name.now c.loop-part.part c.args.count c.loop-part.texts.items _ _ _ c.loop-part-test.true i.read i.asked l.asked;
      later = omega (arith, i.later, l.later);
      read = search rules;
    }

pub loop-part-preserved : goal.loop-part-preserved
loop-part-preserved g c =
    let i = c.loop-part.invariant in
    let held = g.L.Library.held c.args.library.now in
    let name = c.args.name.now in
    let n = c.loop-part.part in
    let texts = c.loop-part.texts.items in
    let text = c.in_ok-text.text.items in
    let same : c.in_ok-text.text.len ≡ length text = c.in_ok-text.text.ok.0 in
    let long : c.len.result ≡ c.in_ok-text.text.len = c.len.ensures in
    let read : Told held (λ files. part_within c.loop-part.room n (held_as files (part_name name n)) ≡ Ok text) =
    subst (λ (h : Option Files). Told h (λ files. part_within c.loop-part.room n (held_as files (part_name name n)) ≡ Ok text)) i.held c.in_ok-text.ensures.gives in
    record {
      held = c.fetch_part.ensures.library.held ∙ i.held;
      read = more_texts held name n c.loop-part.room texts _ text i.read i.room read c.in_ok-push.ensures.items;
      count = omega (arith, ap (λ (ts : List (List ℕ)). length ts) c.in_ok-push.ensures.items, length-append texts (text ∷ []), i.count);
      room = more_room c.loop-part.room _ texts _ text i.room c.in_ok-text.ensures.size (ap (λ k. c.loop-part.room - k) (long ∙ same)) c.in_ok-push.ensures.items;
      asked = asked_more held name n texts _ _ _ i.read i.asked c.in_ok-text.ensures.library.asked_all;
      later = omega (arith, i.later, c.fetch_part.ensures.library.later);
    }

pub returns-clause-library : goal.returns-clause-library
returns-clause-library g c =
    let i = c.loop-part.invariant in
    record {
      held = i.held;
      asked = asked_some (g.L.Library.held c.args.library.now) c.args.name.now c.loop-part.part c.args.count _ _ (omega (arith, c.loop-part.auto.part-end)) i.asked;
      later = i.later;
      read = search rules;
    }
