-- The accepted scene of a name, as it is read or refused.
use Rattle.std.proofs.Common.{◌≡◌, ℕ, List, Option, Some, None, Result, Ok, Err, refl, sym, ap, ◌∙◌, subst}
use Rattle.std.specs.Prelude.{IsErrAnd, IsErrOf}
use Rattle.outside.specs.Causes.{Told}
use Rattle.outside.specs.Library.{Files, held_as}
use Rattle.shader_binding.specs.Sets.{AcceptedValue}
use Rattle.acceptance.specs.Causes.{Reads, Missing, cause_in}
use Rattle.acceptance.specs.Answers.{Because}
use Rattle.acceptance.specs.Accepting.{accepted}
use Rattle.acceptance.specs.declared.refusal.Refusal.{Refusal}
use Rattle.acceptance.specs.declared.refusal.Refusal.TheVariants as refusals
use Rattle.render.specs.Verdict.{text_of_held}
use Rattle.render.specs.declared.accepted.Accepted.{Accepted}
use Rattle.why_run.specs.Verdict.{scene_of_read, scene_named}
use Rattle.why_run.specs.Answers.{GivesScene}
use Rattle.why_run.specs.declared.stop.Stop.{Stop}
use Rattle.why_run.specs.declared.stop.Stop.TheVariants.{Refused}

-- what holds of the accepted scene of the text that is read holds of that of the name
pub of_text : (held held_then : Option Files) (name text seen : List ℕ) (P : Reads AcceptedValue → Type 0) → held_then ≡ held → seen ≡ text
    → Told held (λ files. text_of_held name (held_as files name) ≡ Ok text) → Told held_then (λ files. P (accepted files seen)) → Told held (λ files. P (scene_named name files))
of_text None held_then name text seen P same reads is g = tt
of_text (Some files) held_then name text seen P same reads is g =
    let told : Told (Some files) (λ fs. P (accepted fs seen)) = subst (λ (h : Option Files). Told h (λ fs. P (accepted fs seen))) same g in
    subst P (sym (ap (scene_of_read files) is)) (subst (λ (t : List ℕ). P (accepted files t)) reads told)

-- there is no file of the name
pub of_none : (held : Option Files) (name : List ℕ) → Told held (λ files. text_of_held name (held_as files name) ≡ Err (Missing name))
    → Told held (λ files. scene_named name files ≡ Err (Missing name))
of_none None name is = tt
of_none (Some files) name is = ap (scene_of_read files) is

because_of : (files : Files) (r : Refusal) (read : Reads (List ℕ)) → Because r (cause_in read) → Because r (cause_in (scene_of_read files read))
because_of files r (Err cause) b = b
because_of files (refusals.Missing file) (Ok text) b = absurd (cc b)
because_of files (refusals.At file line code) (Ok text) b = absurd (cc b)
because_of files refusals.ReadFault (Ok text) b = tt
because_of files refusals.NoMemory (Ok text) b = tt

refusal_gives : (name : List ℕ) (result : Result Accepted Stop) (r : Refusal) (read : Reads AcceptedValue) → IsErrAnd result (λ e. e ≡ Refused r) → Because r (cause_in read)
    → GivesScene name result read
refusal_gives name (Ok a) r read is b = absurd is
refusal_gives name (Err s) r read is b = subst (λ (t : Stop). GivesScene name (Err t) read) (sym is) b

-- the scene is refused
pub scene_refused : (held : Option Files) (name : List ℕ) (result : Result Accepted Stop) (r : Refusal) → IsErrAnd result (λ e. e ≡ Refused r)
    → Told held (λ files. Because r (cause_in (scene_named name files))) → Told held (λ files. GivesScene name result (scene_named name files))
scene_refused None name result r is b = tt
scene_refused (Some files) name result r is b = refusal_gives name result r (scene_named name files) is b

same_refusal : (r s : Refusal) → Refused r ≡ Refused s → r ≡ s
same_refusal r s e = cc e

same_error : {A : Type 0} (result : Result A Stop) (s t : Stop) → result ≡ Err s → result ≡ Err t → s ≡ t
same_error result s t is e = cc (is, e)

-- a result that is a read fault is that of the refusal that is handed on
pub fault_read : {A : Type 0} (result : Result A Stop) (r : Refusal) → IsErrAnd result (λ e. e ≡ Refused r) → IsErrOf result (Refused refusals.ReadFault) → r ≡ refusals.ReadFault
fault_read (Ok a) r is e = absurd is
fault_read (Err s) r is e = same_refusal r refusals.ReadFault (sym is ∙ same_error (Err s) s (Refused refusals.ReadFault) refl e)
