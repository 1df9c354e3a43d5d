-- Where nothing failed, the answer is the verdict's.
use Rattle.std.proofs.Common.{◌≡◌, refl, sym, ap, ◌∙◌, subst, ℕ, ◌⊎◌, inl, inr, ⊎_elim, List, Option, Some, None, true, false}
use Rattle.outside.specs.Causes.{Told}
use Rattle.outside.specs.Library.{Files}
use Rattle.command_line.specs.Command.{Command}
use Rattle.render.specs.declared.program.Answer.{Answer}
use Rattle.render.specs.declared.program.Answer.TheVariants as answers
use Rattle.acceptance.specs.declared.refusal.Refusal.TheVariants as refusals
use Rattle.render.specs.Verdict.{Verdict, Usage, Refused, Unjoined, Accepted, Entries, IsVerdict, status_of}
use Rattle.render.specs.Run.{is_accepted}
use Rattle.render.specs.Answers.{IsOf, Fails, Knows, number_of}
use Rattle.render.proofs.Verdicts.{not_both}

accepted : (v : Verdict) → is_accepted v ≡ true → status_of v ≡ 0
accepted Usage h = absurd (cc h)
accepted (Refused cause) h = absurd (cc h)
accepted (Unjoined cause) h = absurd (cc h)
accepted (Accepted action scene) h = refl
accepted (Entries entries) h = refl

-- a run's answer is that of its parts, or want of memory
abbrev pub IsNumberOf : Answer → ℕ → Type 0
IsNumberOf a n = (n ≡ number_of a) ⊎ (n ≡ 9)

-- nothing failed
abbrev IsFree : Answer → Type 0
IsFree a = (a ≡ answers.Refused refusals.ReadFault → ⊥) × (a ≡ answers.WriteFault → ⊥)

by-number : (v : Verdict) (a : Answer) (n : ℕ) → status_of v ≡ number_of a → IsNumberOf a n → (status_of v ≡ n) ⊎ (n ≡ 9)
by-number v a n e (inl same) = inl (e ∙ sym same)
by-number v a n e (inr none) = inr none

by-nine : (v : Verdict) (n : ℕ) → IsNumberOf answers.NoMemory n → (status_of v ≡ n) ⊎ (n ≡ 9)
by-nine v n (inl same) = inr same
by-nine v n (inr none) = inr none

completes : (name : List ℕ) (a : Answer) (n : ℕ) (v : Verdict) → IsOf name a v → IsNumberOf a n → IsFree a → (status_of v ≡ n) ⊎ (n ≡ 9)
completes name answers.Done n v of is free = by-number v answers.Done n (accepted v of) is
completes name answers.Usage n v of is free = by-number v answers.Usage n (ap status_of of) is
completes name answers.NoScene n v of is free = by-number v answers.NoScene n (ap status_of of) is
completes name (answers.Unjoined cause) n v of is free = by-number v (answers.Unjoined cause) n (ap status_of of) is
completes name (answers.Refused (refusals.Missing file)) n v of is free = by-number v (answers.Refused (refusals.Missing file)) n (ap status_of of) is
completes name (answers.Refused (refusals.At file line code)) n v of is free = by-number v (answers.Refused (refusals.At file line code)) n (ap status_of of) is
completes name (answers.Refused refusals.ReadFault) n v of is free = absurd (free.0 refl)
completes name (answers.Refused refusals.NoMemory) n v of is free = by-nine v n is
completes name answers.WriteFault n v of is free = absurd (free.1 refl)
completes name answers.NoMemory n v of is free = by-nine v n is

-- memory ran out, where the library didn't fail
nine : (a : Answer) (n : ℕ) → Fails a → IsNumberOf a n → (a ≡ answers.Refused refusals.ReadFault → ⊥) → n ≡ 9
nine (answers.Refused refusals.NoMemory) n fails (inl same) unread = same
nine (answers.Refused refusals.NoMemory) n fails (inr none) unread = none
nine answers.NoMemory n fails (inl same) unread = same
nine answers.NoMemory n fails (inr none) unread = none
nine (answers.Refused refusals.ReadFault) n fails is unread = absurd (unread refl)
nine (answers.Refused (refusals.Missing file)) n fails is unread = absurd fails
nine (answers.Refused (refusals.At file line code)) n fails is unread = absurd fails
nine (answers.Unjoined cause) n fails is unread = absurd fails
nine answers.Done n fails is unread = absurd fails
nine answers.Usage n fails is unread = absurd fails
nine answers.NoScene n fails is unread = absurd fails
nine answers.WriteFault n fails is unread = absurd fails

abbrev StatusIs : Option Command → Files → ℕ → Type 0
StatusIs command files n = (v : Verdict) × IsVerdict command files v × (status_of v ≡ n)

told : (command : Option Command) (files : Files) (v : Verdict) (name : List ℕ) (a : Answer) (n : ℕ) → Knows command a files v → IsOf name a v → IsNumberOf a n → IsFree a
    → StatusIs command files n ⊎ (n ≡ 9)
told command files v name a n (inl known) of is free =
    ⊎_elim (λ (e : status_of v ≡ n). inl (v, known, e)) (λ (e : n ≡ 9). inr e) (completes name a n v of is free)
told command files v name a n (inr none) of is free = inr (nine a n none.1 is free.0)

pub completes-told : (command : Option Command) (held : Option Files) (v : Verdict) (name : List ℕ) (a : Answer) (n : ℕ) → Told held (λ files. Knows command a files v) → IsOf name a v → IsNumberOf a n
    → (a ≡ answers.Refused refusals.ReadFault → ⊥) → (a ≡ answers.WriteFault → ⊥) → Told held (λ files. StatusIs command files n ⊎ (n ≡ 9))
completes-told command None v name a n knows of is unread unwritten = tt
completes-told command (Some files) v name a n knows of is unread unwritten = told command files v name a n knows of is (unread, unwritten)

-- a write fault is none of a refused verdict
unwritten : (command : Option Command) (files : Files) (v w : Verdict) (name : List ℕ) (a : Answer) → Knows command a files v → IsOf name a v → IsVerdict command files w → is_accepted w ≡ false
    → a ≡ answers.WriteFault → ⊥
unwritten command files v w name a (inl known) of is refused wrote =
    let all : is_accepted v ≡ true = subst (λ b. IsOf name b v) wrote of in not_both command files v w known is all refused
unwritten command files v w name a (inr none) of is refused wrote = let fails : Fails answers.WriteFault = subst (λ b. Fails b) wrote none.1 in absurd fails

pub refused-told : (command : Option Command) (held : Option Files) (v : Verdict) (name : List ℕ) (a : Answer) (n : ℕ) → Told held (λ files. Knows command a files v) → IsOf name a v → IsNumberOf a n
    → (a ≡ answers.Refused refusals.ReadFault → ⊥) → Told held (λ files. ((w : Verdict) × IsVerdict command files w × (is_accepted w ≡ false)) → StatusIs command files n ⊎ (n ≡ 9))
refused-told command None v name a n knows of is unread = tt
refused-told command (Some files) v name a n knows of is unread =
    λ refused. told command files v name a n knows of is (unread, unwritten command files v refused.0 name a knows of refused.1 refused.2)
