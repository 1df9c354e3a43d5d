-- The status and the line of a question that isn't answered.
use Rattle.std.proofs.Common.{◌≡◌, ◌≤◌, ◌<◌, ◌⊎◌, inl, inr, ℕ, List, [], ◌∷◌, cond, Option, Some, None, Result, Ok, Err, lit<, refl, sym, ap, ◌∙◌, subst, arith}
use Rattle.std.specs.Prelude.{OnOk}
use Rattle.std.proofs.lemmas.Bool.{lt-ltb}
use Rattle.outside.specs.Causes.{Told}
use Rattle.outside.specs.Library.{Files}
use Rattle.outside.specs.NoteLines.{Says}
use Rattle.outside.proofs.Saying.{says-none}
use Rattle.acceptance.specs.Causes.{Missing, At}
use Rattle.acceptance.specs.Codes.{status_of_code}
use Rattle.acceptance.specs.declared.refusal.Refusal.TheVariants as refusals
use Rattle.render.specs.Lines.{failure_lines}
use Rattle.why_run.specs.Verdict as verdicts
use Rattle.why_words.specs.Question.{Question}
use Rattle.why_run.specs.Verdict.{Verdict, status_of, status_lines, refusal_lines, verdict_of_question}
use Rattle.why_run.specs.Answers.{IsOf, IsFaultAt, number_of, line_of}
use Rattle.why_run.specs.Run.{Answers, Tells}
use Rattle.why_run.specs.declared.stop.Stop.{Stop}
use Rattle.why_run.specs.declared.stop.Stop.TheVariants.{Usage, NoScene, Refused, WriteFault, NoMemory}

refused_line : (name : List ℕ) (v w : Verdict) (n : ℕ) → v ≡ w → n < 7 → status_lines name v n ≡ refusal_lines name w
refused_line name v w n is few = ap (λ b. cond b (refusal_lines name v) (failure_lines n)) (lt-ltb n 7 few) ∙ ap (refusal_lines name) is

-- the line of a stop is that of its status
pub stop_line : (name : List ℕ) (s : Stop) (v : Verdict) → IsOf name s v → (IsFaultAt s → number_of s ≤ 5) → status_lines name v (number_of s) ≡ line_of name s ∷ []
stop_line name Usage v is few = refused_line name v verdicts.Usage 2 is (lit< tt)
stop_line name NoScene v is few = refused_line name v (verdicts.Refused (Missing name)) 6 is (lit< tt)
stop_line name (Refused (refusals.Missing file)) v is few = refused_line name v (verdicts.Refused (Missing file)) 6 is (lit< tt)
stop_line name (Refused (refusals.At file line code)) v is few = refused_line name v (verdicts.Refused (At file line code)) (status_of_code code) is (omega (arith, few tt))
stop_line name (Refused refusals.ReadFault) v is few = refl
stop_line name (Refused refusals.NoMemory) v is few = refl
stop_line name WriteFault v is few = refl
stop_line name NoMemory v is few = refl

-- whether the line is told or there is no memory for it, it is that of the status
pub told_line : (held : Option Files) (name scene : List ℕ) (s : Stop) (v : Files → Verdict) (status : ℕ) (o p : Option (List (List ℕ))) (m n : ℕ)
    → Told held (λ files. IsOf name s (v files)) → ((s ≡ NoMemory → ⊥) → scene ≡ name) → Tells scene s status o p m n → Told held (λ files. Says (status_lines name (v files) status) o p m n)
told_line None name scene s v status o p m n is named tells = tt
told_line (Some files) name scene s v status o p m n is named (inr none) =
    subst (λ k. Says (status_lines name (v files) k) o p m n) (sym none.0) none.1
told_line (Some files) name scene s v status o p m n is named (inl own) = by s refl
  where
    lines : (line_of scene s ≡ line_of name s) → Says (status_lines name (v files) status) o p m n
    lines same =
        let e : status_lines name (v files) status ≡ line_of scene s ∷ [] =
        ap (status_lines name (v files)) own.0 ∙ stop_line name s (v files) is (λ at. subst (λ k. k ≤ 5) own.0 (own.1 at)) ∙ ap (λ l. l ∷ []) (sym same) in
        subst (λ ls. Says ls o p m n) (sym e) own.2

    other : (t : Stop) → s ≡ t → (t ≡ NoMemory → ⊥) → Says (status_lines name (v files) status) o p m n
    other t e isnt = lines (ap (λ c. line_of c s) (named (λ w. isnt (sym e ∙ w))))

    by : (t : Stop) → s ≡ t → Says (status_lines name (v files) status) o p m n
    by NoMemory e = lines (ap (line_of scene) e ∙ sym (ap (line_of name) e))
    by Usage e = other Usage e (λ w. absurd (cc w))
    by NoScene e = other NoScene e (λ w. absurd (cc w))
    by (Refused r) e = other (Refused r) e (λ w. absurd (cc w))
    by WriteFault e = other WriteFault e (λ w. absurd (cc w))

-- words that are no question
pub usage_of : (held : Option Files) (name : List ℕ) (q : Option Question) → q ≡ None → Told held (λ files. IsOf name Usage (verdict_of_question q files))
usage_of None name q none = tt
usage_of (Some files) name q none = ap (λ p. verdict_of_question p files) none

-- an answer has the status 0 and no line
pub done_status : (v : Verdict) (o p : Option (List (List ℕ))) → Answers v o p → status_of v ≡ 0
done_status verdicts.Usage o p done = absurd done.1
done_status (verdicts.Refused cause) o p done = absurd done.1
done_status (verdicts.Asked q a f) o p done = refl

done_says : (name : List ℕ) (v : Verdict) (o p ls : Option (List (List ℕ))) (n : ℕ) → Answers v o p → Says (status_lines name v 0) ls ls n n
done_says name verdicts.Usage o p ls n done = absurd done.1
done_says name (verdicts.Refused cause) o p ls n done = absurd done.1
done_says name (verdicts.Asked q a f) o p ls n done = says-none ls n

pub done_line : (held : Option Files) (name : List ℕ) (v : Files → Verdict) (o p ls : Option (List (List ℕ))) (n : ℕ) → Told held (λ files. Answers (v files) o p)
    → Told held (λ files. Says (status_lines name (v files) 0) ls ls n n)
done_line None name v o p ls n done = tt
done_line (Some files) name v o p ls n done = done_says name (v files) o p ls n done

pub told_done : (held : Option Files) (v : Files → Verdict) (o p : Option (List (List ℕ))) → Told held (λ files. Answers (v files) o p) → Told held (λ files. status_of (v files) ≡ 0)
told_done None v o p done = tt
told_done (Some files) v o p done = done_status (v files) o p done

pub done_complete : (held : Option Files) (v : Files → Verdict) (o p : Option (List (List ℕ))) (n m : ℕ) → n ≡ 0 → Told held (λ files. Answers (v files) o p)
    → Told held (λ files. (status_of (v files) ≡ n) ⊎ (n ≡ m))
done_complete None v o p n m zero done = tt
done_complete (Some files) v o p n m zero done = inl (done_status (v files) o p done ∙ sym zero)

-- the one stop of a result, and its answer
pub one_stop : {A : Type 0} (result : Result A Stop) (s t : Stop) → result ≡ Err s → result ≡ Err t → s ≡ t
one_stop result s t is e = cc (is, e)

pub on_ok_is : {A E : Type 0} (result : Result A E) (x : A) (P : Type 0) → result ≡ Ok x → OnOk result P → P
on_ok_is {A = A} {E = E} result x P is p = subst (λ (r : Result A E). OnOk r P) is p
