-- Answers and the verdict.
use Rattle.std.proofs.Common.{◌≡◌, ℕ, List, Option, option_map, Some, None, Result, Ok, Err, refl, sym, ap, ◌∙◌, subst, String, Bool, true, false, cond}
use Rattle.std.specs.Prelude.{IsSome, IsErrAnd, is_some, slice_get}
use Rattle.std.specs.declared.alloc.Global.{Global}
use Rattle.outside.specs.Causes.{Told}
use Rattle.outside.specs.Library.{Files}
use Rattle.scene.specs.Scene.{FrameValue}
use Rattle.scene.specs.Settings.{crop_of}
use Rattle.shader_binding.specs.Sets.{AcceptedValue}
use Rattle.acceptance.specs.Causes.{Cause, Reads, Missing, At, cause_in}
use Rattle.acceptance.specs.Answers.{Because}
use Rattle.acceptance.specs.declared.refusal.Refusal.{Refusal}
use Rattle.acceptance.specs.declared.refusal.Refusal.TheVariants as refusals
use Rattle.pixel_record.specs.declared.pixel.PixelAccount.{PixelAccount}
use Rattle.pixel_account.specs.Account.{IsAccount}
use Rattle.account_text.specs.Account.{account_text}
use Rattle.why_words.specs.Question.{Question}
use Rattle.why_run.specs.Verdict as verdicts
use Rattle.why_run.specs.Verdict.{Verdict, is_in, frame_asked, with_pixel, verdict_on, verdict_on_frame, scene_named, verdict_of_question, IsAnswer}
use Rattle.why_run.specs.Answers.{GivesScene, GivesAnswer, IsOf}
use Rattle.why_run.specs.Run.{Answers}
use Rattle.why_run.specs.declared.stop.Stop.{Stop}
use Rattle.why_run.specs.declared.stop.Stop.TheVariants.{Usage, NoScene, Refused, WriteFault, NoMemory}

-- a cause that is read is that of the reading
refused_read : (q : Question) (cause : Cause) (read : Reads AcceptedValue) → cause_in read ≡ Some cause → verdict_on q read ≡ verdicts.Refused cause
refused_read q cause (Ok a) e = absurd (cc e)
refused_read q cause (Err c) e = ap verdicts.Refused (cc e)

because_is : (q : Question) (name : List ℕ) (r : Refusal) (read : Reads AcceptedValue) → Because r (cause_in read) → IsOf name (Refused r) (verdict_on q read)
because_is q name (refusals.Missing file) read b = refused_read q (Missing file) read b
because_is q name (refusals.At file line code) read b = refused_read q (At file line code) read b
because_is q name refusals.ReadFault read b = tt
because_is q name refusals.NoMemory read b = tt

stop_is : (q : Question) (name : List ℕ) (s : Stop) (read : Reads AcceptedValue) → GivesScene name (Err s) read → IsOf name s (verdict_on q read)
stop_is q name NoScene read g = ap (verdict_on q) g
stop_is q name (Refused r) read g = because_is q name r read g
stop_is q name NoMemory read g = tt
stop_is q name Usage read g = absurd g
stop_is q name WriteFault read g = absurd g

-- a scene that isn't given stops the question
pub stopped : (held : Option Files) (q : Question) (s : Stop) → Told held (λ files. GivesScene q.name (Err s) (scene_named q.name files))
    → Told held (λ files. IsOf q.name s (verdict_of_question (Some q) files))
stopped None q s g = tt
stopped (Some files) q s g = stop_is q q.name s (scene_named q.name files) g

stop_gives : (name : List ℕ) (result : Result (String Global) Stop) (s : Stop) (v : Verdict) → IsErrAnd result (λ e. e ≡ s) → IsOf name s v → GivesAnswer name result v
stop_gives name (Ok text) s v is of = absurd is
stop_gives name (Err e) s v is of = subst (λ (t : Stop). IsOf name t v) (sym is) of

-- a stop that is handed on
pub stop_told : (held : Option Files) (name : List ℕ) (result : Result (String Global) Stop) (s : Stop) (v : Files → Verdict) → IsErrAnd result (λ e. e ≡ s)
    → Told held (λ files. IsOf name s (v files)) → Told held (λ files. GivesAnswer name result (v files))
stop_told None name result s v is of = tt
stop_told (Some files) name result s v is of = stop_gives name result s (v files) is of

asked_is : (x y : ℕ) (o : Option FrameValue) → IsSome (with_pixel x y o) → (f : FrameValue) × (o ≡ Some f) × (with_pixel x y o ≡ Some f)
asked_is x y None some = absurd (cc some)
asked_is x y (Some f) some = (f, refl, kept (is_in (crop_of f.options) x y) some)
  where
    kept : (b : Bool) → IsSome (cond b (Some f) None) → cond b (Some f) None ≡ Some f
    kept true some = refl
    kept false some = absurd (cc some)

-- the answer to a question about a pixel
pub answered : (held : Option Files) (q : Question) (a : AcceptedValue) (p : PixelAccount) (text : List ℕ) → Told held (λ files. scene_named q.name files ≡ Ok a) → IsSome (frame_asked q a.scene.frames)
    → ((f : FrameValue) → slice_get a.scene.frames q.frame ≡ Some f → IsAccount a f q.frame q.x q.y p) → text ≡ account_text q.name q.points p
    → Told held (λ files. IsAnswer (verdict_of_question (Some q) files) text)
answered None q a p text is some account same = tt
answered (Some files) q a p text is some account same =
    let it = asked_is q.x q.y (slice_get a.scene.frames q.frame) some in
    subst (λ (v : Verdict). IsAnswer v text) (sym (ap (verdict_on q) is ∙ ap (verdict_on_frame q a) it.2)) (p, account it.0 it.1, same)

-- whether the frame is there, as a call tells
pub some_there : {A : Type 0} (o : Option A) (view : A → FrameValue) (p : Option FrameValue) → option_map view o ≡ p → is_some o ≡ true → IsSome p
some_there None view p is some = absurd (cc some)
some_there (Some x) view p is some = subst (λ (q : Option FrameValue). IsSome q) is refl
