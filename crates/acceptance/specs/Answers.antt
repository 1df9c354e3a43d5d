-- What the code's answers say of what is accepted.
use Rattle.std.specs.Prelude.{◌≡◌, ◌≤◌, ℕ, Option, Some, None, Result, Ok, Err, IsErrOf, IfOk, length}
use Rattle.scene.specs.Scene.{SceneValue}
use Rattle.acceptance.specs.declared.refusal.Refusal.{Refusal}
use Rattle.acceptance.specs.declared.refusal.Refusal.TheVariants as refusals
use Rattle.acceptance.specs.Causes as causes
use Rattle.acceptance.specs.Causes.{Cause, Reads}
use Rattle.acceptance.specs.Codes.{status_of_code}

-- a refusal has its cause, but where the library failed or memory ran out
abbrev pub Because : Refusal → Option Cause → Type 0
Because (refusals.Missing file) cause = cause ≡ Some (causes.Missing file)
Because (refusals.At file line code) cause = cause ≡ Some (causes.At file line code)
Because refusals.ReadFault cause = Unit {0}
Because refusals.NoMemory cause = Unit {0}

abbrev pub as_it_is : {A : Type 0} → A → A
as_it_is x = x

-- what is read, and by what view, or why it is refused
abbrev pub Gives : {A B : Type 0} → (A → B) → Result A Refusal → Reads B → Type 0
Gives view (Ok x) read = read ≡ Ok (view x)
Gives view (Err refusal) read = Because refusal (causes.cause_in read)

-- there is no cause, or it is refused for that
abbrev pub Clears : {A : Type 0} → Result A Refusal → Option Cause → Type 0
Clears (Ok x) cause = cause ≡ None
Clears (Err refusal) cause = Because refusal cause

-- the same of what is read and judged without the library, which can't have failed there
pub record GivesAlone {A B : Type 0} (view : A → B) (result : Result A Refusal) (read : Reads B) : Type 0 where
  pub gives : Gives view result read
  pub alone : IsErrOf result refusals.ReadFault → ⊥

pub record ClearsAlone {A : Type 0} (result : Result A Refusal) (cause : Option Cause) : Type 0 where
  pub clears : Clears result cause
  pub alone : IsErrOf result refusals.ReadFault → ⊥

-- a scene is read, which has at most 1,000 frames, or refused
pub record GivesScene (result : Result SceneValue Refusal) (read : Reads SceneValue) : Type 0 where
  pub gives : Gives as_it_is result read
  pub few : IfOk result (λ s. length s.frames ≤ 1000)
  pub alone : IsErrOf result refusals.ReadFault → ⊥

abbrev pub status_of_refusal : Refusal → ℕ
status_of_refusal (refusals.At file line code) = status_of_code code
status_of_refusal (refusals.Missing file) = 6
status_of_refusal refusals.ReadFault = 7
status_of_refusal refusals.NoMemory = 9
