-- Why a command is refused.
use Rattle.std.specs.Prelude.{ℕ, List, [], ◌∷◌, Option, Some, None, Result, Ok, Err}
use Rattle.acceptance.specs.declared.code.FaultCode.{FaultCode}
use Rattle.acceptance.specs.declared.refusal.FileId.{FileId}

-- a file that isn't there, or a code at a line of the scene or of a shader
pub data Cause : Type 0 where
  Missing : (file : List ℕ) → Cause
  At : (file : FileId) → (line : ℕ) → (code : FaultCode) → Cause

-- what is read, or why it is refused
abbrev pub Reads : Type 0 → Type 0
Reads A = Result A Cause

-- why something isn't there, if it isn't
abbrev pub cause_in : {A : Type 0} → Reads A → Option Cause
cause_in (Ok x) = None
cause_in (Err cause) = Some cause

-- a refusal, if there is a cause for one
abbrev pub unless : {A : Type 0} → Option Cause → Reads A → Reads A
unless (Some cause) read = Err cause
unless None read = read

-- the first of these that is there
abbrev pub or_else : {A : Type 0} → Option A → Option A → Option A
or_else (Some x) others = Some x
or_else None others = others

-- the first thing in a list that is there
abbrev pub first_of : {A : Type 0} → List (Option A) → Option A
first_of [] = None
first_of (x ∷ xs) = or_else x (first_of xs)
