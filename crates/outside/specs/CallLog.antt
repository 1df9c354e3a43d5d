-- The calls of an object in memory, one of which may be named to fail.
use Rattle.std.specs.Prelude.{ℕ, Bool, false, Option, Some, None, ◌==◌, if◌then◌else◌}
use Rattle.outside.specs.Causes.{next_count}

-- how many calls were made, which is to fail, and how many have failed
pub record CallLog : Type 0 where
  pub made : ℕ
  pub failing : Option ℕ
  pub faults : ℕ

-- before the first call
abbrev pub no_calls : CallLog
no_calls = record { made = 0; failing = None; faults = 0 }

-- whether the call of this number is the one named
abbrev pub is_named : ℕ → Option ℕ → Bool
is_named call None = false
is_named call (Some n) = n == call

-- whether the next call is the one named to fail
abbrev pub fails_next : CallLog → Bool
fails_next log = is_named (next_count log.made) log.failing

-- after one more call, which succeeded or failed
abbrev pub called : Bool → CallLog → CallLog
called ok log = record { made = next_count log.made; failing = log.failing; faults = (if ok then log.faults else next_count log.faults) }

-- the nth call named to fail, in the place of another
abbrev pub naming : ℕ → CallLog → CallLog
naming n log = record { made = log.made; failing = Some n; faults = log.faults }
