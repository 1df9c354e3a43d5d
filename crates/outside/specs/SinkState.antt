-- A sink of files, as its callers see it.
use Rattle.std.specs.Prelude.{ℕ, Bool}

-- whether a frame is open, and how often a call has failed
pub record SinkState : Type 0 where
  pub is_open : Bool
  pub faults : ℕ
