-- How far something that moves is on its way from its first time to its last one while the shutter is open.
use Rattle.std.specs.Prelude.{ℕ, ◌≤◌, Option, IfSome}

-- of 65536 steps, those that are made when the shutter opens, and when it closes, if that is later
pub record ShiftValue : Type 0 where
  pub opening : ℕ
  pub closing : Option ℕ

-- both numbers of steps are at most 65,536
pub record IsShift (s : ShiftValue) : Type 0 where
  pub opens : s.opening ≤ 65536
  pub closes : IfSome s.closing (λ n. n ≤ 65536)
