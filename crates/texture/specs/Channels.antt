-- For private contracts alone: a number for each channel.
use Rattle.std.specs.Prelude.{◌≡◌, ◌≤◌, ℕ}
use Rattle.texture.specs.declared.channels.Channels.{Channels}

-- these are a function's values at the numbers of the channels
pub record AreOf (f : ℕ → ℕ) (c : Channels) : Type 0 where
  pub red : c.red ≡ f 0
  pub green : c.green ≡ f 1
  pub blue : c.blue ≡ f 2

pub record AreAtMost (most : ℕ) (c : Channels) : Type 0 where
  pub red : c.red ≤ most
  pub green : c.green ≤ most
  pub blue : c.blue ≤ most
