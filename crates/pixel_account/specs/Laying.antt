-- Fragments laid over one another.
use Rattle.std.specs.Prelude.{◌≡◌, List}
use Rattle.hider.specs.declared.fragment.Fragment.{Fragment}
use Rattle.hider.specs.Composite.{composite}
use Rattle.pixel_account.specs.declared.laid.Laid.{Laid}
use Rattle.pixel_account.specs.Account.{passed_through}

-- these fragments have this colour, and so much passes through them
pub record IsLaid (fs : List Fragment) (l : Laid) : Type 0 where
  pub colour : l.colour ≡ composite fs
  pub passed : l.passed ≡ passed_through fs
