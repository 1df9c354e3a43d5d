-- How a picture is computed: a tile that shows more and more of a frame.
use Rattle.std.specs.Prelude.{◌≡◌, ◌↔◌, ℤ, ◌≤ℤ◌, Bool, true, IsTrue, List, ◌++◌}
use Rattle.hider.specs.declared.fragment.Fragment.{Fragment}
use Rattle.hider.specs.declared.sample.Sample.{Sample}
use Rattle.transforms.specs.declared.view.View.{View}
use Rattle.hider.specs.Cells.{Micropolygon}
use Rattle.hider.specs.Fragments.{fragments}
use Rattle.hider.specs.Tiles.{TileValue, Shows, BlocksAll}

-- behind whatever micropolygons the tile showed it shows these as well
abbrev pub ShowsMore : View → List Micropolygon → TileValue → TileValue → Type 0
ShowsMore v ns old new = (ms : List Micropolygon) → Shows old (fragments v ms) → Shows new (fragments v (ms ++ ns))

-- a test of depths: true where an opaque fragment lies nearer at each sample of what the tile shows
pub record TellsBehind (t : TileValue) (behind : ℤ → Bool) : Type 0 where
  pub told : (z : ℤ) (b : Bool) → ((f : Sample → List Fragment) → Shows t f → IsTrue b ↔ BlocksAll z t.grid f) → b ≡ behind z
  pub further : (y z : ℤ) → y ≤ℤ z → behind y ≡ true → behind z ≡ true
