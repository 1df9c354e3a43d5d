-- A tile with the samples of its steps, for private contracts alone.
use Rattle.std.specs.Prelude.{ℕ, ◌<◌, ◌≤◌, ◌≡◌, List, slice_index_or, length}
use Rattle.fixed_math.specs.Spots.{Spot}
use Rattle.hider.specs.declared.fragment.Fragment.{Fragment}
use Rattle.hider.specs.declared.sample_grid.SampleGrid.{SampleGrid}
use Rattle.hider.specs.declared.steps.StepSamples.{StepSamples}
use Rattle.hider.specs.Tiles.{IsSampleGrid, ArePlacesOf, AreTimesOf, sample_count}

-- the samples of the first steps
abbrev pub AreSteps : SampleGrid → List StepSamples → Type 0
AreSteps g steps = (k : ℕ) (d : StepSamples) → k < length steps → ((slice_index_or steps k d).grid ≡ g) × ((slice_index_or steps k d).step ≡ k)

-- a grid of samples with a place and a list of fragments for each
pub record IsTile (g : SampleGrid) (spots : List Spot) (moments : List ℕ) (rows : List StepSamples) (lists : List (List Fragment)) : Type 0 where
  pub grid : IsSampleGrid g
  pub places : ArePlacesOf g spots
  pub times : AreTimesOf g moments
  pub steps : AreSteps g rows
  pub enough : sample_count g ≤ length lists
