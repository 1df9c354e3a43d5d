-- The sums over a pixel's samples, as the filter has them.
use Rattle.std.specs.Prelude.{◌≡◌, ◌*ℤ◌, List}
use Rattle.filter_ppm.specs.Mean.{sum_of}
use Rattle.filter_ppm.specs.declared.total.Total.{Total}
use Rattle.pixel_record.specs.declared.sample.SampleAccount.{SampleAccount}
use Rattle.pixel_record.specs.declared.pixel.WeightedSums.{WeightedSums}

abbrev pub as_total : WeightedSums → Total
as_total s = record { weight = s.weight; x = s.x; y = s.y; z = s.z }

-- the sums of the weights of samples, and of each channel of their colours times the weight
pub record IsSumOf (ss : List SampleAccount) (t : Total) : Type 0 where
  pub weight : t.weight ≡ sum_of (λ s. s.weight) ss
  pub x : t.x ≡ sum_of (λ s. s.weight *ℤ s.colour.x) ss
  pub y : t.y ≡ sum_of (λ s. s.weight *ℤ s.colour.y) ss
  pub z : t.z ≡ sum_of (λ s. s.weight *ℤ s.colour.z) ss
