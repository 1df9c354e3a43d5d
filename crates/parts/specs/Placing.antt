-- The buckets of all parts in one list, in the order of their parts.
use Rattle.std.specs.Prelude.{ℕ, ◌+◌, ◌-◌, ◌*◌, ◌<◌, ◌≡◌, min, List, [], ◌∷◌, ◌++◌, length, get_or, map, Option, Some, None}
use Rattle.parts.specs.declared.header.Header.{Header}
use Rattle.parts.specs.declared.fault.JoinFault.{JoinFault}
use Rattle.parts.specs.declared.fault.JoinFault.TheVariants.{J3, J4, NoMemory}
use Rattle.parts.specs.Formats.{Bucket, Part, no_bucket, area, bucket_total, channel_bytes}
use Rattle.parts.specs.Pictures.{pixel_in}

-- a bucket and the number of the part that it stands in
pub record Placed : Type 0 where
  pub part : ℕ
  pub bucket : Bucket

-- what stands for a bucket past the end of a list
abbrev pub not_placed : Placed
not_placed = record { part = 0; bucket = no_bucket }

-- the buckets of a part, and those of parts one after another, from that number on
abbrev pub placed_in : ℕ → List Bucket → List Placed
placed_in part bs = map (λ b. record { part = part; bucket = b }) bs

abbrev pub placed_from : ℕ → List Part → List Placed
placed_from part [] = []
placed_from part (p ∷ ps) = placed_in part p.buckets ++ placed_from (part + 1) ps

-- the number of bucket k of all parts
abbrev pub number_of : List Placed → ℕ → ℕ
number_of all k = (get_or all k not_placed).bucket.number

abbrev pub part_of : List Placed → ℕ → ℕ
part_of all k = (get_or all k not_placed).part

-- no two of the first n have one number
abbrev pub AreDistinct : List Placed → ℕ → Type 0
AreDistinct all n = (i k : ℕ) → i < k → k < n → number_of all i ≡ number_of all k → ⊥

-- place m has the first bucket that stands before, too
pub record IsAgain (all : List Placed) (m : ℕ) : Type 0 where
  pub there : m < length all
  pub before : AreDistinct all m
  pub again : (k : ℕ) × (k < m) × (number_of all k ≡ number_of all m)

-- a bucket of that number is there
abbrev pub IsThere : List Placed → ℕ → Type 0
IsThere all n = (k : ℕ) × (k < length all) × (number_of all k ≡ n)

-- the least number of so many that isn't there
pub record IsWanting (all : List Placed) (total : ℕ) (n : ℕ) : Type 0 where
  pub there : n < total
  pub missing : IsThere all n → ⊥
  pub before : (i : ℕ) → i < n → IsThere all i

-- where the bucket of each number stands among all, of which no two have one number
pub record ArePlaced (all : List Placed) (total : ℕ) (places : List (Option ℕ)) : Type 0 where
  pub count : length places ≡ total
  pub distinct : AreDistinct all (length all)
  pub some : (n k : ℕ) → get_or places n None ≡ Some k → (k < length all) × (number_of all k ≡ n)
  pub none : (n : ℕ) → n < total → get_or places n None ≡ None → IsThere all n → ⊥

-- the buckets by their numbers
pub record AreOrdered (all : List Placed) (total : ℕ) (ordered : List Placed) : Type 0 where
  pub count : length ordered ≡ total
  pub each : (n : ℕ) → n < total → (k : ℕ) × (k < length all) × (number_of all k ≡ n) × (get_or ordered n not_placed ≡ get_or all k not_placed)

-- the faults that a bucket gives that stands before, too, and a number that isn't there
abbrev pub IsAgainFault : List Placed → JoinFault → Type 0
IsAgainFault all (J3 part bucket) = (m : ℕ) × IsAgain all m × (part_of all m ≡ part) × (number_of all m ≡ bucket)
IsAgainFault all NoMemory = Unit {0}
IsAgainFault all _ = ⊥

abbrev pub IsWantingFault : List Placed → ℕ → JoinFault → Type 0
IsWantingFault all total (J4 bucket) = IsWanting all total bucket
IsWantingFault all total NoMemory = Unit {0}
IsWantingFault all total _ = ⊥

-- the bytes of pixel x, y, where the buckets stand by their numbers
abbrev pub pixel_of : Header → List Placed → ℕ → ℕ → List ℕ
pixel_of h buckets x y = pixel_in h (λ n. (get_or buckets n not_placed).bucket.pixels) x y

-- each bucket of the picture is there with all its pixels
pub record AreWhole (h : Header) (buckets : List Placed) : Type 0 where
  pub count : length buckets ≡ bucket_total h
  pub each : (n : ℕ) → n < bucket_total h → length (get_or buckets n not_placed).bucket.pixels ≡ channel_bytes h.one * (3 * area h n)

-- how many pixels of a row the buckets of a column have
abbrev pub width_at : Header → ℕ → ℕ
width_at h column = min (0 + h.side * column + h.side) h.width - (0 + h.side * column)
