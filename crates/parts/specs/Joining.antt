-- What joining parts answers.
use Rattle.std.specs.Prelude.{ℕ, ◌<◌, ◌≡◌, List, [], length, get_or}
use Rattle.parts.specs.declared.header.Header.{Header}
use Rattle.parts.specs.declared.fault.JoinFault.{JoinFault}
use Rattle.parts.specs.declared.fault.JoinFault.TheVariants.{J1, J2, J3, J4, NoMemory}
use Rattle.parts.specs.Formats.{Part, no_part, IsIn, bucket_numbers, IsParsed, IsNoPart, bucket_total}
use Rattle.parts.specs.Pictures.{buckets_of, joined}

-- these are the parts in the texts, in their order
pub record AreParsed (texts : List (List ℕ)) (ps : List Part) : Type 0 where
  pub count : length ps ≡ length texts
  pub each : (i : ℕ) → i < length texts → IsParsed (get_or texts i []) (get_or ps i no_part)

-- the first text that isn't a part's
pub record IsNotAPart (texts : List (List ℕ)) (i : ℕ) : Type 0 where
  pub there : i < length texts
  pub no_part : IsNoPart (get_or texts i [])
  pub before : (j : ℕ) → j < i → (p : Part) × IsParsed (get_or texts j []) p

abbrev pub header_at : List Part → ℕ → Header
header_at ps i = (get_or ps i no_part).header

-- the first n have the header of the first
abbrev pub AreAlike : List Part → ℕ → Type 0
AreAlike ps n = (i : ℕ) → i < n → header_at ps i ≡ header_at ps 0

-- the first part whose header differs from that of the first
pub record IsForeign (ps : List Part) (i : ℕ) : Type 0 where
  pub there : i < length ps
  pub other : header_at ps i ≡ header_at ps 0 → ⊥
  pub before : AreAlike ps i

-- part i has bucket n, some part has it, and a part before part i has it
abbrev pub Has : List Part → ℕ → ℕ → Type 0
Has ps i n = IsIn n (bucket_numbers (get_or ps i no_part).buckets)

-- some part has bucket n
abbrev pub SomeHas : List Part → ℕ → Type 0
SomeHas ps n = (i : ℕ) × Has ps i n

-- a part before part i has bucket n
abbrev pub EarlierHas : List Part → ℕ → ℕ → Type 0
EarlierHas ps i n = (j : ℕ) × (j < i) × Has ps j n

-- no bucket of a part stands in an earlier one
abbrev pub AreDisjoint : List Part → Type 0
AreDisjoint ps = (i n : ℕ) → Has ps i n → EarlierHas ps i n → ⊥

-- the first part with a bucket that stands in an earlier one, and the least such bucket of it
pub record IsDoubled (ps : List Part) (part bucket : ℕ) : Type 0 where
  pub has : Has ps part bucket
  pub earlier : EarlierHas ps part bucket
  pub first : (i n : ℕ) → i < part → Has ps i n → EarlierHas ps i n → ⊥
  pub least : (n : ℕ) → n < bucket → Has ps part n → EarlierHas ps part n → ⊥

-- the least bucket of so many that stands in no part
pub record IsMissing (ps : List Part) (total bucket : ℕ) : Type 0 where
  pub there : bucket < total
  pub missing : SomeHas ps bucket → ⊥
  pub before : (n : ℕ) → n < bucket → SomeHas ps n

-- the parts in these texts all have one header
pub record AreOfOne (texts : List (List ℕ)) (ps : List Part) : Type 0 where
  pub parsed : AreParsed texts ps
  pub alike : AreAlike ps (length ps)

-- the texts are parts of one picture, and this bucket stands in two of them
pub record IsDoubledIn (texts : List (List ℕ)) (ps : List Part) (part bucket : ℕ) : Type 0 where
  pub of_one : AreOfOne texts ps
  pub doubled : IsDoubled ps part bucket

-- the texts are parts of one picture, and this bucket stands in none
pub record IsMissingIn (texts : List (List ℕ)) (ps : List Part) (bucket : ℕ) : Type 0 where
  pub of_one : AreOfOne texts ps
  pub disjoint : AreDisjoint ps
  pub missing : IsMissing ps (bucket_total (header_at ps 0)) bucket

-- the parts in these texts have one header and each bucket once, and the bytes are the picture
pub record IsJoined (texts : List (List ℕ)) (ps : List Part) (bytes : List ℕ) : Type 0 where
  pub of_one : AreOfOne texts ps
  pub disjoint : AreDisjoint ps
  pub whole : (n : ℕ) → n < bucket_total (header_at ps 0) → SomeHas ps n
  pub picture : joined (header_at ps 0) (buckets_of ps) ≡ bytes

-- what a fault says of the texts
abbrev pub IsFault : List (List ℕ) → JoinFault → Type 0
IsFault texts (J1 part) = IsNotAPart texts part
IsFault texts (J2 part) = (ps : List Part) × AreParsed texts ps × IsForeign ps part
IsFault texts (J3 part bucket) = (ps : List Part) × IsDoubledIn texts ps part bucket
IsFault texts (J4 bucket) = (ps : List Part) × IsMissingIn texts ps bucket
IsFault texts NoMemory = Unit {0}
