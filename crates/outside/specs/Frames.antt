-- What is left in a sink by a row of frames.
use Rattle.std.specs.Prelude.{◌≡◌, ℕ, true, false, List, [], ◌∷◌, ◌++◌, take, Option, option_map, ◌⊎◌}
use Rattle.outside.specs.Sink.{Written, with_bytes}

-- a frame's name and the bytes of its picture
pub record Picture : Type 0 where
  pub name : List ℕ
  pub bytes : List ℕ

-- a picture as a sink holds it once it has ended
abbrev pub whole : Picture → Written
whole p = record { name = p.name; bytes = p.bytes; ended = true }

-- these entries were added, where the sink tells
abbrev pub Adds : List Written → Option (List Written) → Option (List Written) → Type 0
Adds added old new = new ≡ option_map (λ ws. ws ++ added) old

-- these bytes were put to the last entry, where the sink tells
abbrev pub PutsAll : List ℕ → Option (List Written) → Option (List Written) → Type 0
PutsAll bytes old new = new ≡ option_map (with_bytes bytes) old

-- some of these bytes were put, from their front on
abbrev pub PutsFront : List ℕ → Option (List Written) → Option (List Written) → Type 0
PutsFront bytes old new = (n : ℕ) × PutsAll (take n bytes) old new

-- nothing of the picture, or an entry that isn't ended, with its name and a front of its bytes
abbrev pub IsPart : List Written → Picture → Type 0
IsPart [] p = Unit {0}
IsPart (w ∷ ws) p = (ws ≡ []) × ((n : ℕ) × (w ≡ record { name = p.name; bytes = take n p.bytes; ended = false }))

-- what was added is a part of the picture
pub record AddsPart (picture : Picture) (old new : Option (List Written)) : Type 0 where
  pub added : List Written
  pub adds : Adds added old new
  pub part : IsPart added picture

-- a prefix of the frames: some first pictures, each whole and ended, and then nothing or a part of the next
abbrev pub IsFront : List Picture → List Written → Type 0
IsFront [] added = added ≡ []
IsFront (p ∷ ps) added = IsPart added p ⊎ ((others : List Written) × (added ≡ whole p ∷ others) × IsFront ps others)

-- what was added is a prefix of the frames
pub record AddsFront (pictures : List Picture) (old new : Option (List Written)) : Type 0 where
  pub added : List Written
  pub adds : Adds added old new
  pub front : IsFront pictures added
