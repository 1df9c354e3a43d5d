-- The order in which the primitives of a scene first have its shader requests.
use Rattle.std.specs.Prelude.{◌≡◌, refl, ℕ, zero, suc, ◌==◌, not, List, [], ◌∷◌, ◌++◌, length, filter, Option, Some, None}
use Rattle.scene.specs.Scene.{PrimValue, FrameValue, SceneValue}

abbrev pub place_in : Option ℕ → List ℕ
place_in None = []
place_in (Some n) = n ∷ []

-- the places among the uses that a primitive has: its displacement, its surface, its atmosphere, and its lights in order
abbrev pub places_in : PrimValue → List ℕ
places_in p = place_in p.displacement ++ (p.surface ∷ (place_in p.atmosphere ++ p.lights))

abbrev pub places_of : List PrimValue → List ℕ
places_of [] = []
places_of (p ∷ ps) = places_in p ++ places_of ps

-- frame by frame, primitive by primitive
abbrev pub all_places : List FrameValue → List ℕ
all_places [] = []
all_places (f ∷ fs) = places_of f.prims ++ all_places fs

-- each number once, where it stands first
abbrev pub firsts : List ℕ → List ℕ
firsts [] = []
firsts (n ∷ ns) = n ∷ filter (λ m. not (m == n)) (firsts ns)

-- the numbers below n
abbrev pub below : ℕ → List ℕ
below zero = []
below (suc n) = below n ++ n ∷ []

-- the uses are those that some primitive has, in the order of their first use
abbrev pub InFirstUse : SceneValue → Type 0
InFirstUse s = firsts (all_places s.frames) ≡ below (length s.uses)

-- worked values
each_once : firsts (0 ∷ 1 ∷ 0 ∷ 2 ∷ 1 ∷ []) ≡ below 3
each_once = refl
