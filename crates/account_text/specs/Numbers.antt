-- Numbers of an account in JSON: each as it is computed with, and as a decimal.
use Rattle.std.specs.Prelude.{ℕ, ℤ, List, [], ◌∷◌, codes}
use Rattle.std.specs.Fmt.{signed_decimal}
use Rattle.fixed_math.specs.declared.vec3.Vec3.{Vec3}
use Rattle.fixed_math.specs.Spots.{Spot}
use Rattle.serde_json.specs.Data.{Data, number, unsigned, string, array, object, Members, no_members, member}
use Rattle.serde_json.specs.Find.{of_integer}
use Rattle.serde_json.specs.View.{items_of}
use Rattle.account_text.specs.Decimals.{exact}

-- members, each a key with its value
abbrev pub members : List (List ℕ × Data) → Members
members [] = no_members
members ((key, value) ∷ rest) = member key value (members rest)

-- an object with these members, by their keys in order
abbrev pub object_of : List (List ℕ × Data) → Data
object_of ms = object (members ms)

abbrev pub list_of : List Data → Data
list_of ds = array (items_of ds)

-- a whole number
abbrev pub count : ℕ → Data
count n = number (unsigned n)

-- the number raw / ones
unfoldable pub fixed : ℕ → ℤ → Data
fixed ones raw = object_of ((codes "raw", number (of_integer raw)) ∷ (codes "value", string (exact ones raw)) ∷ [])

-- the same of one that may need more than 64 bits: its raw is a text
unfoldable pub wide : ℕ → ℤ → Data
wide ones raw = object_of ((codes "raw", string (signed_decimal raw)) ∷ (codes "value", string (exact ones raw)) ∷ [])

-- a number of 1/65536
unfoldable pub num : ℤ → Data
num raw = fixed 65536 raw

-- three of them
unfoldable pub triple : Vec3 → Data
triple v = list_of (num v.x ∷ num v.y ∷ num v.z ∷ [])

-- a place on the raster, in 1/256 pixel
unfoldable pub spot : Spot → Data
spot p = object_of ((codes "x", fixed 256 p.x) ∷ (codes "y", fixed 256 p.y) ∷ [])
