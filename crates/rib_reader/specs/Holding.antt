-- Which variables of a list hold: of several of one name the last one.
use Rattle.std.specs.Prelude.{◌≡◌, refl, ℕ, pos, Bool, false, ◌==◌, List, [], ◌∷◌, Option, Some, None, if◌then◌else◌, codes}
use Rattle.std.specs.List.{list_any}
use Rattle.std.specs.Option.{option_or}
use Rattle.std.specs.Str.{bytes_eq}
use Rattle.scene.specs.declared.params.Param.{Param}
use Rattle.scene.specs.declared.params.Class.TheVariants.{Uniform}
use Rattle.scene.specs.declared.params.Kind.TheVariants.{Float}
use Rattle.scene.specs.declared.params.Values.TheVariants.{Numbers}

-- one of them has this name
abbrev pub is_named : List ℕ → List Param → Bool
is_named name ps = list_any (λ p. bytes_eq p.name name) ps

-- the last one of this name
abbrev pub last_named : List ℕ → List Param → Option Param
last_named name [] = None
last_named name (p ∷ ps) = option_or (last_named name ps) (if bytes_eq p.name name then Some p else None)

-- those behind which no other of their name stands, in order
abbrev pub holding : List Param → List Param
holding [] = []
holding (p ∷ ps) = if is_named p.name ps then holding ps else p ∷ holding ps

-- it is this place
abbrev pub is_at : ℕ → Option ℕ → Bool
is_at place None = false
is_at place (Some last) = last == place

-- worked values
abbrev float : List ℕ → ℕ → Param
float name n = record { name = name; class = Uniform; kind = Float; values = Numbers (pos n ∷ []) }

the_last : last_named (codes "a") (float (codes "a") 1 ∷ float (codes "b") 2 ∷ float (codes "a") 3 ∷ []) ≡ Some (float (codes "a") 3)
the_last = refl

those_that_hold : holding (float (codes "a") 1 ∷ float (codes "b") 2 ∷ float (codes "a") 3 ∷ []) ≡ float (codes "b") 2 ∷ float (codes "a") 3 ∷ []
those_that_hold = refl
