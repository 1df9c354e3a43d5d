-- Lists of lights, and what putting a light into force and taking it out makes of them.
use Rattle.std.specs.Prelude.{ℕ, ◌==◌, nat_lt, Bool, not, List, [], ◌∷◌, ◌++◌, filter, Option, Some, None, if◌then◌else◌}
use Rattle.std.specs.List.{list_any}

-- a light is in force
abbrev pub is_among : ℕ → List ℕ → Bool
is_among k lights = list_any (λ n. n == k) lights

-- the light is last in force where it wasn't in force
abbrev pub with_light : ℕ → List ℕ → List ℕ
with_light k lights = if is_among k lights then lights else lights ++ k ∷ []

-- lights without one of them
abbrev pub without_light : ℕ → List ℕ → List ℕ
without_light k lights = filter (λ n. not (n == k)) lights

-- those of the lights that were made before light k, all where there is no such light
abbrev pub made_before : Option ℕ → List ℕ → List ℕ
made_before None lights = lights
made_before (Some k) lights = filter (λ n. nat_lt n k) lights
