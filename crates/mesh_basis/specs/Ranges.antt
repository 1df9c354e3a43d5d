-- Points whose raw coordinates have a magnitude of at most 2 ^ 30.
use Rattle.std.specs.Prelude.{nat_le, ℤ, pos, neg_ℤ, unsigned_abs, Bool, is_some, List, [], ◌∷◌, Option, Some, None, if◌then◌else◌, ◌≡◌, refl}
use Rattle.std.specs.List.{list_all}
use Rattle.fixed_math.specs.declared.vec3.Vec3.{Vec3}

-- a raw of a magnitude of at most 2 ^ 30
abbrev pub number_in_range : ℤ → Option ℤ
number_in_range x = if nat_le (unsigned_abs x) 1073741824 then Some x else None

abbrev pub of_numbers : Option ℤ → Option ℤ → Option ℤ → Option Vec3
of_numbers (Some x) (Some y) (Some z) = Some (record { x = x; y = y; z = z })
of_numbers _ _ _ = None

-- the point, where it is in range
abbrev pub point_in_range : Vec3 → Option Vec3
point_in_range p = of_numbers (number_in_range p.x) (number_in_range p.y) (number_in_range p.z)

-- an item before others, where all are there
abbrev pub with_next : {A : Type 0} → Option A → Option (List A) → Option (List A)
with_next (Some x) (Some xs) = Some (x ∷ xs)
with_next _ _ = None

-- the points, where each is in range
abbrev pub points_in_range : List Vec3 → Option (List Vec3)
points_in_range [] = Some []
points_in_range (p ∷ ps) = with_next (point_in_range p) (points_in_range ps)

abbrev pub is_in_range : Vec3 → Bool
is_in_range p = is_some (point_in_range p)

-- each point is in range
abbrev pub are_in_range : List Vec3 → Bool
are_in_range ps = list_all is_in_range ps

-- worked values
at_limit : number_in_range (neg_ℤ (pos 1073741824)) ≡ Some (neg_ℤ (pos 1073741824))
at_limit = refl

past_limit : number_in_range (pos 1073741825) ≡ None
past_limit = refl
