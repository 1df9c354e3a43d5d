-- What users of maps rely on, exact in this arithmetic.
use Rattle.std.specs.Prelude.{ℕ, zero, suc, ◌≤◌, ◌≡◌, ℤ, pos, neg_ℤ, ◌+ℤ◌, ◌<ℤ◌, unsigned_abs, Ok, List, [], ◌∷◌}
use Rattle.fixed_math.specs.declared.vec3.Vec3.{Vec3}
use Rattle.fixed_math.specs.declared.vec3.Axis.{Axis}
use Rattle.fixed_math.specs.declared.vec3.Axis.TheVariants.{X, Y, Z}
use Rattle.transforms.specs.Map.{Map, point_of, vector_of, normal_of, before_of, translation}

-- the three numbers of a point
abbrev pub numbers : Vec3 → List ℤ
numbers p = p.x ∷ p.y ∷ p.z ∷ []

-- a map that leaves points and vectors where they are
abbrev pub ChangesNothing : Map → Type 0
ChangesNothing m = (p : Vec3) → (point_of m p ≡ numbers p) × (vector_of m p ≡ numbers p) × (normal_of m p ≡ numbers p)

-- a translation after a translation adds their shifts, and its inverse undoes it
abbrev pub Adds : Vec3 → Map → Type 0
Adds d m = (e : Vec3) → unsigned_abs e.x ≤ 2147483647 → unsigned_abs e.y ≤ 2147483647 → unsigned_abs e.z ≤ 2147483647 →
    before_of m (translation e.x e.y e.z) ≡ Ok (translation (e.x +ℤ d.x) (e.y +ℤ d.y) (e.z +ℤ d.z))

-- a quarter turn about an axis: about z it takes x to y, and so on round
abbrev pub turned_once : Axis → Vec3 → Vec3
turned_once X p = record { x = p.x; y = neg_ℤ p.z; z = p.y }
turned_once Y p = record { x = p.z; y = p.y; z = neg_ℤ p.x }
turned_once Z p = record { x = neg_ℤ p.y; y = p.x; z = p.z }

unfoldable pub turned : ℕ → Axis → Vec3 → Vec3
turned zero a p = p
turned (suc n) a p = turned n a (turned_once a p)

-- v has the direction of an axis
abbrev pub IsAlong : Axis → Vec3 → Type 0
IsAlong X v = (pos 0 <ℤ v.x) × (v.y ≡ pos 0) × (v.z ≡ pos 0)
IsAlong Y v = (v.x ≡ pos 0) × (pos 0 <ℤ v.y) × (v.z ≡ pos 0)
IsAlong Z v = (v.x ≡ pos 0) × (v.y ≡ pos 0) × (pos 0 <ℤ v.z)

-- m turns each point by q quarters about the axis a
abbrev pub IsQuarterTurn : ℕ → Axis → Map → Type 0
IsQuarterTurn q a m = (p : Vec3) → point_of m p ≡ numbers (turned q a p)
