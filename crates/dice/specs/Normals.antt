-- Normals of a surface: the unit of the exact cross product of its partial derivatives (RenderMan Interface 3.2, section 4.2.3,
-- on the direction of normals).
use Rattle.std.specs.Prelude.{ℕ, ◌<◌, ◌≤◌, ◌^◌, ℤ, pos, neg_ℤ, ◌*ℤ◌, ◌-ℤ◌, unsigned_abs, List, [], ◌∷◌, slice_index_or, ◌≡◌, refl}
use Rattle.fixed_math.specs.declared.vec3.Vec3.{Vec3}
use Rattle.fixed_math.specs.Unit.{unit_part}

-- the number at a place
abbrev pub item : List ℤ → ℕ → ℤ
item zs k = slice_index_or zs k (pos 0)

-- of two factors, what the places i and j give for the third
abbrev pub minor : List ℤ → List ℤ → ℕ → ℕ → ℤ
minor a b i j = item a i *ℤ item b j -ℤ item a j *ℤ item b i

-- the cross product of two derivatives, exact
unfoldable pub cross : List ℤ → List ℤ → List ℤ
cross a b = minor a b 1 2 ∷ minor a b 2 0 ∷ minor a b 0 1 ∷ []

-- the unit vector in the direction of three whole numbers
unfoldable pub direction : List ℤ → Vec3
direction c = record {
  x = unit_part (item c 0) (item c 0) (item c 1) (item c 2);
  y = unit_part (item c 1) (item c 0) (item c 1) (item c 2);
  z = unit_part (item c 2) (item c 0) (item c 1) (item c 2);
}

-- the normal at u and v, from the derivatives along u and along v
abbrev pub normal : (ℕ → ℕ → List ℤ) → (ℕ → ℕ → List ℤ) → ℕ → ℕ → Vec3
normal du dv u v = direction (cross (du u v) (dv u v))

-- for private contracts alone: each of three numbers has a magnitude of at most 2 ^ 22, so that their products are far from 64 bits
abbrev pub AreShort : List ℤ → Type 0
AreShort zs = (k : ℕ) → k < 3 → unsigned_abs (item zs k) ≤ 2 ^ 22

-- and alike: each fits in a word of 32 bits
abbrev pub AreNarrow : List ℤ → Type 0
AreNarrow zs = (k : ℕ) → k < 3 → unsigned_abs (item zs k) < 2 ^ 31

-- worked values: x before y gives z, y before x its opposite; no direction gives no normal
cross_of_axes : cross (pos 3 ∷ pos 0 ∷ pos 0 ∷ []) (pos 0 ∷ pos 5 ∷ pos 0 ∷ []) ≡ pos 0 ∷ pos 0 ∷ pos 15 ∷ []
unfolding cross
cross_of_axes = refl

cross_turned : cross (pos 0 ∷ pos 5 ∷ pos 0 ∷ []) (pos 3 ∷ pos 0 ∷ pos 0 ∷ []) ≡ pos 0 ∷ pos 0 ∷ neg_ℤ (pos 15) ∷ []
unfolding cross
cross_turned = refl
