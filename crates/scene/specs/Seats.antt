-- The values that a patch has of its primitive's variables, by where it stands in the primitive (RenderMan Interface 3.2, section 5).
use Rattle.std.specs.Prelude.{◌≡◌, refl, ℕ, ◌+◌, ◌*◌, ◌≤◌, ℤ, pos, Bool, true, false, List, [], ◌∷◌, ◌++◌, take, drop, map, Some, All, slice_get, get_or, codes}
use Rattle.fixed_math.specs.Names.{last_place}
use Rattle.scene.specs.declared.params.Class.{Class}
use Rattle.scene.specs.declared.params.Class.TheVariants.{Constant, Uniform, Varying, Vertex, FaceVarying}
use Rattle.scene.specs.declared.params.Kind.{Kind}
use Rattle.scene.specs.declared.params.Kind.TheVariants as kinds
use Rattle.scene.specs.declared.params.Values.{Values}
use Rattle.scene.specs.declared.params.Values.TheVariants.{Numbers, Strings}
use Rattle.scene.specs.declared.params.Param.{Param}
use Rattle.scene.specs.declared.seat.Seat.{Seat}
use Rattle.scene.specs.Kinds.{width, count, is_of_kind}
use Rattle.scene.specs.Scene.{VariableValue}

-- where they stand among those of the primitive: one value, or one at each corner of the patch
abbrev pub value_places : Class → Seat → List ℕ
value_places Constant seat = 0 ∷ []
value_places Uniform seat = seat.face ∷ []
value_places Varying seat = seat.points
value_places Vertex seat = seat.points
value_places FaceVarying seat = seat.corners

-- whether a variable of a class has a value at each corner
abbrev pub varies : Class → Bool
varies Constant = false
varies Uniform = false
varies _ = true

-- the w items of each value at these places
abbrev pub items_at : {A : Type 0} → ℕ → List A → List ℕ → List A
items_at w xs [] = []
items_at w xs (n ∷ ns) = take w (drop (w * n) xs) ++ items_at w xs ns

abbrev pub taken : Kind → Values → List ℕ → Values
taken k (Numbers xs) ns = Numbers (items_at (width k) xs ns)
taken k (Strings ts) ns = Strings (items_at (width k) ts ns)

-- a variable as a patch has it, by its seat
abbrev pub variable_of : Seat → Param → VariableValue
variable_of seat p = record { name = p.name; kind = p.kind; varying = varies p.class; values = taken p.kind p.values (value_places p.class seat) }

-- the variables of a patch by its seat in its primitive
abbrev pub variables_of : Seat → List Param → List VariableValue
variables_of seat ps = map (variable_of seat) ps

-- a value at that place is there
abbrev pub IsIn : Param → ℕ → Type 0
IsIn p n = width p.kind * n + width p.kind ≤ count p.values

abbrev pub IsOfKind : Param → Type 0
IsOfKind p = is_of_kind p.kind p.values ≡ true

-- the variable has values of its kind, and one at each place of the patch
pub record IsThere (seat : Seat) (p : Param) : Type 0 where
  pub kind : IsOfKind p
  pub within : All (IsIn p) (value_places p.class seat)

-- the numbers of a variable's value, one behind another; a string has none
abbrev pub numbers_of : Values → List ℤ
numbers_of (Numbers xs) = xs
numbers_of (Strings ts) = []

-- its string; numbers have none
abbrev pub text_of : Values → List ℕ
text_of (Numbers xs) = []
text_of (Strings ts) = get_or ts 0 []

-- ---- names

abbrev pub names_of : List Param → List (List ℕ)
names_of ps = map (λ p. p.name) ps

abbrev pub names_in : List VariableValue → List (List ℕ)
names_in xs = map (λ x. x.name) xs

-- each name stands once
abbrev pub AreDistinct : List (List ℕ) → Type 0
AreDistinct names = (k : ℕ) (name : List ℕ) → slice_get names k ≡ Some name → last_place name names ≡ Some k

-- worked values: of a number at each of three faces, the patch on face 2 has one; of colours at points, four
abbrev seat : Seat
seat = record { place = 0 ∷ 1 ∷ 0 ∷ 1 ∷ []; face = 2; points = 1 ∷ 0 ∷ 2 ∷ 0 ∷ []; corners = 0 ∷ 1 ∷ 2 ∷ 3 ∷ [] }

abbrev numbers : Class → Kind → List ℕ → Param
numbers class kind ns = record { name = codes "x"; class = class; kind = kind; values = Numbers (map (λ n. pos n) ns) }

abbrev of_its_face : (variable_of seat (numbers Uniform kinds.Float (7 ∷ 8 ∷ 9 ∷ []))).values ≡ Numbers (pos 9 ∷ [])
of_its_face = refl

abbrev of_its_points : (variable_of seat (numbers Vertex kinds.Pair (1 ∷ 2 ∷ 3 ∷ 4 ∷ 5 ∷ 6 ∷ []))).values
    ≡ Numbers (pos 3 ∷ pos 4 ∷ pos 1 ∷ pos 2 ∷ pos 5 ∷ pos 6 ∷ pos 1 ∷ pos 2 ∷ [])
of_its_points = refl
