-- The faces of polygons (RenderMan Interface 3.2, section 5.1, Polygon and PointsPolygons).
use Rattle.std.specs.Prelude.{ℕ, ◌-◌, ◌^◌, ◌<◌, ◌==◌, nat_le, nat_lt, ℤ, pos, Bool, true, ◌&&◌, List, [], ◌∷◌, length, Option, Some, None, if◌then◌else◌, ◌≡◌, refl}
use Rattle.std.specs.List.{list_all, range_with_len}
use Rattle.fixed_math.specs.declared.decimal.Decimal.{Decimal}
use Rattle.fixed_math.specs.Decimal.{whole}
use Rattle.rib_reader.specs.declared.args.Arg.{Arg}
use Rattle.rib_reader.specs.Rules.{numbers_at}
use Rattle.mesh_basis.specs.Ranges.{with_next}

-- how many corners each face has, and the places of their points, face after face
pub record FaceValues : Type 0 where
  pub sizes : List ℕ
  pub corners : List ℕ

abbrev pub natural : Option ℤ → Option ℕ
natural (Some (pos n)) = Some n
natural _ = None

-- whole numbers, where none is below 0
abbrev pub naturals : List Decimal → Option (List ℕ)
naturals [] = Some []
naturals (d ∷ ds) = with_next (natural (whole d)) (naturals ds)

-- faces of these sizes, each of at least three corners, use up so many corners
abbrev pub use_up : List ℕ → ℕ → Bool
use_up [] left = left == 0
use_up (n ∷ ns) left = nat_le 3 n && (nat_le n left && use_up ns (left - n))

pub record AreFaces (f : FaceValues) : Type 0 where
  pub used : use_up f.sizes (length f.corners) ≡ true
  pub few : length f.corners < 2 ^ 64

-- each is the place of one of n points
abbrev pub are_places : ℕ → List ℕ → Bool
are_places n ks = list_all (λ k. nat_lt k n) ks

-- the faces over n points, where they are some
abbrev pub faces_over : ℕ → List ℕ → List ℕ → Option FaceValues
faces_over n sizes corners = if use_up sizes (length corners) && are_places n corners then Some (record { sizes = sizes; corners = corners }) else None

-- Polygon: one face round all points
abbrev pub one_face : ℕ → Option FaceValues
one_face n = faces_over n (n ∷ []) (range_with_len 0 n)

abbrev pub faces_by : ℕ → Option (List ℕ) → Option (List ℕ) → Option FaceValues
faces_by n (Some sizes) (Some corners) = faces_over n sizes corners
faces_by n _ _ = None

abbrev pub naturals_in : Option (List Decimal) → Option (List ℕ)
naturals_in (Some ds) = naturals ds
naturals_in None = None

-- PointsPolygons: the sizes of the faces, and the places of their points
abbrev pub faces_in : ℕ → List Arg → Option FaceValues
faces_in n args = faces_by n (naturals_in (numbers_at args 0)) (naturals_in (numbers_at args 1))

-- worked values
two_faces : use_up (3 ∷ 4 ∷ []) 7 ≡ true
two_faces = refl

a_face_too_short : faces_over 9 (2 ∷ 3 ∷ []) (0 ∷ 1 ∷ 2 ∷ 3 ∷ 4 ∷ []) ≡ None
a_face_too_short = refl

one_past_the_points : faces_over 2 (3 ∷ []) (0 ∷ 1 ∷ 2 ∷ []) ≡ None
one_past_the_points = refl
