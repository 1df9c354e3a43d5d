-- Affine maps with their inverses beside them: their values at points, and their products.
use Rattle.std.specs.Prelude.{◌^◌, ℤ, pos, neg_ℤ, ◌+ℤ◌, ◌*ℤ◌, Bool, true, false, not, ◌&&◌, ◌||◌, int_lt, cond, Result, Ok, Err, List, [], ◌∷◌, ◌≡◌, refl}
use Rattle.std.specs.Ordering.{int_eq}
use Rattle.fixed_math.specs.Whole.{floor_by, floor_div}
use Rattle.fixed_math.specs.declared.vec3.Vec3.{Vec3}
use Rattle.transforms.specs.declared.matrix.Row.{Row}
use Rattle.transforms.specs.declared.matrix.Matrix.{Matrix}
use Rattle.transforms.specs.declared.fault.FormFault.{FormFault}
use Rattle.transforms.specs.declared.fault.FormFault.TheVariants.{G1, G2}
use Rattle.transforms.specs.Matrix.{dot, widened, product, is_matrix}

-- a map, its inverse, and whether it turns left into right
pub record Map : Type 0 where
  pub there : Matrix
  pub back : Matrix
  pub mirrored : Bool

-- one coordinate of the image of a point: the column of that coordinate, and its shift
abbrev pub coordinate : Vec3 → ℤ → ℤ → ℤ → ℤ → ℤ
coordinate p a b c t = floor_by (dot p.x p.y p.z a b c +ℤ t *ℤ pos 65536) 16777216

-- the image of a point: with the shift
abbrev pub point_of : Map → Vec3 → List ℤ
point_of m p =
    let t = m.there in
    coordinate p t.x.x t.y.x t.z.x t.shift.x ∷ coordinate p t.x.y t.y.y t.z.y t.shift.y ∷ coordinate p t.x.z t.y.z t.z.z t.shift.z ∷ []

-- the same without the shift
abbrev pub direction : Vec3 → ℤ → ℤ → ℤ → ℤ
direction p a b c = floor_by (dot p.x p.y p.z a b c) 16777216

-- the image of a vector: without it
abbrev pub vector_of : Map → Vec3 → List ℤ
vector_of m p =
    let t = m.there in
    direction p t.x.x t.y.x t.z.x ∷ direction p t.x.y t.y.y t.z.y ∷ direction p t.x.z t.y.z t.z.z ∷ []

-- normals go by the transposed inverse
abbrev pub normal_of : Map → Vec3 → List ℤ
normal_of m n =
    let b = m.back in
    direction n b.x.x b.x.y b.x.z ∷ direction n b.y.x b.y.y b.y.z ∷ direction n b.z.x b.z.y b.z.z ∷ []

-- the inverse: the two matrices exchanged
abbrev pub inverse_of : Map → Map
inverse_of m = record { there = m.back; back = m.there; mirrored = m.mirrored }

-- true where exactly one is
abbrev pub differ : Bool → Bool → Bool
differ true b = not b
differ false b = b

-- m after first
abbrev pub composed : Map → Map → Map
composed m first = record {
  there = product first.there m.there;
  back = product m.back first.back;
  mirrored = differ first.mirrored m.mirrored;
}

-- that, or a range fault
abbrev pub before_of : Map → Map → Result Map FormFault
before_of m first =
    let c = composed m first in cond (is_matrix c.there && is_matrix c.back) (Ok c) (Err G2)

-- a row of a matrix
abbrev pub row_of : ℤ → ℤ → ℤ → Row
row_of a b c = record { x = a; y = b; z = c }

-- a along each axis by itself, and a shift
abbrev pub diagonal : ℤ → ℤ → ℤ → Row → Matrix
diagonal a b c t = record {
  x = row_of a (pos 0) (pos 0);
  y = row_of (pos 0) b (pos 0);
  z = row_of (pos 0) (pos 0) c;
  shift = t;
}

abbrev pub no_shift : Row
no_shift = row_of (pos 0) (pos 0) (pos 0)

-- a row of three raws
abbrev pub widened_row : Vec3 → Row
widened_row v = row_of (widened v.x) (widened v.y) (widened v.z)

-- a shift by three raws
abbrev pub shifted : ℤ → ℤ → ℤ → Matrix
shifted x y z = diagonal (pos (2 ^ 24)) (pos (2 ^ 24)) (pos (2 ^ 24)) (row_of (widened x) (widened y) (widened z))

-- the map that adds x, y and z
abbrev pub translation : ℤ → ℤ → ℤ → Map
translation x y z = record { there = shifted x y z; back = shifted (neg_ℤ x) (neg_ℤ y) (neg_ℤ z); mirrored = false }

-- the map that changes nothing
abbrev pub identity : Map
identity = translation (pos 0) (pos 0) (pos 0)

-- the entry of 1 / s
abbrev pub reciprocal : ℤ → ℤ
reciprocal s = floor_div (pos (2 ^ 40)) s

abbrev pub is_zero : ℤ → Bool
is_zero x = int_eq x (pos 0)

-- true where the number is negative
abbrev pub is_turned : ℤ → Bool
is_turned x = int_lt x (pos 0)

-- the map that scales by three factors
abbrev pub scaling : Vec3 → Map
scaling s = record {
  there = diagonal (widened s.x) (widened s.y) (widened s.z) no_shift;
  back = diagonal (reciprocal s.x) (reciprocal s.y) (reciprocal s.z) no_shift;
  mirrored = differ (differ (is_turned s.x) (is_turned s.y)) (is_turned s.z);
}

abbrev pub has_zero : Vec3 → Bool
has_zero s = is_zero s.x || is_zero s.y || is_zero s.z

-- the map that scales by three factors, or G1 where one is 0
abbrev pub scale_map : Vec3 → Result Map FormFault
scale_map s = cond (has_zero s) (Err G1) (Ok (scaling s))

-- worked values
reciprocal_of_minus_half : reciprocal (neg_ℤ (pos 32768)) ≡ neg_ℤ (pos 33554432)
reciprocal_of_minus_half = refl

scale_by_zero : scale_map (record { x = pos 65536; y = pos 0; z = pos 65536 }) ≡ Err G1
scale_by_zero = refl
