-- Rotations about an axis through the origin.
use Rattle.std.specs.Prelude.{◌≡◌, refl, ℤ, pos, neg_ℤ, ◌*ℤ◌, ◌&&◌, cond, Bool, false, Result, Ok, Err}
use Rattle.std.specs.Int.{int_rem_euclid}
use Rattle.std.specs.Ordering.{int_eq}
use Rattle.fixed_math.specs.Whole.{floor_by}
use Rattle.fixed_math.specs.Fixed.{add, sub, mul}
use Rattle.fixed_math.specs.Sine.{sin, cos, series, one_less, folded, reduced}
use Rattle.fixed_math.specs.Unit.{unit_part}
use Rattle.fixed_math.specs.declared.vec3.Vec3.{Vec3}
use Rattle.transforms.specs.declared.matrix.Matrix.{Matrix}
use Rattle.transforms.specs.declared.fault.FormFault.{FormFault}
use Rattle.transforms.specs.declared.fault.FormFault.TheVariants.{G1}
use Rattle.transforms.specs.Matrix.{widened}
use Rattle.transforms.specs.Map.{Map, row_of, no_shift, is_zero}

-- an angle in degrees, in radians
unfoldable pub radians : ℤ → ℤ
radians f = floor_by (f *ℤ pos 205887) 11796480

-- a value at 0, 90, 180 and 270 degrees, and at all others
abbrev pub at_quarters : ℤ → ℤ → ℤ → ℤ → ℤ → ℤ → ℤ
at_quarters r a b c d e =
    cond (int_eq r (pos 0)) a (cond (int_eq r (pos 5898240)) b (cond (int_eq r (pos 11796480)) c (cond (int_eq r (pos 17694720)) d e)))

-- the cosine and the sine of an angle in degrees, exact at quarter turns
unfoldable pub cosine : ℤ → ℤ
cosine f = at_quarters (int_rem_euclid f (pos 23592960)) (pos 65536) (pos 0) (neg_ℤ (pos 65536)) (pos 0) (cos (radians f))

-- the sine of an angle in degrees, exact at quarter turns
unfoldable pub sine : ℤ → ℤ
sine f = at_quarters (int_rem_euclid f (pos 23592960)) (pos 0) (pos 65536) (pos 0) (neg_ℤ (pos 65536)) (sin (radians f))

-- what two coordinates of the axis give, without the sine
abbrev pub across : ℤ → ℤ → ℤ → ℤ
across c a b = mul (sub (pos 65536) c) (mul a b)

-- the rotation about the unit vector k, by an angle of cosine c and sine s
unfoldable pub turning : ℤ → ℤ → Vec3 → Matrix
turning c s k = record {
  x = row_of (widened (add (across c k.x k.x) c)) (widened (add (across c k.x k.y) (mul s k.z))) (widened (sub (across c k.x k.z) (mul s k.y)));
  y = row_of (widened (sub (across c k.y k.x) (mul s k.z))) (widened (add (across c k.y k.y) c)) (widened (add (across c k.y k.z) (mul s k.x)));
  z = row_of (widened (add (across c k.z k.x) (mul s k.y))) (widened (sub (across c k.z k.y) (mul s k.x))) (widened (add (across c k.z k.z) c));
  shift = no_shift;
}

-- rows for columns, without a shift
abbrev pub transposed : Matrix → Matrix
transposed m = record {
  x = row_of m.x.x m.y.x m.z.x;
  y = row_of m.x.y m.y.y m.z.y;
  z = row_of m.x.z m.y.z m.z.z;
  shift = no_shift;
}

-- the unit vector of an axis
abbrev pub unit_of : Vec3 → Vec3
unit_of v = record { x = unit_part v.x v.x v.y v.z; y = unit_part v.y v.x v.y v.z; z = unit_part v.z v.x v.y v.z }

-- the map that turns by an angle about an axis
abbrev pub rotation : ℤ → Vec3 → Map
rotation angle axis =
    let m = turning (cosine angle) (sine angle) (unit_of axis) in
    record { there = m; back = transposed m; mirrored = false }

abbrev pub is_nothing : Vec3 → Bool
is_nothing v = is_zero v.x && is_zero v.y && is_zero v.z

-- the rotation by an angle in degrees about an axis, or G1 where the axis has no length
abbrev pub rotate_map : ℤ → Vec3 → Result Map FormFault
rotate_map angle axis = cond (is_nothing axis) (Err G1) (Ok (rotation angle axis))

-- worked values: a quarter turn about z takes x to y, and y to the negative x
quarter_about_z : turning (cosine (pos 5898240)) (sine (pos 5898240)) (record { x = pos 0; y = pos 0; z = pos 65536 }) ≡ record {
  x = row_of (pos 0) (pos 16777216) (pos 0);
  y = row_of (neg_ℤ (pos 16777216)) (pos 0) (pos 0);
  z = row_of (pos 0) (pos 0) (pos 16777216);
  shift = no_shift;
}
unfolding turning cosine sine radians sin cos series one_less folded reduced
quarter_about_z = refl

cosine_of_60 : cosine (pos 3932160) ≡ pos 32767
unfolding cosine radians sin cos series one_less folded reduced
cosine_of_60 = refl
