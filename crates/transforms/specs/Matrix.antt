-- Matrices of affine maps, at 24 fraction bits. Points are rows, so a matrix holds the images of the axes, and a shift.
use Rattle.std.specs.Prelude.{◌^◌, ℤ, pos, ◌+ℤ◌, ◌*ℤ◌, Bool, ◌&&◌, nat_le, cond, unsigned_abs, Result, Ok, Err}
use Rattle.fixed_math.specs.Whole.{floor_by}
use Rattle.transforms.specs.declared.matrix.Row.{Row}
use Rattle.transforms.specs.declared.matrix.Matrix.{Matrix}
use Rattle.transforms.specs.declared.fault.FormFault.{FormFault}
use Rattle.transforms.specs.declared.fault.FormFault.TheVariants.{G2}

-- a raw, which has 16 fraction bits
abbrev pub widened : ℤ → ℤ
widened x = x *ℤ pos 256

-- the exact sum of three products
abbrev pub dot : ℤ → ℤ → ℤ → ℤ → ℤ → ℤ → ℤ
dot a b c x y z = a *ℤ x +ℤ b *ℤ y +ℤ c *ℤ z

-- an entry in range, whose magnitude is at most 2 ^ 47
abbrev pub is_entry : ℤ → Bool
is_entry x = nat_le (unsigned_abs x) (2 ^ 47)

abbrev pub is_row : Row → Bool
is_row r = is_entry r.x && is_entry r.y && is_entry r.z

-- all entries are in range
abbrev pub is_matrix : Matrix → Bool
is_matrix m = is_row m.x && is_row m.y && is_row m.z && is_row m.shift

-- what is in range, or a range fault
abbrev pub fitted_entry : ℤ → Result ℤ FormFault
fitted_entry x = cond (is_entry x) (Ok x) (Err G2)

abbrev pub fitted_row : Row → Result Row FormFault
fitted_row r = cond (is_row r) (Ok r) (Err G2)

-- a matrix whose entries are in range, else G2
abbrev pub fitted : Matrix → Result Matrix FormFault
fitted m = cond (is_matrix m) (Ok m) (Err G2)

-- the image of a row under the linear part of b
unfoldable pub row_product : Row → Matrix → Row
row_product a b = record {
  x = floor_by (dot a.x a.y a.z b.x.x b.y.x b.z.x) 16777216;
  y = floor_by (dot a.x a.y a.z b.x.y b.y.y b.z.y) 16777216;
  z = floor_by (dot a.x a.y a.z b.x.z b.y.z b.z.z) 16777216;
}

-- the image of a shift under b
unfoldable pub shift_product : Row → Matrix → Row
shift_product a b = record {
  x = floor_by (dot a.x a.y a.z b.x.x b.y.x b.z.x) 16777216 +ℤ b.shift.x;
  y = floor_by (dot a.x a.y a.z b.x.y b.y.y b.z.y) 16777216 +ℤ b.shift.y;
  z = floor_by (dot a.x a.y a.z b.x.z b.y.z b.z.z) 16777216 +ℤ b.shift.z;
}

-- a and then b
abbrev pub product : Matrix → Matrix → Matrix
product a b = record {
  x = row_product a.x b;
  y = row_product a.y b;
  z = row_product a.z b;
  shift = shift_product a.shift b;
}
