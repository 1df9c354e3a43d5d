-- Maps of sixteen numbers, by rows, and their inverses by the adjugate.
use Rattle.std.specs.Prelude.{◌≡◌, refl, ℕ, ◌*◌, ◌+◌, ◌^◌, ℤ, pos, neg_ℤ, ◌-ℤ◌, ◌*ℤ◌, Bool, ◌&&◌, cond, Result, Ok, Err, List, slice_index_or}
use Rattle.std.specs.Ordering.{int_eq}
use Rattle.fixed_math.specs.Whole.{floor_by, floor_div}
use Rattle.fixed_math.specs.declared.vec3.Vec3.{Vec3}
use Rattle.transforms.specs.declared.matrix.Row.{Row}
use Rattle.transforms.specs.declared.matrix.Matrix.{Matrix}
use Rattle.transforms.specs.declared.fault.FormFault.{FormFault}
use Rattle.transforms.specs.declared.fault.FormFault.TheVariants.{G1, G2, G4}
use Rattle.transforms.specs.Matrix.{dot, is_matrix}
use Rattle.transforms.specs.Map.{Map, row_of, widened_row, is_zero, is_turned}

-- the number at row i and column j
abbrev pub number_at : List ℤ → ℕ → ℕ → ℤ
number_at m i j = slice_index_or m (4 * i + j) (pos 0)

-- the first three numbers of row i
abbrev pub triple : List ℤ → ℕ → Vec3
triple m i = record { x = number_at m i 0; y = number_at m i 1; z = number_at m i 2 }

-- the fourth column is 0, 0, 0, 1
abbrev pub is_affine : List ℤ → Bool
is_affine m = is_zero (number_at m 0 3) && is_zero (number_at m 1 3) && is_zero (number_at m 2 3) && int_eq (number_at m 3 3) (pos 65536)

-- the exact cross product of two rows
unfoldable pub cross : Vec3 → Vec3 → Vec3
cross a b = record { x = a.y *ℤ b.z -ℤ a.z *ℤ b.y; y = a.z *ℤ b.x -ℤ a.x *ℤ b.z; z = a.x *ℤ b.y -ℤ a.y *ℤ b.x }

-- the exact determinant of three rows
unfoldable pub determinant : Vec3 → Vec3 → Vec3 → ℤ
determinant a b c = let n = cross b c in dot a.x a.y a.z n.x n.y n.z

abbrev pub dot_of : Vec3 → Vec3 → ℤ
dot_of a b = dot a.x a.y a.z b.x b.y b.z

-- the rows a, b, c times the columns of their adjugate: the determinant on the diagonal, and 0 elsewhere
pub record IsAdjugate (a b c : Vec3) : Type 0 where
  pub a_first : dot_of a (cross b c) ≡ determinant a b c
  pub b_first : dot_of b (cross b c) ≡ pos 0
  pub c_first : dot_of c (cross b c) ≡ pos 0
  pub a_second : dot_of a (cross c a) ≡ pos 0
  pub b_second : dot_of b (cross c a) ≡ determinant a b c
  pub c_second : dot_of c (cross c a) ≡ pos 0
  pub a_third : dot_of a (cross a b) ≡ pos 0
  pub b_third : dot_of b (cross a b) ≡ pos 0
  pub c_third : dot_of c (cross a b) ≡ determinant a b c

-- an entry of the inverse, from one of the adjugate and the determinant
unfoldable pub divided : ℤ → ℤ → ℤ
divided n d = floor_div (n *ℤ pos (2 ^ 40)) d

-- a row of the inverse: the columns of the adjugate are the cross products of the rows
unfoldable pub inverse_row : ℤ → ℤ → ℤ → ℤ → Row
inverse_row a b c d = row_of (divided a d) (divided b d) (divided c d)

-- the shift that undoes t under the linear rows x, y, z
unfoldable pub undone : Row → Row → Row → Row → Row
undone t x y z = row_of
    (floor_by (neg_ℤ (dot t.x t.y t.z x.x y.x z.x)) 16777216)
    (floor_by (neg_ℤ (dot t.x t.y t.z x.y y.y z.y)) 16777216)
    (floor_by (neg_ℤ (dot t.x t.y t.z x.z y.z z.z)) 16777216)

-- the inverse of rows a, b, c and a shift t, where their determinant d isn't 0
unfoldable pub inverted : Vec3 → Vec3 → Vec3 → Row → Matrix
inverted a b c t =
    let d = determinant a b c in
    let p = cross b c in
    let q = cross c a in
    let r = cross a b in
    let x = inverse_row p.x q.x r.x d in
    let y = inverse_row p.y q.y r.y d in
    let z = inverse_row p.z q.z r.z d in
    record { x = x; y = y; z = z; shift = undone t x y z }

-- the map of the rows a, b, c and the shift t, with a singular fault where they have no inverse
unfoldable pub map_of_rows : Vec3 → Vec3 → Vec3 → Vec3 → Result Map FormFault
map_of_rows a b c t =
    let d = determinant a b c in
    let back = inverted a b c (widened_row t) in
    let there : Matrix = record { x = widened_row a; y = widened_row b; z = widened_row c; shift = widened_row t } in
    cond (is_zero d) (Err G1) (cond (is_matrix back) (Ok (record { there = there; back = back; mirrored = is_turned d })) (Err G2))

-- a fourth column that isn't 0, 0, 0, 1 is looked at first
abbrev pub concat_map : List ℤ → Result Map FormFault
concat_map m = cond (is_affine m) (map_of_rows (triple m 0) (triple m 1) (triple m 2) (triple m 3)) (Err G4)

-- worked values: the determinant of a diagonal, and one of three rows in a plane
determinant_of_diagonal : determinant (record { x = pos 2; y = pos 0; z = pos 0 }) (record { x = pos 0; y = pos 3; z = pos 0 }) (record { x = pos 0; y = pos 0; z = pos 5 }) ≡ pos 30
unfolding determinant cross
determinant_of_diagonal = refl

determinant_in_a_plane : determinant (record { x = pos 1; y = pos 2; z = pos 3 }) (record { x = pos 4; y = pos 5; z = pos 6 }) (record { x = pos 7; y = pos 8; z = pos 9 }) ≡ pos 0
unfolding determinant cross
determinant_in_a_plane = refl

-- the inverse of 1 and 1 above the diagonal has -1 there
inverse_of_shear : (inverted (record { x = pos 65536; y = pos 65536; z = pos 0 }) (record { x = pos 0; y = pos 65536; z = pos 0 }) (record { x = pos 0; y = pos 0; z = pos 65536 }) (row_of (pos 0) (pos 0) (pos 0))).x ≡ row_of (pos 16777216) (neg_ℤ (pos 16777216)) (pos 0)
unfolding inverted inverse_row divided undone determinant cross
inverse_of_shear = refl
