-- Numbers of corners, by rows.
use Rattle.std.proofs.Common.{◌≡◌, ℕ, zero, suc, ◌+◌, ◌-◌, ◌*◌, ◌/◌, ◌%◌, ◌<◌, ◌≤◌, Bool, true, false, List, map, length, slice_index_or, sym, ap, ◌∙◌, arith}
use Rattle.std.specs.List.{range_with_len}
use Rattle.std.proofs.lemmas.List.{get_or_read}
use Rattle.std.proofs.lemmas.Simd.{map-map}
use Rattle.fixed_math.specs.Axes.{origin}
use Rattle.std.proofs.Math.Nat.{mod-lt, div-lt_iff_lt-mul, mul-le-mul_right, add-mul, mul_comm}
use Rattle.fixed_math.specs.declared.vec3.Vec3.{Vec3}
use Rattle.hider.specs.Cells.{first_corner, cell_at, cells_of, still}
use Rattle.hider.specs.CellValues.{cell_when, corner_number, shade_number, grid_values, micropolygons_of}

-- the corners of a cell are points of the grid
pub corner_inside : (columns rows i : ℕ) → 2 ≤ columns → 2 ≤ rows → i < (columns - 1) * (rows - 1) → first_corner columns i + columns + 1 < columns * rows
corner_inside columns rows i hc hr h =
    let m = columns - 1 in
    let q = i / m in
    let r = i % m in
    let some : 0 < m = omega arith in
    let low : r < m = mod-lt i some in
    let turned : (columns - 1) * (rows - 1) ≡ (rows - 1) * m = mul_comm m (rows - 1) in
    let high : q < rows - 1 = (div-lt_iff_lt-mul {k = m} {x = i} {y = rows - 1} some).1 (omega (arith, h, turned)) in
    let two : q + 2 ≤ rows = omega (arith, high) in
    let room : (q + 2) * columns ≤ rows * columns = mul-le-mul_right columns two in
    let parts : (q + 2) * columns ≡ q * columns + 2 * columns = add-mul q 2 columns in
    let whole : columns * rows ≡ rows * columns = mul_comm columns rows in
    omega (arith, low, room, parts, whole)

-- so is each of them by its number
pub corner_number_inside : (columns rows i k : ℕ) → 2 ≤ columns → 2 ≤ rows → i < (columns - 1) * (rows - 1) → corner_number columns (first_corner columns i) k < columns * rows
corner_number_inside columns rows i k hc hr h =
    let n = first_corner columns i in
    let most = corner_inside columns rows i hc hr h in
    let low = number_most columns n k in
    omega (arith, most, low)
  where
    number_most : (columns n k : ℕ) → corner_number columns n k ≤ n + columns + 1
    number_most columns n zero = omega arith
    number_most columns n (suc zero) = omega arith
    number_most columns n (suc (suc zero)) = omega arith
    number_most columns n (suc (suc (suc k))) = omega arith

-- the cells of a grid as values are the grid's micropolygons, which stay
pub grid_cells_are : (smooth : Bool) (columns rows : ℕ) (points colours opacities : List Vec3) (one_sided flip : Bool) →
    micropolygons_of (grid_values smooth columns rows points colours opacities) one_sided flip ≡ map (still one_sided flip) (cells_of smooth columns rows points colours opacities)
unfolding cell_at cell_when
grid_cells_are smooth columns rows points colours opacities one_sided flip =
    sym (map-map (still one_sided flip) (cell_at smooth columns points colours opacities) (range_with_len 0 ((columns - 1) * (rows - 1))))

pub corner_number_below : (columns rows i k r : ℕ) (items : List Vec3) → 2 ≤ columns → 2 ≤ rows → i < (columns - 1) * (rows - 1) → length items ≡ columns * rows →
    r ≡ corner_number columns (first_corner columns i) k → r < length items
corner_number_below columns rows i k r items hc hr h l e =
    let m = corner_number_inside columns rows i k hc hr h in
    omega (arith, m, l, e)

-- what is read there
pub corner_read : (columns rows i k r : ℕ) (items : List Vec3) (x : Vec3) → 2 ≤ columns → 2 ≤ rows → i < (columns - 1) * (rows - 1) → length items ≡ columns * rows →
    r ≡ corner_number columns (first_corner columns i) k → x ≡ slice_index_or items r x → slice_index_or items r x ≡ slice_index_or items (corner_number columns (first_corner columns i) k) origin
corner_read columns rows i k r items x hc hr h l e x_is =
    sym x_is ∙ get_or_read items r x (corner_number_below columns rows i k r items hc hr h l e) x_is origin ∙ ap (λ n. slice_index_or items n origin) e

-- the same of the point whose colour and opacity a corner has
pub shade_number_below : (smooth : Bool) (columns rows i k r : ℕ) (items : List Vec3) → 2 ≤ columns → 2 ≤ rows → i < (columns - 1) * (rows - 1) → length items ≡ columns * rows →
    r ≡ shade_number smooth columns i k → r < length items
shade_number_below false columns rows i k r items hc hr h l e = corner_number_below columns rows i 0 r items hc hr h l e
shade_number_below true columns rows i k r items hc hr h l e = corner_number_below columns rows i k r items hc hr h l e

pub shade_read : (smooth : Bool) (columns rows i k r : ℕ) (items : List Vec3) (x : Vec3) → 2 ≤ columns → 2 ≤ rows → i < (columns - 1) * (rows - 1) → length items ≡ columns * rows →
    r ≡ shade_number smooth columns i k → x ≡ slice_index_or items r x → slice_index_or items r x ≡ slice_index_or items (shade_number smooth columns i k) origin
shade_read false columns rows i k r items x hc hr h l e x_is = corner_read columns rows i 0 r items x hc hr h l e x_is
shade_read true columns rows i k r items x hc hr h l e x_is = corner_read columns rows i k r items x hc hr h l e x_is
