-- How values lie in rows: the elements of a row, the rows of a value, and whether values have rows at all, by their class.
use Rattle.std.specs.Prelude.{◌≡◌, ℕ, ◌+◌, ◌*◌, ◌/◌, Bool, true, false, not, refl}
use Rattle.builtins.specs.declared.shape.Shape.{Shape}
use Rattle.builtins.specs.declared.shape.Shape.TheVariants as shapes

-- the elements of a row for so many points: the least multiple of eight that holds them
abbrev pub row_length : ℕ → ℕ
row_length c = (c + 7) / 8 * 8

-- the rows that a value of a shape takes
abbrev pub height : Shape → ℕ
height shapes.Triple = 3
height _ = 1

-- two classes are the same: uniform values are given apart from those that vary, which have rows
abbrev pub same_class : Bool → Bool → Bool
same_class true b = b
same_class false b = not b

-- worked: 81 points have rows of 88
abbrev of_nine_by_nine : row_length 81 ≡ 88
of_nine_by_nine = refl
