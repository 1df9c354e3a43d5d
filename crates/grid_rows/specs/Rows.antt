-- Rows of numbers that hold values: those of a grid's points, one value behind another.
use Rattle.std.specs.Prelude.{◌≡◌, ℕ, ◌+◌, ◌-◌, ◌*◌, ◌<◌, ℤ, pos, Bool, false, cond, List, [], ◌∷◌, ◌++◌, length, map, replicate, get_or}
use Rattle.fixed_math.specs.Fixed.{IsRaw}
use Rattle.fixed_math.specs.Axes.{part_of}
use Rattle.fixed_math.specs.declared.vec3.Axis.TheVariants as axes
use Rattle.fixed_math.specs.declared.vec3.Vec3.{Vec3}
use Rattle.sl_ast.specs.declared.typed.Value.{Value}
use Rattle.sl_ast.specs.declared.typed.Value.TheVariants.{Number, Triple, Word}
use Rattle.builtins.specs.declared.shape.Shape.{Shape}
use Rattle.builtins.specs.declared.shape.Shape.TheVariants as shapes
use Rattle.builtins.specs.Shapes.{shape}
use Rattle.grid_code.specs.declared.slot.Slot.{Slot}
use Rattle.place_rows.specs.Layout.{row_length, height, same_class}

-- the value of that shape at place i of rows of length w, from row k on; no text stands in rows
abbrev pub value_in : Shape → List ℤ → ℕ → ℕ → ℕ → Value
value_in shapes.Number rows w k i = Number (get_or rows (k * w + i) (pos 0))
value_in shapes.Triple rows w k i = Triple record { x = get_or rows (k * w + i) (pos 0); y = get_or rows ((k + 1) * w + i) (pos 0); z = get_or rows ((k + 2) * w + i) (pos 0) }
value_in shapes.Word rows w k i = Word []

-- place i of rows of length w, from row k on, holds these values
abbrev pub HoldList : List Value → List ℤ → ℕ → ℕ → ℕ → Type 0
HoldList [] rows w k i = Unit {0}
HoldList (v ∷ vs) rows w k i = (v ≡ value_in (shape v) rows w k i) × HoldList vs rows w (k + height (shape v)) i

-- the rows that values take
abbrev pub heights : List Value → ℕ
heights [] = 0
heights (v ∷ vs) = height (shape v) + heights vs

-- the rows hold the values that a function gives for each of c places, and nothing more
pub record AreRows (c : ℕ) (given : ℕ → List Value) (rows : List ℤ) : Type 0 where
  pub long : (i : ℕ) → i < c → length rows ≡ heights (given i) * row_length c
  pub hold : (i : ℕ) → i < c → HoldList (given i) rows (row_length c) 0 i

-- the values of the parameters of one class, in order
abbrev pub values_of : Bool → List Slot → List Value → List Value
values_of class (s ∷ ss) (v ∷ vs) = cond (same_class s.uniform class) (v ∷ values_of class ss vs) (values_of class ss vs)
values_of class _ _ = []

-- a text has no row: the parameters that vary aren't texts
abbrev pub AreRowable : List Slot → List Value → Type 0
AreRowable (p ∷ ps) (v ∷ vs) = (p.uniform ≡ false → shape v ≡ shapes.Word → ⊥) × AreRowable ps vs
AreRowable _ _ = Unit {0}

-- a row of numbers, filled up with zeros
abbrev pub row_of : List ℤ → List ℤ
row_of xs = xs ++ replicate (row_length (length xs) - length xs) (pos 0)

-- the three rows of triples
abbrev pub triple_rows : List Vec3 → List ℤ
triple_rows ps = row_of (map (part_of axes.X) ps) ++ row_of (map (part_of axes.Y) ps) ++ row_of (map (part_of axes.Z) ps)

-- the rows of a value that is the same at c places
abbrev pub value_rows : ℕ → Value → List ℤ
value_rows c (Number x) = row_of (replicate c x)
value_rows c (Triple t) = row_of (replicate c t.x) ++ row_of (replicate c t.y) ++ row_of (replicate c t.z)
value_rows c (Word w) = []

-- each element is a raw
abbrev pub AreRaws : List ℤ → Type 0
AreRaws rows = (k : ℕ) → IsRaw (get_or rows k (pos 0))

-- the triple in three rows of length w, from row k on
abbrev pub triple_in : List ℤ → ℕ → ℕ → ℕ → Vec3
triple_in rows w k i = record { x = get_or rows (k * w + i) (pos 0); y = get_or rows ((k + 1) * w + i) (pos 0); z = get_or rows ((k + 2) * w + i) (pos 0) }

-- for private contracts alone: raws that the greatest row fits in
abbrev pub IsRoom : List ℤ → Type 0
IsRoom row = (length row ≡ 296) × AreRaws row

-- a row begins with the row of these numbers
abbrev pub BeginsWith : List ℤ → List ℤ → Type 0
BeginsWith row xs = (k : ℕ) → k < row_length (length xs) → get_or row k (pos 0) ≡ get_or xs k (pos 0)
