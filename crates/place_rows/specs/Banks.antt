-- For the machine's own contracts alone: what banks hold, by shape and place, and a row stored under a mask.
use Rattle.std.specs.Prelude.{◌≡◌, ℕ, ◌+◌, ◌*◌, ◌<◌, ◌==◌, ◌&&◌, Bool, false, cond, List, pos, length, get_or}
use Rattle.fixed_math.specs.Axes.{origin}
use Rattle.builtins.specs.declared.shape.Shape.{Shape}
use Rattle.builtins.specs.declared.shape.Shape.TheVariants as shapes
use Rattle.grid_code.specs.Masked.{same_shape}
use Rattle.place_values.specs.declared.cell.Cell.{Cell}
use Rattle.place_values.specs.declared.cell.Cell.TheVariants.{Number, Triple, Word}
use Rattle.number_rows.specs.Planes.{triple_in}
use Rattle.place_rows.specs.declared.bank.Bank.{Bank}

abbrev pub shape_of_cell : Cell → Shape
shape_of_cell (Number x) = shapes.Number
shape_of_cell (Triple t) = shapes.Triple
shape_of_cell (Word k) = shapes.Word

abbrev pub zero_cell : Shape → Cell
zero_cell shapes.Number = Number (pos 0)
zero_cell shapes.Triple = Triple origin
zero_cell shapes.Word = Word 0

-- of three numbers that of a shape
abbrev pub of_shape : ℕ → ℕ → ℕ → Shape → ℕ
of_shape numbers triples words shapes.Number = numbers
of_shape numbers triples words shapes.Triple = triples
of_shape numbers triples words shapes.Word = words

-- how many values of a shape there are
abbrev pub size : Bank → Shape → ℕ
size b shapes.Number = length b.numbers.items
size b shapes.Triple = length b.xs.items
size b shapes.Word = length b.words.items

-- the value of a shape that a bank has at a place
abbrev pub held : Bank → Shape → ℕ → Cell
held b shapes.Number k = Number (get_or b.numbers.items k (pos 0))
held b shapes.Triple k = Triple (triple_in b.xs.items b.ys.items b.zs.items k)
held b shapes.Word k = Word (get_or b.words.items k 0)

-- rows of c elements after one of them took another row's elements at the places that are live
abbrev pub IsStored : ℕ → Shape → ℕ → List Bool → Bank → Bank → Bank → Type 0
IsStored c shape register live row before now =
    (t : Shape) (r j : ℕ) → j < c → held now t (r * c + j) ≡ cond (same_shape t shape && (r == register && get_or live j false)) (held row shape j) (held before t (r * c + j))

-- the same of rows of elements of one type
abbrev pub IsRowStored : (T : Type 0) → ℕ → List Bool → List T → List T → List T → Type 0
IsRowStored T register live row before now =
    (d : T) (r j : ℕ) → j < length row → get_or now (r * length row + j) d ≡ cond (r == register && get_or live j false) (get_or row j d) (get_or before (r * length row + j) d)
