-- For contracts of the machine alone: the values that cells stand for, by the texts of a run.
use Rattle.std.specs.Prelude.{ℕ, zero, suc, Bool, true, List, [], Option, Some, None}
use Rattle.std.specs.Borrow.{Bor}
use Rattle.std.specs.List.{slice_get, list_any}
use Rattle.std.specs.Str.{bytes_eq}
use Rattle.sl_ast.specs.declared.typed.Value.{Value}
use Rattle.sl_ast.specs.declared.typed.Value.TheVariants as values
use Rattle.place_values.specs.declared.cell.Cell.{Cell}
use Rattle.place_values.specs.declared.cell.Cell.TheVariants.{Number, Triple, Word}

-- the text that there is, and else the empty one
abbrev pub text_or_empty : Option (Bor (List ℕ)) → List ℕ
text_or_empty None = []
text_or_empty (Some t) = t.now

-- the empty text is text 0
abbrev pub text_at : List (Bor (List ℕ)) → ℕ → List ℕ
text_at ts zero = []
text_at ts (suc k) = text_or_empty (slice_get ts k)

-- the value that a cell stands for: a text is its place in a list
abbrev pub value_of : List (Bor (List ℕ)) → Cell → Value
value_of ts (Number x) = values.Number x
value_of ts (Triple t) = values.Triple t
value_of ts (Word k) = values.Word (text_at ts k)

-- a text is in a list; other values are in any
abbrev pub is_known : List (Bor (List ℕ)) → Value → Bool
is_known ts (values.Word w) = list_any (λ t. bytes_eq t.now w) ts
is_known ts _ = true
