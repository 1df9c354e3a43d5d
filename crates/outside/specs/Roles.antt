-- The spans of frames, told by the role of each byte of room that they use.
use Rattle.std.specs.Prelude.{ℕ, ◌+◌, List, [], ◌∷◌, ◌++◌, Bool, true, false, replicate}
use Rattle.outside.specs.declared.roles.Span.{Span}
use Rattle.outside.specs.declared.roles.Role.{Role}
use Rattle.outside.specs.declared.roles.Role.TheVariants.{Name, Picture, End}

-- the bytes of its name, then those of its picture, then the one byte more
abbrev pub roles_of_span : Span → List Role
roles_of_span s = replicate s.name Name ++ (replicate s.bytes Picture ++ End ∷ [])

abbrev pub roles_of : List Span → List Role
roles_of [] = []
roles_of (s ∷ ss) = roles_of_span s ++ roles_of ss

-- how many bytes of room a frame uses
abbrev pub cost_of : Span → ℕ
cost_of s = s.name + s.bytes + 1

-- the first span with so many more bytes
abbrev pub longer : ℕ → ℕ → List Span → List Span
longer n b [] = []
longer n b (s ∷ ss) = record { name = s.name + n; bytes = s.bytes + b } ∷ ss

-- the spans that the roles tell
abbrev pub spans_in : List Role → List Span
spans_in [] = []
spans_in (Name ∷ rs) = longer 1 0 (spans_in rs)
spans_in (Picture ∷ rs) = longer 0 1 (spans_in rs)
spans_in (End ∷ rs) = record { name = 0; bytes = 0 } ∷ spans_in rs

abbrev pub is_end : Role → Bool
is_end Name = false
is_end Picture = false
is_end End = true
