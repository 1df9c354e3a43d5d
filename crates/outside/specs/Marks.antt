-- Lines in a text, one behind the other.
use Rattle.std.specs.Prelude.{ℕ, ◌+◌, List, [], ◌∷◌, ◌++◌, take, drop, replicate}
use Rattle.outside.specs.declared.memory_notes.Mark.{Mark}

-- how much of the text they take
abbrev pub length_in : List Mark → ℕ
length_in [] = 0
length_in (m ∷ ms) = m.length + length_in ms

-- so many empty lines, and others behind them
abbrev pub blank_then : ℕ → List (List ℕ) → List (List ℕ)
blank_then n lines = replicate n [] ++ lines

-- the lines of the marks, each behind its empty ones, and the empty ones behind all
abbrev pub lines_in : List ℕ → List Mark → ℕ → List (List ℕ)
lines_in text [] after = replicate after []
lines_in text (m ∷ ms) after = blank_then m.blank (take m.length text ∷ lines_in (drop m.length text) ms after)
