-- The lines of a text.
use Rattle.std.specs.Prelude.{◌≡◌, ℕ, ◌+◌, List, ◌++◌, ◌∷◌, take, drop, nat_eq}
use Rattle.std.specs.List.{count_by}

-- what ends a line
abbrev pub line_feed : ℕ
line_feed = 10

-- from one place of a text up to another stand these bytes and a line feed
abbrev pub Stands : List ℕ → ℕ → ℕ → List ℕ → Type 0
Stands text from to bytes = drop from text ≡ bytes ++ (line_feed ∷ drop to text)

-- the number of the line that starts at a place, counted from 1
abbrev pub number_at : List ℕ → ℕ → ℕ
number_at text start = count_by (λ b. nat_eq b line_feed) (take start text) + 1
