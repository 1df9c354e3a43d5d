-- The names in the lines of a case.
use Rattle.std.specs.Prelude.{◌≢◌, ℕ, List, [], ◌∷◌, ◌++◌, Contains, codes, map}
use Rattle.std.specs.Borrow.{Bor}
use Rattle.std.specs.List.{join_with_byte}

-- what stands between the words of a line
abbrev pub space : ℕ
space = 32

-- at least one byte, and no space
pub record IsName (text : List ℕ) : Type 0 where
  pub some : text ≢ []
  pub one : Contains text space → ⊥

-- the texts that these words are
abbrev pub texts : List (Bor (List ℕ)) → List (List ℕ)
texts words = map (λ w. w.now) words

-- the line that gives the words of a command behind the program's name
abbrev pub words_line : List (List ℕ) → List ℕ
words_line [] = codes "words"
words_line (program ∷ []) = codes "words"
words_line (program ∷ word ∷ words) = codes "words " ++ join_with_byte space (word ∷ words)
