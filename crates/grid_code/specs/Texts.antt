-- For contracts of the machine alone: the texts of values and of the constants of code.
use Rattle.std.specs.Prelude.{ℕ, Bool, true, List, [], ◌∷◌, ◌++◌, ◌≡◌}
use Rattle.std.specs.Borrow.{Bor}
use Rattle.std.specs.List.{list_any}
use Rattle.std.specs.Str.{bytes_eq}
use Rattle.sl_ast.specs.declared.typed.Value.{Value}
use Rattle.sl_ast.specs.declared.typed.Value.TheVariants.{Word}
use Rattle.grid_code.specs.declared.code.Source.{Source}
use Rattle.grid_code.specs.declared.code.Source.TheVariants.{Constant}
use Rattle.grid_code.specs.Code.{Block, end, put, differ, sum, texture, branch, loops, lights, breaks, continues}

abbrev pub texts_of : Value → List (List ℕ)
texts_of (Word w) = w ∷ []
texts_of _ = []

abbrev pub texts_of_all : List Value → List (List ℕ)
texts_of_all [] = []
texts_of_all (v ∷ vs) = texts_of v ++ texts_of_all vs

abbrev pub texts_of_source : Source → List (List ℕ)
texts_of_source (Constant v) = texts_of v
texts_of_source _ = []

abbrev pub texts_in : Block → List (List ℕ)
texts_in end = []
texts_in (put r o x) = texts_of_source o ++ texts_in x
texts_in (differ r d q x) = texts_in x
texts_in (sum r which qs x) = texts_in x
texts_in (texture r k qs x) = texts_in x
texts_in (branch t a b x) = texts_in a ++ (texts_in b ++ texts_in x)
texts_in (loops u d t e a x) = texts_in d ++ (texts_in e ++ (texts_in a ++ texts_in x))
texts_in (lights w qs a x) = texts_in a ++ texts_in x
texts_in (breaks x) = texts_in x
texts_in (continues x) = texts_in x

abbrev pub is_in_texts : List (List ℕ) → List ℕ → Bool
is_in_texts ts w = list_any (λ t. bytes_eq t w) ts

-- a list of texts holds those of another one
abbrev pub HasTexts : List (Bor (List ℕ)) → List (List ℕ) → Type 0
HasTexts ts xs = (w : List ℕ) → is_in_texts xs w ≡ true → list_any (λ t. bytes_eq t.now w) ts ≡ true
