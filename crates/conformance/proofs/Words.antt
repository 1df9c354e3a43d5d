-- The words of a line.
use Rattle.std.proofs.Common.{◌≡◌, ◌∙◌, ap, sym, ℕ, ◌+◌, List, [], ◌∷◌, ◌++◌, length, arith, eqb}
use Rattle.std.specs.Prelude.{codes}
use Rattle.std.specs.List.{slice_split, join_with_byte, count_by}
use Rattle.std.proofs.lemmas.List.Splits.{length-slice_split, join_with_byte-slice_split}
use Rattle.conformance.specs.Names.{space, words_line}

-- the line of parts that join to a list
some_words : (program list : List ℕ) (parts : List (List ℕ)) (n : ℕ) → length parts ≡ n + 1 → join_with_byte space parts ≡ list → words_line (program ∷ parts) ≡ codes "words " ++ list
some_words program list [] n many joined = absurd (omega (arith, many))
some_words program list (w ∷ ws) n many joined = ap (λ l. codes "words " ++ l) joined

-- the line of the parts of a list
pub words_line-split : (list : List ℕ) (words : List (List ℕ)) → words ≡ codes "reyes" ∷ slice_split (λ b. eqb b space) list → codes "words " ++ list ≡ words_line words
words_line-split list words is =
    let parts = slice_split (λ b. eqb b space) list in
    sym (ap words_line is ∙ some_words (codes "reyes") list parts (count_by (λ b. eqb b space) list) (length-slice_split (λ b. eqb b space) list) (join_with_byte-slice_split space list))
