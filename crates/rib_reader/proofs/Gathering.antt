-- The words of a text are those that are gathered byte by byte.
use Rattle.std.proofs.Common.{◌≡◌, ◌∙◌, ap, sym, refl, ℕ, Bool, true, false, not, ◌==◌, cond, List, [], ◌∷◌, ◌++◌, length, filter, append_assoc, if◌then◌else◌}
use Rattle.std.proofs.lemmas.List.{append-nil}
use Rattle.std.specs.List.{slice_split, onto_first}
use Rattle.rib_reader.specs.Words.{is_white, has_bytes, words_of}

-- a word more, where there is one
abbrev pub with_word : List (List ℕ) → List ℕ → List (List ℕ)
with_word words word = if length word == 0 then words else words ++ word ∷ []

-- behind these words and the beginning of one
abbrev pub words_from : List (List ℕ) → List ℕ → List ℕ → List (List ℕ)
words_from words word [] = with_word words word
words_from words word (b ∷ bs) = if is_white b then words_from (with_word words word) [] bs else words_from words (word ++ b ∷ []) bs

-- bytes in front of the first part
abbrev begun : List ℕ → List (List ℕ) → List (List ℕ)
begun word [] = word ∷ []
begun word (part ∷ parts) = (word ++ part) ∷ parts

nothing_begun : (text : List ℕ) → begun [] (slice_split is_white text) ≡ slice_split is_white text
nothing_begun [] = refl
nothing_begun (b ∷ bs) = by_test (is_white b) (slice_split is_white bs)
  where
    by_test : (t : Bool) (parts : List (List ℕ)) → begun [] (cond t ([] ∷ parts) (onto_first b parts)) ≡ cond t ([] ∷ parts) (onto_first b parts)
    by_test true parts = refl
    by_test false [] = refl
    by_test false (part ∷ parts) = refl

one_byte : (word : List ℕ) (b : ℕ) (parts : List (List ℕ)) → begun (word ++ b ∷ []) parts ≡ begun word (onto_first b parts)
one_byte word b [] = refl
one_byte word b (part ∷ parts) = ap (λ (w : List ℕ). w ∷ parts) (append_assoc word (b ∷ []) part)

-- a word that ends is one of the words, where it has bytes
one_word : (words : List (List ℕ)) (word : List ℕ) (others : List (List ℕ)) → with_word words word ++ filter has_bytes others ≡ words ++ filter has_bytes (begun word ([] ∷ others))
one_word words word others =
    by_test (length word == 0) ∙ ap (λ w. words ++ filter has_bytes (w ∷ others)) (sym (append-nil word))
  where
    by_test : (t : Bool) → cond t words (words ++ word ∷ []) ++ filter has_bytes others ≡ words ++ cond (not t) (word ∷ filter has_bytes others) (filter has_bytes others)
    by_test true = refl
    by_test false = append_assoc words (word ∷ []) (filter has_bytes others)

gathered_from : (words : List (List ℕ)) (word text : List ℕ) → words_from words word text ≡ words ++ filter has_bytes (begun word (slice_split is_white text))
gathered_from words word [] = sym (append-nil (with_word words word)) ∙ one_word words word []
gathered_from words word (b ∷ bs) =
    by_test (is_white b) (gathered_from (with_word words word) [] bs) (gathered_from words (word ++ b ∷ []) bs)
  where
    by_test : (t : Bool) → words_from (with_word words word) [] bs ≡ with_word words word ++ filter has_bytes (begun [] (slice_split is_white bs))
        → words_from words (word ++ b ∷ []) bs ≡ words ++ filter has_bytes (begun (word ++ b ∷ []) (slice_split is_white bs))
        → cond t (words_from (with_word words word) [] bs) (words_from words (word ++ b ∷ []) bs)
        ≡ words ++ filter has_bytes (begun word (cond t ([] ∷ slice_split is_white bs) (onto_first b (slice_split is_white bs))))
    by_test true ended going =
        ended
        ∙ ap (λ ps. with_word words word ++ filter has_bytes ps) (nothing_begun bs)
        ∙ one_word words word (slice_split is_white bs)
    by_test false ended going = going ∙ ap (λ ps. words ++ filter has_bytes ps) (one_byte word b (slice_split is_white bs))

pub gathered : (text : List ℕ) → words_from [] [] text ≡ words_of text
gathered text = gathered_from [] [] text ∙ ap (filter has_bytes) (nothing_begun text)
