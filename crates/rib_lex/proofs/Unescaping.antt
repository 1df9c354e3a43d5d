-- One byte more of a string in double quotes.
use Rattle.std.proofs.Common.{◌≡◌, ◌∙◌, refl, sym, ap, subst, ℕ, ◌+◌, ◌<◌, Bool, true, false, eqb, List, [], ◌∷◌, ◌++◌, length, drop, get_or, add-one, drop-cons, append_assoc, append-nil, arith, Some, Result, Ok, Err}
use Rattle.std.proofs.lemmas.Bool.Decides.{nat_tests}
use Rattle.std.proofs.lemmas.Str.Ascii.{IsAscii-cons, IsAscii-nil}
use Rattle.std.proofs.lemmas.Str.{IsAscii-append}
use Rattle.std.specs.Str.{IsAscii}
use Rattle.rib_lex.specs.Bytes.{is_plain}
use Rattle.rib_lex.specs.Strings.{escaped, longer, longer_where, string_in}
use Rattle.rib_lex.specs.declared.token.LexCode.{LexCode}

nested : (t front : List ℕ) (i : ℕ) (s : Result (List ℕ × ℕ) LexCode) → longer t i (longer front 1 s) ≡ longer (t ++ front) (i + 1) s
nested t front i (Ok s) = let a = append_assoc t front s.0 in let b : i + (1 + s.1) ≡ i + 1 + s.1 = omega arith in rw (a, b) refl
nested t front i (Err code) = refl

next_byte : (xs : List ℕ) (i : ℕ) → i < length xs → drop i xs ≡ get_or xs i 0 ∷ drop (i + 1) xs
next_byte xs i h = rw (add-one, drop-cons xs i 0) refl

not_equal : (b n : ℕ) → (b ≡ n → ⊥) → eqb b n ≡ false
not_equal b n h = grind (arith, nat_tests)

plain_byte : (b : ℕ) (bs : List ℕ) → eqb b 34 ≡ false → eqb b 92 ≡ false → is_plain b ≡ true → string_in false (b ∷ bs) ≡ longer (b ∷ []) 1 (string_in false bs)
plain_byte b bs e f g = rw (e, f, g) refl

pub plain_below : (b : ℕ) → is_plain b ≡ true → b < 128
plain_below b h = grind (arith, nat_tests)

pub ascii_more : (t u : List ℕ) (b : ℕ) → u ≡ t ++ (b ∷ []) → b < 128 → IsAscii t → IsAscii u
ascii_more t u b e h a = subst IsAscii (sym e) (IsAscii-append t (b ∷ []) a (IsAscii-cons b [] h IsAscii-nil))

module _ (t u xs : List ℕ) (i : ℕ) (behind later : Bool) (within : i < length xs)
    (same : longer t i (string_in behind (drop i xs)) ≡ string_in false xs) where
  kept : (front : List ℕ) → string_in behind (get_or xs i 0 ∷ drop (i + 1) xs) ≡ longer front 1 (string_in later (drop (i + 1) xs)) → u ≡ t ++ front →
      longer u (i + 1) (string_in later (drop (i + 1) xs)) ≡ string_in false xs
  kept front step grown =
      ap (λ w. longer w (i + 1) (string_in later (drop (i + 1) xs))) grown
      ∙ sym (nested t front i (string_in later (drop (i + 1) xs)))
      ∙ ap (longer t i) (sym (ap (string_in behind) (next_byte xs i within) ∙ step))
      ∙ same

  -- a byte behind a backslash
  pub kept_escaped : (front : List ℕ) → behind ≡ true → later ≡ false → escaped (get_or xs i 0) ≡ Some front → u ≡ t ++ front →
      longer u (i + 1) (string_in later (drop (i + 1) xs)) ≡ string_in false xs
  kept_escaped front e f g grown = kept front (rw (e, f) (ap (λ o. longer_where o (string_in false (drop (i + 1) xs))) g)) grown

  -- a backslash
  pub kept_backslash : behind ≡ false → later ≡ true → get_or xs i 0 ≡ 92 → u ≡ t → longer u (i + 1) (string_in later (drop (i + 1) xs)) ≡ string_in false xs
  kept_backslash e f g grown = kept [] (rw (e, f) (ap (λ b. string_in false (b ∷ drop (i + 1) xs)) g)) (grown ∙ sym (append-nil t))

  -- a byte that stands for itself
  pub kept_plain : behind ≡ false → later ≡ false → (get_or xs i 0 ≡ 34 → ⊥) → (get_or xs i 0 ≡ 92 → ⊥) → is_plain (get_or xs i 0) ≡ true → u ≡ t ++ (get_or xs i 0 ∷ []) →
      longer u (i + 1) (string_in later (drop (i + 1) xs)) ≡ string_in false xs
  kept_plain e f g h p grown =
      kept (get_or xs i 0 ∷ []) (rw (e, f) (plain_byte (get_or xs i 0) (drop (i + 1) xs) (not_equal _ 34 g) (not_equal _ 92 h) p)) grown
