-- The string that is read so far, and one byte more.
use Rattle.std.proofs.Common.{◌≡◌, ℕ, ◌+◌, ◌∷◌, [], ◌++◌, List, Option, Some, None, Bool, true, false, refl, sym, ap, ◌∙◌, arith, rules, append_assoc, append-nil, ◌<◌, All, subst}
use Rattle.std.proofs.lemmas.List.Elements.{All-append, All-nil, All-cons}
use Rattle.sl_lexer.specs.Found.{string_in, longer}
use Rattle.sl_lexer.specs.declared.strings.StringByte.TheVariants.{End, Backslash, Byte, Skipped, Bad}
use Rattle.sl_lexer.specs.StringBytes.{string_after}

longer_longer : (f g : List ℕ) (n m : ℕ) (s : Option (List ℕ × ℕ)) → longer f n (longer g m s) ≡ longer (f ++ g) (n + m) s
longer_longer f g n m None = refl
longer_longer f g n m (Some s) =
    let fronts : f ++ (g ++ s.0) ≡ (f ++ g) ++ s.0 = sym (append_assoc f g s.0) in
    let counts : n + (m + s.1) ≡ (n + m) + s.1 = omega arith in
    ap (λ x. Some (x, n + (m + s.1))) fronts ∙ ap (λ k. Some ((f ++ g) ++ s.0, k)) counts

-- a byte of ASCII after such bytes
pub ascii_turn : (text now : List ℕ) (c : ℕ) → now ≡ text ++ c ∷ [] → c < 128 → All (λ b. b < 128) text → All (λ b. b < 128) now
ascii_turn text now c texts small front =
    let P : ℕ → Type 0 = λ b. b < 128 in
    subst (All P) (sym texts) (All-append P text (c ∷ []) front (search (rules, All-cons, All-nil)))

-- a byte that stands for itself or another, one for nothing, and a backslash
module _ (text now : List ℕ) (at : ℕ) (after_backslash then : Bool) (b : ℕ) (left bs : List ℕ) (all : Option (List ℕ × ℕ))
    (lefts : left ≡ b ∷ bs) (same : longer text at (string_in after_backslash left) ≡ all) where
  whole : string_in after_backslash (b ∷ bs) ≡ string_in after_backslash left
  whole = ap (string_in after_backslash) (sym lefts)

  pub byte_turn : (c : ℕ) → string_in after_backslash (b ∷ bs) ≡ string_after (Byte c) (string_in true bs) (string_in false bs)
      → now ≡ text ++ c ∷ [] → then ≡ false → longer now (at + 1) (string_in then bs) ≡ all
  byte_turn c goes texts turned =
      ap (λ x. longer x (at + 1) (string_in then bs)) texts ∙ ap (λ q. longer (text ++ c ∷ []) (at + 1) (string_in q bs)) turned
      ∙ sym (longer_longer text (c ∷ []) at 1 (string_in false bs)) ∙ ap (longer text at) (sym goes ∙ whole) ∙ same

  pub skipped_turn : string_in after_backslash (b ∷ bs) ≡ string_after Skipped (string_in true bs) (string_in false bs)
      → now ≡ text → then ≡ false → longer now (at + 1) (string_in then bs) ≡ all
  skipped_turn goes texts turned =
      ap (λ x. longer x (at + 1) (string_in then bs)) (texts ∙ sym (append-nil text)) ∙ ap (λ q. longer (text ++ []) (at + 1) (string_in q bs)) turned
      ∙ sym (longer_longer text [] at 1 (string_in false bs)) ∙ ap (longer text at) (sym goes ∙ whole) ∙ same

  pub backslash_turn : string_in after_backslash (b ∷ bs) ≡ string_after Backslash (string_in true bs) (string_in false bs)
      → now ≡ text → then ≡ true → longer now (at + 1) (string_in then bs) ≡ all
  backslash_turn goes texts turned =
      ap (λ x. longer x (at + 1) (string_in then bs)) (texts ∙ sym (append-nil text)) ∙ ap (λ q. longer (text ++ []) (at + 1) (string_in q bs)) turned
      ∙ sym (longer_longer text [] at 1 (string_in true bs)) ∙ ap (longer text at) (sym goes ∙ whole) ∙ same

-- a byte that ends the string, and one that may not stand in it
module _ (text : List ℕ) (at : ℕ) (after_backslash : Bool) (b : ℕ) (left bs : List ℕ) (all : Option (List ℕ × ℕ))
    (lefts : left ≡ b ∷ bs) (same : longer text at (string_in after_backslash left) ≡ all) where
  from : (s : Option (List ℕ × ℕ)) → string_in after_backslash (b ∷ bs) ≡ s → longer text at s ≡ all
  from s goes = ap (longer text at) (sym goes ∙ ap (string_in after_backslash) (sym lefts)) ∙ same

  pub end_turn : (kept : List ℕ) → string_in after_backslash (b ∷ bs) ≡ string_after End (string_in true bs) (string_in false bs) → kept ≡ text → Some (kept, at + 1) ≡ all
  end_turn kept goes keeps = ap (λ k. Some (k, at + 1)) (keeps ∙ sym (append-nil text)) ∙ from (Some ([], 1)) goes

  pub bad_turn : string_in after_backslash (b ∷ bs) ≡ string_after Bad (string_in true bs) (string_in false bs) → None ≡ all
  bad_turn goes = from None goes
