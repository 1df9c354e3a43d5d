-- The lines of a text and its marks, after each line.
use Rattle.std.proofs.Common.{◌≡◌, ℕ, ◌+◌, ◌≤◌, ◌∷◌, [], ◌++◌, List, zero, suc, length, take, drop, refl, sym, ap, ◌∙◌, arith, append_assoc, length-append, length-drop}
use Rattle.std.specs.Prelude.{replicate}
use Rattle.std.specs.List.{concat}
use Rattle.std.proofs.lemmas.List.{append-nil, take_all, take-append-le, drop-append-le, replicate_more, length-replicate, take-append-drop}
use Rattle.outside.specs.Marks.{length_in, blank_then, lines_in}
use Rattle.outside.specs.declared.memory_notes.Mark.{Mark}

pub length_in-append : (ms : List Mark) (m : Mark) → length_in (ms ++ m ∷ []) ≡ length_in ms + m.length
length_in-append [] m = omega arith
length_in-append (n ∷ ms) m = omega (arith, length_in-append ms m)

-- an empty line
pub lines_in-blank : (text : List ℕ) (ms : List Mark) (after : ℕ) → lines_in text ms (after + 1) ≡ lines_in text ms after ++ [] ∷ []
lines_in-blank text [] after = sym (replicate_more after [])
lines_in-blank text (m ∷ ms) after =
    ap (λ ls. blank_then m.blank (take m.length text ∷ ls)) (lines_in-blank (drop m.length text) ms after)
    ∙ sym (append_assoc (replicate m.blank []) (take m.length text ∷ lines_in (drop m.length text) ms after) ([] ∷ []))

-- a line that isn't empty
pub lines_in-more : (text line : List ℕ) (ms : List Mark) (after : ℕ) → length_in ms ≡ length text
    → lines_in (text ++ line) (ms ++ record { blank = after; length = length line } ∷ []) 0 ≡ lines_in text ms after ++ line ∷ []
lines_in-more [] line [] after h = ap (λ l. blank_then after (l ∷ [])) (take_all (length line) line (omega arith))
lines_in-more (b ∷ text) line [] after h = absurd (omega arith)
lines_in-more text line (m ∷ ms) after h =
    let first : take m.length (text ++ line) ≡ take m.length text = take-append-le m.length text line (omega arith) in
    let rest : drop m.length (text ++ line) ≡ drop m.length text ++ line = drop-append-le m.length text line (omega arith) in
    let more = lines_in-more (drop m.length text) line ms after (omega (arith, length-drop m.length text)) in
    ap (λ l. blank_then m.blank (l ∷ lines_in (drop m.length (text ++ line)) (ms ++ record { blank = after; length = length line } ∷ []) 0)) first
    ∙ ap (λ t. blank_then m.blank (take m.length text ∷ lines_in t (ms ++ record { blank = after; length = length line } ∷ []) 0)) rest
    ∙ ap (λ ls. blank_then m.blank (take m.length text ∷ ls)) more
    ∙ sym (append_assoc (replicate m.blank []) (take m.length text ∷ lines_in (drop m.length text) ms after) (line ∷ []))

-- the empty lines behind all are among them
pub after-le : (text : List ℕ) (ms : List Mark) (after : ℕ) → after ≤ length (lines_in text ms after)
after-le text [] after = omega (arith, length-replicate {A = List ℕ} after [])
after-le text (m ∷ ms) after =
    omega (arith, after-le (drop m.length text) ms after, length-append (replicate m.blank []) (take m.length text ∷ lines_in (drop m.length text) ms after))

concat-blank : (n : ℕ) (ls : List (List ℕ)) → concat (blank_then n ls) ≡ concat ls
concat-blank zero ls = refl
concat-blank (suc n) ls = concat-blank n ls

-- all lines, one after another, are the text
pub concat-lines_in : (text : List ℕ) (ms : List Mark) (after : ℕ) → length_in ms ≡ length text → concat (lines_in text ms after) ≡ text
concat-lines_in [] [] after h = ap concat (sym (append-nil (replicate after []))) ∙ concat-blank after []
concat-lines_in (b ∷ text) [] after h = absurd (omega arith)
concat-lines_in text (m ∷ ms) after h =
    let rest = concat-lines_in (drop m.length text) ms after (omega (arith, length-drop m.length text)) in
    concat-blank m.blank (take m.length text ∷ lines_in (drop m.length text) ms after) ∙ ap (λ t. take m.length text ++ t) rest ∙ take-append-drop m.length text
