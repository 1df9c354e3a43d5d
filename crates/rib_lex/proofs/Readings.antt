-- From a text of these tokens just these tokens are read.
use Rattle.std.proofs.Common.{◌≡◌, ℕ, ◌+◌, ◌-◌, ◌≤◌, ◌∷◌, [], ◌++◌, List, Option, Some, None, Ok, length, length-append, take, drop, suc, Bool, true, false, cond, eqb, refl, sym, ap, ◌∙◌, subst, arith, append_assoc, add-zero}
use Rattle.std.specs.List.{prefix_len, take_while}
use Rattle.std.proofs.lemmas.Bool.Decides.{nat_tests}
use Rattle.std.proofs.lemmas.List.{append-nil}
use Rattle.std.proofs.lemmas.List.Sums.{sum_by-cons, sum_by-append}
use Rattle.std.proofs.Math.Seq.{drop-append_seam, take-append_seam}
use Rattle.fixed_math.specs.NumberBytes.{is_digit, is_sign, is_minus, is_point}
use Rattle.fixed_math.specs.DecimalText.{Exponent, head_is, behind_one, digits_at, behind_digits, exponent_at, number_of, fraction_place}
use Rattle.fixed_math.specs.declared.decimal.Decimal.{Decimal}
use Rattle.rib_lex.specs.Bytes.{line_feeds, is_white, is_letter, is_name, is_in_line, begins_number, is_plain}
use Rattle.rib_lex.specs.Strings.{longer, longer_where, string_in}
use Rattle.rib_lex.specs.Numbers.{closed, number_at}
use Rattle.rib_lex.specs.Found.{found_at, found_in, found_string, found_number}
use Rattle.rib_lex.specs.Tokens.{tokens_from, with_front, line_after, token}
use Rattle.rib_lex.specs.Spelling.{Each, IsGap, no_gap, white_gap, comment_gap, IsQuoted, closing, plain_byte, escaped_byte, IsWord, IsText, ends, goes_on, TokensSpell}
use Rattle.rib_lex.specs.declared.token.Token.{Token}
use Rattle.rib_lex.specs.declared.token.TokenKind.{TokenKind}
use Rattle.rib_lex.specs.declared.token.TokenKind.TheVariants.{Name, Str, Number, Open, Close}
use Rattle.rib_lex.specs.declared.found.Found.TheVariants.{Whole}
use Rattle.rib_lex.proofs.Steps.{pass, one_more, step-whole}
use Rattle.rib_lex.proofs.Joins.{white_step, add-one-first}
use Rattle.rib_lex.proofs.Spellings.{IsBehind, NumberBehind, number-behind, text_spells}

passed_over : {A : Type 0} (t : Bool) (x y : A) → t ≡ false → cond t x y ≡ y
passed_over t x y h = ap (λ v. cond v x y) h

picked : {A : Type 0} (t : Bool) (x y : A) → t ≡ true → cond t x y ≡ x
picked t x y h = ap (λ v. cond v x y) h

-- as many as pass, where what comes then doesn't
run_len : (p : ℕ → Bool) (run more : List ℕ) → Each p run → head_is p more ≡ false → prefix_len p (run ++ more) ≡ length run
run_len p [] [] each stops = refl
run_len p [] (x ∷ xs) each stops = passed_over (p x) (1 + prefix_len p xs) 0 stops
run_len p (r ∷ run) more each stops =
    let tail : Each p run = λ k low. each (suc k) (omega arith) in
    picked (p r) (1 + prefix_len p (run ++ more)) 0 (each 0 (omega arith)) ∙ ap (λ n. 1 + n) (run_len p run more tail stops) ∙ add-one-first (length run)

-- ---- gaps

skip_comment : (text more : List ℕ) (line : ℕ) → Each is_in_line text → head_is is_in_line more ≡ false → tokens_from 0 line (35 ∷ (text ++ more)) ≡ tokens_from 0 (line + line_feeds text) more
skip_comment text more line each stops =
    let run : 1 + prefix_len is_in_line (text ++ more) - 1 ≡ length text = omega (arith, run_len is_in_line text more each stops) in
    let low : length text ≤ length (text ++ more) = omega (arith, length-append text more) in
    ap (λ n. tokens_from n line (text ++ more)) run
    ∙ pass (length text) line (text ++ more) low
    ∙ ap (λ x. tokens_from 0 (line + line_feeds x) (drop (length text) (text ++ more))) (take-append_seam text more)
    ∙ ap (tokens_from 0 (line + line_feeds text)) (drop-append_seam text more)

skip_gap : (gap rest : List ℕ) (line : ℕ) → IsGap gap rest → tokens_from 0 line (gap ++ rest) ≡ tokens_from 0 (line + line_feeds gap) rest
skip_gap gap rest line (no_gap r) = ap (λ n. tokens_from 0 n rest) (sym (add-zero line))
skip_gap gap rest line (white_gap b more r white g) =
    white_step b (more ++ rest) line white ∙ skip_gap more rest (line_after b line) g
    ∙ ap (λ n. tokens_from 0 n rest) (one_more (eqb b 10) line (line_feeds more) ∙ ap (λ n. line + n) (sym (sum_by-cons (λ x. cond (eqb x 10) 1 0) b more)))
skip_gap gap rest line (comment_gap text more r each stops g) =
    let lines : line + line_feeds text + line_feeds more ≡ line + line_feeds (35 ∷ (text ++ more)) =
    omega (arith, sum_by-append (λ x. cond (eqb x 10) 1 0) text more, sum_by-cons (λ x. cond (eqb x 10) 1 0) 35 (text ++ more)) in
    ap (λ x. tokens_from 0 line (35 ∷ x)) (append_assoc text more rest)
    ∙ skip_comment text (more ++ rest) line each stops
    ∙ skip_gap more rest (line + line_feeds text) g
    ∙ ap (λ n. tokens_from 0 n rest) lines

-- ---- words

-- this word is found at the front
abbrev IsFound : TokenKind → List ℕ → List ℕ → Type 0
IsFound kind word rest = (found_in (word ++ rest) ≡ Whole kind (length word)) × (1 ≤ length word)

letter_found : (b : ℕ) (bs : List ℕ) → is_letter b ≡ true → found_at b bs ≡ Whole (Name (take_while is_name (b ∷ bs))) (prefix_len is_name (b ∷ bs))
letter_found b bs h =
    let white : is_white b ≡ false = grind (arith, nat_tests) in
    let comment : eqb b 35 ≡ false = grind (arith, nat_tests) in
    let opens : eqb b 91 ≡ false = grind (arith, nat_tests) in
    let closes : eqb b 93 ≡ false = grind (arith, nat_tests) in
    let quote : eqb b 34 ≡ false = grind (arith, nat_tests) in
    passed_over (is_white b) _ _ white ∙ passed_over (eqb b 35) _ _ comment ∙ passed_over (eqb b 91) _ _ opens ∙ passed_over (eqb b 93) _ _ closes
    ∙ passed_over (eqb b 34) _ _ quote ∙ picked (is_letter b) _ _ h

number_found : (b : ℕ) (bs : List ℕ) → begins_number b ≡ true → found_at b bs ≡ found_number (length (b ∷ bs)) (number_at (b ∷ bs))
number_found b bs h =
    let white : is_white b ≡ false = grind (arith, nat_tests) in
    let comment : eqb b 35 ≡ false = grind (arith, nat_tests) in
    let opens : eqb b 91 ≡ false = grind (arith, nat_tests) in
    let closes : eqb b 93 ≡ false = grind (arith, nat_tests) in
    let quote : eqb b 34 ≡ false = grind (arith, nat_tests) in
    let letter : is_letter b ≡ false = grind (arith, nat_tests) in
    passed_over (is_white b) _ _ white ∙ passed_over (eqb b 35) _ _ comment ∙ passed_over (eqb b 91) _ _ opens ∙ passed_over (eqb b 93) _ _ closes
    ∙ passed_over (eqb b 34) _ _ quote ∙ passed_over (is_letter b) _ _ letter ∙ picked (begins_number b) _ _ h

name_word : (name rest : List ℕ) → head_is is_letter name ≡ true → Each is_name name → head_is is_name rest ≡ false → IsFound (Name name) name rest
name_word [] rest head each stops = absurd cc
name_word (b ∷ bs) rest head each stops =
    let run : prefix_len is_name (b ∷ (bs ++ rest)) ≡ length (b ∷ bs) = run_len is_name (b ∷ bs) rest each stops in
    let name : take_while is_name (b ∷ (bs ++ rest)) ≡ b ∷ bs = ap (λ n. take n (b ∷ (bs ++ rest))) run ∙ take-append_seam (b ∷ bs) rest in
    (letter_found b (bs ++ rest) head ∙ ap (λ x. Whole (Name x) (prefix_len is_name (b ∷ (bs ++ rest)))) name ∙ ap (Whole (Name (b ∷ bs))) run, omega arith)

quoted_read : (inner text rest : List ℕ) → IsQuoted inner text → string_in false (inner ++ rest) ≡ Ok (text, length inner)
quoted_read inner text rest closing = refl
quoted_read inner text rest (plain_byte b word more quote mark plain q) =
    passed_over (eqb b 34) _ _ quote ∙ passed_over (eqb b 92) _ _ mark ∙ picked (is_plain b) _ _ plain
    ∙ ap (longer (b ∷ []) 1) (quoted_read word more rest q) ∙ ap (λ n. Ok (b ∷ more, n)) (add-one-first (length word))
quoted_read inner text rest (escaped_byte b front word more is q) =
    let len : 1 + (1 + length word) ≡ suc (suc (length word)) = omega arith in
    ap (longer [] 1) (ap (λ o. longer_where o (string_in false (word ++ rest))) is ∙ ap (longer front 1) (quoted_read word more rest q))
    ∙ ap (λ n. Ok (front ++ more, n)) len

string_word : (inner text rest : List ℕ) → IsQuoted inner text → IsFound (Str text) (34 ∷ inner) rest
string_word inner text rest q =
    let len : length inner + 1 ≡ suc (length inner) = omega arith in
    (ap found_string (quoted_read inner text rest q) ∙ ap (Whole (Str text)) len, omega arith)

-- a number has one of its bytes in front
no_number : (b : ℕ) (bs : List ℕ) (d : Decimal) (rest : List ℕ) → begins_number b ≡ false → number_at (b ∷ bs) ≡ Ok (d, rest) → ⊥
no_number b bs d rest h is =
    let sign : is_sign b ≡ false = grind (arith, nat_tests) in
    let digit : is_digit b ≡ false = grind (arith, nat_tests) in
    let point : is_point b ≡ false = grind (arith, nat_tests) in
    let unsigned : behind_one is_sign (b ∷ bs) ≡ b ∷ bs = passed_over (is_sign b) bs (b ∷ bs) sign in
    let none : prefix_len is_digit (b ∷ bs) ≡ 0 = passed_over (is_digit b) (1 + prefix_len is_digit bs) 0 digit in
    let no_digits : digits_at (b ∷ bs) ≡ [] = ap (λ n. take n (b ∷ bs)) none in
    let same : behind_digits (b ∷ bs) ≡ b ∷ bs = ap (λ n. drop n (b ∷ bs)) none in
    let unpointed : behind_one is_point (b ∷ bs) ≡ b ∷ bs = passed_over (is_point b) bs (b ∷ bs) point in
    let place : fraction_place (b ∷ bs) ≡ b ∷ bs = ap (λ x. behind_one is_point (behind_digits x)) unsigned ∙ ap (behind_one is_point) same ∙ unpointed in
    let whole : digits_at (behind_one is_sign (b ∷ bs)) ≡ [] = ap digits_at unsigned ∙ no_digits in
    let fraction : digits_at (fraction_place (b ∷ bs)) ≡ [] = ap digits_at place ∙ no_digits in
    nothing (head_is is_minus (b ∷ bs)) (exponent_at (behind_digits (fraction_place (b ∷ bs)))) d rest
    (sym (ap closed (ap (λ w. number_of (head_is is_minus (b ∷ bs)) w (digits_at (fraction_place (b ∷ bs))) (exponent_at (behind_digits (fraction_place (b ∷ bs))))) whole
    ∙ ap (λ f. number_of (head_is is_minus (b ∷ bs)) [] f (exponent_at (behind_digits (fraction_place (b ∷ bs))))) fraction)) ∙ is)
  where
    nothing : (negative : Bool) (e : Option Exponent) (d : Decimal) (rest : List ℕ) → closed (number_of negative [] [] e) ≡ Ok (d, rest) → ⊥
    nothing negative (Some e) d rest h = cc
    nothing negative None d rest h = cc

begins : (t : Bool) (b : ℕ) (bs : List ℕ) (d : Decimal) (rest : List ℕ) → begins_number b ≡ t → number_at (b ∷ bs) ≡ Ok (d, rest) → begins_number b ≡ true
begins true b bs d rest h is = h
begins false b bs d rest h is = absurd (no_number b bs d rest h is)

number_word : (d : Decimal) (word rest : List ℕ) → number_at (word ++ rest) ≡ Ok (d, rest) → IsFound (Number d) word rest
number_word d [] [] is = absurd cc
number_word d [] (r ∷ rest) is =
    let first : begins_number r ≡ true = begins (begins_number r) r rest d (r ∷ rest) refl is in
    let shorter : IsBehind (r ∷ rest) rest = subst (λ n. NumberBehind n rest) is (number-behind r rest first) in
    absurd (omega (arith, ap length shorter.is, length-append shorter.front (r ∷ rest)))
number_word d (b ∷ bs) rest is =
    let first : begins_number b ≡ true = begins (begins_number b) b (bs ++ rest) d rest refl is in
    let len : length (b ∷ (bs ++ rest)) - length rest ≡ length (b ∷ bs) = omega (arith, length-append bs rest) in
    (number_found b (bs ++ rest) first ∙ ap (found_number (length (b ∷ (bs ++ rest)))) is ∙ ap (Whole (Number d)) len, omega arith)

word_found : (kind : TokenKind) (word rest : List ℕ) → IsWord kind word rest → IsFound kind word rest
word_found (Name name) word rest w = subst (λ x. IsFound (Name name) x rest) (sym w.0) (name_word name rest w.1 w.2 w.3)
word_found (Str text) word rest w = subst (λ x. IsFound (Str text) x rest) (sym w.1) (string_word w.0 text rest w.2)
word_found (Number d) word rest w = number_word d word rest w
word_found Open word rest w = subst (λ x. IsFound Open x rest) (sym w) (refl, omega arith)
word_found Close word rest w = subst (λ x. IsFound Close x rest) (sym w) (refl, omega arith)

-- ---- texts

read_word : (kind : TokenKind) (word rest : List ℕ) (line : ℕ) → IsWord kind word rest → tokens_from 0 line (word ++ rest) ≡ with_front (token kind line ∷ []) (tokens_from 0 (line + line_feeds word) rest)
read_word kind word rest line w =
    let found : IsFound kind word rest = word_found kind word rest w in
    let low : 1 ≤ length word = found.1 in
    let high : length word ≤ length (word ++ rest) = omega (arith, length-append word rest) in
    step-whole kind (length word) line (word ++ rest) low high found.0
    ∙ ap (λ x. with_front (token kind line ∷ []) (tokens_from 0 (line + line_feeds x) (drop (length word) (word ++ rest)))) (take-append_seam word rest)
    ∙ ap (λ x. with_front (token kind line ∷ []) (tokens_from 0 (line + line_feeds word) x)) (drop-append_seam word rest)

pub text_reads : (ts : List Token) (line : ℕ) (bs : List ℕ) → IsText ts line bs → tokens_from 0 line bs ≡ Ok ts
text_reads ts line bs (ends l gap g) = ap (tokens_from 0 line) (sym (append-nil bs)) ∙ skip_gap bs [] line g
text_reads ts line bs (goes_on t us l gap word rest g w at more) =
    skip_gap gap (word ++ rest) line g
    ∙ ap (λ n. tokens_from 0 n (word ++ rest)) (sym at)
    ∙ read_word t.kind word rest t.line w
    ∙ ap (with_front (t ∷ [])) (text_reads us (t.line + line_feeds word) rest more)

pub tokens_spell : TokensSpell
tokens_spell bytes ts = (text_spells bytes ts, text_reads ts 1 bytes)
