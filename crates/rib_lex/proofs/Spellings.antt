-- A text is one of the tokens that are read from it.
use Rattle.std.proofs.Common.{◌≡◌, ℕ, ◌+◌, ◌-◌, ◌≤◌, ◌∷◌, [], ◌++◌, List, Option, Some, None, Result, Ok, Err, length, length-append, take, drop, zero, suc, Bool, true, false, cond, eqb, refl, sym, ap, ◌∙◌, subst, arith, ◌&&◌, ◌||◌, append_assoc}
use Rattle.std.specs.List.{prefix_len, take_while}
use Rattle.std.proofs.lemmas.Bool.{eqb-true}
use Rattle.std.proofs.lemmas.List.{take-append-drop, length-drop, append-nil}
use Rattle.std.proofs.lemmas.List.Sums.{prefix_len-le-length, sum_by-cons, sum_by-append}
use Rattle.std.proofs.Math.Seq.{drop-append_seam, take-append_seam}
use Rattle.fixed_math.specs.NumberBytes.{is_digit, is_sign, is_minus, is_point, is_mark}
use Rattle.fixed_math.specs.DecimalText.{Exponent, head_is, behind_one, digits_at, behind_digits, is_none, exponent_text, exponent_of, exponent_behind, exponent_at, decimal_of, exponent_value, number_of, fraction_place, decimal_at}
use Rattle.fixed_math.specs.declared.decimal.Decimal.{Decimal}
use Rattle.fixed_math.proofs.DecimalTexts.{front_passes}
use Rattle.rib_lex.specs.Bytes.{line_feeds, is_white, is_letter, is_name, is_in_line, runs_on, begins_number, is_plain}
use Rattle.rib_lex.specs.Strings.{escaped, longer, longer_where, string_in}
use Rattle.rib_lex.specs.Numbers.{closed, number_at}
use Rattle.rib_lex.specs.Found.{found_at, found_string, found_number}
use Rattle.rib_lex.specs.Tokens.{tokens_from, tokens_of, found_then, with_front, line_after, token, Placed}
use Rattle.rib_lex.specs.Spelling.{Each, no_gap, white_gap, comment_gap, IsQuoted, closing, plain_byte, escaped_byte, IsWord, IsText, ends, goes_on}
use Rattle.rib_lex.specs.declared.token.Token.{Token}
use Rattle.rib_lex.specs.declared.token.TokenKind.{TokenKind}
use Rattle.rib_lex.specs.declared.token.TokenKind.TheVariants.{Name, Open, Close}
use Rattle.rib_lex.specs.declared.token.LexCode.{LexCode}
use Rattle.rib_lex.specs.declared.token.LexCode.TheVariants.{L1, L4}
use Rattle.rib_lex.specs.declared.found.Found.{Found}
use Rattle.rib_lex.specs.declared.found.Found.TheVariants.{Blank, Whole, Fault}
use Rattle.rib_lex.proofs.Steps.{pass, passes, one_more}
use Rattle.rib_lex.proofs.Joins.{white_step, found_at-within, Within, add-one-first}

-- ---- strings

-- what a string's bytes are, behind a backslash or not
abbrev QuotedAs : Result (List ℕ × ℕ) LexCode → (ℕ → List ℕ) → Type 0
QuotedAs (Ok s) front = IsQuoted (front s.1) s.0
QuotedAs (Err code) front = Unit {0}

taken_more : (x n : ℕ) (xs : List ℕ) → take (1 + n) (x ∷ xs) ≡ x ∷ take n xs
taken_more x n xs = ap (λ k. take k (x ∷ xs)) (add-one-first n)

quoted-escape : (o : Option (List ℕ)) (x : ℕ) (xs : List ℕ) (s : Result (List ℕ × ℕ) LexCode) → escaped x ≡ o → QuotedAs s (λ n. take n xs) → QuotedAs (longer_where o s) (λ n. 92 ∷ take n (x ∷ xs))
quoted-escape None x xs s is h = tt
quoted-escape (Some front) x xs (Ok s) is h = subst (λ w. IsQuoted (92 ∷ w) (front ++ s.0)) (sym (taken_more x s.1 xs)) (escaped_byte x front (take s.1 xs) s.0 is h)
quoted-escape (Some front) x xs (Err code) is h = tt

quoted-mark : (x : ℕ) (xs : List ℕ) (s : Result (List ℕ × ℕ) LexCode) → x ≡ 92 → QuotedAs s (λ n. 92 ∷ take n xs) → QuotedAs (longer [] 1 s) (λ n. take n (x ∷ xs))
quoted-mark x xs (Ok s) is h = subst (λ w. IsQuoted w s.0) (sym (taken_more x s.1 xs)) (subst (λ y. IsQuoted (y ∷ take s.1 xs) s.0) (sym is) h)
quoted-mark x xs (Err code) is h = tt

quoted-plain : (x : ℕ) (xs : List ℕ) (s : Result (List ℕ × ℕ) LexCode) → eqb x 34 ≡ false → eqb x 92 ≡ false → is_plain x ≡ true → QuotedAs s (λ n. take n xs) → QuotedAs (longer (x ∷ []) 1 s) (λ n. take n (x ∷ xs))
quoted-plain x xs (Ok s) a b e h = subst (λ w. IsQuoted w (x ∷ s.0)) (sym (taken_more x s.1 xs)) (plain_byte x (take s.1 xs) s.0 a b e h)
quoted-plain x xs (Err code) a b e h = tt

-- a test that is known chooses
chosen : (t : Bool) (x y : Result (List ℕ × ℕ) LexCode) (front : ℕ → List ℕ) → (t ≡ true → QuotedAs x front) → (t ≡ false → QuotedAs y front) → QuotedAs (cond t x y) front
chosen true x y front h k = h refl
chosen false x y front h k = k refl

quoted-quote : (x : ℕ) (xs : List ℕ) → x ≡ 34 → IsQuoted (take 1 (x ∷ xs)) []
quoted-quote x xs is = subst (λ y. IsQuoted (y ∷ []) []) (sym is) closing

quoted-is : (xs : List ℕ) → QuotedAs (string_in false xs) (λ n. take n xs) × QuotedAs (string_in true xs) (λ n. 92 ∷ take n xs)
quoted-is [] = (tt, tt)
quoted-is (x ∷ xs) = (
  chosen (eqb x 34) (Ok ([], 1)) _ (λ n. take n (x ∷ xs)) (λ h. quoted-quote x xs (eqb-true x 34 h))
      (λ quote. chosen (eqb x 92) (longer [] 1 (string_in true xs)) _ (λ n. take n (x ∷ xs)) (λ h. quoted-mark x xs (string_in true xs) (eqb-true x 92 h) (quoted-is xs).1)
      (λ mark. chosen (is_plain x) (longer (x ∷ []) 1 (string_in false xs)) (Err L1) (λ n. take n (x ∷ xs))
      (λ h. quoted-plain x xs (string_in false xs) quote mark h (quoted-is xs).0) (λ h. tt))),
  quoted-escape (escaped x) x xs (string_in false xs) refl (quoted-is xs).0,
)

-- ---- numbers: what stands behind one is the text without what it takes

pub record IsBehind (rest all : List ℕ) : Type 0 where
  pub front : List ℕ
  pub is : all ≡ front ++ rest

behind_both : (a b c : List ℕ) → IsBehind b a → IsBehind c b → IsBehind c a
behind_both a b c h k = record { front = h.front ++ k.front; is = h.is ∙ ap (λ x. h.front ++ x) k.is ∙ sym (append_assoc h.front k.front c) }

behind_self : (a : List ℕ) → IsBehind a a
behind_self a = record { front = []; is = refl }

one_behind : (t : Bool) (x : ℕ) (xs : List ℕ) → IsBehind (cond t xs (x ∷ xs)) (x ∷ xs)
one_behind true x xs = record { front = x ∷ []; is = refl }
one_behind false x xs = record { front = []; is = refl }

behind_one-behind : (p : ℕ → Bool) (xs : List ℕ) → IsBehind (behind_one p xs) xs
behind_one-behind p [] = behind_self []
behind_one-behind p (x ∷ xs) = one_behind (p x) x xs

digits-behind : (xs : List ℕ) → IsBehind (behind_digits xs) xs
digits-behind xs = record { front = take (prefix_len is_digit xs) xs; is = sym (take-append-drop (prefix_len is_digit xs) xs) }

length-behind : (rest all : List ℕ) → IsBehind rest all → length rest ≤ length all
length-behind rest all h = omega (arith, ap length h.is, length-append h.front rest)

abbrev ExponentBehind : Option Exponent → List ℕ → Type 0
ExponentBehind (Some e) all = IsBehind e.rest all
ExponentBehind None all = Unit {0}

exponent_of-behind : (negative : Bool) (ds rest all : List ℕ) → IsBehind rest all → ExponentBehind (exponent_of negative ds rest) all
exponent_of-behind negative [] rest all h = tt
exponent_of-behind negative (d ∷ ds) rest all h = h

exponent_cond-behind : (t : Bool) (x y : Option Exponent) (all : List ℕ) → ExponentBehind x all → ExponentBehind y all → ExponentBehind (cond t x y) all
exponent_cond-behind true x y all h k = h
exponent_cond-behind false x y all h k = k

exponent_at-behind : (xs : List ℕ) → ExponentBehind (exponent_at xs) xs
exponent_at-behind xs =
    let marked : List ℕ = behind_one is_mark xs in
    exponent_cond-behind (head_is is_mark xs) (exponent_behind (behind_one is_mark xs)) (Some (exponent_text false [] xs)) xs
    (exponent_of-behind (head_is is_minus (behind_one is_mark xs)) (digits_at (behind_one is_sign (behind_one is_mark xs))) (behind_digits (behind_one is_sign (behind_one is_mark xs))) xs
    (behind_both xs (behind_one is_mark xs) (behind_digits (behind_one is_sign (behind_one is_mark xs))) (behind_one-behind is_mark xs)
    (behind_both (behind_one is_mark xs) (behind_one is_sign (behind_one is_mark xs)) (behind_digits (behind_one is_sign (behind_one is_mark xs)))
    (behind_one-behind is_sign (behind_one is_mark xs)) (digits-behind (behind_one is_sign (behind_one is_mark xs))))))
    (behind_self xs)

abbrev ReadBehind : Option (Decimal × List ℕ) → List ℕ → Type 0
ReadBehind None all = Unit {0}
ReadBehind (Some n) all = IsBehind n.1 all

abbrev pub NumberBehind : Result (Decimal × List ℕ) LexCode → List ℕ → Type 0
NumberBehind (Ok n) all = IsBehind n.1 all
NumberBehind (Err code) all = Unit {0}

read_cond-behind : (t : Bool) (d : Decimal) (rest all : List ℕ) → IsBehind rest all → ReadBehind (cond t None (Some (d, rest))) all
read_cond-behind true d rest all h = tt
read_cond-behind false d rest all h = h

number_of-behind : (negative : Bool) (whole fraction : List ℕ) (e : Option Exponent) (all : List ℕ) → ExponentBehind e all → ReadBehind (number_of negative whole fraction e) all
number_of-behind negative whole fraction None all h = tt
number_of-behind negative whole fraction (Some e) all h =
    read_cond-behind (is_none whole && is_none fraction) (decimal_of negative (whole ++ fraction) (length fraction) (exponent_value e.negative e.digits)) e.rest all h

closed_cond-behind : (t : Bool) (n : Decimal × List ℕ) (all : List ℕ) → IsBehind n.1 all → NumberBehind (cond t (Err L4) (Ok n)) all
closed_cond-behind true n all h = tt
closed_cond-behind false n all h = h

closed-behind : (n : Option (Decimal × List ℕ)) (all : List ℕ) → ReadBehind n all → NumberBehind (closed n) all
closed-behind None all h = tt
closed-behind (Some n) all h = closed_cond-behind (head_is runs_on n.1) n all h

-- a first byte that begins a number belongs to it
first_taken : (s d p : Bool) (b : ℕ) (bs : List ℕ) → is_sign b ≡ s → is_digit b ≡ d → is_point b ≡ p → begins_number b ≡ true → IsBehind (behind_digits (fraction_place (b ∷ bs))) bs
first_taken true d p b bs hs hd hp h =
    let e : behind_one is_sign (b ∷ bs) ≡ bs = ap (λ t. cond t bs (b ∷ bs)) hs in
    subst (λ x. IsBehind (behind_digits (behind_one is_point (behind_digits x))) bs) (sym e)
    (behind_both bs (behind_digits bs) (behind_digits (behind_one is_point (behind_digits bs))) (digits-behind bs)
    (behind_both (behind_digits bs) (behind_one is_point (behind_digits bs)) (behind_digits (behind_one is_point (behind_digits bs)))
    (behind_one-behind is_point (behind_digits bs)) (digits-behind (behind_one is_point (behind_digits bs)))))
first_taken false true p b bs hs hd hp h =
    let e : behind_one is_sign (b ∷ bs) ≡ b ∷ bs = ap (λ t. cond t bs (b ∷ bs)) hs in
    let f : behind_digits (b ∷ bs) ≡ behind_digits bs =
    ap (λ t. drop (cond t (1 + prefix_len is_digit bs) 0) (b ∷ bs)) hd ∙ ap (λ n. drop n (b ∷ bs)) (add-one-first (prefix_len is_digit bs)) in
    subst (λ x. IsBehind (behind_digits (behind_one is_point x)) bs) (sym (ap behind_digits e ∙ f))
    (behind_both bs (behind_digits bs) (behind_digits (behind_one is_point (behind_digits bs))) (digits-behind bs)
    (behind_both (behind_digits bs) (behind_one is_point (behind_digits bs)) (behind_digits (behind_one is_point (behind_digits bs)))
    (behind_one-behind is_point (behind_digits bs)) (digits-behind (behind_one is_point (behind_digits bs)))))
first_taken false false true b bs hs hd hp h =
    let e : behind_one is_sign (b ∷ bs) ≡ b ∷ bs = ap (λ t. cond t bs (b ∷ bs)) hs in
    let f : behind_digits (b ∷ bs) ≡ b ∷ bs = ap (λ t. drop (cond t (1 + prefix_len is_digit bs) 0) (b ∷ bs)) hd in
    let g : behind_one is_point (b ∷ bs) ≡ bs = ap (λ t. cond t bs (b ∷ bs)) hp in
    subst (λ x. IsBehind (behind_digits x) bs) (sym (ap (λ x. behind_one is_point x) (ap behind_digits e ∙ f) ∙ g)) (digits-behind bs)
first_taken false false false b bs hs hd hp h =
    let none : false ≡ true = sym (ap (λ t. t || is_sign b || is_point b) hd ∙ ap (λ t. t || is_point b) hs ∙ hp) ∙ h in absurd cc

pub number-behind : (b : ℕ) (bs : List ℕ) → begins_number b ≡ true → NumberBehind (number_at (b ∷ bs)) bs
number-behind b bs h =
    closed-behind (decimal_at (b ∷ bs)) bs
    (number_of-behind (head_is is_minus (b ∷ bs)) (digits_at (behind_one is_sign (b ∷ bs))) (digits_at (fraction_place (b ∷ bs)))
    (exponent_at (behind_digits (fraction_place (b ∷ bs)))) bs
    (exponent-from (exponent_at (behind_digits (fraction_place (b ∷ bs)))) (behind_digits (fraction_place (b ∷ bs))) bs
    (first_taken (is_sign b) (is_digit b) (is_point b) b bs refl refl refl h) (exponent_at-behind (behind_digits (fraction_place (b ∷ bs))))))
  where
    exponent-from : (e : Option Exponent) (mid all : List ℕ) → IsBehind mid all → ExponentBehind e mid → ExponentBehind e all
    exponent-from (Some e) mid all h k = behind_both all mid e.rest h k
    exponent-from None mid all h k = tt

-- ---- what is found is a word or a comment

abbrev Shape : Found → List ℕ → Type 0
Shape (Blank n) all = (head_is (λ b. eqb b 35) all ≡ true) × (n ≡ prefix_len is_in_line all)
Shape (Whole kind n) all = (1 ≤ n) × IsWord kind (take n all) (drop n all)
Shape (Fault code) all = Unit {0}

shape-cond : (t : Bool) (f g : Found) (all : List ℕ) → (t ≡ true → Shape f all) → (t ≡ false → Shape g all) → Shape (cond t f g) all
shape-cond true f g all h k = h refl
shape-cond false f g all h k = k refl

not_further : (p : ℕ → Bool) (xs : List ℕ) → head_is p (drop (prefix_len p xs) xs) ≡ false
not_further p [] = refl
not_further p (x ∷ xs) = stops (p x) x xs refl (not_further p xs)
  where
    stops : (t : Bool) (x : ℕ) (xs : List ℕ) → p x ≡ t → head_is p (drop (prefix_len p xs) xs) ≡ false → head_is p (drop (cond t (1 + prefix_len p xs) 0) (x ∷ xs)) ≡ false
    stops true x xs is h = ap (λ n. head_is p (drop n (x ∷ xs))) (add-one-first (prefix_len p xs)) ∙ h
    stops false x xs is h = is

name-shape : (b : ℕ) (bs : List ℕ) → is_letter b ≡ true → Shape (Whole (Name (take_while is_name (b ∷ bs))) (prefix_len is_name (b ∷ bs))) (b ∷ bs)
name-shape b bs h =
    let n : ℕ = prefix_len is_name bs in
    let first : is_name b ≡ true = ap (λ t. t || is_digit b) h in
    let run : prefix_len is_name (b ∷ bs) ≡ suc n = ap (λ t. cond t (1 + n) 0) first ∙ add-one-first n in
    let head : head_is is_letter (take_while is_name (b ∷ bs)) ≡ true = ap (λ k. head_is is_letter (take k (b ∷ bs))) run ∙ h in
    (omega (arith, run), (refl, head, (λ k low. front_passes is_name (b ∷ bs) k 0 low), not_further is_name (b ∷ bs)))

string-shape : (b : ℕ) (bs : List ℕ) (s : Result (List ℕ × ℕ) LexCode) → b ≡ 34 → QuotedAs s (λ n. take n bs) → Shape (found_string s) (b ∷ bs)
string-shape b bs (Ok s) is h =
    let more : s.1 + 1 ≡ suc s.1 = omega arith in
    (omega arith, (take s.1 bs, ap (λ n. take n (b ∷ bs)) more ∙ ap (λ x. x ∷ take s.1 bs) is, h))
string-shape b bs (Err code) is h = tt

number-shape : (b : ℕ) (bs : List ℕ) (n : Result (Decimal × List ℕ) LexCode) → number_at (b ∷ bs) ≡ n → NumberBehind n bs → Shape (found_number (length (b ∷ bs)) n) (b ∷ bs)
number-shape b bs (Ok n) is h =
    let all : b ∷ bs ≡ (b ∷ h.front) ++ n.1 = ap (λ x. b ∷ x) h.is in
    let len : length (b ∷ bs) - length n.1 ≡ length (b ∷ h.front) = omega (arith, ap length h.is, length-append h.front n.1) in
    let front : take (length (b ∷ bs) - length n.1) (b ∷ bs) ≡ b ∷ h.front =
    ap (λ k. take k (b ∷ bs)) len ∙ ap (take (length (b ∷ h.front))) all ∙ take-append_seam (b ∷ h.front) n.1 in
    let rest : drop (length (b ∷ bs) - length n.1) (b ∷ bs) ≡ n.1 =
    ap (λ k. drop k (b ∷ bs)) len ∙ ap (drop (length (b ∷ h.front))) all ∙ drop-append_seam (b ∷ h.front) n.1 in
    let whole : take (length (b ∷ bs) - length n.1) (b ∷ bs) ++ drop (length (b ∷ bs) - length n.1) (b ∷ bs) ≡ b ∷ bs =
    take-append-drop (length (b ∷ bs) - length n.1) (b ∷ bs) in
    (omega (arith, len), ap number_at whole ∙ is ∙ ap (λ x. Ok (n.0, x)) (sym rest))
number-shape b bs (Err code) is h = tt

found-shape : (b : ℕ) (bs : List ℕ) → is_white b ≡ false → Shape (found_at b bs) (b ∷ bs)
found-shape b bs dark =
    shape-cond (is_white b) (Blank (prefix_len is_white (b ∷ bs))) _ (b ∷ bs) (λ h. let none : true ≡ false = sym h ∙ dark in absurd cc) (λ _.
    shape-cond (eqb b 35) (Blank (prefix_len is_in_line (b ∷ bs))) _ (b ∷ bs) (λ h. (h, refl)) (λ _.
    shape-cond (eqb b 91) (Whole Open 1) _ (b ∷ bs) (λ h. (omega arith, ap (λ x. x ∷ []) (eqb-true b 91 h))) (λ _.
    shape-cond (eqb b 93) (Whole Close 1) _ (b ∷ bs) (λ h. (omega arith, ap (λ x. x ∷ []) (eqb-true b 93 h))) (λ _.
    shape-cond (eqb b 34) (found_string (string_in false bs)) _ (b ∷ bs) (λ h. string-shape b bs (string_in false bs) (eqb-true b 34 h) (quoted-is bs).0) (λ _.
    shape-cond (is_letter b) (Whole (Name (take_while is_name (b ∷ bs))) (prefix_len is_name (b ∷ bs))) _ (b ∷ bs) (λ h. name-shape b bs h) (λ _.
    shape-cond (begins_number b) (found_number (length (b ∷ bs)) (number_at (b ∷ bs))) (Fault L1) (b ∷ bs)
    (λ h. number-shape b bs (number_at (b ∷ bs)) refl (number-behind b bs h)) (λ _. tt)))))))

-- ---- texts

text_white : (b line l : ℕ) (bs : List ℕ) (ts : List Token) → is_white b ≡ true → l ≡ line_after b line → IsText ts l bs → IsText ts line (b ∷ bs)
text_white b line l bs ts white is (ends l' gap g) = ends line (b ∷ gap) (white_gap b gap [] white g)
text_white b line l bs ts white is (goes_on t us l' gap word rest g w at more) =
    goes_on t us line (b ∷ gap) word rest (white_gap b gap (word ++ rest) white g) w
    (at ∙ ap (λ n. n + line_feeds gap) is ∙ one_more (eqb b 10) line (line_feeds gap) ∙ ap (λ n. line + n) (sym (sum_by-cons (λ x. cond (eqb x 10) 1 0) b gap))) more

text_comment : (text bs : List ℕ) (line l : ℕ) (ts : List Token) → Each is_in_line text → head_is is_in_line bs ≡ false → l ≡ line + line_feeds text → IsText ts l bs → IsText ts line (35 ∷ (text ++ bs))
text_comment text bs line l ts each stops is (ends l' gap g) =
    ends line (35 ∷ (text ++ gap)) (comment_gap text gap [] each (ap (head_is is_in_line) (append-nil gap) ∙ stops) g)
text_comment text bs line l ts each stops is (goes_on t us l' gap word rest g w at more) =
    let lines : t.line ≡ line + line_feeds (35 ∷ (text ++ gap)) =
    omega (arith, at, is, sum_by-append (λ x. cond (eqb x 10) 1 0) text gap, sum_by-cons (λ x. cond (eqb x 10) 1 0) 35 (text ++ gap)) in
    subst (IsText (t ∷ us) line) (ap (λ x. 35 ∷ x) (append_assoc text gap (word ++ rest)))
    (goes_on t us line (35 ∷ (text ++ gap)) word rest (comment_gap text gap (word ++ rest) each stops g) w lines more)

-- what was read, where it is no fault, is what the text spells
abbrev Spells : ℕ → List ℕ → Result (List Token) Placed → Type 0
Spells line bs (Ok ts) = IsText ts line bs
Spells line bs (Err e) = Unit {0}

spells-white : (b line : ℕ) (bs : List ℕ) (r : Result (List Token) Placed) → is_white b ≡ true → Spells (line_after b line) bs r → Spells line (b ∷ bs) r
spells-white b line bs (Ok ts) white h = text_white b line (line_after b line) bs ts white refl h
spells-white b line bs (Err e) white h = tt

spells-comment : (text bs : List ℕ) (line : ℕ) (r : Result (List Token) Placed) → Each is_in_line text → head_is is_in_line bs ≡ false → Spells (line + line_feeds text) bs r → Spells line (35 ∷ (text ++ bs)) r
spells-comment text bs line (Ok ts) each stops h = text_comment text bs line (line + line_feeds text) ts each stops refl h
spells-comment text bs line (Err e) each stops h = tt

spells-word : (kind : TokenKind) (word bs : List ℕ) (line : ℕ) (r : Result (List Token) Placed) → IsWord kind word bs → Spells (line + line_feeds word) bs r → Spells line (word ++ bs) (with_front (token kind line ∷ []) r)
spells-word kind word bs line (Ok ts) w h = goes_on (token kind line) ts line [] word bs (no_gap (word ++ bs)) w (omega arith) h
spells-word kind word bs line (Err e) w h = tt

-- the comment at the front
spells_comment : (bs : List ℕ) (n line : ℕ) → length bs ≤ n → ((l : ℕ) (xs : List ℕ) → length xs ≤ n → Spells l xs (tokens_from 0 l xs)) → Spells line (35 ∷ bs) (tokens_from (prefix_len is_in_line bs) line bs)
spells_comment bs n line h rest =
    let m : ℕ = prefix_len is_in_line bs in
    let low : length (drop (prefix_len is_in_line bs) bs) ≤ n = omega (arith, length-drop (prefix_len is_in_line bs) bs) in
    subst (Spells line (35 ∷ bs)) (sym (pass (prefix_len is_in_line bs) line bs (prefix_len-le-length is_in_line bs)))
    (subst (λ x. Spells line (35 ∷ x) (tokens_from 0 (line + line_feeds (take m bs)) (drop m bs))) (take-append-drop (prefix_len is_in_line bs) bs)
    (spells-comment (take m bs) (drop m bs) line (tokens_from 0 (line + line_feeds (take m bs)) (drop m bs)) (λ k less. front_passes is_in_line bs k 0 less) (not_further is_in_line bs)
    (rest (line + line_feeds (take m bs)) (drop m bs) low)))

spells_found : (f : Found) (b : ℕ) (bs : List ℕ) (n line : ℕ) → Shape f (b ∷ bs) → Within f (suc (length bs)) → length bs ≤ n → ((l : ℕ) (xs : List ℕ) → length xs ≤ n → Spells l xs (tokens_from 0 l xs)) → Spells line (b ∷ bs) (found_then f line (λ k. tokens_from (k - 1) (line_after b line) bs))
spells_found (Blank k) b bs n line shape within h rest =
    let is : b ≡ 35 = eqb-true b 35 shape.0 in
    let less : 1 + prefix_len is_in_line bs - 1 ≡ prefix_len is_in_line bs = omega arith in
    let same : tokens_from (k - 1) (line_after b line) bs ≡ tokens_from (prefix_len is_in_line bs) line bs =
    ap (λ j. tokens_from (j - 1) (line_after b line) bs) shape.1
    ∙ ap (λ x. tokens_from (prefix_len is_in_line (x ∷ bs) - 1) (line_after x line) bs) is
    ∙ ap (λ j. tokens_from j line bs) less in
    subst (Spells line (b ∷ bs)) (sym same)
    (subst (λ x. Spells line (x ∷ bs) (tokens_from (prefix_len is_in_line bs) line bs)) (sym is) (spells_comment bs n line h rest))
spells_found (Whole kind k) b bs n line shape within h rest =
    let low : length (drop k (b ∷ bs)) ≤ n = omega (arith, length-drop k (b ∷ bs), shape.0) in
    let least : 1 ≤ k = shape.0 in
    let room : k ≤ suc (length bs) = within in
    subst (λ r. Spells line (b ∷ bs) (with_front (token kind line ∷ []) r)) (sym (passes k line b bs least (omega arith)))
    (subst (λ x. Spells line x (with_front (token kind line ∷ []) (tokens_from 0 (line + line_feeds (take k (b ∷ bs))) (drop k (b ∷ bs))))) (take-append-drop k (b ∷ bs))
    (spells-word kind (take k (b ∷ bs)) (drop k (b ∷ bs)) line (tokens_from 0 (line + line_feeds (take k (b ∷ bs))) (drop k (b ∷ bs))) shape.1
    (rest (line + line_feeds (take k (b ∷ bs))) (drop k (b ∷ bs)) low)))
spells_found (Fault code) b bs n line shape within h rest = tt

spells_at : (t : Bool) (b : ℕ) (bs : List ℕ) (n line : ℕ) → is_white b ≡ t → length bs ≤ n → ((l : ℕ) (xs : List ℕ) → length xs ≤ n → Spells l xs (tokens_from 0 l xs)) → Spells line (b ∷ bs) (tokens_from 0 line (b ∷ bs))
spells_at true b bs n line is h rest =
    subst (Spells line (b ∷ bs)) (sym (white_step b bs line is)) (spells-white b line bs (tokens_from 0 (line_after b line) bs) is (rest (line_after b line) bs h))
spells_at false b bs n line is h rest = spells_found (found_at b bs) b bs n line (found-shape b bs is) (found_at-within b bs) h rest

spells : (n line : ℕ) (bs : List ℕ) → length bs ≤ n → Spells line bs (tokens_from 0 line bs)
spells n line [] h = ends line [] (no_gap [])
spells zero line (b ∷ bs) h = absurd (omega arith)
spells (suc n) line (b ∷ bs) h = spells_at (is_white b) b bs n line refl (omega arith) (λ l xs low. spells n l xs low)

pub text_spells : (bytes : List ℕ) (ts : List Token) → tokens_of bytes ≡ Ok ts → IsText ts 1 bytes
text_spells bytes ts is = subst (Spells 1 bytes) is (spells (length bytes) 1 bytes (omega arith))
