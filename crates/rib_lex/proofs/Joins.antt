-- Two texts with a line feed between them.
use Rattle.std.proofs.Common.{◌≡◌, ℕ, ◌+◌, ◌-◌, ◌≤◌, ◌∷◌, [], ◌++◌, List, Option, Some, None, Result, Ok, Err, length, length-append, take, drop, zero, suc, Bool, true, false, cond, eqb, refl, sym, ap, ◌∙◌, subst, arith, ◌&&◌}
use Rattle.std.specs.List.{prefix_len, take_while}
use Rattle.std.proofs.lemmas.List.{take-append-le, drop-append-le}
use Rattle.std.proofs.lemmas.List.Sums.{prefix_len-le-length, sum_by-cons}
use Rattle.fixed_math.specs.NumberBytes.{is_digit, is_sign, is_minus, is_point, is_mark}
use Rattle.fixed_math.specs.DecimalText.{Exponent, head_is, behind_one, digits_at, behind_digits, is_none, exponent_text, exponent_of, exponent_behind, exponent_at, decimal_of, exponent_value, number_of, fraction_place, decimal_at}
use Rattle.fixed_math.specs.declared.decimal.Decimal.{Decimal}
use Rattle.rib_lex.specs.Bytes.{line_feeds, is_white, is_letter, is_name, is_in_line, runs_on, begins_number, is_plain}
use Rattle.rib_lex.specs.Strings.{escaped, longer, longer_where, string_in}
use Rattle.rib_lex.specs.Numbers.{closed, number_at}
use Rattle.rib_lex.specs.Found.{found_at, found_string, found_number}
use Rattle.rib_lex.specs.Tokens.{tokens_from, tokens_of, found_then, with_front, line_after, token, Placed}
use Rattle.rib_lex.specs.Joined.{moved, TextsJoin}
use Rattle.rib_lex.specs.declared.token.Token.{Token}
use Rattle.rib_lex.specs.declared.token.TokenKind.TheVariants.{Name, Number, Open, Close}
use Rattle.rib_lex.specs.declared.token.LexCode.{LexCode}
use Rattle.rib_lex.specs.declared.token.LexCode.TheVariants.{L1, L4}
use Rattle.rib_lex.specs.declared.found.Found.{Found}
use Rattle.rib_lex.specs.declared.found.Found.TheVariants.{Blank, Whole, Fault}
use Rattle.rib_lex.proofs.Steps.{with_front-append, one_more}

-- ---- what stands before a line feed is read alike, whatever stands behind it

module _ (c : List ℕ) where
  stopped : (p : ℕ → Bool) (xs : List ℕ) → p 10 ≡ false → prefix_len p (xs ++ 10 ∷ c) ≡ prefix_len p xs
  stopped p [] h = ap (λ t. cond t (1 + prefix_len p c) 0) h
  stopped p (x ∷ xs) h = ap (λ n. cond (p x) (1 + n) 0) (stopped p xs h)

  front-more : (p : ℕ → Bool) (xs : List ℕ) → p 10 ≡ false → take_while p (xs ++ 10 ∷ c) ≡ take_while p xs
  front-more p xs h =
      ap (λ n. take n (xs ++ 10 ∷ c)) (stopped p xs h) ∙ take-append-le (prefix_len p xs) xs (10 ∷ c) (prefix_len-le-length p xs)

  behind-more : (p : ℕ → Bool) (xs : List ℕ) → p 10 ≡ false → drop (prefix_len p (xs ++ 10 ∷ c)) (xs ++ 10 ∷ c) ≡ drop (prefix_len p xs) xs ++ 10 ∷ c
  behind-more p xs h =
      ap (λ n. drop n (xs ++ 10 ∷ c)) (stopped p xs h) ∙ drop-append-le (prefix_len p xs) xs (10 ∷ c) (prefix_len-le-length p xs)

  head_is-more : (p : ℕ → Bool) (xs : List ℕ) → p 10 ≡ false → head_is p (xs ++ 10 ∷ c) ≡ head_is p xs
  head_is-more p [] h = h
  head_is-more p (x ∷ xs) h = refl

  cond-more : (t : Bool) (x : ℕ) (xs : List ℕ) → cond t (xs ++ 10 ∷ c) (x ∷ (xs ++ 10 ∷ c)) ≡ cond t xs (x ∷ xs) ++ 10 ∷ c
  cond-more true x xs = refl
  cond-more false x xs = refl

  behind_one-more : (p : ℕ → Bool) (xs : List ℕ) → p 10 ≡ false → behind_one p (xs ++ 10 ∷ c) ≡ behind_one p xs ++ 10 ∷ c
  behind_one-more p [] h = ap (λ t. cond t c (10 ∷ c)) h
  behind_one-more p (x ∷ xs) h = cond-more (p x) x xs

  -- ---- numbers

  abbrev exponent_more : Option Exponent → Option Exponent
  exponent_more (Some e) = Some (exponent_text e.negative e.digits (e.rest ++ 10 ∷ c))
  exponent_more None = None

  abbrev number_more : Result (Decimal × List ℕ) LexCode → Result (Decimal × List ℕ) LexCode
  number_more (Ok n) = Ok (n.0, n.1 ++ 10 ∷ c)
  number_more (Err code) = Err code

  exponent_of-more : (negative : Bool) (ds rest : List ℕ) → exponent_of negative ds (rest ++ 10 ∷ c) ≡ exponent_more (exponent_of negative ds rest)
  exponent_of-more negative [] rest = refl
  exponent_of-more negative (d ∷ ds) rest = refl

  exponent_of-same : (n m : Bool) (ds es rest other : List ℕ) → n ≡ m → ds ≡ es → rest ≡ other → exponent_of n ds rest ≡ exponent_of m es other
  exponent_of-same n m ds es rest other a b e = ap (λ x. exponent_of x ds rest) a ∙ ap (λ x. exponent_of m x rest) b ∙ ap (exponent_of m es) e

  exponent_behind-more : (xs : List ℕ) → exponent_behind (xs ++ 10 ∷ c) ≡ exponent_more (exponent_behind xs)
  exponent_behind-more xs =
      let sign = behind_one-more is_sign xs refl in
      exponent_of-same (head_is is_minus (xs ++ 10 ∷ c)) (head_is is_minus xs) (digits_at (behind_one is_sign (xs ++ 10 ∷ c))) (digits_at (behind_one is_sign xs))
      (behind_digits (behind_one is_sign (xs ++ 10 ∷ c))) (behind_digits (behind_one is_sign xs) ++ 10 ∷ c) (head_is-more is_minus xs refl)
      (ap digits_at sign ∙ front-more is_digit (behind_one is_sign xs) refl) (ap behind_digits sign ∙ behind-more is_digit (behind_one is_sign xs) refl)
      ∙ exponent_of-more (head_is is_minus xs) (digits_at (behind_one is_sign xs)) (behind_digits (behind_one is_sign xs))

  exponent_cond : (t : Bool) (x y : Option Exponent) → cond t (exponent_more x) (exponent_more y) ≡ exponent_more (cond t x y)
  exponent_cond true x y = refl
  exponent_cond false x y = refl

  cond-same : {A : Type 0} (s t : Bool) (x y z w : A) → s ≡ t → x ≡ y → z ≡ w → cond s x z ≡ cond t y w
  cond-same s t x y z w a b e = ap (λ v. cond v x z) a ∙ ap (λ v. cond t v z) b ∙ ap (cond t y) e

  exponent_at-more : (xs : List ℕ) → exponent_at (xs ++ 10 ∷ c) ≡ exponent_more (exponent_at xs)
  exponent_at-more xs =
      cond-same (head_is is_mark (xs ++ 10 ∷ c)) (head_is is_mark xs) (exponent_behind (behind_one is_mark (xs ++ 10 ∷ c))) (exponent_more (exponent_behind (behind_one is_mark xs)))
      (Some (exponent_text false [] (xs ++ 10 ∷ c))) (exponent_more (Some (exponent_text false [] xs))) (head_is-more is_mark xs refl)
      (ap exponent_behind (behind_one-more is_mark xs refl) ∙ exponent_behind-more (behind_one is_mark xs)) refl
      ∙ exponent_cond (head_is is_mark xs) (exponent_behind (behind_one is_mark xs)) (Some (exponent_text false [] xs))

  -- the same of a decimal that was read
  abbrev read_more : Option (Decimal × List ℕ) → Option (Decimal × List ℕ)
  read_more None = None
  read_more (Some n) = Some (n.0, n.1 ++ 10 ∷ c)

  read_cond : (t : Bool) (d : Decimal) (rest : List ℕ) → cond t None (Some (d, rest ++ 10 ∷ c)) ≡ read_more (cond t None (Some (d, rest)))
  read_cond true d rest = refl
  read_cond false d rest = refl

  number_of-more : (negative : Bool) (whole fraction : List ℕ) (e : Option Exponent) → number_of negative whole fraction (exponent_more e) ≡ read_more (number_of negative whole fraction e)
  number_of-more negative whole fraction None = refl
  number_of-more negative whole fraction (Some e) =
      read_cond (is_none whole && is_none fraction) (decimal_of negative (whole ++ fraction) (length fraction) (exponent_value e.negative e.digits)) e.rest

  closed_cond : (t : Bool) (n : Decimal × List ℕ) → cond t (Err L4) (Ok (n.0, n.1 ++ 10 ∷ c)) ≡ number_more (cond t (Err L4) (Ok n))
  closed_cond true n = refl
  closed_cond false n = refl

  closed-more : (n : Option (Decimal × List ℕ)) → closed (read_more n) ≡ number_more (closed n)
  closed-more None = refl
  closed-more (Some n) =
      ap (λ t. cond t (Err L4) (Ok (n.0, n.1 ++ 10 ∷ c))) (head_is-more runs_on n.1 refl) ∙ closed_cond (head_is runs_on n.1) n

  number_of-same : (n m : Bool) (ws vs fs gs : List ℕ) (x y : Option Exponent) → n ≡ m → ws ≡ vs → fs ≡ gs → x ≡ y → number_of n ws fs x ≡ number_of m vs gs y
  number_of-same n m ws vs fs gs x y a b e f =
      ap (λ z. number_of z ws fs x) a ∙ ap (λ z. number_of m z fs x) b ∙ ap (λ z. number_of m vs z x) e ∙ ap (number_of m vs gs) f

  fraction_place-more : (xs : List ℕ) → fraction_place (xs ++ 10 ∷ c) ≡ fraction_place xs ++ 10 ∷ c
  fraction_place-more xs =
      ap (λ ys. behind_one is_point (behind_digits ys)) (behind_one-more is_sign xs refl)
      ∙ ap (behind_one is_point) (behind-more is_digit (behind_one is_sign xs) refl)
      ∙ behind_one-more is_point (behind_digits (behind_one is_sign xs)) refl

  decimal_at-more : (xs : List ℕ) → decimal_at (xs ++ 10 ∷ c) ≡ read_more (decimal_at xs)
  decimal_at-more xs =
      let place = fraction_place-more xs in
      number_of-same (head_is is_minus (xs ++ 10 ∷ c)) (head_is is_minus xs) (digits_at (behind_one is_sign (xs ++ 10 ∷ c))) (digits_at (behind_one is_sign xs))
      (digits_at (fraction_place (xs ++ 10 ∷ c))) (digits_at (fraction_place xs)) (exponent_at (behind_digits (fraction_place (xs ++ 10 ∷ c))))
      (exponent_more (exponent_at (behind_digits (fraction_place xs)))) (head_is-more is_minus xs refl)
      (ap digits_at (behind_one-more is_sign xs refl) ∙ front-more is_digit (behind_one is_sign xs) refl)
      (ap digits_at place ∙ front-more is_digit (fraction_place xs) refl)
      (ap (λ ys. exponent_at (behind_digits ys)) place ∙ ap exponent_at (behind-more is_digit (fraction_place xs) refl)
      ∙ exponent_at-more (behind_digits (fraction_place xs)))
      ∙ number_of-more (head_is is_minus xs) (digits_at (behind_one is_sign xs)) (digits_at (fraction_place xs)) (exponent_at (behind_digits (fraction_place xs)))

  number_at-more : (xs : List ℕ) → number_at (xs ++ 10 ∷ c) ≡ number_more (number_at xs)
  number_at-more xs = ap closed (decimal_at-more xs) ∙ closed-more (decimal_at xs)

  -- ---- strings

  -- the second is the first, where that is no fault
  abbrev SameString : Result (List ℕ × ℕ) LexCode → Result (List ℕ × ℕ) LexCode → Type 0
  SameString (Ok s) r = r ≡ Ok s
  SameString (Err code) r = Unit {0}

  longer-same : (front : List ℕ) (n : ℕ) (s r : Result (List ℕ × ℕ) LexCode) → SameString s r → SameString (longer front n s) (longer front n r)
  longer-same front n (Ok s) r h = ap (longer front n) h
  longer-same front n (Err code) r h = tt

  longer_where-same : (front : Option (List ℕ)) (s r : Result (List ℕ × ℕ) LexCode) → SameString s r → SameString (longer_where front s) (longer_where front r)
  longer_where-same None s r h = tt
  longer_where-same (Some front) s r h = longer-same front 1 s r h

  string-cond : (t : Bool) (s r x y : Result (List ℕ × ℕ) LexCode) → SameString s r → SameString x y → SameString (cond t s x) (cond t r y)
  string-cond true s r x y h k = h
  string-cond false s r x y h k = k

  string-more : (behind : Bool) (xs : List ℕ) → SameString (string_in behind xs) (string_in behind (xs ++ 10 ∷ c))
  string-more behind [] = tt
  string-more true (x ∷ xs) = longer_where-same (escaped x) (string_in false xs) (string_in false (xs ++ 10 ∷ c)) (string-more false xs)
  string-more false (x ∷ xs) =
      string-cond (eqb x 34) (Ok ([], 1)) (Ok ([], 1)) _ _ refl
      (string-cond (eqb x 92) (longer [] 1 (string_in true xs)) (longer [] 1 (string_in true (xs ++ 10 ∷ c))) _ _
      (longer-same [] 1 (string_in true xs) (string_in true (xs ++ 10 ∷ c)) (string-more true xs))
      (string-cond (is_plain x) (longer (x ∷ []) 1 (string_in false xs)) (longer (x ∷ []) 1 (string_in false (xs ++ 10 ∷ c))) (Err L1) (Err L1)
      (longer-same (x ∷ []) 1 (string_in false xs) (string_in false (xs ++ 10 ∷ c)) (string-more false xs)) tt))

  -- ---- what stands at the front

  abbrev Same : Found → Found → Type 0
  Same (Fault code) g = Unit {0}
  Same (Blank n) g = g ≡ Blank n
  Same (Whole kind n) g = g ≡ Whole kind n

  same-cond : (t : Bool) (f g x y : Found) → Same f g → Same x y → Same (cond t f x) (cond t g y)
  same-cond true f g x y h k = h
  same-cond false f g x y h k = k

  found_string-same : (s r : Result (List ℕ × ℕ) LexCode) → SameString s r → Same (found_string s) (found_string r)
  found_string-same (Ok s) r h = ap found_string h
  found_string-same (Err code) r h = tt

  found_number-same : (x : ℕ) (xs : List ℕ) (n : Result (Decimal × List ℕ) LexCode) → Same (found_number (length (x ∷ xs)) n) (found_number (length (x ∷ (xs ++ 10 ∷ c))) (number_more n))
  found_number-same x xs (Ok n) =
      let e : length (x ∷ (xs ++ 10 ∷ c)) - length (n.1 ++ 10 ∷ c) ≡ length (x ∷ xs) - length n.1 =
      omega (arith, length-append xs (10 ∷ c), length-append n.1 (10 ∷ c)) in
      ap (Whole (Number n.0)) e
  found_number-same x xs (Err code) = tt

  -- but for white space, which may go on
  abbrev found_dark : ℕ → List ℕ → Found
  found_dark b bs =
      cond (eqb b 35) (Blank (prefix_len is_in_line (b ∷ bs)))
      (cond (eqb b 91) (Whole Open 1)
      (cond (eqb b 93) (Whole Close 1)
      (cond (eqb b 34) (found_string (string_in false bs))
      (cond (is_letter b) (Whole (Name (take_while is_name (b ∷ bs))) (prefix_len is_name (b ∷ bs)))
      (cond (begins_number b) (found_number (length (b ∷ bs)) (number_at (b ∷ bs))) (Fault L1))))))

  found_dark-more : (b : ℕ) (bs : List ℕ) → Same (found_dark b bs) (found_dark b (bs ++ 10 ∷ c))
  found_dark-more b bs =
      same-cond (eqb b 35) (Blank (prefix_len is_in_line (b ∷ bs))) _ _ _ (ap Blank (stopped is_in_line (b ∷ bs) refl))
      (same-cond (eqb b 91) (Whole Open 1) (Whole Open 1) _ _ refl
      (same-cond (eqb b 93) (Whole Close 1) (Whole Close 1) _ _ refl
      (same-cond (eqb b 34) (found_string (string_in false bs)) (found_string (string_in false (bs ++ 10 ∷ c))) _ _
      (found_string-same (string_in false bs) (string_in false (bs ++ 10 ∷ c)) (string-more false bs))
      (same-cond (is_letter b) (Whole (Name (take_while is_name (b ∷ bs))) (prefix_len is_name (b ∷ bs))) _ _ _
      (ap (λ t. Whole (Name t) (prefix_len is_name (b ∷ (bs ++ 10 ∷ c)))) (front-more is_name (b ∷ bs) refl)
      ∙ ap (Whole (Name (take_while is_name (b ∷ bs)))) (stopped is_name (b ∷ bs) refl))
      (same-cond (begins_number b) (found_number (length (b ∷ bs)) (number_at (b ∷ bs))) _ (Fault L1) (Fault L1)
      (subst (λ n. Same (found_number (length (b ∷ bs)) (number_at (b ∷ bs))) (found_number (length (b ∷ (bs ++ 10 ∷ c))) n)) (sym (number_at-more (b ∷ bs)))
      (found_number-same b bs (number_at (b ∷ bs)))) tt)))))

-- ---- what is found lies within the text

abbrev StringWithin : Result (List ℕ × ℕ) LexCode → ℕ → Type 0
StringWithin (Ok s) most = s.1 ≤ most
StringWithin (Err code) most = Unit {0}

longer-within : (front : List ℕ) (s : Result (List ℕ × ℕ) LexCode) (most : ℕ) → StringWithin s most → StringWithin (longer front 1 s) (suc most)
longer-within front (Ok s) most h = omega arith
longer-within front (Err code) most h = tt

longer_where-within : (front : Option (List ℕ)) (s : Result (List ℕ × ℕ) LexCode) (most : ℕ) → StringWithin s most → StringWithin (longer_where front s) (suc most)
longer_where-within None s most h = tt
longer_where-within (Some front) s most h = longer-within front s most h

within-cond : (t : Bool) (s r : Result (List ℕ × ℕ) LexCode) (most : ℕ) → StringWithin s most → StringWithin r most → StringWithin (cond t s r) most
within-cond true s r most h k = h
within-cond false s r most h k = k

string-within : (behind : Bool) (xs : List ℕ) → StringWithin (string_in behind xs) (length xs)
string-within behind [] = tt
string-within true (x ∷ xs) = longer_where-within (escaped x) (string_in false xs) (length xs) (string-within false xs)
string-within false (x ∷ xs) =
    within-cond (eqb x 34) (Ok ([], 1)) _ (suc (length xs)) (omega arith)
    (within-cond (eqb x 92) (longer [] 1 (string_in true xs)) _ (suc (length xs)) (longer-within [] (string_in true xs) (length xs) (string-within true xs))
    (within-cond (is_plain x) (longer (x ∷ []) 1 (string_in false xs)) (Err L1) (suc (length xs))
    (longer-within (x ∷ []) (string_in false xs) (length xs) (string-within false xs)) tt))

abbrev pub Within : Found → ℕ → Type 0
Within (Blank n) most = n ≤ most
Within (Whole kind n) most = n ≤ most
Within (Fault code) most = Unit {0}

found-cond : (t : Bool) (f g : Found) (most : ℕ) → Within f most → Within g most → Within (cond t f g) most
found-cond true f g most h k = h
found-cond false f g most h k = k

found_string-within : (s : Result (List ℕ × ℕ) LexCode) (most : ℕ) → StringWithin s most → Within (found_string s) (suc most)
found_string-within (Ok s) most h = omega arith
found_string-within (Err code) most h = tt

found_number-within : (all : ℕ) (n : Result (Decimal × List ℕ) LexCode) → Within (found_number all n) all
found_number-within all (Ok n) = omega arith
found_number-within all (Err code) = tt

pub found_at-within : (b : ℕ) (bs : List ℕ) → Within (found_at b bs) (suc (length bs))
found_at-within b bs =
    found-cond (is_white b) (Blank (prefix_len is_white (b ∷ bs))) _ (suc (length bs)) (prefix_len-le-length is_white (b ∷ bs))
    (found-cond (eqb b 35) (Blank (prefix_len is_in_line (b ∷ bs))) _ (suc (length bs)) (prefix_len-le-length is_in_line (b ∷ bs))
    (found-cond (eqb b 91) (Whole Open 1) _ (suc (length bs)) (omega arith)
    (found-cond (eqb b 93) (Whole Close 1) _ (suc (length bs)) (omega arith)
    (found-cond (eqb b 34) (found_string (string_in false bs)) _ (suc (length bs)) (found_string-within (string_in false bs) (length bs) (string-within false bs))
    (found-cond (is_letter b) (Whole (Name (take_while is_name (b ∷ bs))) (prefix_len is_name (b ∷ bs))) _ (suc (length bs)) (prefix_len-le-length is_name (b ∷ bs))
    (found-cond (begins_number b) (found_number (length (b ∷ bs)) (number_at (b ∷ bs))) (Fault L1) (suc (length bs))
    (found_number-within (suc (length bs)) (number_at (b ∷ bs))) tt))))))

pub add-one-first : (n : ℕ) → 1 + n ≡ suc n
add-one-first n = omega arith

less_one : (n : ℕ) → suc n - 1 ≡ n
less_one n = omega arith

-- ---- white space counts for nothing but its lines

white_run : (t : Bool) (b : ℕ) (bs : List ℕ) (line : ℕ) → is_white b ≡ t → tokens_from (prefix_len is_white (b ∷ bs)) line (b ∷ bs) ≡ tokens_from 0 line (b ∷ bs)
white_run true b bs line is =
    let n : ℕ = prefix_len is_white bs in
    let run : prefix_len is_white (b ∷ bs) ≡ suc n = ap (λ t. cond t (1 + n) 0) is ∙ add-one-first n in
    let found : found_at b bs ≡ Blank (suc n) = ap (λ t. cond t (Blank (prefix_len is_white (b ∷ bs))) (found_dark bs b bs)) is ∙ ap Blank run in
    ap (λ k. tokens_from k line (b ∷ bs)) run
    ∙ sym (ap (λ f. found_then f line (λ k. tokens_from (k - 1) (line_after b line) bs)) found ∙ ap (λ k. tokens_from k (line_after b line) bs) (less_one n))
white_run false b bs line is = ap (λ k. tokens_from k line (b ∷ bs)) (ap (λ t. cond t (1 + prefix_len is_white bs) 0) is)

skip_white : (bs : List ℕ) (line : ℕ) → tokens_from (prefix_len is_white bs) line bs ≡ tokens_from 0 line bs
skip_white [] line = refl
skip_white (b ∷ bs) line = white_run (is_white b) b bs line refl

pub white_step : (b : ℕ) (bs : List ℕ) (line : ℕ) → is_white b ≡ true → tokens_from 0 line (b ∷ bs) ≡ tokens_from 0 (line_after b line) bs
white_step b bs line is =
    let n : ℕ = prefix_len is_white bs in
    let run : prefix_len is_white (b ∷ bs) ≡ suc n = ap (λ t. cond t (1 + n) 0) is ∙ add-one-first n in
    let found : found_at b bs ≡ Blank (suc n) = ap (λ t. cond t (Blank (prefix_len is_white (b ∷ bs))) (found_dark bs b bs)) is ∙ ap Blank run in
    ap (λ f. found_then f line (λ k. tokens_from (k - 1) (line_after b line) bs)) found ∙ ap (λ k. tokens_from k (line_after b line) bs) (less_one n)
    ∙ skip_white bs (line_after b line)

-- ---- one text behind another

with_front-nil : (r : Result (List Token) Placed) → with_front [] r ≡ r
with_front-nil (Ok ts) = refl
with_front-nil (Err e) = refl

-- the second text's tokens behind those of the first
abbrev Joins : ℕ → List ℕ → List ℕ → Result (List Token) Placed → Result (List Token) Placed → Type 0
Joins line bs c (Ok ts) r = r ≡ with_front ts (tokens_from 0 (line + line_feeds bs + 1) c)
Joins line bs c (Err e) r = Unit {0}

joins-front : (front : List Token) (line : ℕ) (bs c : List ℕ) (s r : Result (List Token) Placed) → Joins line bs c s r → Joins line bs c (with_front front s) (with_front front r)
joins-front front line bs c (Ok ts) r h = ap (with_front front) h ∙ sym (with_front-append front ts (tokens_from 0 (line + line_feeds bs + 1) c))
joins-front front line bs c (Err e) r h = tt

-- one byte more in front of the first
joins-byte : (b line : ℕ) (bs c : List ℕ) (s r : Result (List Token) Placed) → Joins (line_after b line) bs c s r → Joins line (b ∷ bs) c s r
joins-byte b line bs c (Ok ts) r h =
    h ∙ ap (λ n. with_front ts (tokens_from 0 (n + 1) c))
    (one_more (eqb b 10) line (line_feeds bs) ∙ ap (λ n. line + n) (sym (sum_by-cons (λ x. cond (eqb x 10) 1 0) b bs)))
joins-byte b line bs c (Err e) r h = tt

joins-found : (f g : Found) (b line : ℕ) (bs c : List ℕ) → Same c f g → ((n : ℕ) → Within f (suc (length bs)) → n ≤ length bs → Joins (line_after b line) bs c (tokens_from n (line_after b line) bs) (tokens_from n (line_after b line) (bs ++ 10 ∷ c))) → Within f (suc (length bs)) → Joins (line_after b line) bs c (found_then f line (λ n. tokens_from (n - 1) (line_after b line) bs)) (found_then g line (λ n. tokens_from (n - 1) (line_after b line) (bs ++ 10 ∷ c)))
joins-found (Blank n) g b line bs c same rest within =
    subst (λ x. Joins (line_after b line) bs c (tokens_from (n - 1) (line_after b line) bs) (found_then x line (λ n. tokens_from (n - 1) (line_after b line) (bs ++ 10 ∷ c)))) (sym same)
    (rest (n - 1) within (omega arith))
joins-found (Whole kind n) g b line bs c same rest within =
    subst (λ x. Joins (line_after b line) bs c (with_front (token kind line ∷ []) (tokens_from (n - 1) (line_after b line) bs)) (found_then x line (λ n. tokens_from (n - 1) (line_after b line) (bs ++ 10 ∷ c)))) (sym same)
    (joins-front (token kind line ∷ []) (line_after b line) bs c (tokens_from (n - 1) (line_after b line) bs) (tokens_from (n - 1) (line_after b line) (bs ++ 10 ∷ c))
    (rest (n - 1) within (omega arith)))
joins-found (Fault code) g b line bs c same rest within = tt

-- where it isn't white space, what stands at the front is found alike
dark_alike : (b : ℕ) (bs c : List ℕ) → is_white b ≡ false → Same c (found_at b bs) (found_at b (bs ++ 10 ∷ c))
dark_alike b bs c is =
    let one : found_at b bs ≡ found_dark c b bs = ap (λ t. cond t (Blank (prefix_len is_white (b ∷ bs))) (found_dark c b bs)) is in
    let other : found_at b (bs ++ 10 ∷ c) ≡ found_dark c b (bs ++ 10 ∷ c) =
    ap (λ t. cond t (Blank (prefix_len is_white (b ∷ (bs ++ 10 ∷ c)))) (found_dark c b (bs ++ 10 ∷ c))) is in
    subst (λ f. Same c f (found_at b (bs ++ 10 ∷ c))) (sym one) (subst (Same c (found_dark c b bs)) (sym other) (found_dark-more c b bs))

joins-byte_found : (t : Bool) (b line : ℕ) (bs c : List ℕ) → is_white b ≡ t → ((n : ℕ) → n ≤ length bs → Joins (line_after b line) bs c (tokens_from n (line_after b line) bs) (tokens_from n (line_after b line) (bs ++ 10 ∷ c))) → Joins (line_after b line) bs c (tokens_from 0 line (b ∷ bs)) (tokens_from 0 line (b ∷ (bs ++ 10 ∷ c)))
joins-byte_found true b line bs c is rest =
    subst (λ s. Joins (line_after b line) bs c s (tokens_from 0 line (b ∷ (bs ++ 10 ∷ c)))) (sym (white_step b bs line is))
    (subst (Joins (line_after b line) bs c (tokens_from 0 (line_after b line) bs)) (sym (white_step b (bs ++ 10 ∷ c) line is)) (rest 0 (omega arith)))
joins-byte_found false b line bs c is rest =
    joins-found (found_at b bs) (found_at b (bs ++ 10 ∷ c)) b line bs c (dark_alike b bs c is) (λ n within low. rest n low) (found_at-within b bs)

joins : (bs : List ℕ) (taken line : ℕ) (c : List ℕ) → taken ≤ length bs → Joins line bs c (tokens_from taken line bs) (tokens_from taken line (bs ++ 10 ∷ c))
joins [] zero line c h = white_step 10 c line refl ∙ ap (λ n. tokens_from 0 n c) (omega arith) ∙ sym (with_front-nil (tokens_from 0 (line + 0 + 1) c))
joins [] (suc taken) line c h = absurd (omega arith)
joins (b ∷ bs) (suc taken) line c h =
    joins-byte b line bs c (tokens_from taken (line_after b line) bs) (tokens_from taken (line_after b line) (bs ++ 10 ∷ c)) (joins bs taken (line_after b line) c (omega arith))
joins (b ∷ bs) zero line c h =
    joins-byte b line bs c (tokens_from 0 line (b ∷ bs)) (tokens_from 0 line (b ∷ (bs ++ 10 ∷ c)))
    (joins-byte_found (is_white b) b line bs c refl (λ n low. joins bs n (line_after b line) c low))

-- ---- lines further down

moved_found : (f : Found) (k line : ℕ) (low high : ℕ → Result (List Token) Placed) → ((n : ℕ) → high n ≡ moved k (low n)) → found_then f (k + line) high ≡ moved k (found_then f line low)
moved_found (Blank n) k line low high h = h n
moved_found (Whole kind n) k line low high h = ap (with_front (token kind (k + line) ∷ [])) (h n) ∙ moved_front (low n) k (token kind line)
  where
    moved_front : (r : Result (List Token) Placed) (k : ℕ) (t : Token) → with_front (token t.kind (k + t.line) ∷ []) (moved k r) ≡ moved k (with_front (t ∷ []) r)
    moved_front (Ok ts) k t = refl
    moved_front (Err e) k t = refl
moved_found (Fault code) k line low high h = refl

line_moved : (t : Bool) (k line : ℕ) → cond t (k + line + 1) (k + line) ≡ k + cond t (line + 1) line
line_moved true k line = omega arith
line_moved false k line = refl

moved_is : (bs : List ℕ) (taken k line : ℕ) → tokens_from taken (k + line) bs ≡ moved k (tokens_from taken line bs)
moved_is [] taken k line = refl
moved_is (b ∷ bs) (suc taken) k line = ap (λ n. tokens_from taken n bs) (line_moved (eqb b 10) k line) ∙ moved_is bs taken k (line_after b line)
moved_is (b ∷ bs) zero k line =
    moved_found (found_at b bs) k line (λ n. tokens_from (n - 1) (line_after b line) bs) (λ n. tokens_from (n - 1) (line_after b (k + line)) bs)
    (λ n. ap (λ m. tokens_from (n - 1) m bs) (line_moved (eqb b 10) k line) ∙ moved_is bs (n - 1) k (line_after b line))

pub texts_join : TextsJoin
texts_join first second ts is =
    let joined : tokens_of (first ++ 10 ∷ second) ≡ with_front ts (tokens_from 0 (1 + line_feeds first + 1) second) =
    subst (λ r. Joins 1 first second r (tokens_of (first ++ 10 ∷ second))) is (joins first 0 1 second (omega arith)) in
    let same : 1 + line_feeds first + 1 ≡ (line_feeds first + 1) + 1 = omega arith in
    joined ∙ ap (with_front ts) (ap (λ n. tokens_from 0 n second) same ∙ moved_is second 0 (line_feeds first + 1) 1)
