-- One token after another.
use Rattle.std.proofs.Common.{◌≡◌, ℕ, ◌+◌, ◌-◌, ◌≤◌, ◌∷◌, [], ◌++◌, List, length, take, drop, zero, suc, Bool, true, false, cond, eqb, refl, sym, ap, ◌∙◌, arith, add-zero, append_assoc}
use Rattle.std.specs.List.{count_by}
use Rattle.std.proofs.lemmas.List.Sums.{sum_by-cons}
use Rattle.sl_lexer.specs.Found.{found_in}
use Rattle.sl_lexer.specs.Tokens.{tokens_from, found_then, line_after}
use Rattle.sl_lexer.specs.declared.token.Token.{Token}
use Rattle.sl_lexer.specs.declared.token.TokenKind.{TokenKind}
use Rattle.sl_lexer.specs.declared.token.TokenKind.TheVariants as kinds
use Rattle.sl_lexer.specs.declared.found.Found.TheVariants.{Blank, Whole, Bad}

abbrev pub line_feeds : List ℕ → ℕ
line_feeds bs = count_by (λ b. eqb b 10) bs

one_more : (t : Bool) (line c : ℕ) → cond t (line + 1) line + c ≡ line + (cond t 1 0 + c)
one_more true line c = omega arith
one_more false line c = omega arith

pass : (k line : ℕ) (bs : List ℕ) → tokens_from k line bs ≡ tokens_from 0 (line + line_feeds (take k bs)) (drop k bs)
pass zero line bs = rw (add-zero line) refl
pass (suc k) line [] = refl
pass (suc k) line (b ∷ bs) =
    pass k (line_after b line) bs
    ∙ ap (λ n. tokens_from 0 n (drop k bs)) (one_more (eqb b 10) line (line_feeds (take k bs))
    ∙ ap (λ n. line + n) (sym (sum_by-cons (λ x. cond (eqb x 10) 1 0) b (take k bs))))

-- what follows a token of n bytes
abbrev pub tokens_after : ℕ → ℕ → List ℕ → List Token
tokens_after n line bs = tokens_from 0 (line + line_feeds (take n bs)) (drop n bs)

pub passes : (n line b : ℕ) (bs : List ℕ) → 1 ≤ n → tokens_from (n - 1) (line_after b line) bs ≡ tokens_after n line (b ∷ bs)
passes zero line b bs low = absurd (omega arith)
passes (suc n) line b bs low =
    let e : suc n - 1 ≡ n = omega arith in
    ap (λ k. tokens_from k (line_after b line) bs) e ∙ pass (suc n) line (b ∷ bs)

step-blank : (n line : ℕ) (bs : List ℕ) → 1 ≤ n → n ≤ length bs → found_in bs ≡ Blank n → tokens_from 0 line bs ≡ tokens_after n line bs
step-blank n line [] low high is = absurd (omega arith)
step-blank n line (b ∷ bs) low high is =
    ap (λ f. found_then f line (λ n. tokens_from (n - 1) (line_after b line) bs)) is ∙ passes n line b bs low

step-whole : (kind : TokenKind) (n line : ℕ) (bs : List ℕ) → 1 ≤ n → n ≤ length bs → found_in bs ≡ Whole kind n → tokens_from 0 line bs ≡ record { kind = kind; line = line } ∷ tokens_after n line bs
step-whole kind n line [] low high is = absurd (omega arith)
step-whole kind n line (b ∷ bs) low high is =
    ap (λ f. found_then f line (λ n. tokens_from (n - 1) (line_after b line) bs)) is
    ∙ ap (λ ts. record { kind = kind; line = line } ∷ ts) (passes n line b bs low)

-- where no token begins
pub step-bad : (line : ℕ) (bs : List ℕ) → 1 ≤ length bs → found_in bs ≡ Bad → tokens_from 0 line bs ≡ record { kind = kinds.Bad; line = line } ∷ []
step-bad line [] some is = absurd (omega arith)
step-bad line (b ∷ bs) some is = ap (λ f. found_then f line (λ n. tokens_from (n - 1) (line_after b line) bs)) is

-- the step over what is blank
pub go-blank : (ts : List Token) (n line feeds : ℕ) (rest left front : List ℕ) (all : List Token) → 1 ≤ n → n ≤ length rest → found_in rest ≡ Blank n → front ≡ take n rest → left ≡ drop n rest → feeds ≡ line_feeds front → ts ++ tokens_from 0 line rest ≡ all → ts ++ tokens_from 0 (line + feeds) left ≡ all
go-blank ts n line feeds rest left front all low high is fronts lefts counts same =
    let step : tokens_from 0 line rest ≡ tokens_from 0 (line + line_feeds (take n rest)) (drop n rest) = step-blank n line rest low high is in
    let here : tokens_from 0 (line + feeds) left ≡ tokens_from 0 (line + line_feeds (take n rest)) (drop n rest) = cc in
    ap (λ us. ts ++ us) (here ∙ sym step) ∙ same

-- the step over a token
pub go-whole : (ts : List Token) (kind : TokenKind) (n line feeds : ℕ) (rest left front : List ℕ) (all : List Token) → 1 ≤ n → n ≤ length rest → found_in rest ≡ Whole kind n → front ≡ take n rest → left ≡ drop n rest → feeds ≡ line_feeds front → ts ++ tokens_from 0 line rest ≡ all → (ts ++ record { kind = kind; line = line } ∷ []) ++ tokens_from 0 (line + feeds) left ≡ all
go-whole ts kind n line feeds rest left front all low high is fronts lefts counts same =
    let t : Token = record { kind = kind; line = line } in
    let step : tokens_from 0 line rest ≡ t ∷ tokens_from 0 (line + line_feeds (take n rest)) (drop n rest) = step-whole kind n line rest low high is in
    let here : tokens_from 0 (line + feeds) left ≡ tokens_from 0 (line + line_feeds (take n rest)) (drop n rest) = cc in
    append_assoc ts (t ∷ []) (tokens_from 0 (line + feeds) left) ∙ ap (λ us. ts ++ (t ∷ us)) here ∙ ap (λ us. ts ++ us) (sym step) ∙ same
