-- What is read from tokens of these kinds.
use Rattle.std.proofs.Common.{◌≡◌, ℕ, zero, suc, ◌∷◌, [], List, Option, Some, None, Ok, Err, Bool, true, false, cond, map, refl, sym, ap, subst}
use Rattle.sl_lexer.specs.declared.token.Token.{Token}
use Rattle.sl_lexer.specs.declared.token.TokenKind.{TokenKind}
use Rattle.sl_lexer.specs.declared.token.TokenKind.TheVariants as kinds
use Rattle.sl_lexer.specs.declared.token.Mark.{Mark}
use Rattle.sl_lexer.specs.declared.token.Mark.TheVariants as marks
use Rattle.sl_expression_grammar.specs.Reading.{Reads, ◌>>=◌, with_front, many_then, many, go_on, past, rest_after, same_mark}
use Rattle.sl_parser.specs.Spelled.{kinds_of}

abbrev pub Got : {A : Type 0} → Reads A → (A → List Token → Type 0) → Type 0
Got (Ok x) P = P x.0 x.1
Got (Err e) P = ⊥

pub got_bind : {A B : Type 0} (r : Reads A) (f : A × List Token → Reads B) (P : A → List Token → Type 0) (Q : B → List Token → Type 0)
    → Got r P → ((x : A × List Token) → P x.0 x.1 → Got (f x) Q) → Got (r >>= f) Q
got_bind (Ok x) f P Q g h = h x g
got_bind (Err e) f P Q g h = absurd g

pub got_more : {A : Type 0} (r : Reads A) (P Q : A → List Token → Type 0) → Got r P → ((x : A) (rest : List Token) → P x rest → Q x rest) → Got r Q
got_more (Ok x) P Q g h = h x.0 x.1 g
got_more (Err e) P Q g h = absurd g

pub got_front : {A : Type 0} (x : A) (r : Reads (List A)) (P Q : List A → List Token → Type 0) → Got r P → ((xs : List A) (rest : List Token) → P xs rest → Q (x ∷ xs) rest) → Got (with_front (x ∷ []) r) Q
got_front x (Ok y) P Q g h = h y.0 y.1 g
got_front x (Err e) P Q g h = absurd g

abbrev pub token : TokenKind → ℕ → Token
token kind line = record { kind = kind; line = line }

heads : {A : Type 0} (a b : A) (xs ys : List A) → a ∷ xs ≡ b ∷ ys → a ≡ b
heads a b xs ys e = cc

tails : {A : Type 0} (a b : A) (xs ys : List A) → a ∷ xs ≡ b ∷ ys → xs ≡ ys
tails a b xs ys e = cc

-- the first of them
pub at_front : (ts : List Token) (k : TokenKind) (ks : List TokenKind) → kinds_of ts ≡ k ∷ ks → (Q : List Token → Type 0)
    → ((line : ℕ) (rest : List Token) → kinds_of rest ≡ ks → Q (token k line ∷ rest)) → Q ts
at_front [] k ks e Q h = absurd (cc e)
at_front (t ∷ ts) k ks e Q h =
    subst (λ j. Q (token j t.line ∷ ts)) (sym (heads t.kind k (kinds_of ts) ks e)) (h t.line ts (tails t.kind k (kinds_of ts) ks e))

same_mark_self : (mark : Mark) → same_mark mark mark ≡ true
same_mark_self marks.LeftParen = refl
same_mark_self marks.RightParen = refl
same_mark_self marks.LeftBrace = refl
same_mark_self marks.RightBrace = refl
same_mark_self marks.Semicolon = refl
same_mark_self marks.Comma = refl
same_mark_self marks.Question = refl
same_mark_self marks.Colon = refl

pub got_past : {B : Type 0} (mark : Mark) (ts : List Token) (ks : List TokenKind) (go : List Token → Reads B) (Q : B → List Token → Type 0) → kinds_of ts ≡ kinds.Mark mark ∷ ks
    → ((rest : List Token) → kinds_of rest ≡ ks → Got (go rest) Q) → Got (past mark ts go) Q
got_past mark ts ks go Q e h =
    at_front ts (kinds.Mark mark) ks e (λ ts. Got (past mark ts go) Q) (λ line rest r.
    subst (λ b. Got (go_on (token (kinds.Mark mark) line ∷ rest) go (cond b (Some rest) None)) Q) (sym (same_mark_self mark)) (h rest r))

-- such a kind of token does not stand at the front
abbrev pub Lacks : (TokenKind → Bool) → List TokenKind → Type 0
Lacks p [] = Unit {0}
Lacks p (k ∷ ks) = p k ≡ false

pub not_after : (p : TokenKind → Bool) (ts : List Token) → Lacks p (kinds_of ts) → rest_after p ts ≡ None
not_after p [] h = refl
not_after p (t ∷ ts) h = ap (λ b. cond b (Some ts) None) h

-- one item more, and none
pub many_more : {A : Type 0} (step : List Token → Option (Reads A)) (turns : ℕ) (ts : List Token) (r : Reads A) → step ts ≡ Some r
    → (P : A → List Token → Type 0) (Q : List A → List Token → Type 0) → Got r P
    → ((x : A) (rest : List Token) → P x rest → Got (many step turns rest) (λ xs left. Q (x ∷ xs) left)) → Got (many step (suc turns) ts) Q
many_more step turns ts r e P Q g h =
    subst (λ o. Got (many_then (many step turns) ts o) Q) (sym e)
    (got_bind r (λ x. with_front (x.0 ∷ []) (many step turns x.1)) P Q g (λ x p.
    got_front x.0 (many step turns x.1) (λ xs left. Q (x.0 ∷ xs) left) Q (h x.0 x.1 p) (λ xs left q. q)))

pub many_none : {A : Type 0} (step : List Token → Option (Reads A)) (turns : ℕ) (ts : List Token) → step ts ≡ None → (Q : List A → List Token → Type 0) → Q [] ts → Got (many step turns ts) Q
many_none step zero ts e Q q = q
many_none step (suc turns) ts e Q q = subst (λ o. Got (many_then (many step turns) ts o) Q) (sym e) q

-- what was read, and what is read in two ways
pub got_is : {A : Type 0} (r : Reads A) (P : A → List Token → Type 0) → Got r P → (x : A) × ((rest : List Token) × ((r ≡ Ok (x, rest)) × P x rest))
got_is (Ok x) P g = (x.0, (x.1, (refl, g)))
got_is (Err e) P g = absurd g

pub got_both : {A : Type 0} (r : Reads A) (P Q : A → List Token → Type 0) (C : Type 0) → Got r P → Got r Q → ((x : A) (rest : List Token) → P x rest → Q x rest → C) → C
got_both (Ok x) P Q C g h k = k x.0 x.1 g h
got_both (Err e) P Q C g h k = absurd g

-- tokens of these kinds
abbrev pub tokens_for : List TokenKind → List Token
tokens_for ks = map (λ k. token k 0) ks

pub tokens_for_is : (ks : List TokenKind) → kinds_of (tokens_for ks) ≡ ks
tokens_for_is [] = refl
tokens_for_is (k ∷ ks) = ap (λ js. k ∷ js) (tokens_for_is ks)
