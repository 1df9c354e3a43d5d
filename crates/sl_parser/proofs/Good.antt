-- What is read meets a fact.
use Rattle.std.proofs.Common.{◌≡◌, ℕ, zero, suc, ◌∷◌, [], ◌++◌, List, Option, Some, None, Ok, Err, Bool, true, false, cond, refl, sym, ap, subst, ◌∙◌, append_assoc}
use Rattle.sl_lexer.specs.declared.token.Token.{Token}
use Rattle.sl_lexer.specs.declared.token.TokenKind.{TokenKind}
use Rattle.sl_lexer.specs.declared.token.TokenKind.TheVariants as kinds
use Rattle.sl_lexer.specs.declared.token.Mark.{Mark}
use Rattle.sl_lexer.specs.declared.token.Mark.TheVariants.{Comma}
use Rattle.sl_expression_grammar.specs.Reading.{Reads, ◌>>=◌, with_front, many_then, many, after_comma, go_on, past, rest_after, is_mark, is_bad, code_for, head_is, too_deep}
use Rattle.sl_expression_grammar.specs.declared.fault.SlCode.{SlCode}
use Rattle.sl_expression_grammar.specs.declared.fault.SlCode.TheVariants.{P3}
use Rattle.sl_parser.specs.Spelled.{kinds_of}
use Rattle.sl_parser.proofs.Fronts.{mark_after, mapped}

abbrev pub Good : {A : Type 0} → Reads A → (A → List Token → Type 0) → Type 0
Good (Ok x) P = P x.0 x.1
Good (Err e) P = Unit {0}

pub good_bind : {A B : Type 0} (r : Reads A) (f : A × List Token → Reads B) (P : A → List Token → Type 0) (Q : B → List Token → Type 0)
    → Good r P → ((x : A × List Token) → P x.0 x.1 → Good (f x) Q) → Good (r >>= f) Q
good_bind (Ok x) f P Q g h = h x g
good_bind (Err e) f P Q g h = tt

-- these kinds of tokens stand before the rest
pub record Takes (ts : List Token) (ks : List TokenKind) (rest : List Token) : Type 0 where
  pub text : kinds_of ts ≡ ks ++ kinds_of rest

pub and_then : {a b c : List Token} {x y : List TokenKind} → Takes a x b → Takes b y c → Takes a (x ++ y) c
and_then {c = c} {x = x} {y = y} p q = record { text = p.text ∙ ap (λ z. x ++ z) q.text ∙ sym (append_assoc x y (kinds_of c)) }

past_on : {B : Type 0} (mark : Mark) (ts : List Token) (go : List Token → Reads B) (Q : B → List Token → Type 0) (o : Option (List Token)) → rest_after (is_mark mark) ts ≡ o
    → ((rest : List Token) → Takes ts (kinds.Mark mark ∷ []) rest → Good (go rest) Q) → Good (go_on ts go o) Q
past_on mark ts go Q None e h = tt
past_on mark ts go Q (Some rest) e h = h rest (record { text = mark_after mark ts rest e })

pub good_past : {B : Type 0} (mark : Mark) (ts : List Token) (go : List Token → Reads B) (Q : B → List Token → Type 0)
    → ((rest : List Token) → Takes ts (kinds.Mark mark ∷ []) rest → Good (go rest) Q) → Good (past mark ts go) Q
good_past mark ts go Q h = past_on mark ts go Q (rest_after (is_mark mark) ts) refl h

pub good_front : {A : Type 0} (x : A) (r : Reads (List A)) (P Q : List A → List Token → Type 0) → Good r P → ((xs : List A) (rest : List Token) → P xs rest → Q (x ∷ xs) rest) → Good (with_front (x ∷ []) r) Q
good_front x (Ok y) P Q g h = h y.0 y.1 g
good_front x (Err e) P Q g h = tt

good_cond : {A : Type 0} (b : Bool) (e f : SlCode × List Token) (P : A → List Token → Type 0) → Good (cond b (Err e) (Err f)) P
good_cond true e f P = tt
good_cond false e f P = tt

pub good_deep : {A : Type 0} (begins : TokenKind → Bool) (ts : List Token) (P : A → List Token → Type 0) → Good (too_deep begins ts) P
good_deep begins ts P = good_cond (head_is begins ts) (P3, ts) (code_for (head_is is_bad ts), ts) P

module _ {A : Type 0} (step : List Token → Option (Reads A)) (P : List Token → A → List Token → Type 0) (Q : List Token → List A → List Token → Type 0)
    (nil : (ts : List Token) → Q ts [] ts)
    (cons : (ts rest left : List Token) (x : A) (xs : List A) → P ts x rest → Q rest xs left → Q ts (x ∷ xs) left)
    (each : (ts : List Token) (r : Reads A) → step ts ≡ Some r → Good r (P ts)) where
  next_on : (go : List Token → Reads (List A)) → ((ts : List Token) → Good (go ts) (Q ts)) → (ts : List Token) (o : Option (Reads A)) → step ts ≡ o → Good (many_then go ts o) (Q ts)
  next_on go g ts None e = nil ts
  next_on go g ts (Some r) e =
      good_bind r (λ x. with_front (x.0 ∷ []) (go x.1)) (P ts) (Q ts) (each ts r e)
      (λ x p. good_front x.0 (go x.1) (Q x.1) (Q ts) (g x.1) (λ xs rest q. cons ts x.1 rest x.0 xs p q))

  pub good_many : (n : ℕ) (ts : List Token) → Good (many step n ts) (Q ts)
  good_many zero ts = nil ts
  good_many (suc n) ts = next_on (many step n) (good_many n) ts (step ts) refl

pub good_more : {A : Type 0} (r : Reads A) (P Q : A → List Token → Type 0) → Good r P → ((x : A) (rest : List Token) → P x rest → Q x rest) → Good r Q
good_more (Ok x) P Q g h = h x.0 x.1 g
good_more (Err e) P Q g h = tt

-- an item after a comma
pub comma_each : {A : Type 0} (item : List Token → Reads A) (P : List Token → A → List Token → Type 0) → ((ts : List Token) → Good (item ts) (P ts))
    → (ts : List Token) (r : Reads A) → after_comma item ts ≡ Some r
    → Good r (λ x rest. (after : List Token) × (Takes ts (kinds.Mark Comma ∷ []) after × P after x rest))
comma_each item P ok ts r e =
    let m = mapped item (rest_after (is_mark Comma) ts) r e in
    let t : Takes ts (kinds.Mark Comma ∷ []) m.0 = record { text = mark_after Comma ts m.0 m.1.0 } in
    subst (λ r. Good r (λ x rest. (after : List Token) × (Takes ts (kinds.Mark Comma ∷ []) after × P after x rest))) m.1.1
    (good_more (item m.0) (P m.0) (λ x rest. (after : List Token) × (Takes ts (kinds.Mark Comma ∷ []) after × P after x rest)) (ok m.0) (λ x rest p. (m.0, (t, p))))
