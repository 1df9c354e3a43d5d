-- What is read is of the grammar; and where a fault stands, the tokens before it begin something that is.
use Rattle.std.proofs.Common.{◌≡◌, ℕ, zero, suc, ◌∷◌, [], ◌++◌, List, Option, Some, None, Ok, Err, Bool, true, false, cond, refl, sym, ap, subst, ◌∙◌, append_assoc, append-nil}
use Rattle.sl_lexer.specs.declared.token.Token.{Token}
use Rattle.sl_lexer.specs.declared.token.TokenKind.{TokenKind}
use Rattle.sl_lexer.specs.declared.token.TokenKind.TheVariants as kinds
use Rattle.sl_lexer.specs.declared.token.Mark.{Mark}
use Rattle.sl_expression_grammar.specs.declared.fault.SlCode.{SlCode}
use Rattle.sl_expression_grammar.specs.declared.fault.SlCode.TheVariants.{P3}
use Rattle.sl_expression_grammar.specs.Reading.{Reads, ◌>>=◌, with_front, many_then, many, go_on, past, rest_after, is_mark, is_bad, code_for, head_is, too_deep}
use Rattle.sl_parser.specs.Spelled.{kinds_of}
use Rattle.sl_parser.proofs.Fronts.{mark_after}
use Rattle.sl_parser.proofs.Good.{Takes, and_then}

-- how such items are spelled, which are of the grammar, and what is known of the tokens after
pub record Shape (A : Type 0) : Type 1 where
  pub spell : A → List TokenKind
  pub fine : A → Type 0
  pub ends : A → List Token → Type 0

-- the tokens up to the rest begin these kinds
pub record Starts (ts : List Token) (ks : List TokenKind) (rest : List Token) : Type 0 where
  pub front : List TokenKind
  pub other : List TokenKind
  pub taken : kinds_of ts ≡ front ++ kinds_of rest
  pub text : ks ≡ front ++ other

starts_here : (ts : List Token) (ks : List TokenKind) → Starts ts ks ts
starts_here ts ks = record { front = []; other = ks; taken = refl; text = refl }

pub then_starts : {a b c : List Token} {x y : List TokenKind} → Takes a x b → Starts b y c → Starts a (x ++ y) c
then_starts {c = c} {x = x} t s = record {
  front = x ++ s.front;
  other = s.other;
  taken = t.text ∙ ap (λ z. x ++ z) s.taken ∙ sym (append_assoc x s.front (kinds_of c));
  text = ap (λ z. x ++ z) s.text ∙ sym (append_assoc x s.front s.other);
}

pub starts_on : {a c : List Token} {x : List TokenKind} (y : List TokenKind) → Starts a x c → Starts a (x ++ y) c
starts_on y s = record { front = s.front; other = s.other ++ y; taken = s.taken; text = ap (λ z. z ++ y) s.text ∙ append_assoc s.front s.other y }

-- these tokens, and then such as may follow
pub taken_on : {a b : List Token} {x : List TokenKind} (y : List TokenKind) → Takes a x b → Starts a (x ++ y) b
taken_on {b = b} y t = then_starts t (starts_here b y)

pub taken_whole : {a b : List Token} {x : List TokenKind} → Takes a x b → Starts a x b
taken_whole {x = x} t = record { front = x; other = []; taken = t.text; text = sym (append-nil x) }

pub record Begun {A : Type 0} (shape : Shape A) (ts rest : List Token) : Type 0 where
  pub item : A
  pub fine : shape.fine item
  pub starts : Starts ts (shape.spell item) rest

abbrev pub Done : {A : Type 0} → Shape A → List Token → Reads A → Type 0
Done shape ts (Ok x) = (Takes ts (shape.spell x.0) x.1 × shape.fine x.0) × shape.ends x.0 x.1
Done shape ts (Err e) = Begun shape ts e.1

-- at any fault before the first token
pub begun_here : {A : Type 0} (shape : Shape A) (ts : List Token) (x : A) → shape.fine x → Begun shape ts ts
begun_here shape ts x f = record { item = x; fine = f; starts = starts_here ts (shape.spell x) }

pub done_bind : {A B : Type 0} (a : Shape A) (b : Shape B) (before ts : List Token) (r : Reads A) (f : A × List Token → Reads B) → Done a ts r
    → ((x : A) (rest : List Token) → a.fine x → Starts ts (a.spell x) rest → Begun b before rest)
    → ((x : A × List Token) → Takes ts (a.spell x.0) x.1 → a.fine x.0 → a.ends x.0 x.1 → Done b before (f x)) → Done b before (r >>= f)
done_bind a b before ts (Ok x) f d bad next = next x d.0.0 d.0.1 d.1
done_bind a b before ts (Err e) f d bad next = bad d.item e.1 d.fine d.starts

past_on : {B : Type 0} (b : Shape B) (mark : Mark) (before ts : List Token) (go : List Token → Reads B) (o : Option (List Token)) → rest_after (is_mark mark) ts ≡ o → Begun b before ts
    → ((rest : List Token) → Takes ts (kinds.Mark mark ∷ []) rest → Done b before (go rest)) → Done b before (go_on ts go o)
past_on b mark before ts go None e bad next = bad
past_on b mark before ts go (Some rest) e bad next = next rest (record { text = mark_after mark ts rest e })

pub done_past : {B : Type 0} (b : Shape B) (mark : Mark) (before ts : List Token) (go : List Token → Reads B) → Begun b before ts
    → ((rest : List Token) → Takes ts (kinds.Mark mark ∷ []) rest → Done b before (go rest)) → Done b before (past mark ts go)
done_past b mark before ts go bad next = past_on b mark before ts go (rest_after (is_mark mark) ts) refl bad next

done_cond : {A : Type 0} (shape : Shape A) (ts : List Token) (b : Bool) (c d : SlCode) → Begun shape ts ts → Done shape ts (cond b (Err (c, ts)) (Err (d, ts)))
done_cond shape ts true c d bad = bad
done_cond shape ts false c d bad = bad

pub done_deep : {A : Type 0} (shape : Shape A) (begins : TokenKind → Bool) (ts : List Token) → Begun shape ts ts → Done shape ts (too_deep begins ts)
done_deep shape begins ts bad = done_cond shape ts (head_is begins ts) P3 (code_for (head_is is_bad ts)) bad

-- the same seen as something else
pub done_more : {A : Type 0} (a b : Shape A) (before ts : List Token) (r : Reads A) → Done a ts r
    → ((x : A) (rest : List Token) → a.fine x → Starts ts (a.spell x) rest → Begun b before rest)
    → ((x : A) (rest : List Token) → Takes ts (a.spell x) rest → a.fine x → a.ends x rest → (Takes before (b.spell x) rest × b.fine x) × b.ends x rest) → Done b before r
done_more a b before ts (Ok x) d bad next = next x.0 x.1 d.0.0 d.0.1 d.1
done_more a b before ts (Err e) d bad next = bad d.item e.1 d.fine d.starts

pub done_front : {A : Type 0} (a b : Shape (List A)) (before ts : List Token) (x : A) (r : Reads (List A)) → Done a ts r
    → ((xs : List A) (rest : List Token) → a.fine xs → Starts ts (a.spell xs) rest → Begun b before rest)
    → ((xs : List A) (rest : List Token) → Takes ts (a.spell xs) rest → a.fine xs → (Takes before (b.spell (x ∷ xs)) rest × b.fine (x ∷ xs)) × b.ends (x ∷ xs) rest) → Done b before (with_front (x ∷ []) r)
done_front a b before ts x (Ok y) d bad next = next y.0 y.1 d.0.0 d.0.1
done_front a b before ts x (Err e) d bad next = bad d.item e.1 d.fine d.starts

-- items, of which each is spelled after the one before; `fine` may count them
module _ {A : Type 0} (item : Shape A) (spell : List A → List TokenKind) (fine : ℕ → List A → Type 0)
    (spell_nil : spell [] ≡ []) (spell_cons : (x : A) (xs : List A) → spell (x ∷ xs) ≡ item.spell x ++ spell xs)
    (nil : (k : ℕ) → fine k []) (cons : (k : ℕ) (x : A) (xs : List A) → item.fine x → fine k xs → fine (suc k) (x ∷ xs))
    (step : List Token → Option (Reads A)) (each : (ts : List Token) (r : Reads A) → step ts ≡ Some r → Done item ts r) where
  abbrev pub items : ℕ → Shape (List A)
  items k = record { spell = spell; fine = fine k; ends = λ xs rest. Unit {0} }

  none_done : (k : ℕ) (ts : List Token) → (Takes ts (spell []) ts × fine k []) × Unit {0}
  none_done k ts = ((subst (λ ks. Takes ts ks ts) (sym spell_nil) (record { text = refl }), nil k), tt)

  one_begun : (k : ℕ) (ts rest : List Token) (x : A) → item.fine x → Starts ts (item.spell x) rest → Begun (items (suc k)) ts rest
  one_begun k ts rest x f s = record { item = x ∷ []; fine = cons k x [] f (nil k); starts = subst (λ ks. Starts ts ks rest) (sym (spell_cons x [])) (starts_on (spell []) s) }

  next_done : (k : ℕ) (go : List Token → Reads (List A)) → ((ts : List Token) → Done (items k) ts (go ts)) → (ts : List Token) (o : Option (Reads A)) → step ts ≡ o → Done (items (suc k)) ts (many_then go ts o)
  next_done k go g ts None e = none_done (suc k) ts
  next_done k go g ts (Some r) e =
      done_bind item (items (suc k)) ts ts r (λ x. with_front (x.0 ∷ []) (go x.1)) (each ts r e) (λ x rest f s. one_begun k ts rest x f s) (λ x t f h.
      done_front (items k) (items (suc k)) ts x.1 x.0 (go x.1) (g x.1)
      (λ xs rest d s. record { item = x.0 ∷ xs; fine = cons k x.0 xs f d; starts = subst (λ ks. Starts ts ks rest) (sym (spell_cons x.0 xs)) (then_starts t s) })
      (λ xs rest u d. ((subst (λ ks. Takes ts ks rest) (sym (spell_cons x.0 xs)) (and_then t u), cons k x.0 xs f d), tt)))

  pub done_many : (k : ℕ) (ts : List Token) → Done (items k) ts (many step k ts)
  done_many zero ts = none_done zero ts
  done_many (suc k) ts = next_done k (many step k) (done_many k) ts (step ts) refl
