-- What is read depends only on the tokens up to the place that is reached.
use Rattle.std.proofs.Common.{◌≡◌, ℕ, zero, suc, ◌+◌, ◌≤◌, ◌<◌, ◌∷◌, [], ◌++◌, ◌⊎◌, inl, inr, List, Option, Some, None, Ok, Err, Bool, true, false, cond, length, refl, sym, ap, subst, arith}
use Rattle.sl_lexer.specs.declared.token.Token.{Token}
use Rattle.sl_lexer.specs.declared.token.TokenKind.{TokenKind}
use Rattle.sl_lexer.specs.declared.token.Mark.{Mark}
use Rattle.sl_expression_grammar.specs.declared.fault.SlCode.{SlCode}
use Rattle.sl_expression_grammar.specs.declared.fault.SlCode.TheVariants.{P3}
use Rattle.sl_expression_grammar.specs.Reading.{Reads, ◌>>=◌, with_front, many_then, many, unexpected, too_deep, is_bad, code_for, go_on, past, is_mark}

-- how many tokens are left at the place that was reached
abbrev pub left_of : {A : Type 0} → Reads A → ℕ
left_of (Ok x) = length x.1
left_of (Err e) = length e.1

abbrev pub Read : {A : Type 0} → List Token → List Token → Reads A → Reads A → Type 0
Read {A} w v r s = (x : A) × ((t : Token) × ((c : List Token) × ((r ≡ Ok (x, t ∷ (c ++ w))) × (s ≡ Ok (x, t ∷ (c ++ v))))))

abbrev pub Fault : {A : Type 0} → List Token → List Token → Reads A → Reads A → Type 0
Fault w v r s = (e : SlCode) × ((t : Token) × ((c : List Token) × ((r ≡ Err (e, t ∷ (c ++ w))) × (s ≡ Err (e, t ∷ (c ++ v))))))

-- of two texts that differ after a place the same is read before it, or both are read up to it
abbrev pub Agree : {A : Type 0} → List Token → List Token → Reads A → Reads A → Type 0
Agree w v r s = Read w v r s ⊎ (Fault w v r s ⊎ ((left_of r ≤ length w) × (left_of s ≤ length v)))

pub record Fine {A : Type 0} (f : List Token → Reads A) : Type 0 where
  pub shorter : (ts : List Token) → left_of (f ts) ≤ length ts
  pub agree : (a w v : List Token) → Agree w v (f (a ++ w)) (f (a ++ v))

-- the same after a token
pub record FineAfter {A : Type 0} (f : List Token → Reads A) : Type 0 where
  pub shorter : (ts : List Token) → left_of (f ts) ≤ 1 + length ts
  pub agree : (a w v : List Token) → Agree w v (f (a ++ w)) (f (a ++ v))

pub rest_after_fine : {A : Type 0} (f : List Token → Reads A) → Fine f → FineAfter f
rest_after_fine f g = record { shorter = λ ts. omega (arith, g.shorter ts); agree = g.agree }

-- by the first token
pub fine_head : {A : Type 0} (f : List Token → Reads A) → left_of (f []) ≤ 0 → ((t : Token) → FineAfter (λ ts. f (t ∷ ts))) → Fine f
fine_head f none more = record { shorter = shorter; agree = agree }
  where
    shorter : (ts : List Token) → left_of (f ts) ≤ length ts
    shorter [] = none
    shorter (t ∷ ts) = let h = (more t).shorter ts in omega (arith, h)

    agree : (a w v : List Token) → Agree w v (f (a ++ w)) (f (a ++ v))
    agree [] w v = inr (inr (shorter w, shorter v))
    agree (t ∷ a) w v = (more t).agree a w v

pub fine_ok : {A : Type 0} (x : A) → Fine (λ ts. Ok (x, ts))
fine_ok x = fine_head (λ ts. Ok (x, ts)) (omega arith) (λ t. record { shorter = λ ts. omega arith; agree = λ a w v. inl (x, (t, (a, (refl, refl)))) })

pub fault_after : {A : Type 0} (e : SlCode) (t : Token) → FineAfter {A = A} (λ ts. Err (e, t ∷ ts))
fault_after e t = record { shorter = λ ts. omega arith; agree = λ a w v. inr (inl (e, (t, (a, (refl, refl))))) }

pub fine_unexpected : {A : Type 0} → Fine {A = A} (λ ts. unexpected ts)
fine_unexpected = fine_head (λ ts. unexpected ts) (omega arith) (λ t. fault_after (code_for (is_bad t.kind)) t)

deep_cond : {A : Type 0} (b : Bool) (e : SlCode) (t : Token) → FineAfter {A = A} (λ ts. cond b (Err (P3, t ∷ ts)) (Err (e, t ∷ ts)))
deep_cond true e t = fault_after P3 t
deep_cond false e t = fault_after e t

pub fine_deep : {A : Type 0} (begins : TokenKind → Bool) → Fine {A = A} (λ ts. too_deep begins ts)
fine_deep begins = fine_head (λ ts. too_deep begins ts) (omega arith) (λ t. deep_cond (begins t.kind) (code_for (is_bad t.kind)) t)

module _ {A B : Type 0} (g : A × List Token → Reads B) (fine : (x : A) → Fine (λ ts. g (x, ts))) where
  shorter_bind : (r : Reads A) → left_of (r >>= g) ≤ left_of r
  shorter_bind (Ok x) = (fine x.0).shorter x.1
  shorter_bind (Err e) = omega arith

  agree_bind : (w v : List Token) (r s : Reads A) → Agree w v r s → Agree w v (r >>= g) (s >>= g)
  agree_bind w v r s (inl p) =
      let x = p.0 in
      let t = p.1.0 in
      let c = p.1.1.0 in
      let q = p.1.1.1 in
      subst (λ r. Agree w v (r >>= g) (s >>= g)) (sym q.0) (subst (λ s. Agree w v (g (x, t ∷ (c ++ w))) (s >>= g)) (sym q.1) ((fine x).agree (t ∷ c) w v))
  agree_bind w v r s (inr (inl p)) =
      let q = p.1.1.1 in
      inr (inl (p.0, (p.1.0, (p.1.1.0, (ap (λ r. r >>= g) q.0, ap (λ s. s >>= g) q.1)))))
  agree_bind w v r s (inr (inr p)) = inr (inr (omega (arith, shorter_bind r, p.0), omega (arith, shorter_bind s, p.1)))

  pub bind_after : (f : List Token → Reads A) → FineAfter f → FineAfter (λ ts. f ts >>= g)
  bind_after f h = record {
    shorter = λ ts. let a = shorter_bind (f ts) in let b = h.shorter ts in omega (arith, a, b);
    agree = λ a w v. agree_bind w v (f (a ++ w)) (f (a ++ v)) (h.agree a w v);
  }

  pub fine_bind : (f : List Token → Reads A) → Fine f → Fine (λ ts. f ts >>= g)
  fine_bind f h = record {
    shorter = λ ts. let a = shorter_bind (f ts) in let b = h.shorter ts in omega (arith, a, b);
    agree = λ a w v. agree_bind w v (f (a ++ w)) (f (a ++ v)) (h.agree a w v);
  }

past_after : {A : Type 0} (b : Bool) (t : Token) (go : List Token → Reads A) → Fine go → FineAfter (λ ts. go_on (t ∷ ts) go (cond b (Some ts) None))
past_after true t go fine = rest_after_fine go fine
past_after false t go fine = fault_after (code_for (is_bad t.kind)) t

pub fine_past : {A : Type 0} (mark : Mark) (go : List Token → Reads A) → Fine go → Fine (λ ts. past mark ts go)
fine_past mark go fine = fine_head (λ ts. past mark ts go) (omega arith) (λ t. past_after (is_mark mark t.kind) t go fine)

pub fine_same : {A : Type 0} (f g : List Token → Reads A) → ((ts : List Token) → f ts ≡ g ts) → Fine f → Fine g
fine_same f g same h = record {
  shorter = λ ts. subst (λ r. left_of r ≤ length ts) (same ts) (h.shorter ts);
  agree = λ a w v. subst (λ r. Agree w v r (g (a ++ v))) (same (a ++ w)) (subst (λ s. Agree w v (f (a ++ w)) s) (same (a ++ v)) (h.agree a w v));
}

front_is : {A : Type 0} (xs : List A) (r : Reads (List A)) → (r >>= λ x. Ok (xs ++ x.0, x.1)) ≡ with_front xs r
front_is xs (Ok x) = refl
front_is xs (Err e) = refl

pub fine_front : {A : Type 0} (xs : List A) (f : List Token → Reads (List A)) → Fine f → Fine (λ ts. with_front xs (f ts))
fine_front xs f h =
    fine_same (λ ts. f ts >>= λ x. Ok (xs ++ x.0, x.1)) (λ ts. with_front xs (f ts)) (λ ts. front_is xs (f ts)) (fine_bind (λ x. Ok (xs ++ x.0, x.1)) (λ ys. fine_ok (xs ++ ys)) f h)

-- the same next item, or none
abbrev pub StepAgree : {A : Type 0} → List Token → List Token → Option (Reads A) → Option (Reads A) → Type 0
StepAgree w v None None = Unit {0}
StepAgree w v (Some r) (Some s) = Agree w v r s
StepAgree w v None (Some s) = ⊥
StepAgree w v (Some r) None = ⊥

pub record FineStep {A : Type 0} (step : List Token → Option (Reads A)) : Type 0 where
  pub shorter : (ts : List Token) (r : Reads A) → step ts ≡ Some r → left_of r ≤ length ts
  pub agree : (t : Token) (a w v : List Token) → StepAgree w v (step (t ∷ (a ++ w))) (step (t ∷ (a ++ v)))

module _ {A : Type 0} (step : List Token → Option (Reads A)) (fine : FineStep step) where
  module _ (go : List Token → Reads (List A)) (more : Fine go) where
    abbrev then : A × List Token → Reads (List A)
    then x = with_front (x.0 ∷ []) (go x.1)

    then_fine : (x : A) → Fine (λ ts. then (x, ts))
    then_fine x = fine_front (x ∷ []) go more

    then_shorter : (ts : List Token) (o : Option (Reads A)) → step ts ≡ o → left_of (many_then go ts o) ≤ length ts
    then_shorter ts None e = omega arith
    then_shorter ts (Some r) e = let a = shorter_bind then then_fine r in let b = fine.shorter ts r e in omega (arith, a, b)

    both_agree : (t : Token) (a w v : List Token) (o p : Option (Reads A)) → StepAgree w v o p → Agree w v (many_then go (t ∷ (a ++ w)) o) (many_then go (t ∷ (a ++ v)) p)
    both_agree t a w v None None h = inl ([], (t, (a, (refl, refl))))
    both_agree t a w v (Some r) (Some s) h = agree_bind then then_fine w v r s h
    both_agree t a w v None (Some s) h = absurd h
    both_agree t a w v (Some r) None h = absurd h

    then_agree : (a w v : List Token) → Agree w v (many_then go (a ++ w) (step (a ++ w))) (many_then go (a ++ v) (step (a ++ v)))
    then_agree [] w v = inr (inr (then_shorter w (step w) refl, then_shorter v (step v) refl))
    then_agree (t ∷ a) w v = both_agree t a w v (step (t ∷ (a ++ w))) (step (t ∷ (a ++ v))) (fine.agree t a w v)

  pub fine_many : (n : ℕ) → Fine (many step n)
  fine_many zero = fine_ok []
  fine_many (suc n) = record {
    shorter = λ ts. then_shorter (many step n) (fine_many n) ts (step ts) refl;
    agree = then_agree (many step n) (fine_many n);
  }

-- each item takes at least one token
module _ {A : Type 0} (step : List Token → Option (Reads A)) (strict : (ts : List Token) (x : A) (rest : List Token) → step ts ≡ Some (Ok (x, rest)) → length rest < length ts) where
  turn_on : (n m : ℕ) (ts : List Token) (o : Option (Reads A)) → step ts ≡ o → ((rest : List Token) → length rest < length ts → many step n rest ≡ many step m rest)
      → many_then (many step n) ts o ≡ many_then (many step m) ts o
  turn_on n m ts None e h = refl
  turn_on n m ts (Some (Err f)) e h = refl
  turn_on n m ts (Some (Ok x)) e h = ap (with_front (x.0 ∷ [])) (h x.1 (strict ts x.0 x.1 e))

  pub turns : (n m : ℕ) (ts : List Token) → length ts < n → length ts < m → many step n ts ≡ many step m ts
  turns zero m ts p q = absurd (omega arith)
  turns (suc n) zero ts p q = absurd (omega arith)
  turns (suc n) (suc m) ts p q = turn_on n m ts (step ts) refl (λ rest h. turns n m rest (omega arith) (omega arith))

  -- where nothing stands after the last token, a turn for each is enough
  pub last_turn : step [] ≡ None → (n m : ℕ) (ts : List Token) → length ts < n → length ts ≤ m → many step n ts ≡ many step m ts
  last_turn none zero m ts p q = absurd (omega arith)
  last_turn none (suc n) zero [] p q = ap (many_then (many step n) []) none
  last_turn none (suc n) zero (t ∷ ts) p q = absurd (omega arith)
  last_turn none (suc n) (suc m) ts p q = turn_on n m ts (step ts) refl (λ rest h. last_turn none n m rest (omega arith) (omega arith))

  -- what reads so is fine for any number of turns, and so for as many as are enough
  pub enough_turns : {B : Type 0} (seen : Reads (List A) → Reads B) (k : List Token → ℕ) → ((ts : List Token) (n : ℕ) → length ts < n → many step n ts ≡ many step (k ts) ts)
      → ((n : ℕ) → Fine (λ ts. seen (many step n ts))) → Fine (λ ts. seen (many step (k ts) ts))
  enough_turns seen k enough fine = record {
    shorter = λ ts. (fine (k ts)).shorter ts;
    agree = λ a w v.
        let n : ℕ = length (a ++ w) + length (a ++ v) + 1 in
        subst (λ r. Agree w v (seen r) (seen (many step (k (a ++ v)) (a ++ v)))) (enough (a ++ w) n (omega arith))
        (subst (λ s. Agree w v (seen (many step n (a ++ w))) (seen s)) (enough (a ++ v) n (omega arith)) ((fine n).agree a w v));
  }

  module _ (fine : FineStep step) where
    -- with a turn more than there are tokens
    pub fine_turns : Fine (λ ts. many step (length ts + 1) ts)
    fine_turns = enough_turns (λ r. r) (λ ts. length ts + 1) (λ ts n h. turns n (length ts + 1) ts h (omega arith)) (fine_many step fine)

    -- with a turn for each token
    pub fine_each : step [] ≡ None → Fine (λ ts. many step (length ts) ts)
    fine_each none = enough_turns (λ r. r) (λ ts. length ts) (λ ts n h. last_turn none n (length ts) ts h (omega arith)) (fine_many step fine)
