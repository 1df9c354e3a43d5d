-- Readers that look at the first token.
use Rattle.std.proofs.Common.{◌≡◌, ℕ, ◌+◌, ◌≤◌, ◌<◌, ◌∷◌, [], ◌++◌, ◌⊎◌, inl, inr, List, Option, Some, None, Ok, Bool, true, false, cond, length, refl, sym, ap, subst, ◌∙◌, arith}
use Rattle.std.specs.Prelude.{option_map}
use Rattle.sl_ast.specs.declared.kinds.Row.{Row}
use Rattle.sl_lexer.specs.declared.token.Token.{Token}
use Rattle.sl_lexer.specs.declared.token.TokenKind.{TokenKind}
use Rattle.sl_lexer.specs.declared.token.Mark.{Mark}
use Rattle.sl_lexer.specs.declared.token.Mark.TheVariants.{Comma}
use Rattle.sl_expression_grammar.specs.Reading.{Reads, with_front, many, after_comma, commas, rest_after, line_and_rest, is_mark}
use Rattle.sl_expression_grammar.specs.Expressions.{operator_in, operator_at, prefix_in, prefix_at}
use Rattle.sl_parser.specs.Statements.{name_in, name_at, set_in, set_at, type_in, type_at}
use Rattle.sl_parser.specs.Files.{sort_in, sort_at}
use Rattle.sl_grammar.proofs.Agreeing.{left_of, Agree, StepAgree, Fine, FineAfter, FineStep, rest_after_fine, fine_head, fine_bind, fine_front, fine_each}

-- what a look finds at a first token, whatever stands after it
abbrev pub Looks : {X Y : Type 0} → (Y → List Token → X) → (List Token → Option X) → Token → Type 0
Looks {X} {Y} make look t = ((y : Y) × ((ts : List Token) → look (t ∷ ts) ≡ Some (make y ts))) ⊎ ((ts : List Token) → look (t ∷ ts) ≡ None)

when : {X Y : Type 0} (make : Y → List Token → X) (b : Bool) (found : Y)
    → ((y : Y) × ((ts : List Token) → cond b (Some (make found ts)) None ≡ Some (make y ts))) ⊎ ((ts : List Token) → cond b (Some (make found ts)) None ≡ None)
when make true found = inl (found, λ ts. refl)
when make false found = inr (λ ts. refl)

mapped_when : {B X Y : Type 0} (make : Y → List Token → X) (f : B → Y) (o : Option B)
    → ((y : Y) × ((ts : List Token) → option_map (λ b. make (f b) ts) o ≡ Some (make y ts))) ⊎ ((ts : List Token) → option_map (λ b. make (f b) ts) o ≡ None)
mapped_when make f None = inr (λ ts. refl)
mapped_when make f (Some b) = inl (f b, λ ts. refl)

abbrev pub only : Unit {0} → List Token → List Token
only y ts = ts

abbrev pub paired : {Y : Type 0} → Y → List Token → Y × List Token
paired y ts = (y, ts)

abbrev pub placed_at : {Y : Type 0} → Y × ℕ → List Token → Y × ℕ × List Token
placed_at y ts = (y.0, y.1, ts)

pub after_looks : (p : TokenKind → Bool) (t : Token) → Looks only (rest_after p) t
after_looks p t = when only (p t.kind) tt

pub line_looks : (mark : Mark) (t : Token) → Looks paired (line_and_rest mark) t
line_looks mark t = when paired (is_mark mark t.kind) t.line

pub operator_looks : (row : Row) (t : Token) → Looks placed_at (operator_at row) t
operator_looks row t = mapped_when placed_at (λ o. (o, t.line)) (operator_in row t.kind)

pub prefix_looks : (t : Token) → Looks placed_at prefix_at t
prefix_looks t = mapped_when placed_at (λ o. (o, t.line)) (prefix_in t.kind)

pub name_looks : (t : Token) → Looks placed_at name_at t
name_looks t = mapped_when placed_at (λ o. (o, t.line)) (name_in t.kind)

pub set_looks : (t : Token) → Looks paired set_at t
set_looks t = mapped_when paired (λ o. o) (set_in t.kind)

pub type_looks : (t : Token) → Looks paired type_at t
type_looks t = mapped_when paired (λ o. o) (type_in t.kind)

pub sort_looks : (t : Token) → Looks placed_at sort_at t
sort_looks t = mapped_when placed_at (λ o. (o, t.line)) (sort_in t.kind)

pub after_same : {A : Type 0} (f g : List Token → Reads A) → ((ts : List Token) → f ts ≡ g ts) → FineAfter f → FineAfter g
after_same f g same h = record {
  shorter = λ ts. subst (λ r. left_of r ≤ 1 + length ts) (same ts) (h.shorter ts);
  agree = λ a w v. subst (λ r. Agree w v r (g (a ++ v))) (same (a ++ w)) (subst (λ s. Agree w v (f (a ++ w)) s) (same (a ++ v)) (h.agree a w v));
}

-- with the token that stands before
pub with_token : {A : Type 0} (f : List Token → Reads A) → Fine f → (t : Token) → FineAfter (λ ts. f (t ∷ ts))
with_token f fine t = record { shorter = λ ts. let h = fine.shorter (t ∷ ts) in omega (arith, h); agree = λ a w v. fine.agree (t ∷ a) w v }

module _ {A X Y : Type 0} (make : Y → List Token → X) (look : List Token → Option X) (at_end : look [] ≡ None) (looks : (t : Token) → Looks make look t) where
  module _ (on : List Token → Option X → Reads A) (none : List Token → Reads A) (some : Y → List Token → Reads A)
      (on_none : (ts : List Token) → on ts None ≡ none ts) (on_some : (ts rest : List Token) (y : Y) → on ts (Some (make y rest)) ≡ some y rest)
      (none_fine : Fine none) (some_fine : (y : Y) → Fine (some y)) where
    by_look : (t : Token) → Looks make look t → FineAfter (λ ts. on (t ∷ ts) (look (t ∷ ts)))
    by_look t (inl p) =
        after_same (some p.0) (λ ts. on (t ∷ ts) (look (t ∷ ts))) (λ ts. sym (ap (on (t ∷ ts)) (p.1 ts) ∙ on_some (t ∷ ts) ts p.0)) (rest_after_fine (some p.0) (some_fine p.0))
    by_look t (inr p) =
        after_same (λ ts. none (t ∷ ts)) (λ ts. on (t ∷ ts) (look (t ∷ ts))) (λ ts. sym (ap (on (t ∷ ts)) (p ts) ∙ on_none (t ∷ ts))) (with_token none none_fine t)

    pub fine_look : Fine (λ ts. on ts (look ts))
    fine_look =
        fine_head (λ ts. on ts (look ts)) (subst (λ r. left_of r ≤ 0) (sym (ap (on []) at_end ∙ on_none [])) (none_fine.shorter [])) (λ t. by_look t (looks t))

  -- a further item after what is looked for
  module _ (item : X → Reads A) (some : Y → List Token → Reads A) (is : (rest : List Token) (y : Y) → item (make y rest) ≡ some y rest) (some_fine : (y : Y) → Fine (some y)) where
    abbrev step : List Token → Option (Reads A)
    step ts = option_map item (look ts)

    found : (t : Token) (ts : List Token) (r : Reads A) → Looks make look t → step (t ∷ ts) ≡ Some r → left_of r ≤ length ts
    found t ts r (inl p) e =
        let same : some p.0 ts ≡ r = cc (ap (option_map item) (p.1 ts), is ts p.0, e) in
        let h = (some_fine p.0).shorter ts in
        subst (λ r. left_of r ≤ length ts) same h
    found t ts r (inr p) e = absurd (cc (ap (option_map item) (p ts), e))

    step_shorter : (ts : List Token) (r : Reads A) → step ts ≡ Some r → left_of r ≤ length ts
    step_shorter [] r e = absurd (cc (ap (option_map item) at_end, e))
    step_shorter (t ∷ ts) r e = let h = found t ts r (looks t) e in omega (arith, h)

    step_agree : (t : Token) (a w v : List Token) → Looks make look t → StepAgree w v (step (t ∷ (a ++ w))) (step (t ∷ (a ++ v)))
    step_agree t a w v (inl p) =
        let left : step (t ∷ (a ++ w)) ≡ Some (some p.0 (a ++ w)) = ap (option_map item) (p.1 (a ++ w)) ∙ ap (λ r. Some r) (is (a ++ w) p.0) in
        let right : step (t ∷ (a ++ v)) ≡ Some (some p.0 (a ++ v)) = ap (option_map item) (p.1 (a ++ v)) ∙ ap (λ r. Some r) (is (a ++ v) p.0) in
        subst (λ o. StepAgree w v o (step (t ∷ (a ++ v)))) (sym left) (subst (λ o. StepAgree w v (Some (some p.0 (a ++ w))) o) (sym right) ((some_fine p.0).agree a w v))
    step_agree t a w v (inr p) =
        let left : step (t ∷ (a ++ w)) ≡ None = ap (option_map item) (p (a ++ w)) in
        let right : step (t ∷ (a ++ v)) ≡ None = ap (option_map item) (p (a ++ v)) in
        subst (λ o. StepAgree w v o (step (t ∷ (a ++ v)))) (sym left) (subst (λ o. StepAgree w v None o) (sym right) tt)

    pub fine_step : FineStep step
    fine_step = record { shorter = step_shorter; agree = λ t a w v. step_agree t a w v (looks t) }

    pub strict_step : (ts : List Token) (x : A) (rest : List Token) → step ts ≡ Some (Ok (x, rest)) → length rest < length ts
    strict_step [] x rest e = absurd (cc (ap (option_map item) at_end, e))
    strict_step (t ∷ ts) x rest e = let h = found t ts (Ok (x, rest)) (looks t) e in omega (arith, h)

    pub none_step : step [] ≡ None
    none_step = ap (option_map item) at_end

-- items with commas between them
pub fine_commas : {A : Type 0} (item : List Token → Reads A) → Fine item → Fine (λ ts. commas item ts)
fine_commas {A = A} item fine =
    let f = fine_step only (rest_after (is_mark Comma)) refl (after_looks (is_mark Comma)) item (λ y. item) (λ rest y. refl) (λ y. fine) in
    let s = strict_step only (rest_after (is_mark Comma)) refl (after_looks (is_mark Comma)) item (λ y. item) (λ rest y. refl) (λ y. fine) in
    fine_bind (λ x. with_front (x.0 ∷ []) (many (after_comma item) (length x.1) x.1))
    (λ x. fine_front (x ∷ []) (λ ts. many (after_comma item) (length ts) ts) (fine_each (after_comma item) s f refl)) item fine
