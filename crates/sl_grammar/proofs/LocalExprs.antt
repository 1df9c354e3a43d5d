-- Reading an expression looks no further than the token after it.
use Rattle.std.proofs.Common.{◌≡◌, ℕ, zero, suc, ◌≤◌, ◌∷◌, [], ◌++◌, inl, inr, List, Option, Some, None, Ok, Bool, true, false, cond, length, refl, sym, ap, subst, arith}
use Rattle.std.specs.Prelude.{option_map}
use Rattle.sl_ast.specs.Syntax as S
use Rattle.sl_ast.specs.declared.kinds.Operator.{Operator}
use Rattle.sl_ast.specs.declared.kinds.Prefix.{Prefix}
use Rattle.sl_ast.specs.declared.kinds.Row.{Row}
use Rattle.sl_ast.specs.declared.kinds.Row.TheVariants as rows
use Rattle.sl_ast.specs.declared.kinds.SlType.{SlType}
use Rattle.sl_ast.specs.declared.syntax.Space.{Space}
use Rattle.sl_lexer.specs.declared.token.Token.{Token}
use Rattle.sl_lexer.specs.declared.token.TokenKind.{TokenKind}
use Rattle.sl_lexer.specs.declared.token.TokenKind.TheVariants as kinds
use Rattle.sl_lexer.specs.declared.token.Mark.TheVariants.{LeftParen, RightParen, LeftBrace, RightBrace, Semicolon, Comma, Question, Colon}
use Rattle.sl_expression_grammar.specs.declared.fault.SlCode.TheVariants.{P3}
use Rattle.sl_expression_grammar.specs.Reading.{Reads, ◌>>=◌, many, commas, head_is, is_bad, code_for, too_deep, past, rest_after, line_and_rest, is_mark}
use Rattle.sl_expression_grammar.specs.Expressions.{is_single, link, next_link, operator_at, chain_of, links_in, chain, chains, choice_then, expr_with, args_with, args_in, name_then, name_with, paren_with, begins_prim, space_when, space_in, triple_then, inside_with, value_then, value_with, typed_with, prim_in, prim_with, prefix_in, unary_then, unary_with, deep_typed, deep_operand, begins_expr, expr_at, unary_at, prim_at}
use Rattle.sl_grammar.proofs.Agreeing.{left_of, Agree, Fine, FineAfter, rest_after_fine, fine_head, fine_ok, fault_after, fine_deep, fine_bind, bind_after, fine_past, fine_many, fine_each}
use Rattle.sl_grammar.proofs.Looking.{only, paired, placed_at, after_looks, line_looks, operator_looks, with_token, fine_look, fine_step, strict_step, fine_commas}

linked : (o : Operator) (line : ℕ) (operand : List Token → Reads S.Expr) → Fine operand → Fine (λ ts. link operand (o, line, ts))
linked o line operand fine = fine_bind (λ e. Ok (record { operator = o; line = line; operand = e.0 }, e.1)) (λ e. fine_ok (record { operator = o; line = line; operand = e })) operand fine

module _ (row : Row) (operand : List Token → Reads S.Expr) (fine : Fine operand) where
  links_on : (single : Bool) → Fine (λ ts. many (next_link row operand) (cond single 1 (length ts)) ts)
  links_on true =
      fine_many (next_link row operand)
      (fine_step placed_at (operator_at row) refl (operator_looks row) (link operand) (λ y ts. link operand (y.0, y.1, ts)) (λ rest y. refl) (λ y. linked y.0 y.1 operand fine)) 1
  links_on false =
      fine_each (next_link row operand)
      (strict_step placed_at (operator_at row) refl (operator_looks row) (link operand) (λ y ts. link operand (y.0, y.1, ts)) (λ rest y. refl) (λ y. linked y.0 y.1 operand fine))
      (fine_step placed_at (operator_at row) refl (operator_looks row) (link operand) (λ y ts. link operand (y.0, y.1, ts)) (λ rest y. refl) (λ y. linked y.0 y.1 operand fine)) refl

  chain_fine : Fine (chain row operand)
  chain_fine =
      fine_bind (λ first. links_in row operand first.1 >>= λ links. Ok (chain_of row first.0 links.0, links.1))
      (λ x. fine_bind (λ links. Ok (chain_of row x links.0, links.1)) (λ ls. fine_ok (chain_of row x ls)) (links_in row operand) (links_on (is_single row)))
      operand fine

chains_fine : (unary : List Token → Reads S.Expr) → Fine unary → Fine (chains unary)
chains_fine unary fine =
    chain_fine rows.Or _ (chain_fine rows.And _ (chain_fine rows.Equality _ (chain_fine rows.Relation _ (chain_fine rows.Sum _ (chain_fine rows.Cross _ (chain_fine rows.Product _ (chain_fine rows.Dot unary fine)))))))

module _ (expr : List Token → Reads S.Expr) (fine : Fine expr) where
  second_fine : (test first : S.Expr) (line : ℕ) → Fine (λ ts. expr ts >>= λ second. Ok (S.choice test first second.0 line, second.1))
  second_fine test first line = fine_bind (λ second. Ok (S.choice test first second.0 line, second.1)) (λ e. fine_ok (S.choice test first e line)) expr fine

  values_fine : (test : S.Expr) (line : ℕ) → Fine (λ ts. expr ts >>= λ first. past Colon first.1 λ rest. expr rest >>= λ second. Ok (S.choice test first.0 second.0 line, second.1))
  values_fine test line =
      fine_bind (λ first. past Colon first.1 λ rest. expr rest >>= λ second. Ok (S.choice test first.0 second.0 line, second.1))
      (λ first. fine_past Colon (λ rest. expr rest >>= λ second. Ok (S.choice test first second.0 line, second.1)) (second_fine test first line)) expr fine

  choice_fine : (test : S.Expr) → Fine (λ ts. choice_then expr test ts (line_and_rest Question ts))
  choice_fine test =
      fine_look paired (line_and_rest Question) refl (line_looks Question) (λ ts o. choice_then expr test ts o) (λ ts. Ok (test, ts))
      (λ line ts. expr ts >>= λ first. past Colon first.1 λ rest. expr rest >>= λ second. Ok (S.choice test first.0 second.0 line, second.1))
      (λ ts. refl) (λ ts rest y. refl) (fine_ok test) (λ line. values_fine test line)

  pub expr_with_fine : (unary : List Token → Reads S.Expr) → Fine unary → Fine (expr_with unary expr)
  expr_with_fine unary unary_fine =
      fine_bind (λ test. choice_then expr test.0 test.1 (line_and_rest Question test.1)) choice_fine (chains unary) (chains_fine unary unary_fine)

  args_fine : Fine (args_in expr)
  args_fine =
      fine_look only (rest_after (is_mark RightParen)) refl (after_looks (is_mark RightParen)) (args_with expr)
      (λ ts. commas expr ts >>= λ args. past RightParen args.1 λ rest. Ok (args.0, rest)) (λ y ts. Ok ([], ts)) (λ ts. refl) (λ ts rest y. refl)
      (fine_bind (λ args. past RightParen args.1 λ rest. Ok (args.0, rest)) (λ es. fine_past RightParen (λ rest. Ok (es, rest)) (fine_ok es)) (commas expr) (fine_commas expr fine))
      (λ y. fine_ok [])

  named_fine : (name : List ℕ) (line : ℕ) → Fine (name_with expr name line)
  named_fine name line =
      fine_look only (rest_after (is_mark LeftParen)) refl (after_looks (is_mark LeftParen)) (λ ts o. name_then expr name line ts o)
      (λ ts. Ok (S.name name line, ts)) (λ y ts. args_in expr ts >>= λ args. Ok (S.call name (S.exprs args.0) line, args.1)) (λ ts. refl) (λ ts rest y. refl)
      (fine_ok (S.name name line))
      (λ y. fine_bind (λ args. Ok (S.call name (S.exprs args.0) line, args.1)) (λ es. fine_ok (S.call name (S.exprs es) line)) (args_in expr) args_fine)

  paren_fine : (line : ℕ) → Fine (paren_with expr line)
  paren_fine line =
      fine_bind (λ e. past RightParen e.1 λ rest. Ok (S.paren e.0 line, rest)) (λ e. fine_past RightParen (λ rest. Ok (S.paren e line, rest)) (fine_ok (S.paren e line))) expr fine

  module _ (kind : SlType) (space : Option Space) (line inner : ℕ) where
    third_fine : (x y : S.Expr) → Fine (λ ts. expr ts >>= λ z. past RightParen z.1 λ rest. Ok (S.triple kind space x y z.0 line, rest))
    third_fine x y =
        fine_bind (λ z. past RightParen z.1 λ rest. Ok (S.triple kind space x y z.0 line, rest))
        (λ z. fine_past RightParen (λ rest. Ok (S.triple kind space x y z line, rest)) (fine_ok (S.triple kind space x y z line))) expr fine

    rest_fine : (x : S.Expr) → Fine (λ ts. expr ts >>= λ y. past Comma y.1 λ third. expr third >>= λ z. past RightParen z.1 λ rest. Ok (S.triple kind space x y.0 z.0 line, rest))
    rest_fine x =
        fine_bind (λ y. past Comma y.1 λ third. expr third >>= λ z. past RightParen z.1 λ rest. Ok (S.triple kind space x y.0 z.0 line, rest))
        (λ y. fine_past Comma (λ third. expr third >>= λ z. past RightParen z.1 λ rest. Ok (S.triple kind space x y z.0 line, rest)) (third_fine x y)) expr fine

    inside_fine : Fine (inside_with expr kind space line inner)
    inside_fine =
        fine_bind (λ x. triple_then expr kind space line inner x.0 x.1 (rest_after (is_mark Comma) x.1))
        (λ x. fine_look only (rest_after (is_mark Comma)) refl (after_looks (is_mark Comma)) (λ ts o. triple_then expr kind space line inner x ts o)
        (λ ts. past RightParen ts λ rest. Ok (S.typed kind space (S.paren x inner) line, rest))
        (λ y ts. expr ts >>= λ y. past Comma y.1 λ third. expr third >>= λ z. past RightParen z.1 λ rest. Ok (S.triple kind space x y.0 z.0 line, rest))
        (λ ts. refl) (λ ts rest y. refl)
        (fine_past RightParen (λ rest. Ok (S.typed kind space (S.paren x inner) line, rest)) (fine_ok (S.typed kind space (S.paren x inner) line))) (λ y. rest_fine x)) expr fine

-- after a type
module _ (expr prim : List Token → Reads S.Expr) (fine : Fine expr) (prim_fine : Fine prim)
    (strings : (name : List ℕ) (line : ℕ) (ts : List Token) → prim (record { kind = kinds.Str name; line = line } ∷ ts) ≡ Ok (S.string name line, ts)) (kind : SlType) (line : ℕ) where
  abbrev valued : Option Space → List Token → Reads S.Expr
  valued space ts = value_then expr prim kind space line ts (line_and_rest LeftParen ts)

  valued_fine : (space : Option Space) → Fine (valued space)
  valued_fine space =
      fine_look paired (line_and_rest LeftParen) refl (line_looks LeftParen) (λ ts o. value_then expr prim kind space line ts o)
      (λ ts. prim ts >>= λ e. Ok (S.typed kind space e.0 line, e.1)) (λ inner ts. inside_with expr kind space line inner ts) (λ ts. refl) (λ ts rest y. refl)
      (fine_bind (λ e. Ok (S.typed kind space e.0 line, e.1)) (λ e. fine_ok (S.typed kind space e line)) prim prim_fine)
      (λ inner. inside_fine expr fine kind space line inner)

  abbrev spaced : Bool → List ℕ → ℕ → List Token → Reads S.Expr
  spaced b name at ts = value_with expr prim kind line (space_when b (record { name = name; line = at }) ts (record { kind = kinds.Str name; line = at } ∷ ts))

  -- a string that is the value
  string_value : (name : List ℕ) (at : ℕ) (ts : List Token) → spaced false name at ts ≡ Ok (S.typed kind None (S.string name at) line, ts)
  string_value name at ts = ap (λ r. r >>= λ e. Ok (S.typed kind None e.0 line, e.1)) (strings name at ts)

  spaced_shorter : (b : Bool) (name : List ℕ) (at : ℕ) (ts : List Token) → left_of (spaced b name at ts) ≤ length ts
  spaced_shorter true name at ts = (valued_fine (Some (record { name = name; line = at }))).shorter ts
  spaced_shorter false name at ts = subst (λ r. left_of r ≤ length ts) (sym (string_value name at ts)) (omega arith)

  spaced_agree : (b : Bool) (name : List ℕ) (at : ℕ) (t : Token) (a w v : List Token) → Agree w v (spaced b name at (t ∷ (a ++ w))) (spaced b name at (t ∷ (a ++ v)))
  spaced_agree true name at t a w v = (valued_fine (Some (record { name = name; line = at }))).agree (t ∷ a) w v
  spaced_agree false name at t a w v =
      subst (λ r. Agree w v r (spaced false name at (t ∷ (a ++ v)))) (sym (string_value name at (t ∷ (a ++ w))))
      (subst (λ s. Agree w v (Ok (S.typed kind None (S.string name at) line, t ∷ (a ++ w))) s) (sym (string_value name at (t ∷ (a ++ v))))
      (inl (S.typed kind None (S.string name at) line, (t, (a, (refl, refl))))))

  abbrev stringed : List ℕ → ℕ → List Token → Reads S.Expr
  stringed name at ts = spaced (head_is begins_prim ts) name at ts

  stringed_agree : (name : List ℕ) (at : ℕ) (a w v : List Token) → Agree w v (stringed name at (a ++ w)) (stringed name at (a ++ v))
  stringed_agree name at [] w v = inr (inr (spaced_shorter (head_is begins_prim w) name at w, spaced_shorter (head_is begins_prim v) name at v))
  stringed_agree name at (t ∷ a) w v = spaced_agree (begins_prim t.kind) name at t a w v

  stringed_fine : (name : List ℕ) (at : ℕ) → FineAfter (stringed name at)
  stringed_fine name at = record { shorter = λ ts. let h = spaced_shorter (head_is begins_prim ts) name at ts in omega (arith, h); agree = stringed_agree name at }

  typed_by : (k : TokenKind) (at : ℕ) → FineAfter (λ ts. value_with expr prim kind line (space_in k at ts (record { kind = k; line = at } ∷ ts)))
  typed_by (kinds.Str name) at = stringed_fine name at
  typed_by (kinds.Number x) at = with_token (valued None) (valued_fine None) (record { kind = (kinds.Number x); line = at })
  typed_by (kinds.Name x) at = with_token (valued None) (valued_fine None) (record { kind = (kinds.Name x); line = at })
  typed_by (kinds.Kind x) at = with_token (valued None) (valued_fine None) (record { kind = (kinds.Kind x); line = at })
  typed_by (kinds.Class x) at = with_token (valued None) (valued_fine None) (record { kind = (kinds.Class x); line = at })
  typed_by (kinds.Type x) at = with_token (valued None) (valued_fine None) (record { kind = (kinds.Type x); line = at })
  typed_by (kinds.Word x) at = with_token (valued None) (valued_fine None) (record { kind = (kinds.Word x); line = at })
  typed_by (kinds.Mark x) at = with_token (valued None) (valued_fine None) (record { kind = (kinds.Mark x); line = at })
  typed_by (kinds.Operator x) at = with_token (valued None) (valued_fine None) (record { kind = (kinds.Operator x); line = at })
  typed_by kinds.Not at = with_token (valued None) (valued_fine None) (record { kind = kinds.Not; line = at })
  typed_by (kinds.Set x) at = with_token (valued None) (valued_fine None) (record { kind = (kinds.Set x); line = at })
  typed_by kinds.Bad at = with_token (valued None) (valued_fine None) (record { kind = kinds.Bad; line = at })

  pub typed_fine : Fine (typed_with expr prim kind line)
  typed_fine = fine_head (typed_with expr prim kind line) ((valued_fine None).shorter []) (λ t. typed_by t.kind t.line)

module _ (expr : List Token → Reads S.Expr) (fine : Fine expr) (typed : SlType → ℕ → List Token → List Token → Reads S.Expr)
    (typed_after : (kind : SlType) (line : ℕ) (t : Token) → FineAfter (λ ts. typed kind line ts (t ∷ ts))) where
  prim_by : (k : TokenKind) (line : ℕ) (t : Token) → FineAfter (λ ts. prim_in expr typed k line ts (t ∷ ts))
  prim_by (kinds.Number text) line t = rest_after_fine (λ ts. Ok (S.number text line, ts)) (fine_ok (S.number text line))
  prim_by (kinds.Str text) line t = rest_after_fine (λ ts. Ok (S.string text line, ts)) (fine_ok (S.string text line))
  prim_by (kinds.Name name) line t = rest_after_fine (name_with expr name line) (named_fine expr fine name line)
  prim_by (kinds.Mark LeftParen) line t = rest_after_fine (paren_with expr line) (paren_fine expr fine line)
  prim_by (kinds.Type kind) line t = typed_after kind line t
  prim_by (kinds.Mark RightParen) line t = fault_after (code_for (is_bad t.kind)) t
  prim_by (kinds.Mark LeftBrace) line t = fault_after (code_for (is_bad t.kind)) t
  prim_by (kinds.Mark RightBrace) line t = fault_after (code_for (is_bad t.kind)) t
  prim_by (kinds.Mark Semicolon) line t = fault_after (code_for (is_bad t.kind)) t
  prim_by (kinds.Mark Comma) line t = fault_after (code_for (is_bad t.kind)) t
  prim_by (kinds.Mark Question) line t = fault_after (code_for (is_bad t.kind)) t
  prim_by (kinds.Mark Colon) line t = fault_after (code_for (is_bad t.kind)) t
  prim_by (kinds.Kind x) line t = fault_after (code_for (is_bad t.kind)) t
  prim_by (kinds.Class x) line t = fault_after (code_for (is_bad t.kind)) t
  prim_by (kinds.Word x) line t = fault_after (code_for (is_bad t.kind)) t
  prim_by (kinds.Operator x) line t = fault_after (code_for (is_bad t.kind)) t
  prim_by kinds.Not line t = fault_after (code_for (is_bad t.kind)) t
  prim_by (kinds.Set x) line t = fault_after (code_for (is_bad t.kind)) t
  prim_by kinds.Bad line t = fault_after (code_for (is_bad t.kind)) t

  prim_with_fine : Fine (prim_with expr typed)
  prim_with_fine = fine_head (prim_with expr typed) (omega arith) (λ t. prim_by t.kind t.line t)

module _ (prim : List Token → Reads S.Expr) (fine : Fine prim) (operand : List Token → List Token → Reads S.Expr) (operand_after : (t : Token) → FineAfter (λ ts. operand ts (t ∷ ts))) where
  abbrev prefixed : Prefix → ℕ → Token → List Token → Reads S.Expr
  prefixed p line t ts = operand ts (t ∷ ts) >>= λ e. Ok (S.prefixed p e.0 line, e.1)

  prefixed_fine : (p : Prefix) (line : ℕ) (t : Token) → FineAfter (prefixed p line t)
  prefixed_fine p line t = bind_after (λ e. Ok (S.prefixed p e.0 line, e.1)) (λ e. fine_ok (S.prefixed p e line)) (λ ts. operand ts (t ∷ ts)) (operand_after t)

  unary_by : (o : Option Prefix) (t : Token) → FineAfter (λ ts. unary_then prim operand (t ∷ ts) (option_map (λ p. (p, t.line, ts)) o))
  unary_by None t = with_token prim fine t
  unary_by (Some p) t = prefixed_fine p t.line t

  unary_with_fine : Fine (unary_with prim operand)
  unary_with_fine = fine_head (unary_with prim operand) (fine.shorter []) (λ t. unary_by (prefix_in t.kind) t)

deep_after : (t : Token) → FineAfter (λ ts. deep_operand ts (t ∷ ts))
deep_after t = fault_after P3 t

deep_types : (kind : SlType) (line : ℕ) (t : Token) → FineAfter (λ ts. deep_typed kind line ts (t ∷ ts))
deep_types kind line t = fault_after P3 t

strings_at : (n : ℕ) (name : List ℕ) (line : ℕ) (ts : List Token) → prim_at n (record { kind = kinds.Str name; line = line } ∷ ts) ≡ Ok (S.string name line, ts)
strings_at zero name line ts = refl
strings_at (suc n) name line ts = refl

mutual
  pub expr_fine : (n : ℕ) → Fine (expr_at n)
  expr_fine zero = fine_deep begins_expr
  expr_fine (suc n) = expr_with_fine (expr_at n) (expr_fine n) (unary_at n) (unary_fine n)

  pub unary_fine : (n : ℕ) → Fine (unary_at n)
  unary_fine zero =
      unary_with_fine (prim_with (too_deep begins_expr) deep_typed) (prim_with_fine (too_deep begins_expr) (fine_deep begins_expr) deep_typed deep_types) deep_operand deep_after
  unary_fine (suc n) =
      unary_with_fine (prim_with (expr_with (unary_at n) (expr_at n)) (λ kind line rest ts. typed_with (expr_at n) (prim_at n) kind line rest))
      (prim_with_fine (expr_with (unary_at n) (expr_at n)) (expr_with_fine (expr_at n) (expr_fine n) (unary_at n) (unary_fine n))
      (λ kind line rest ts. typed_with (expr_at n) (prim_at n) kind line rest)
      (λ kind line t. rest_after_fine (typed_with (expr_at n) (prim_at n) kind line) (typed_fine (expr_at n) (prim_at n) (expr_fine n) (prim_fine_at n) (strings_at n) kind line)))
      (λ rest ts. unary_at n rest) (λ t. rest_after_fine (unary_at n) (unary_fine n))

  pub prim_fine_at : (n : ℕ) → Fine (prim_at n)
  prim_fine_at zero = prim_with_fine (too_deep begins_expr) (fine_deep begins_expr) deep_typed deep_types
  prim_fine_at (suc n) =
      prim_with_fine (expr_with (unary_at n) (expr_at n)) (expr_with_fine (expr_at n) (expr_fine n) (unary_at n) (unary_fine n))
      (λ kind line rest ts. typed_with (expr_at n) (prim_at n) kind line rest)
      (λ kind line t. rest_after_fine (typed_with (expr_at n) (prim_at n) kind line) (typed_fine (expr_at n) (prim_at n) (expr_fine n) (prim_fine_at n) (strings_at n) kind line))
