-- More levels change what is read only where too many are open.
use Rattle.std.proofs.Common.{◌≡◌, ℕ, zero, suc, ◌+◌, ◌≤◌, ◌∷◌, [], ◌⊎◌, inl, inr, List, Option, Some, None, Ok, Err, Bool, true, false, length, refl, sym, ap, subst, ◌∙◌, arith}
use Rattle.std.specs.Prelude.{option_map, if◌then◌else◌}
use Rattle.sl_ast.specs.Syntax as S
use Rattle.sl_ast.specs.declared.kinds.Operator.TheVariants as operators
use Rattle.sl_ast.specs.declared.kinds.Prefix.{Prefix}
use Rattle.sl_ast.specs.declared.kinds.Row.{Row}
use Rattle.sl_ast.specs.declared.kinds.Row.TheVariants as rows
use Rattle.sl_ast.specs.declared.kinds.SetOperator.{SetOperator}
use Rattle.sl_ast.specs.declared.kinds.SlKind.{SlKind}
use Rattle.sl_ast.specs.declared.kinds.SlType.{SlType}
use Rattle.sl_ast.specs.declared.kinds.Class.{Class}
use Rattle.sl_ast.specs.declared.syntax.Space.{Space}
use Rattle.sl_lexer.specs.declared.token.Token.{Token}
use Rattle.sl_lexer.specs.declared.token.TokenKind.{TokenKind}
use Rattle.sl_lexer.specs.declared.token.TokenKind.TheVariants as kinds
use Rattle.sl_lexer.specs.declared.token.Mark.{Mark}
use Rattle.sl_lexer.specs.declared.token.Mark.TheVariants.{LeftParen, RightParen, LeftBrace, RightBrace, Semicolon, Comma, Question, Colon}
use Rattle.sl_lexer.specs.declared.token.Word.{Word}
use Rattle.sl_lexer.specs.declared.token.Word.TheVariants as words
use Rattle.sl_expression_grammar.specs.declared.fault.SlCode.TheVariants.{P3}
use Rattle.sl_expression_grammar.specs.Reading.{Reads, ◌>>=◌, with_front, many_then, many, after_comma, commas, go_on, past, rest_after, line_and_rest, is_mark, is_bad, code_for, head_is, unexpected, too_deep}
use Rattle.sl_expression_grammar.specs.Expressions.{link, next_link, operator_at, most_links, chain_of, links_in, chain, chains, choice_then, expr_with, args_with, args_in, name_then, paren_with, space_at, triple_then, value_then, typed_with, prim_in, prim_with, prefix_at, unary_then, unary_with, deep_typed, deep_operand, begins_expr, expr_at, unary_at, prim_at}
use Rattle.sl_expression_grammar.specs.Rows.{typed_at, operand_at}
use Rattle.sl_expression_grammar.proofs.Levels.{prim_is, unary_is}
use Rattle.sl_parser.specs.declared.declarations.Valued.{Valued}
use Rattle.sl_parser.specs.declared.declarations.Valued.TheVariants.{Always, Never, Freely}
use Rattle.sl_parser.specs.Statements as T
use Rattle.sl_parser.specs.Files as F

-- the same, but where a level is missing in the first
abbrev pub Kept : {A : Type 0} → Reads A → Reads A → Type 0
Kept r s = (r ≡ s) ⊎ ((rest : List Token) × (r ≡ Err (P3, rest)))

same_bind : {A B : Type 0} (r : Reads A) (f g : A × List Token → Reads B) → ((x : A × List Token) → Kept (f x) (g x)) → Kept (r >>= f) (r >>= g)
same_bind (Ok x) f g h = h x
same_bind (Err e) f g h = inl refl

kept_bind : {A B : Type 0} (r s : Reads A) (f g : A × List Token → Reads B) → Kept r s → ((x : A × List Token) → Kept (f x) (g x)) → Kept (r >>= f) (s >>= g)
kept_bind r s f g (inl e) h = subst (λ s. Kept (r >>= f) (s >>= g)) e (same_bind r f g h)
kept_bind r s f g (inr e) h = inr (e.0, ap (λ r. r >>= f) e.1)

kept_go : {A : Type 0} (ts : List Token) (f g : List Token → Reads A) → ((ts : List Token) → Kept (f ts) (g ts)) → (o : Option (List Token)) → Kept (go_on ts f o) (go_on ts g o)
kept_go ts f g h None = inl refl
kept_go ts f g h (Some rest) = h rest

kept_past : {A : Type 0} (mark : Mark) (ts : List Token) (f g : List Token → Reads A) → ((ts : List Token) → Kept (f ts) (g ts)) → Kept (past mark ts f) (past mark ts g)
kept_past mark ts f g h = kept_go ts f g h (rest_after (is_mark mark) ts)

kept_front : {A : Type 0} (xs : List A) (r s : Reads (List A)) → Kept r s → Kept (with_front xs r) (with_front xs s)
kept_front xs r s (inl e) = inl (ap (with_front xs) e)
kept_front xs r s (inr e) = inr (e.0, ap (with_front xs) e.1)

abbrev KeptMaybe : {A : Type 0} → Option (Reads A) → Option (Reads A) → Type 0
KeptMaybe None None = Unit {0}
KeptMaybe (Some r) (Some s) = Kept r s
KeptMaybe None (Some s) = ⊥
KeptMaybe (Some r) None = ⊥

kept_map : {X A : Type 0} (f g : X → Reads A) → ((x : X) → Kept (f x) (g x)) → (o : Option X) → KeptMaybe (option_map f o) (option_map g o)
kept_map f g h None = tt
kept_map f g h (Some x) = h x

kept_then : {A : Type 0} (f g : List Token → Reads (List A)) → ((ts : List Token) → Kept (f ts) (g ts)) → (ts : List Token) (o p : Option (Reads A)) → KeptMaybe o p → Kept (many_then f ts o) (many_then g ts p)
kept_then f g h ts None None k = inl refl
kept_then f g h ts None (Some s) k = absurd k
kept_then f g h ts (Some r) None k = absurd k
kept_then f g h ts (Some r) (Some s) k =
    kept_bind r s (λ x. with_front (x.0 ∷ []) (f x.1)) (λ x. with_front (x.0 ∷ []) (g x.1)) k (λ x. kept_front (x.0 ∷ []) (f x.1) (g x.1) (h x.1))

kept_many : {A : Type 0} (f g : List Token → Option (Reads A)) → ((ts : List Token) → KeptMaybe (f ts) (g ts)) → (k : ℕ) (ts : List Token) → Kept (many f k ts) (many g k ts)
kept_many f g h zero ts = inl refl
kept_many f g h (suc k) ts = kept_then (many f k) (many g k) (kept_many f g h k) ts (f ts) (g ts) (h ts)

kept_commas : {A : Type 0} (f g : List Token → Reads A) → ((ts : List Token) → Kept (f ts) (g ts)) → (ts : List Token) → Kept (commas f ts) (commas g ts)
kept_commas f g h ts =
    kept_bind (f ts) (g ts) (λ x. with_front (x.0 ∷ []) (many (after_comma f) (length x.1) x.1)) (λ x. with_front (x.0 ∷ []) (many (after_comma g) (length x.1) x.1)) (h ts) (λ x.
    kept_front (x.0 ∷ []) (many (after_comma f) (length x.1) x.1) (many (after_comma g) (length x.1) x.1)
    (kept_many (after_comma f) (after_comma g) (λ ts. kept_map f g h (rest_after (is_mark Comma) ts)) (length x.1) x.1))

abbrev pub Keeps : {A : Type 0} → (List Token → Reads A) → (List Token → Reads A) → Type 0
Keeps f g = (ts : List Token) → Kept (f ts) (g ts)

kept_chain : (row : Row) (f g : List Token → Reads S.Expr) → Keeps f g → Keeps (chain row f) (chain row g)
kept_chain row f g h ts =
    kept_bind (f ts) (g ts) (λ first. links_in row f first.1 >>= λ links. Ok (chain_of row first.0 links.0, links.1)) (λ first. links_in row g first.1 >>= λ links. Ok (chain_of row first.0 links.0, links.1)) (h ts) (λ x.
    kept_bind (links_in row f x.1) (links_in row g x.1) (λ links. Ok (chain_of row x.0 links.0, links.1)) (λ links. Ok (chain_of row x.0 links.0, links.1))
    (kept_many (next_link row f) (next_link row g) (λ ts. kept_map (link f) (link g) (λ o. kept_bind (f o.2) (g o.2) _ _ (h o.2) (λ e. inl refl)) (operator_at row ts)) (most_links row (length x.1)) x.1)
    (λ links. inl refl))

kept_chains : (f g : List Token → Reads S.Expr) → Keeps f g → Keeps (chains f) (chains g)
kept_chains f g h =
    kept_chain rows.Or _ _ (kept_chain rows.And _ _ (kept_chain rows.Equality _ _ (kept_chain rows.Relation _ _ (kept_chain rows.Sum _ _ (kept_chain rows.Cross _ _ (kept_chain rows.Product _ _ (kept_chain rows.Dot f g h)))))))

module _ (f g : List Token → Reads S.Expr) (h : Keeps f g) where
  kept_choice : (test : S.Expr) (ts : List Token) (o : Option (ℕ × List Token)) → Kept (choice_then f test ts o) (choice_then g test ts o)
  kept_choice test ts None = inl refl
  kept_choice test ts (Some q) =
      kept_bind (f q.1) (g q.1) _ _ (h q.1) (λ first. kept_past Colon first.1 _ _ (λ rest. kept_bind (f rest) (g rest) _ _ (h rest) (λ second. inl refl)))

  kept_expr : (u v : List Token → Reads S.Expr) → Keeps u v → Keeps (expr_with u f) (expr_with v g)
  kept_expr u v k ts =
      kept_bind (chains u ts) (chains v ts) (λ test. choice_then f test.0 test.1 (line_and_rest Question test.1)) (λ test. choice_then g test.0 test.1 (line_and_rest Question test.1)) (kept_chains u v k ts)
      (λ test. kept_choice test.0 test.1 (line_and_rest Question test.1))

  kept_args : (ts : List Token) (o : Option (List Token)) → Kept (args_with f ts o) (args_with g ts o)
  kept_args ts (Some rest) = inl refl
  kept_args ts None = kept_bind (commas f ts) (commas g ts) _ _ (kept_commas f g h ts) (λ args. kept_past RightParen args.1 _ _ (λ rest. inl refl))

  kept_name : (name : List ℕ) (line : ℕ) (ts : List Token) (o : Option (List Token)) → Kept (name_then f name line ts o) (name_then g name line ts o)
  kept_name name line ts None = inl refl
  kept_name name line ts (Some inside) =
      kept_bind (args_in f inside) (args_in g inside) (λ args. Ok (S.call name (S.exprs args.0) line, args.1)) (λ args. Ok (S.call name (S.exprs args.0) line, args.1)) (kept_args inside (rest_after (is_mark RightParen) inside)) (λ args. inl refl)

  kept_paren : (line : ℕ) → Keeps (paren_with f line) (paren_with g line)
  kept_paren line ts = kept_bind (f ts) (g ts) _ _ (h ts) (λ e. kept_past RightParen e.1 _ _ (λ rest. inl refl))

  module _ (kind : SlType) (space : Option Space) (line : ℕ) where
    kept_triple : (inner : ℕ) (x : S.Expr) (ts : List Token) (o : Option (List Token)) → Kept (triple_then f kind space line inner x ts o) (triple_then g kind space line inner x ts o)
    kept_triple inner x ts None = kept_past RightParen ts _ _ (λ rest. inl refl)
    kept_triple inner x ts (Some rest) =
        kept_bind (f rest) (g rest) _ _ (h rest) (λ y. kept_past Comma y.1 _ _ (λ third. kept_bind (f third) (g third) _ _ (h third) (λ z. kept_past RightParen z.1 _ _ (λ rest. inl refl))))

    kept_value : (p q : List Token → Reads S.Expr) → Keeps p q → (ts : List Token) (o : Option (ℕ × List Token)) → Kept (value_then f p kind space line ts o) (value_then g q kind space line ts o)
    kept_value p q k ts None = kept_bind (p ts) (q ts) _ _ (k ts) (λ e. inl refl)
    kept_value p q k ts (Some i) =
        kept_bind (f i.1) (g i.1) (λ x. triple_then f kind space line i.0 x.0 x.1 (rest_after (is_mark Comma) x.1)) (λ x. triple_then g kind space line i.0 x.0 x.1 (rest_after (is_mark Comma) x.1)) (h i.1)
        (λ x. kept_triple i.0 x.0 x.1 (rest_after (is_mark Comma) x.1))

  kept_typed : (p q : List Token → Reads S.Expr) → Keeps p q → (kind : SlType) (line : ℕ) → Keeps (typed_with f p kind line) (typed_with g q kind line)
  kept_typed p q k kind line ts = let s = space_at ts in kept_value kind s.0 line p q k s.1 (line_and_rest LeftParen s.1)

  module _ (typed other : SlType → ℕ → List Token → List Token → Reads S.Expr) (k : (kind : SlType) (line : ℕ) (rest ts : List Token) → Kept (typed kind line rest ts) (other kind line rest ts)) where
    kept_in : (kind : TokenKind) (line : ℕ) (rest ts : List Token) → Kept (prim_in f typed kind line rest ts) (prim_in g other kind line rest ts)
    kept_in (kinds.Name name) line rest ts = kept_name name line rest (rest_after (is_mark LeftParen) rest)
    kept_in (kinds.Mark LeftParen) line rest ts = kept_paren line rest
    kept_in (kinds.Type kind) line rest ts = k kind line rest ts
    kept_in _ line rest ts = inl refl

    kept_prim : Keeps (prim_with f typed) (prim_with g other)
    kept_prim [] = inl refl
    kept_prim (t ∷ ts) = kept_in t.kind t.line ts (t ∷ ts)

module _ (p q : List Token → Reads S.Expr) (h : Keeps p q) (f g : List Token → List Token → Reads S.Expr) (k : (rest ts : List Token) → Kept (f rest ts) (g rest ts)) where
  kept_prefix : (ts : List Token) (o : Option (Prefix × ℕ × List Token)) → Kept (unary_then p f ts o) (unary_then q g ts o)
  kept_prefix ts None = h ts
  kept_prefix ts (Some x) = kept_bind (f x.2 ts) (g x.2 ts) _ _ (k x.2 ts) (λ e. inl refl)

  kept_unary : Keeps (unary_with p f) (unary_with q g)
  kept_unary ts = kept_prefix ts (prefix_at ts)

-- what no expression begins with
no_expr : (levels : ℕ) (k : TokenKind) (line : ℕ) (ts : List Token) → begins_expr k ≡ false
    → expr_at levels (record { kind = k; line = line } ∷ ts) ≡ Err (code_for (is_bad k), record { kind = k; line = line } ∷ ts)
no_expr levels (kinds.Number x) line ts h = absurd (cc h)
no_expr levels (kinds.Str x) line ts h = absurd (cc h)
no_expr levels (kinds.Name x) line ts h = absurd (cc h)
no_expr levels (kinds.Type x) line ts h = absurd (cc h)
no_expr levels (kinds.Mark LeftParen) line ts h = absurd (cc h)
no_expr levels (kinds.Operator operators.Subtract) line ts h = absurd (cc h)
no_expr levels kinds.Not line ts h = absurd (cc h)
no_expr zero _ line ts h = refl
no_expr (suc zero) _ line ts h = refl
no_expr (suc (suc levels)) _ line ts h = refl

no_text : (levels : ℕ) → ◌≡◌ {A = Reads S.Expr} (expr_at levels []) (unexpected [])
no_text zero = refl
no_text (suc zero) = refl
no_text (suc (suc levels)) = refl

deep_by : (b : Bool) (levels : ℕ) (t : Token) (ts : List Token) → begins_expr t.kind ≡ b → Kept (too_deep begins_expr (t ∷ ts)) (expr_at levels (t ∷ ts))
deep_by true levels t ts e = inr (t ∷ ts, ap (λ b. if b then Err (P3, t ∷ ts) else unexpected (t ∷ ts)) e)
deep_by false levels t ts e = inl (ap (λ b. if b then Err (P3, t ∷ ts) else unexpected (t ∷ ts)) e ∙ sym (no_expr levels t.kind t.line ts e))

kept_deep : (levels : ℕ) → Keeps (too_deep begins_expr) (expr_at levels)
kept_deep levels [] = inl (sym (no_text levels))
kept_deep levels (t ∷ ts) = deep_by (begins_expr t.kind) levels t ts refl

prim_deep : (m : ℕ) → Keeps (prim_at zero) (prim_at m)
prim_deep m ts =
    subst (λ p. Kept (prim_at zero ts) (p ts)) (sym (prim_is m))
    (kept_prim (too_deep begins_expr) (expr_at m) (kept_deep m) deep_typed (typed_at m) (λ kind line rest ts. inr (ts, refl)) ts)

mutual
  expr_kept : (n m : ℕ) → n ≤ m → Keeps (expr_at n) (expr_at m)
  expr_kept zero m l ts = kept_deep m ts
  expr_kept (suc n) zero l ts = absurd (omega (arith, l))
  expr_kept (suc n) (suc m) l ts = kept_expr (expr_at n) (expr_at m) (expr_kept n m (omega (arith, l))) (unary_at n) (unary_at m) (unary_kept n m (omega (arith, l))) ts

  unary_kept : (n m : ℕ) → n ≤ m → Keeps (unary_at n) (unary_at m)
  unary_kept zero m l ts =
      subst (λ u. Kept (unary_at zero ts) (u ts)) (sym (unary_is m))
      (kept_unary (prim_at zero) (prim_at m) (prim_deep m) deep_operand (operand_at m) (λ rest ts. inr (ts, refl)) ts)
  unary_kept (suc n) zero l ts = absurd (omega (arith, l))
  unary_kept (suc n) (suc m) l ts =
      kept_unary (prim_at (suc n)) (prim_at (suc m))
      (λ ts.
      kept_prim (expr_with (unary_at n) (expr_at n)) (expr_with (unary_at m) (expr_at m))
      (λ ts. kept_expr (expr_at n) (expr_at m) (expr_kept n m (omega (arith, l))) (unary_at n) (unary_at m) (unary_kept n m (omega (arith, l))) ts)
      (λ kind line rest ts. typed_with (expr_at n) (prim_at n) kind line rest) (λ kind line rest ts. typed_with (expr_at m) (prim_at m) kind line rest)
      (λ kind line rest ts. kept_typed (expr_at n) (expr_at m) (expr_kept n m (omega (arith, l))) (prim_at n) (prim_at m) (prim_kept n m (omega (arith, l))) kind line rest) ts)
      (λ rest ts. unary_at n rest) (λ rest ts. unary_at m rest) (λ rest ts. unary_kept n m (omega (arith, l)) rest) ts

  prim_kept : (n m : ℕ) → n ≤ m → Keeps (prim_at n) (prim_at m)
  prim_kept zero m l ts = prim_deep m ts
  prim_kept (suc n) zero l ts = absurd (omega (arith, l))
  prim_kept (suc n) (suc m) l ts =
      kept_prim (expr_with (unary_at n) (expr_at n)) (expr_with (unary_at m) (expr_at m))
      (λ ts. kept_expr (expr_at n) (expr_at m) (expr_kept n m (omega (arith, l))) (unary_at n) (unary_at m) (unary_kept n m (omega (arith, l))) ts)
      (λ kind line rest ts. typed_with (expr_at n) (prim_at n) kind line rest) (λ kind line rest ts. typed_with (expr_at m) (prim_at m) kind line rest)
      (λ kind line rest ts. kept_typed (expr_at n) (expr_at m) (expr_kept n m (omega (arith, l))) (prim_at n) (prim_at m) (prim_kept n m (omega (arith, l))) kind line rest) ts

-- statements
module _ (f g : List Token → Reads S.Expr) (h : Keeps f g) where
  kept_set_then : (name : List ℕ) (line set_line : ℕ) (ts : List Token) (o : Option (SetOperator × List Token)) → Kept (T.set_then f name line set_line ts o) (T.set_then g name line set_line ts o)
  kept_set_then name line set_line ts None = inl refl
  kept_set_then name line set_line ts (Some o) = kept_bind (f o.1) (g o.1) _ _ (h o.1) (λ e. inl refl)

  kept_named : {A : Type 0} (a b : List ℕ → ℕ → List Token → Reads A) → ((name : List ℕ) (line : ℕ) (ts : List Token) → Kept (a name line ts) (b name line ts)) → (ts : List Token)
      (o : Option (List ℕ × ℕ × List Token)) → Kept (T.named_then ts a o) (T.named_then ts b o)
  kept_named a b k ts None = inl refl
  kept_named a b k ts (Some n) = k n.0 n.1 n.2

  kept_set : Keeps (T.set_with f) (T.set_with g)
  kept_set ts =
      kept_named (λ name line rest. T.set_then f name line (T.front_line rest) rest (T.set_at rest)) (λ name line rest. T.set_then g name line (T.front_line rest) rest (T.set_at rest)) (λ name line rest. kept_set_then name line (T.front_line rest) rest (T.set_at rest)) ts (T.name_at ts)

  kept_given : (valued : Valued) (ts : List Token) (o : Option (List Token)) → Kept (T.value_then f valued ts o) (T.value_then g valued ts o)
  kept_given Always ts None = inl refl
  kept_given Always ts (Some rest) = kept_bind (f rest) (g rest) _ _ (h rest) (λ e. inl refl)
  kept_given Freely ts None = inl refl
  kept_given Freely ts (Some rest) = kept_bind (f rest) (g rest) _ _ (h rest) (λ e. inl refl)
  kept_given Never ts None = inl refl
  kept_given Never ts (Some rest) = inl refl

  kept_declared : (valued : Valued) → Keeps (T.declared_with f valued) (T.declared_with g valued)
  kept_declared valued ts =
      kept_named (λ name line rest. T.value_with f valued rest >>= λ value. Ok (record { name = name; value = value.0; line = line; set_line = T.front_line rest }, value.1))
      (λ name line rest. T.value_with g valued rest >>= λ value. Ok (record { name = name; value = value.0; line = line; set_line = T.front_line rest }, value.1))
      (λ name line rest. kept_bind (T.value_with f valued rest) (T.value_with g valued rest) _ _ (kept_given valued rest (rest_after T.is_equals rest)) (λ value. inl refl)) ts (T.name_at ts)

  kept_group_then : (valued : Valued) (class : Option Class) (ts : List Token) (o : Option (SlType × List Token)) → Kept (T.group_then f valued class ts o) (T.group_then g valued class ts o)
  kept_group_then valued class ts None = inl refl
  kept_group_then valued class ts (Some k) =
      kept_bind (commas (T.declared_with f valued) k.1) (commas (T.declared_with g valued) k.1) _ _ (kept_commas (T.declared_with f valued) (T.declared_with g valued) (kept_declared valued) k.1) (λ names. inl refl)

  kept_group : (valued : Valued) → Keeps (T.group_with f valued) (T.group_with g valued)
  kept_group valued ts = let c = T.class_at ts in kept_group_then valued c.0 c.1 (T.type_at c.1)

  kept_test : Keeps (T.test_with f) (T.test_with g)
  kept_test ts = kept_past LeftParen ts _ _ (λ inside. kept_bind (f inside) (g inside) _ _ (h inside) (λ e. kept_past RightParen e.1 _ _ (λ rest. inl refl)))

  kept_or : (ts : List Token) (b : Bool) → Kept (T.set_or f ts b) (T.set_or g ts b)
  kept_or ts true = kept_bind (T.set_with f ts) (T.set_with g ts) (λ set. Ok (Some set.0, set.1)) (λ set. Ok (Some set.0, set.1)) (kept_set ts) (λ set. inl refl)
  kept_or ts false = inl refl

  kept_maybe : Keeps (T.set_maybe f) (T.set_maybe g)
  kept_maybe ts = kept_or ts (head_is T.is_name ts)

  kept_for : Keeps (T.for_head f) (T.for_head g)
  kept_for ts =
      kept_past LeftParen ts _ _ (λ inside. kept_bind (T.set_maybe f inside) (T.set_maybe g inside) _ _ (kept_maybe inside) (λ first.
      kept_past Semicolon first.1 _ _ (λ second. kept_bind (f second) (g second) _ _ (h second) (λ test.
      kept_past Semicolon test.1 _ _ (λ third. kept_bind (T.set_maybe f third) (T.set_maybe g third) _ _ (kept_maybe third) (λ step.
      kept_past RightParen step.1 _ _ (λ rest. inl refl)))))))

  kept_pair : Keeps (T.pair_with f) (T.pair_with g)
  kept_pair ts =
      kept_bind (f ts) (g ts) _ _ (h ts) (λ a. kept_past Comma a.1 _ _ (λ second. kept_bind (f second) (g second) _ _ (h second) (λ b. kept_past RightParen b.1 _ _ (λ rest. inl refl))))

  kept_cone : (ts : List Token) (o : Option (List Token)) → Kept (T.cone_then f ts o) (T.cone_then g ts o)
  kept_cone ts None = inl refl
  kept_cone ts (Some inside) = kept_bind (T.pair_with f inside) (T.pair_with g inside) (λ cone. Ok (Some cone.0, cone.1)) (λ cone. Ok (Some cone.0, cone.1)) (kept_pair inside) (λ cone. inl refl)

  kept_place : Keeps (T.lights_head f) (T.lights_head g)
  kept_place ts =
      kept_past LeftParen ts _ _ (λ inside. kept_bind (f inside) (g inside) _ _ (h inside) (λ place.
      kept_bind (T.cone_in f place.1) (T.cone_in g place.1) (λ cone. Ok ((place.0, cone.0), cone.1)) (λ cone. Ok ((place.0, cone.0), cone.1)) (kept_cone place.1 (rest_after (is_mark Comma) place.1)) (λ cone. inl refl)))

  kept_sun : Keeps (T.solar_head f) (T.solar_head g)
  kept_sun ts = kept_past LeftParen ts (λ inside. T.pair_with f inside) (λ inside. T.pair_with g inside) kept_pair

  module _ (s r : List Token → Reads S.Stmt) (k : Keeps s r) where
    kept_unless : (ts : List Token) (o : Option (List Token)) → KeptMaybe (T.stmt_unless s ts o) (T.stmt_unless r ts o)
    kept_unless ts None = k ts
    kept_unless ts (Some rest) = tt

    kept_block : Keeps (T.block_in s) (T.block_in r)
    kept_block ts =
        kept_bind (many (T.next_stmt s) (length ts + 1) ts) (many (T.next_stmt r) (length ts + 1) ts) _ _
        (kept_many (T.next_stmt s) (T.next_stmt r) (λ ts. kept_unless ts (rest_after (is_mark RightBrace) ts)) (length ts + 1) ts) (λ body. kept_past RightBrace body.1 _ _ (λ rest. inl refl))

    kept_else : (test : S.Expr) (first : S.Stmt) (line : ℕ) (ts : List Token) (o : Option (List Token)) → Kept (T.else_then s test first line ts o) (T.else_then r test first line ts o)
    kept_else test first line ts None = inl refl
    kept_else test first line ts (Some rest) = kept_bind (s rest) (r rest) _ _ (k rest) (λ second. inl refl)

    kept_if : (line : ℕ) → Keeps (T.if_with s f line) (T.if_with r g line)
    kept_if line ts =
        kept_bind (T.test_with f ts) (T.test_with g ts) _ _ (kept_test ts) (λ test.
        kept_bind (s test.1) (r test.1) (λ first. T.else_then s test.0 first.0 line first.1 (rest_after T.is_else first.1)) (λ first. T.else_then r test.0 first.0 line first.1 (rest_after T.is_else first.1)) (k test.1)
        (λ first. kept_else test.0 first.0 line first.1 (rest_after T.is_else first.1)))

    kept_word : (word : Word) (line : ℕ) (rest ts : List Token) → Kept (T.word_with s f word line rest ts) (T.word_with r g word line rest ts)
    kept_word words.Break line rest ts = inl refl
    kept_word words.Continue line rest ts = inl refl
    kept_word words.Return line rest ts = kept_bind (f rest) (g rest) _ _ (h rest) (λ e. kept_past Semicolon e.1 _ _ (λ left. inl refl))
    kept_word words.If line rest ts = kept_if line rest
    kept_word words.Else line rest ts = inl refl
    kept_word words.While line rest ts = kept_bind (T.test_with f rest) (T.test_with g rest) _ _ (kept_test rest) (λ test. kept_bind (s test.1) (r test.1) _ _ (k test.1) (λ body. inl refl))
    kept_word words.For line rest ts = kept_bind (T.for_head f rest) (T.for_head g rest) _ _ (kept_for rest) (λ head. kept_bind (s head.1) (r head.1) _ _ (k head.1) (λ body. inl refl))
    kept_word words.Illuminance line rest ts = kept_bind (T.lights_head f rest) (T.lights_head g rest) _ _ (kept_place rest) (λ head. kept_bind (s head.1) (r head.1) _ _ (k head.1) (λ body. inl refl))
    kept_word words.Illuminate line rest ts = kept_bind (T.lights_head f rest) (T.lights_head g rest) _ _ (kept_place rest) (λ head. kept_bind (s head.1) (r head.1) _ _ (k head.1) (λ body. inl refl))
    kept_word words.Solar line rest ts = kept_bind (T.solar_head f rest) (T.solar_head g rest) _ _ (kept_sun rest) (λ head. kept_bind (s head.1) (r head.1) _ _ (k head.1) (λ body. inl refl))

    kept_declare : (line : ℕ) → Keeps (T.declare_with f line) (T.declare_with g line)
    kept_declare line ts = kept_bind (T.group_with f Freely ts) (T.group_with g Freely ts) _ _ (kept_group Freely ts) (λ g. kept_past Semicolon g.1 _ _ (λ rest. inl refl))

    kept_stmt_in : (kind : TokenKind) (line : ℕ) (rest ts : List Token) → Kept (T.stmt_in s f kind line rest ts) (T.stmt_in r g kind line rest ts)
    kept_stmt_in (kinds.Mark LeftBrace) line rest ts = kept_bind (T.block_in s rest) (T.block_in r rest) _ _ (kept_block rest) (λ body. inl refl)
    kept_stmt_in (kinds.Name name) line rest ts = kept_bind (T.set_with f ts) (T.set_with g ts) _ _ (kept_set ts) (λ set. kept_past Semicolon set.1 _ _ (λ rest. inl refl))
    kept_stmt_in (kinds.Class class) line rest ts = kept_declare line ts
    kept_stmt_in (kinds.Type kind) line rest ts = kept_declare line ts
    kept_stmt_in (kinds.Word word) line rest ts = kept_word word line rest ts
    kept_stmt_in _ line rest ts = inl refl

    kept_opened : Keeps (T.stmt_opened s f) (T.stmt_opened r g)
    kept_opened [] = inl refl
    kept_opened (t ∷ ts) = kept_stmt_in t.kind t.line ts (t ∷ ts)

no_stmt : (levels : ℕ) (k : TokenKind) (line : ℕ) (ts : List Token) → T.begins_stmt k ≡ false
    → T.stmt_at levels (record { kind = k; line = line } ∷ ts) ≡ Err (code_for (is_bad k), record { kind = k; line = line } ∷ ts)
no_stmt levels (kinds.Mark Semicolon) line ts h = absurd (cc h)
no_stmt levels (kinds.Mark LeftBrace) line ts h = absurd (cc h)
no_stmt levels (kinds.Name x) line ts h = absurd (cc h)
no_stmt levels (kinds.Class x) line ts h = absurd (cc h)
no_stmt levels (kinds.Type x) line ts h = absurd (cc h)
no_stmt zero (kinds.Word words.Else) line ts h = refl
no_stmt (suc levels) (kinds.Word words.Else) line ts h = refl
no_stmt levels (kinds.Word words.Break) line ts h = absurd (cc h)
no_stmt levels (kinds.Word words.Continue) line ts h = absurd (cc h)
no_stmt levels (kinds.Word words.Return) line ts h = absurd (cc h)
no_stmt levels (kinds.Word words.If) line ts h = absurd (cc h)
no_stmt levels (kinds.Word words.While) line ts h = absurd (cc h)
no_stmt levels (kinds.Word words.For) line ts h = absurd (cc h)
no_stmt levels (kinds.Word words.Illuminance) line ts h = absurd (cc h)
no_stmt levels (kinds.Word words.Illuminate) line ts h = absurd (cc h)
no_stmt levels (kinds.Word words.Solar) line ts h = absurd (cc h)
no_stmt zero _ line ts h = refl
no_stmt (suc levels) _ line ts h = refl

no_stmts : (levels : ℕ) → ◌≡◌ {A = Reads S.Stmt} (T.stmt_at levels []) (unexpected [])
no_stmts zero = refl
no_stmts (suc levels) = refl

deep_stmt_by : (b : Bool) (levels : ℕ) (t : Token) (ts : List Token) → T.begins_stmt t.kind ≡ b → Kept (too_deep T.begins_stmt (t ∷ ts)) (T.stmt_at levels (t ∷ ts))
deep_stmt_by true levels t ts e = inr (t ∷ ts, ap (λ b. if b then Err (P3, t ∷ ts) else unexpected (t ∷ ts)) e)
deep_stmt_by false levels t ts e = inl (ap (λ b. if b then Err (P3, t ∷ ts) else unexpected (t ∷ ts)) e ∙ sym (no_stmt levels t.kind t.line ts e))

stmt_kept : (n m : ℕ) → n ≤ m → Keeps (T.stmt_at n) (T.stmt_at m)
stmt_kept zero m l [] = inl (sym (no_stmts m))
stmt_kept zero m l (t ∷ ts) = deep_stmt_by (T.begins_stmt t.kind) m t ts refl
stmt_kept (suc n) zero l ts = absurd (omega (arith, l))
stmt_kept (suc n) (suc m) l ts =
    kept_opened (expr_at n) (expr_at m) (expr_kept n m (omega (arith, l))) (T.stmt_at n) (T.stmt_at m) (stmt_kept n m (omega (arith, l))) ts

-- files
module _ (n m : ℕ) (l : n ≤ m) where
  module _ (valued : Valued) where
    abbrev few : List Token → Reads S.Group
    few = T.group_with (expr_at n) valued

    abbrev many_levels : List Token → Reads S.Group
    many_levels = T.group_with (expr_at m) valued

    group_keeps : Keeps few many_levels
    group_keeps = kept_group (expr_at n) (expr_at m) (expr_kept n m l) valued

    some_kept : Keeps (F.some_groups few) (F.some_groups many_levels)
    some_kept ts =
        kept_bind (few ts) (many_levels ts) _ _ (group_keeps ts) (λ g.
        kept_front (g.0 ∷ []) (many (F.next_group few) (length g.1) g.1) (many (F.next_group many_levels) (length g.1) g.1)
        (kept_many (F.next_group few) (F.next_group many_levels) (λ ts. kept_map few many_levels group_keeps (F.semicolon_at ts)) (length g.1) g.1))

    inside_kept : (ts : List Token) (o : Option (List Token)) → Kept (F.groups_in few ts o) (F.groups_in many_levels ts o)
    inside_kept ts None = kept_bind (F.some_groups few ts) (F.some_groups many_levels ts) _ _ (some_kept ts) (λ groups. inl refl)
    inside_kept ts (Some rest) = inl refl

    groups_kept : Keeps (F.groups_with n valued) (F.groups_with m valued)
    groups_kept ts =
        kept_past LeftParen ts (λ inside. F.groups_in few inside (rest_after (is_mark RightParen) inside)) (λ inside. F.groups_in many_levels inside (rest_after (is_mark RightParen) inside))
        (λ inside. inside_kept inside (rest_after (is_mark RightParen) inside))

  body_kept : Keeps (F.body_at n) (F.body_at m)
  body_kept ts =
      kept_past LeftBrace ts (λ inside. T.block_in (T.stmt_at n) inside) (λ inside. T.block_in (T.stmt_at m) inside)
      (kept_block (expr_at n) (expr_at m) (expr_kept n m l) (T.stmt_at n) (T.stmt_at m) (stmt_kept n m l))

  function_kept : (returns : SlType) → Keeps (F.function_with n returns) (F.function_with m returns)
  function_kept returns ts =
      kept_named (expr_at n) (expr_at m) (expr_kept n m l) _ _ (λ name line rest. kept_bind (F.groups_with n Never rest) (F.groups_with m Never rest) _ _ (groups_kept Never rest) (λ formals.
      kept_bind (F.body_at n formals.1) (F.body_at m formals.1) _ _ (body_kept formals.1) (λ body. inl refl))) ts (T.name_at ts)

  functions_kept : Keeps (F.functions_in n) (F.functions_in m)
  functions_kept ts =
      kept_many (F.next_function n) (F.next_function m)
      (λ ts. kept_map (λ k. F.function_with n k.0 k.1) (λ k. F.function_with m k.0 k.1) (λ k. function_kept k.0 k.1) (T.type_at ts)) (length ts) ts

  shader_kept : (fs : List S.Function) (ts : List Token) (o : Option (SlKind × ℕ × List Token)) → Kept (F.shader_then n fs ts o) (F.shader_then m fs ts o)
  shader_kept fs ts None = inl refl
  shader_kept fs ts (Some k) =
      kept_named (expr_at n) (expr_at m) (expr_kept n m l) _ _ (λ name line rest. kept_bind (F.groups_with n Always rest) (F.groups_with m Always rest) _ _ (groups_kept Always rest) (λ params.
      kept_bind (F.body_at n params.1) (F.body_at m params.1) _ _ (body_kept params.1) (λ body. inl refl))) k.2 (T.name_at k.2)

  pub file_kept : Keeps (F.file_of n) (F.file_of m)
  file_kept ts =
      kept_bind (F.functions_in n ts) (F.functions_in m ts) (λ fs. F.shader_then n fs.0 fs.1 (F.sort_at fs.1) >>= F.ended) (λ fs. F.shader_then m fs.0 fs.1 (F.sort_at fs.1) >>= F.ended) (functions_kept ts) (λ fs.
      kept_bind (F.shader_then n fs.0 fs.1 (F.sort_at fs.1)) (F.shader_then m fs.0 fs.1 (F.sort_at fs.1)) F.ended F.ended (shader_kept fs.0 fs.1 (F.sort_at fs.1)) (λ x. inl refl))
