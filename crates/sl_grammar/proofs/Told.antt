-- Where the fault of an expression stands, and which it is.
use Rattle.std.proofs.Common.{◌≡◌, ℕ, zero, suc, [], ◌∷◌, List, Option, Some, None, Ok, Err, Bool, true, false, length, refl, ap}
use Rattle.std.specs.Prelude.{◌||◌, option_map}
use Rattle.std.proofs.lemmas.Bool.{cond_both}
use Rattle.sl_ast.specs.Syntax as S
use Rattle.sl_ast.specs.declared.kinds.Operator.TheVariants as operators
use Rattle.sl_ast.specs.declared.kinds.Prefix.{Prefix}
use Rattle.sl_ast.specs.declared.kinds.Row.{Row}
use Rattle.sl_ast.specs.declared.kinds.Row.TheVariants as rows
use Rattle.sl_ast.specs.declared.kinds.SlType.{SlType}
use Rattle.sl_ast.specs.declared.syntax.Space.{Space}
use Rattle.sl_lexer.specs.declared.token.Token.{Token}
use Rattle.sl_lexer.specs.declared.token.TokenKind.{TokenKind}
use Rattle.sl_lexer.specs.declared.token.TokenKind.TheVariants as kinds
use Rattle.sl_lexer.specs.declared.token.Mark.{Mark}
use Rattle.sl_lexer.specs.declared.token.Mark.TheVariants.{LeftParen, RightParen, Comma, Question, Colon}
use Rattle.sl_expression_grammar.specs.declared.fault.SlCode.TheVariants.{P3}
use Rattle.sl_expression_grammar.specs.Reading.{Reads, ◌>>=◌, with_front, is_bad, code_for, head_is, unexpected, too_deep, many_then, many, rest_after, go_on, past, line_and_rest, is_mark, after_comma, commas}
use Rattle.sl_expression_grammar.specs.Expressions.{begins_expr, operator_at, link, next_link, most_links, links_in, chain, chains, choice_then, expr_with, args_with, args_in, name_then, paren_with, space_at, triple_then, inside_with, value_then, typed_with, prim_in, prim_with, prefix_in, unary_then, unary_with, deep_typed, deep_operand, expr_at, unary_at, prim_at}
use Rattle.sl_parser.specs.Statements.{begins_stmt}
use Rattle.sl_grammar.specs.Laws.{opens, StandsAt}

abbrev pub Told : {A : Type 0} → Reads A → Type 0
Told (Ok x) = Unit {0}
Told (Err e) = StandsAt e.0 e.1

abbrev pub ToldSome : {A : Type 0} → Option (Reads A) → Type 0
ToldSome None = Unit {0}
ToldSome (Some r) = Told r

code_told : (b : Bool) (ts : List Token) → head_is is_bad ts ≡ b → StandsAt (code_for b) ts
code_told true ts e = e
code_told false ts e = e

pub told_unexpected : (A : Type 0) (ts : List Token) → Told {A = A} (unexpected ts)
told_unexpected A ts = code_told (head_is is_bad ts) ts refl

pub told_deep : (A : Type 0) (begins : TokenKind → Bool) → ((k : TokenKind) → begins k ≡ true → opens k ≡ true) → (ts : List Token) → Told {A = A} (too_deep begins ts)
told_deep A begins fine [] = told_unexpected A []
told_deep A begins fine (t ∷ ts) =
    cond_both (begins t.kind) (Err (P3, t ∷ ts)) (unexpected (t ∷ ts)) (λ r. Told {A = A} r) (λ e. fine t.kind e) (λ e. told_unexpected A (t ∷ ts))

pub told_bind : {A B : Type 0} (r : Reads A) (f : A × List Token → Reads B) → Told r → ((x : A × List Token) → Told (f x)) → Told (r >>= f)
told_bind (Ok x) f h next = next x
told_bind (Err e) f h next = h

pub told_front : {A : Type 0} (front : List A) (r : Reads (List A)) → Told r → Told (with_front front r)
told_front front (Ok x) h = tt
told_front front (Err e) h = h

on_told : {A : Type 0} (ts : List Token) (go : List Token → Reads A) (o : Option (List Token)) → ((rest : List Token) → Told (go rest)) → Told (go_on ts go o)
on_told {A} ts go None next = told_unexpected A ts
on_told ts go (Some rest) next = next rest

pub told_past : {A : Type 0} (mark : Mark) (ts : List Token) (go : List Token → Reads A) → ((rest : List Token) → Told (go rest)) → Told (past mark ts go)
told_past mark ts go next = on_told ts go (rest_after (is_mark mark) ts) next

pub told_map : {A B : Type 0} (f : B → Reads A) (o : Option B) → ((x : B) → Told (f x)) → ToldSome (option_map f o)
told_map f None h = tt
told_map f (Some x) h = h x

then_told : {A : Type 0} (go : List Token → Reads (List A)) (ts : List Token) (o : Option (Reads A)) → ToldSome o → ((rest : List Token) → Told (go rest)) → Told (many_then go ts o)
then_told go ts None h next = tt
then_told go ts (Some r) h next = told_bind r (λ x. with_front (x.0 ∷ []) (go x.1)) h (λ x. told_front (x.0 ∷ []) (go x.1) (next x.1))

pub told_many : {A : Type 0} (step : List Token → Option (Reads A)) → ((ts : List Token) → ToldSome (step ts)) → (turns : ℕ) (ts : List Token) → Told (many step turns ts)
told_many step h zero ts = tt
told_many step h (suc turns) ts = then_told (many step turns) ts (step ts) (h ts) (λ rest. told_many step h turns rest)

pub told_commas : {A : Type 0} (item : List Token → Reads A) → ((ts : List Token) → Told (item ts)) → (ts : List Token) → Told (commas item ts)
told_commas item h ts =
    told_bind (item ts) (λ x. with_front (x.0 ∷ []) (many (after_comma item) (length x.1) x.1)) (h ts) (λ x.
    told_front (x.0 ∷ []) (many (after_comma item) (length x.1) x.1) (told_many (after_comma item) (λ us. told_map item (rest_after (is_mark Comma) us) h) (length x.1) x.1))

-- what opens a level
or_right : (a b : Bool) → b ≡ true → (a || b) ≡ true
or_right true b e = refl
or_right false b e = e

pub expr_opens : (k : TokenKind) → begins_expr k ≡ true → opens k ≡ true
expr_opens k e = or_right (begins_stmt k) (begins_expr k) e

pub stmt_opens : (k : TokenKind) → begins_stmt k ≡ true → opens k ≡ true
stmt_opens k e = ap (λ b. b || begins_expr k) e

prefix_opens : (k : TokenKind) (p : Prefix) → prefix_in k ≡ Some p → opens k ≡ true
prefix_opens (kinds.Operator operators.Subtract) p e = refl
prefix_opens kinds.Not p e = refl
prefix_opens _ p e = absurd (cc e)

-- chains of operators
module _ (row : Row) (operand : List Token → Reads S.Expr) (h : (ts : List Token) → Told (operand ts)) where
  next_told : (ts : List Token) → ToldSome (next_link row operand ts)
  next_told ts = told_map (link operand) (operator_at row ts) (λ o. told_bind (operand o.2) _ (h o.2) (λ e. tt))

  chain_told : (ts : List Token) → Told (chain row operand ts)
  chain_told ts =
      told_bind (operand ts) _ (h ts) (λ first.
      told_bind (links_in row operand first.1) _ (told_many (next_link row operand) next_told (most_links row (length first.1)) first.1) (λ links. tt))

chains_told : (unary : List Token → Reads S.Expr) → ((ts : List Token) → Told (unary ts)) → (ts : List Token) → Told (chains unary ts)
chains_told unary h =
    chain_told rows.Or _ (chain_told rows.And _ (chain_told rows.Equality _ (chain_told rows.Relation _ (chain_told rows.Sum _ (chain_told rows.Cross _ (chain_told rows.Product _ (chain_told rows.Dot unary h)))))))

module _ (expr : List Token → Reads S.Expr) (h : (ts : List Token) → Told (expr ts)) where
  choice_told : (test : S.Expr) (ts : List Token) (o : Option (ℕ × List Token)) → Told (choice_then expr test ts o)
  choice_told test ts None = tt
  choice_told test ts (Some q) =
      told_bind (expr q.1) _ (h q.1) (λ first. told_past Colon first.1 _ (λ rest. told_bind (expr rest) _ (h rest) (λ second. tt)))

  pub expr_with_told : (unary : List Token → Reads S.Expr) → ((ts : List Token) → Told (unary ts)) → (ts : List Token) → Told (expr_with unary expr ts)
  expr_with_told unary u ts = told_bind (chains unary ts) _ (chains_told unary u ts) (λ test. choice_told test.0 test.1 (line_and_rest Question test.1))

  args_told : (ts : List Token) (o : Option (List Token)) → Told (args_with expr ts o)
  args_told ts (Some rest) = tt
  args_told ts None = told_bind (commas expr ts) _ (told_commas expr h ts) (λ args. told_past RightParen args.1 _ (λ rest. tt))

  name_told : (name : List ℕ) (line : ℕ) (ts : List Token) (o : Option (List Token)) → Told (name_then expr name line ts o)
  name_told name line ts None = tt
  name_told name line ts (Some inside) = told_bind (args_in expr inside) _ (args_told inside (rest_after (is_mark RightParen) inside)) (λ args. tt)

  paren_told : (line : ℕ) (ts : List Token) → Told (paren_with expr line ts)
  paren_told line ts = told_bind (expr ts) _ (h ts) (λ e. told_past RightParen e.1 _ (λ rest. tt))

  triple_told : (kind : SlType) (space : Option Space) (line inner : ℕ) (x : S.Expr) (ts : List Token) (o : Option (List Token)) → Told (triple_then expr kind space line inner x ts o)
  triple_told kind space line inner x ts None = told_past RightParen ts _ (λ rest. tt)
  triple_told kind space line inner x ts (Some after_x) =
      told_bind (expr after_x) _ (h after_x) (λ y. told_past Comma y.1 _ (λ after_y. told_bind (expr after_y) _ (h after_y) (λ z. told_past RightParen z.1 _ (λ rest. tt))))

  inside_told : (kind : SlType) (space : Option Space) (line inner : ℕ) (ts : List Token) → Told (inside_with expr kind space line inner ts)
  inside_told kind space line inner ts = told_bind (expr ts) _ (h ts) (λ x. triple_told kind space line inner x.0 x.1 (rest_after (is_mark Comma) x.1))

  module _ (prim : List Token → Reads S.Expr) (p : (ts : List Token) → Told (prim ts)) where
    value_told : (kind : SlType) (space : Option Space) (line : ℕ) (ts : List Token) (o : Option (ℕ × List Token)) → Told (value_then expr prim kind space line ts o)
    value_told kind space line ts None = told_bind (prim ts) _ (p ts) (λ e. tt)
    value_told kind space line ts (Some q) = inside_told kind space line q.0 q.1

    pub typed_told : (kind : SlType) (line : ℕ) (ts : List Token) → Told (typed_with expr prim kind line ts)
    typed_told kind line ts = value_told kind (space_at ts).0 line (space_at ts).1 (line_and_rest LeftParen (space_at ts).1)

  module _ (typed : SlType → ℕ → List Token → List Token → Reads S.Expr) (q : (kind : SlType) (t : Token) (ts : List Token) → t.kind ≡ kinds.Type kind → Told (typed kind t.line ts (t ∷ ts))) where
    prim_told : (k : TokenKind) (t : Token) (ts : List Token) → t.kind ≡ k → Told (prim_in expr typed k t.line ts (t ∷ ts))
    prim_told (kinds.Number text) t ts e = tt
    prim_told (kinds.Str text) t ts e = tt
    prim_told (kinds.Name name) t ts e = name_told name t.line ts (rest_after (is_mark LeftParen) ts)
    prim_told (kinds.Mark LeftParen) t ts e = paren_told t.line ts
    prim_told (kinds.Type kind) t ts e = q kind t ts e
    prim_told _ t ts e = told_unexpected S.Expr (t ∷ ts)

    pub prim_with_told : (ts : List Token) → Told (prim_with expr typed ts)
    prim_with_told [] = told_unexpected S.Expr []
    prim_with_told (t ∷ ts) = prim_told t.kind t ts refl

module _ (prim : List Token → Reads S.Expr) (p : (ts : List Token) → Told (prim ts)) (operand : List Token → List Token → Reads S.Expr)
    (q : (o : Prefix) (t : Token) (ts : List Token) → prefix_in t.kind ≡ Some o → Told (operand ts (t ∷ ts))) where
  prefix_told : (t : Token) (ts : List Token) (o : Option Prefix) → prefix_in t.kind ≡ o → Told (unary_then prim operand (t ∷ ts) (option_map (λ x. (x, t.line, ts)) o))
  prefix_told t ts None e = p (t ∷ ts)
  prefix_told t ts (Some o) e = told_bind (operand ts (t ∷ ts)) _ (q o t ts e) (λ x. tt)

  unary_with_told : (ts : List Token) → Told (unary_with prim operand ts)
  unary_with_told [] = p []
  unary_with_told (t ∷ ts) = prefix_told t ts (prefix_in t.kind) refl

typed_deep : (kind : SlType) (t : Token) (ts : List Token) → t.kind ≡ kinds.Type kind → Told (deep_typed kind t.line ts (t ∷ ts))
typed_deep kind t ts e = ap opens e

operand_deep : (o : Prefix) (t : Token) (ts : List Token) → prefix_in t.kind ≡ Some o → Told (deep_operand ts (t ∷ ts))
operand_deep o t ts e = prefix_opens t.kind o e

mutual
  pub expr_told : (n : ℕ) (ts : List Token) → Told (expr_at n ts)
  expr_told zero ts = told_deep S.Expr begins_expr expr_opens ts
  expr_told (suc n) ts = expr_with_told (expr_at n) (expr_told n) (unary_at n) (unary_told n) ts

  pub unary_told : (n : ℕ) (ts : List Token) → Told (unary_at n ts)
  unary_told zero ts =
      unary_with_told (prim_with (too_deep begins_expr) deep_typed) (prim_with_told (too_deep begins_expr) (told_deep S.Expr begins_expr expr_opens) deep_typed typed_deep) deep_operand operand_deep ts
  unary_told (suc n) ts =
      unary_with_told (prim_with (expr_with (unary_at n) (expr_at n)) (λ kind line rest ts. typed_with (expr_at n) (prim_at n) kind line rest))
      (prim_with_told (expr_with (unary_at n) (expr_at n)) (expr_with_told (expr_at n) (expr_told n) (unary_at n) (unary_told n))
      (λ kind line rest ts. typed_with (expr_at n) (prim_at n) kind line rest) (λ kind t us e. typed_told (expr_at n) (expr_told n) (prim_at n) (prim_told_at n) kind t.line us))
      (λ rest ts. unary_at n rest) (λ o t us e. unary_told n us) ts

  pub prim_told_at : (n : ℕ) (ts : List Token) → Told (prim_at n ts)
  prim_told_at zero ts = prim_with_told (too_deep begins_expr) (told_deep S.Expr begins_expr expr_opens) deep_typed typed_deep ts
  prim_told_at (suc n) ts =
      prim_with_told (expr_with (unary_at n) (expr_at n)) (expr_with_told (expr_at n) (expr_told n) (unary_at n) (unary_told n))
      (λ kind line rest ts. typed_with (expr_at n) (prim_at n) kind line rest) (λ kind t us e. typed_told (expr_at n) (expr_told n) (prim_at n) (prim_told_at n) kind t.line us) ts
