-- The tree of an expression, where so many levels are left.
use Rattle.std.proofs.Common.{◌≡◌, ℕ, zero, suc, ◌+◌, ◌∷◌, [], List, Option, Some, None, Ok, refl, arith}
use Rattle.sl_ast.specs.Syntax as S
use Rattle.sl_ast.specs.Levels.{within}
use Rattle.sl_ast.specs.declared.kinds.Prefix.{Prefix}
use Rattle.sl_ast.specs.declared.kinds.SlType.{SlType}
use Rattle.sl_lexer.specs.declared.token.Token.{Token}
use Rattle.sl_lexer.specs.declared.token.TokenKind.{TokenKind}
use Rattle.sl_lexer.specs.declared.token.TokenKind.TheVariants as kinds
use Rattle.sl_lexer.specs.declared.token.Mark.TheVariants.{LeftParen, RightParen, LeftBrace, RightBrace, Semicolon, Comma, Question, Colon}
use Rattle.sl_expression_grammar.specs.Reading.{Reads, rest_after, line_and_rest, is_mark, too_deep}
use Rattle.sl_expression_grammar.specs.Expressions.{expr_with, space_at, typed_with, prim_in, prim_with, prefix_at, unary_then, unary_with, deep_typed, deep_operand, begins_expr, expr_at, unary_at, prim_at}
use Rattle.sl_parser.specs.Spelled.{spelled, spelled_space, spelled_prefix}
use Rattle.sl_parser.proofs.Fronts.{prefix_at_is, space_at_is}
use Rattle.sl_parser.proofs.Good.{Good, good_bind, good_deep, good_more, Takes, and_then}
use Rattle.sl_parser.proofs.ExprTexts.{Spells, IsPart, IsExpr, expr_ok, name_on, paren_ok, value_ok}

typed_ok : (n : ℕ) (expr prim : List Token → Reads S.Expr) → ((ts : List Token) → Good (expr ts) (IsExpr n ts)) → ((ts : List Token) → Good (prim ts) (IsPart n ts))
    → (kind : SlType) (line : ℕ) (rest ts : List Token) → Takes ts (kinds.Type kind ∷ []) rest → Good (typed_with expr prim kind line rest) (IsPart (suc n) ts)
typed_ok n expr prim ok prim_fine kind line rest ts t =
    let s = space_at rest in
    let space : Takes rest (spelled_space s.0) s.1 = record { text = space_at_is rest } in
    good_more (typed_with expr prim kind line rest) (IsPart (1 + n) ts) (IsPart (suc n) ts)
    (value_ok n expr prim ok prim_fine kind line ts s.0 s.1 (and_then t space) (line_and_rest LeftParen s.1) refl)
    (λ x after p. record { takes = p.takes; levels = omega (arith, p.levels) })

module _ (n : ℕ) (expr : List Token → Reads S.Expr) (ok : (ts : List Token) → Good (expr ts) (IsExpr n ts)) (typed : SlType → ℕ → List Token → List Token → Reads S.Expr)
    (typed_fine : (kind : SlType) (line : ℕ) (rest ts : List Token) → Takes ts (kinds.Type kind ∷ []) rest → Good (typed kind line rest ts) (IsPart n ts)) where
  prim_on : (k : TokenKind) (line : ℕ) (rest ts : List Token) → Takes ts (k ∷ []) rest → Good (prim_in expr typed k line rest ts) (IsPart n ts)
  prim_on (kinds.Number text) line rest ts t = record { takes = t; levels = omega arith }
  prim_on (kinds.Str text) line rest ts t = record { takes = t; levels = omega arith }
  prim_on (kinds.Name name) line rest ts t = name_on n expr ok ts rest name line t (rest_after (is_mark LeftParen) rest) refl
  prim_on (kinds.Mark LeftParen) line rest ts t = paren_ok n expr ok ts rest line t
  prim_on (kinds.Mark RightParen) line rest ts t = tt
  prim_on (kinds.Mark LeftBrace) line rest ts t = tt
  prim_on (kinds.Mark RightBrace) line rest ts t = tt
  prim_on (kinds.Mark Semicolon) line rest ts t = tt
  prim_on (kinds.Mark Comma) line rest ts t = tt
  prim_on (kinds.Mark Question) line rest ts t = tt
  prim_on (kinds.Mark Colon) line rest ts t = tt
  prim_on (kinds.Type kind) line rest ts t = typed_fine kind line rest ts t
  prim_on (kinds.Kind x) line rest ts t = tt
  prim_on (kinds.Class x) line rest ts t = tt
  prim_on (kinds.Word x) line rest ts t = tt
  prim_on (kinds.Operator x) line rest ts t = tt
  prim_on kinds.Not line rest ts t = tt
  prim_on (kinds.Set x) line rest ts t = tt
  prim_on kinds.Bad line rest ts t = tt

  prim_ok : (ts : List Token) → Good (prim_with expr typed ts) (IsPart n ts)
  prim_ok [] = tt
  prim_ok (t ∷ ts) = prim_on t.kind t.line ts (t ∷ ts) (record { text = refl })

module _ (n : ℕ) (prim : List Token → Reads S.Expr) (ok : (ts : List Token) → Good (prim ts) (IsPart n ts)) (operand : List Token → List Token → Reads S.Expr)
    (operand_fine : (rest ts : List Token) → Good (operand rest ts) (Spells spelled (λ e. 1 + within e) n rest)) where
  unary_on : (ts : List Token) (o : Option (Prefix × ℕ × List Token)) → prefix_at ts ≡ o → Good (unary_then prim operand ts o) (IsPart n ts)
  unary_on ts None e = ok ts
  unary_on ts (Some p) e =
      let t : Takes ts (spelled_prefix p.0 ∷ []) p.2 = record { text = prefix_at_is ts p e } in
      good_bind (operand p.2 ts) (λ e. Ok (S.prefixed p.0 e.0 p.1, e.1)) (Spells spelled (λ e. 1 + within e) n p.2) (IsPart n ts) (operand_fine p.2 ts)
      (λ x q. record { takes = and_then t q.takes; levels = q.levels })

  unary_ok : (ts : List Token) → Good (unary_with prim operand ts) (IsPart n ts)
  unary_ok ts = unary_on ts (prefix_at ts) refl

one_level : (n : ℕ) (ts : List Token) (r : Reads S.Expr) → Good r (IsPart n ts) → Good r (IsExpr (suc n) ts)
one_level n ts r g = good_more r (IsPart n ts) (IsExpr (suc n) ts) g (λ x after p. record { takes = p.takes; levels = omega (arith, p.levels) })

mutual
  pub expr_read : (n : ℕ) (ts : List Token) → Good (expr_at n ts) (IsExpr n ts)
  expr_read zero ts = good_deep begins_expr ts (IsExpr zero ts)
  expr_read (suc n) ts = one_level n ts (expr_with (unary_at n) (expr_at n) ts) (expr_ok n (expr_at n) (expr_read n) (unary_at n) (unary_read n) ts)

  pub unary_read : (n : ℕ) (ts : List Token) → Good (unary_at n ts) (IsPart n ts)
  unary_read zero ts =
      unary_ok zero (prim_with (too_deep begins_expr) deep_typed)
      (prim_ok zero (too_deep begins_expr) (λ ts. good_deep begins_expr ts (IsExpr zero ts)) deep_typed (λ kind line rest ts t. tt)) deep_operand (λ rest ts. tt) ts
  unary_read (suc n) ts =
      let typed : SlType → ℕ → List Token → List Token → Reads S.Expr = λ kind line rest ts. typed_with (expr_at n) (prim_at n) kind line rest in
      unary_ok (suc n) (prim_with (expr_with (unary_at n) (expr_at n)) typed)
      (prim_ok (suc n) (expr_with (unary_at n) (expr_at n)) (λ ts. one_level n ts (expr_with (unary_at n) (expr_at n) ts) (expr_ok n (expr_at n) (expr_read n) (unary_at n) (unary_read n) ts))
      typed (λ kind line rest ts t. typed_ok n (expr_at n) (prim_at n) (expr_read n) (prim_read n) kind line rest ts t))
      (λ rest ts. unary_at n rest)
      (λ rest ts. good_more (unary_at n rest) (IsPart n rest) (Spells spelled (λ e. 1 + within e) (suc n) rest) (unary_read n rest)
      (λ x after p. record { takes = p.takes; levels = omega (arith, p.levels) })) ts

  pub prim_read : (n : ℕ) (ts : List Token) → Good (prim_at n ts) (IsPart n ts)
  prim_read zero ts = prim_ok zero (too_deep begins_expr) (λ ts. good_deep begins_expr ts (IsExpr zero ts)) deep_typed (λ kind line rest ts t. tt) ts
  prim_read (suc n) ts =
      prim_ok (suc n) (expr_with (unary_at n) (expr_at n)) (λ ts. one_level n ts (expr_with (unary_at n) (expr_at n) ts) (expr_ok n (expr_at n) (expr_read n) (unary_at n) (unary_read n) ts))
      (λ kind line rest ts. typed_with (expr_at n) (prim_at n) kind line rest)
      (λ kind line rest ts t. typed_ok n (expr_at n) (prim_at n) (expr_read n) (prim_read n) kind line rest ts t) ts
