-- The tree of an expression spells the tokens that were read, and opens no more levels than were left.
use Rattle.std.proofs.Common.{◌≡◌, ℕ, ◌+◌, ◌≤◌, ◌∷◌, [], ◌++◌, List, Option, Some, None, Ok, length, refl, subst, arith, append-nil}
use Rattle.sl_ast.specs.Syntax as S
use Rattle.sl_ast.specs.Levels.{within, within_args, within_links, levels_of}
use Rattle.sl_ast.specs.declared.kinds.Row.{Row}
use Rattle.sl_ast.specs.declared.kinds.Row.TheVariants as rows
use Rattle.sl_ast.specs.declared.kinds.SlType.{SlType}
use Rattle.sl_ast.specs.declared.syntax.Space.{Space}
use Rattle.sl_lexer.specs.declared.token.Token.{Token}
use Rattle.sl_lexer.specs.declared.token.TokenKind.{TokenKind}
use Rattle.sl_lexer.specs.declared.token.TokenKind.TheVariants as kinds
use Rattle.sl_lexer.specs.declared.token.Mark.TheVariants.{LeftParen, RightParen, Comma, Question, Colon}
use Rattle.sl_expression_grammar.specs.Reading.{Reads, with_front, many, after_comma, commas, rest_after, line_and_rest, is_mark}
use Rattle.sl_expression_grammar.specs.Expressions.{link, next_link, operator_at, most_links, chain_of, links_in, chain, chains, choice_then, expr_with, args_with, args_in, name_then, paren_with, triple_then, value_then}
use Rattle.sl_parser.specs.Spelled.{spelled, spelled_args, spelled_more, spelled_links, spelled_space}
use Rattle.sl_parser.proofs.Fronts.{mapped, operator_at_is, line_after_is, mark_after}
use Rattle.sl_parser.proofs.Good.{Good, good_bind, good_past, good_front, good_many, comma_each, Takes, and_then}

pub record Spells {A : Type 0} (spell : A → List TokenKind) (level : A → ℕ) (n : ℕ) (ts : List Token) (x : A) (rest : List Token) : Type 0 where
  pub takes : Takes ts (spell x) rest
  pub levels : level x ≤ n

-- inside an expression, and a whole one
abbrev pub IsPart : ℕ → List Token → S.Expr → List Token → Type 0
IsPart = Spells spelled within

abbrev pub IsExpr : ℕ → List Token → S.Expr → List Token → Type 0
IsExpr = Spells spelled levels_of

abbrev IsLinks : ℕ → List Token → List S.Link → List Token → Type 0
IsLinks = Spells (λ ls. spelled_links (S.links ls)) (λ ls. within_links (S.links ls))

abbrev IsLink : ℕ → List Token → S.Link → List Token → Type 0
IsLink = Spells (λ l. kinds.Operator l.operator ∷ spelled l.operand) (λ l. within l.operand)

abbrev pub nothing : (ts : List Token) → Takes ts [] ts
nothing ts = record { text = refl }

chained : (row : Row) (n : ℕ) (ts after rest : List Token) (e : S.Expr) (ls : List S.Link) → IsPart n ts e after → IsLinks n after ls rest → IsPart n ts (chain_of row e ls) rest
chained row n ts after rest e [] p q =
    record { takes = subst (λ ks. Takes ts ks rest) (append-nil (spelled e)) (and_then p.takes q.takes); levels = p.levels }
chained row n ts after rest e (l ∷ ls) p q = record { takes = and_then p.takes q.takes; levels = omega (arith, p.levels, q.levels) }

module _ (n : ℕ) (row : Row) (operand : List Token → Reads S.Expr) (ok : (ts : List Token) → Good (operand ts) (IsPart n ts)) where
  link_ok : (ts : List Token) (r : Reads S.Link) → next_link row operand ts ≡ Some r → Good r (IsLink n ts)
  link_ok ts r e =
      let m = mapped (link operand) (operator_at row ts) r e in
      let o = m.0 in
      let t : Takes ts (kinds.Operator o.0 ∷ []) o.2 = record { text = operator_at_is row ts o m.1.0 } in
      subst (λ r. Good r (IsLink n ts)) m.1.1
      (good_bind (operand o.2) (λ e. Ok (record { operator = o.0; line = o.1; operand = e.0 }, e.1)) (IsPart n o.2) (IsLink n ts) (ok o.2)
      (λ x p. record { takes = and_then t p.takes; levels = p.levels }))

  links_ok : (ts : List Token) → Good (links_in row operand ts) (IsLinks n ts)
  links_ok ts =
      good_many (next_link row operand) (IsLink n) (IsLinks n) (λ ts. record { takes = nothing ts; levels = omega arith })
      (λ ts rest left x xs p q. record { takes = and_then p.takes q.takes; levels = omega (arith, p.levels, q.levels) })
      link_ok (most_links row (length ts)) ts

  chain_ok : (ts : List Token) → Good (chain row operand ts) (IsPart n ts)
  chain_ok ts =
      good_bind (operand ts) _ (IsPart n ts) (IsPart n ts) (ok ts) (λ x p.
      good_bind (links_in row operand x.1) (λ links. Ok (chain_of row x.0 links.0, links.1)) (IsLinks n x.1) (IsPart n ts) (links_ok x.1) (λ y q.
      chained row n ts x.1 y.1 x.0 y.0 p q))

chains_ok : (n : ℕ) (unary : List Token → Reads S.Expr) → ((ts : List Token) → Good (unary ts) (IsPart n ts)) → (ts : List Token) → Good (chains unary ts) (IsPart n ts)
chains_ok n unary ok =
    chain_ok n rows.Or _ (chain_ok n rows.And _ (chain_ok n rows.Equality _ (chain_ok n rows.Relation _ (chain_ok n rows.Sum _ (chain_ok n rows.Cross _ (chain_ok n rows.Product _ (chain_ok n rows.Dot unary ok)))))))

module _ (n : ℕ) (expr : List Token → Reads S.Expr) (ok : (ts : List Token) → Good (expr ts) (IsExpr n ts)) where
  choice_ok : (ts after : List Token) (t : S.Expr) → IsPart n ts t after → (o : Option (ℕ × List Token)) → line_and_rest Question after ≡ o → Good (choice_then expr t after o) (IsPart n ts)
  choice_ok ts after t p None e = p
  choice_ok ts after t p (Some q) e =
      let mark : Takes after (kinds.Mark Question ∷ []) q.1 = record { text = line_after_is Question after q e } in
      good_bind (expr q.1) _ (IsExpr n q.1) (IsPart n ts) (ok q.1) (λ x a.
      good_past Colon x.1 _ (IsPart n ts) (λ rest colon.
      good_bind (expr rest) (λ second. Ok (S.choice t x.0 second.0 q.0, second.1)) (IsExpr n rest) (IsPart n ts) (ok rest) (λ y b.
      record { takes = and_then p.takes (and_then mark (and_then a.takes (and_then colon b.takes))); levels = omega (arith, p.levels, a.levels, b.levels) })))

  pub expr_ok : (unary : List Token → Reads S.Expr) → ((ts : List Token) → Good (unary ts) (IsPart n ts)) → (ts : List Token) → Good (expr_with unary expr ts) (IsPart n ts)
  expr_ok unary u ts =
      good_bind (chains unary ts) (λ test. choice_then expr test.0 test.1 (line_and_rest Question test.1)) (IsPart n ts) (IsPart n ts) (chains_ok n unary u ts)
      (λ x p. choice_ok ts x.1 x.0 p (line_and_rest Question x.1) refl)

  abbrev IsMore : List Token → List S.Expr → List Token → Type 0
  IsMore = Spells (λ es. spelled_more (S.exprs es)) (λ es. within_args (S.exprs es)) n

  abbrev IsItems : List Token → List S.Expr → List Token → Type 0
  IsItems = Spells (λ es. spelled_args (S.exprs es)) (λ es. within_args (S.exprs es)) n

  abbrev IsArgs : List Token → List S.Expr → List Token → Type 0
  IsArgs = Spells (λ es. spelled_args (S.exprs es) ++ (kinds.Mark RightParen ∷ [])) (λ es. within_args (S.exprs es)) n

  more_ok : (k : ℕ) (ts : List Token) → Good (many (after_comma expr) k ts) (IsMore ts)
  more_ok k ts =
      good_many (after_comma expr) (λ ts x rest. (after : List Token) × (Takes ts (kinds.Mark Comma ∷ []) after × IsExpr n after x rest)) IsMore
      (λ ts. record { takes = nothing ts; levels = omega arith })
      (λ ts rest left x xs p q. let e = p.1.1 in record { takes = and_then p.1.0 (and_then e.takes q.takes); levels = omega (arith, e.levels, q.levels) })
      (comma_each expr (IsExpr n) ok) k ts

  items_ok : (ts : List Token) → Good (commas expr ts) (IsItems ts)
  items_ok ts =
      good_bind (expr ts) (λ x. with_front (x.0 ∷ []) (many (after_comma expr) (length x.1) x.1)) (IsExpr n ts) (IsItems ts) (ok ts) (λ x p.
      good_front x.0 (many (after_comma expr) (length x.1) x.1) (IsMore x.1) (IsItems ts) (more_ok (length x.1) x.1)
      (λ xs rest q. record { takes = and_then p.takes q.takes; levels = omega (arith, p.levels, q.levels) }))

  args_on : (ts : List Token) (o : Option (List Token)) → rest_after (is_mark RightParen) ts ≡ o → Good (args_with expr ts o) (IsArgs ts)
  args_on ts (Some rest) e = record { takes = record { text = mark_after RightParen ts rest e }; levels = omega arith }
  args_on ts None e =
      good_bind (commas expr ts) _ (IsItems ts) (IsArgs ts) (items_ok ts) (λ x p.
      good_past RightParen x.1 (λ rest. Ok (x.0, rest)) (IsArgs ts) (λ rest close. record { takes = and_then p.takes close; levels = p.levels }))

  pub name_on : (before ts : List Token) (name : List ℕ) (line : ℕ) → Takes before (kinds.Name name ∷ []) ts → (o : Option (List Token)) → rest_after (is_mark LeftParen) ts ≡ o
      → Good (name_then expr name line ts o) (IsPart n before)
  name_on before ts name line t None e = record { takes = t; levels = omega arith }
  name_on before ts name line t (Some inside) e =
      let mark : Takes ts (kinds.Mark LeftParen ∷ []) inside = record { text = mark_after LeftParen ts inside e } in
      good_bind (args_in expr inside) (λ args. Ok (S.call name (S.exprs args.0) line, args.1)) (IsArgs inside) (IsPart n before) (args_on inside (rest_after (is_mark RightParen) inside) refl)
      (λ x p. record { takes = and_then t (and_then mark p.takes); levels = p.levels })

  pub paren_ok : (before ts : List Token) (line : ℕ) → Takes before (kinds.Mark LeftParen ∷ []) ts → Good (paren_with expr line ts) (IsPart n before)
  paren_ok before ts line t =
      good_bind (expr ts) _ (IsExpr n ts) (IsPart n before) (ok ts) (λ x p.
      good_past RightParen x.1 (λ rest. Ok (S.paren x.0 line, rest)) (IsPart n before) (λ rest close.
      record { takes = and_then t (and_then p.takes close); levels = omega (arith, p.levels) }))

-- after a type that has opened its level
module _ (n : ℕ) (expr prim : List Token → Reads S.Expr) (ok : (ts : List Token) → Good (expr ts) (IsExpr n ts)) (prim_fine : (ts : List Token) → Good (prim ts) (IsPart n ts))
    (kind : SlType) (line : ℕ) (before : List Token) (space : Option Space) (inside : List Token)
    (t : Takes before (kinds.Type kind ∷ spelled_space space) inside) where
  triple_ok : (inner : ℕ) (ts after : List Token) (x : S.Expr) → Takes inside (kinds.Mark LeftParen ∷ []) ts → IsExpr n ts x after → (o : Option (List Token)) → rest_after (is_mark Comma) after ≡ o
      → Good (triple_then expr kind space line inner x after o) (IsPart (1 + n) before)
  triple_ok inner ts after x paren p None e =
      good_past RightParen after (λ rest. Ok (S.typed kind space (S.paren x inner) line, rest)) (IsPart (1 + n) before) (λ rest close.
      record { takes = and_then t (and_then paren (and_then p.takes close)); levels = omega (arith, p.levels) })
  triple_ok inner ts after x paren p (Some second) e =
      let comma : Takes after (kinds.Mark Comma ∷ []) second = record { text = mark_after Comma after second e } in
      good_bind (expr second) _ (IsExpr n second) (IsPart (1 + n) before) (ok second) (λ y q.
      good_past Comma y.1 _ (IsPart (1 + n) before) (λ third comma_two.
      good_bind (expr third) _ (IsExpr n third) (IsPart (1 + n) before) (ok third) (λ z r.
      good_past RightParen z.1 (λ rest. Ok (S.triple kind space x y.0 z.0 line, rest)) (IsPart (1 + n) before) (λ rest close.
      record {
        takes = and_then t (and_then paren (and_then p.takes (and_then comma (and_then q.takes (and_then comma_two (and_then r.takes close))))));
        levels = omega (arith, p.levels, q.levels, r.levels);
      }))))

  pub value_ok : (o : Option (ℕ × List Token)) → line_and_rest LeftParen inside ≡ o → Good (value_then expr prim kind space line inside o) (IsPart (1 + n) before)
  value_ok None e =
      good_bind (prim inside) (λ e. Ok (S.typed kind space e.0 line, e.1)) (IsPart n inside) (IsPart (1 + n) before) (prim_fine inside)
      (λ x p. record { takes = and_then t p.takes; levels = omega (arith, p.levels) })
  value_ok (Some q) e =
      let paren : Takes inside (kinds.Mark LeftParen ∷ []) q.1 = record { text = line_after_is LeftParen inside q e } in
      good_bind (expr q.1) (λ x. triple_then expr kind space line q.0 x.0 x.1 (rest_after (is_mark Comma) x.1)) (IsExpr n q.1) (IsPart (1 + n) before) (ok q.1)
      (λ x p. triple_ok q.0 q.1 x.1 x.0 paren p (rest_after (is_mark Comma) x.1) refl)
