-- What binds tightly is read where something looser may stand.
use Rattle.std.proofs.Common.{◌≡◌, ℕ, zero, suc, ◌+◌, ◌-◌, ◌≤◌, ◌<◌, ◌∷◌, [], List, Some, None, Ok, false, cond, length, refl, sym, ap, subst, ◌∙◌, arith}
use Rattle.std.specs.Prelude.{option_map}
use Rattle.sl_ast.specs.Syntax as S
use Rattle.sl_ast.specs.declared.kinds.Row.{Row}
use Rattle.sl_ast.specs.declared.kinds.Row.TheVariants.{Or, And, Equality, Relation, Sum, Cross, Product, Dot}
use Rattle.sl_lexer.specs.declared.token.Token.{Token}
use Rattle.sl_lexer.specs.declared.token.TokenKind.{TokenKind}
use Rattle.sl_lexer.specs.declared.token.TokenKind.TheVariants as kinds
use Rattle.sl_lexer.specs.declared.token.Mark.TheVariants as marks
use Rattle.sl_expression_grammar.specs.Reading.{Reads, ◌>>=◌, is_mark, line_and_rest}
use Rattle.sl_expression_grammar.specs.Expressions.{same_row, row_of, operator_in, link, next_link, most_links, chain_of, links_in, chain, choice_then, expr_at, unary_at, prim_at}
use Rattle.sl_expression_grammar.specs.Rows.{rows_from}
use Rattle.sl_parser.specs.Spelled.{kinds_of}
use Rattle.sl_grammar.specs.Bare.{bare}
use Rattle.sl_grammar.specs.Grammatical.{goes_on_from, Ends}
use Rattle.sl_grammar.proofs.Got.{Got, got_bind, many_none}

-- that expression up to lines, before these tokens
abbrev pub Same : S.Expr → List TokenKind → S.Expr → List Token → Type 0
Same e ks x rest = (bare x ≡ bare e) × (kinds_of rest ≡ ks)

-- what reads expressions that bind so loosely, over what reads the tighter ones
abbrev pub looser : (List Token → Reads S.Expr) → ℕ → (List Token → Reads S.Expr) → List Token → Reads S.Expr
looser expr zero tighter = chain Dot tighter
looser expr (suc zero) tighter = chain Product tighter
looser expr (suc (suc zero)) tighter = chain Cross tighter
looser expr (suc (suc (suc zero))) tighter = chain Sum tighter
looser expr (suc (suc (suc (suc zero)))) tighter = chain Relation tighter
looser expr (suc (suc (suc (suc (suc zero))))) tighter = chain Equality tighter
looser expr (suc (suc (suc (suc (suc (suc zero)))))) tighter = chain And tighter
looser expr (suc (suc (suc (suc (suc (suc (suc zero))))))) tighter = chain Or tighter
looser expr (suc (suc (suc (suc (suc (suc (suc (suc k)))))))) tighter = λ ts. tighter ts >>= λ test. choice_then expr test.0 test.1 (line_and_rest marks.Question test.1)

-- where so many levels are left: what reads expressions of at most that looseness, from the prefix operators on
abbrev pub from_unary : ℕ → ℕ → List Token → Reads S.Expr
from_unary levels zero = unary_at levels
from_unary levels (suc k) = looser (expr_at levels) k (from_unary levels k)

abbrev pub reader : ℕ → ℕ → List Token → Reads S.Expr
reader levels zero = prim_at levels
reader levels (suc k) = from_unary levels k

apart : (a b : Row) → rows_from a < rows_from b → same_row a b ≡ false
apart Or Or h = absurd (omega (arith, h))
apart And And h = absurd (omega (arith, h))
apart Equality Equality h = absurd (omega (arith, h))
apart Relation Relation h = absurd (omega (arith, h))
apart Sum Sum h = absurd (omega (arith, h))
apart Cross Cross h = absurd (omega (arith, h))
apart Product Product h = absurd (omega (arith, h))
apart Dot Dot h = absurd (omega (arith, h))
apart _ _ h = refl

no_operator : (row : Row) (k : TokenKind) → 1 + rows_from row < goes_on_from k → operator_in row k ≡ None
no_operator row (kinds.Operator o) h = ap (λ b. cond b (Some o) None) (apart row (row_of o) (omega (arith, h)))
no_operator row (kinds.Number x) h = refl
no_operator row (kinds.Str x) h = refl
no_operator row (kinds.Name x) h = refl
no_operator row (kinds.Kind x) h = refl
no_operator row (kinds.Class x) h = refl
no_operator row (kinds.Type x) h = refl
no_operator row (kinds.Word x) h = refl
no_operator row (kinds.Mark x) h = refl
no_operator row kinds.Not h = refl
no_operator row (kinds.Set x) h = refl
no_operator row kinds.Bad h = refl

pub no_link : (row : Row) (operand : List Token → Reads S.Expr) (ts : List Token) → Ends (1 + rows_from row) (kinds_of ts) → next_link row operand ts ≡ None
no_link row operand [] h = refl
no_link row operand (t ∷ ts) h = ap (λ o. option_map (link operand) (option_map (λ o. (o, t.line, ts)) o)) (no_operator row t.kind h)

module _ (e : S.Expr) (ks : List TokenKind) (levels : ℕ) (ts : List Token) where
  unchained : (row : Row) (operand : List Token → Reads S.Expr) → Ends (1 + rows_from row) ks → Got (operand ts) (Same e ks) → Got (chain row operand ts) (Same e ks)
  unchained row operand h g =
      got_bind (operand ts) (λ first. links_in row operand first.1 >>= λ links. Ok (chain_of row first.0 links.0, links.1)) (Same e ks) (Same e ks) g (λ x p.
      got_bind (links_in row operand x.1) (λ links. Ok (chain_of row x.0 links.0, links.1)) (λ ls rest. (ls ≡ []) × (rest ≡ x.1)) (Same e ks)
      (many_none (next_link row operand) (most_links row (length x.1)) x.1 (no_link row operand x.1 (subst (Ends (1 + rows_from row)) (sym p.1) h)) (λ ls rest. (ls ≡ []) × (rest ≡ x.1)) (refl, refl))
      (λ y q. (ap (λ ls. bare (chain_of row x.0 ls)) q.0 ∙ p.0, ap kinds_of q.1 ∙ p.1)))

  no_question : (k : TokenKind) → 10 < goes_on_from k → is_mark marks.Question k ≡ false
  no_question (kinds.Mark marks.Question) h = absurd (omega (arith, h))
  no_question _ h = refl

  no_choice : (us : List Token) → Ends 10 (kinds_of us) → line_and_rest marks.Question us ≡ None
  no_choice [] h = refl
  no_choice (t ∷ us) h = ap (λ b. cond b (Some (t.line, us)) None) (no_question t.kind h)

  unchosen : (expr tighter : List Token → Reads S.Expr) → Ends 10 ks → Got (tighter ts) (Same e ks) → Got (tighter ts >>= λ test. choice_then expr test.0 test.1 (line_and_rest marks.Question test.1)) (Same e ks)
  unchosen expr tighter h g =
      got_bind (tighter ts) (λ test. choice_then expr test.0 test.1 (line_and_rest marks.Question test.1)) (Same e ks) (Same e ks) g (λ x p.
      subst (λ o. Got (choice_then expr x.0 x.1 o) (Same e ks)) (sym (no_choice x.1 (subst (Ends 10) (sym p.1) h))) p)

  rise : (k : ℕ) → k ≤ 8 → (expr tighter : List Token → Reads S.Expr) → Ends (2 + k) ks → Got (tighter ts) (Same e ks) → Got (looser expr k tighter ts) (Same e ks)
  rise zero b expr tighter h g = unchained Dot tighter h g
  rise (suc zero) b expr tighter h g = unchained Product tighter h g
  rise (suc (suc zero)) b expr tighter h g = unchained Cross tighter h g
  rise (suc (suc (suc zero))) b expr tighter h g = unchained Sum tighter h g
  rise (suc (suc (suc (suc zero)))) b expr tighter h g = unchained Relation tighter h g
  rise (suc (suc (suc (suc (suc zero))))) b expr tighter h g = unchained Equality tighter h g
  rise (suc (suc (suc (suc (suc (suc zero)))))) b expr tighter h g = unchained And tighter h g
  rise (suc (suc (suc (suc (suc (suc (suc zero))))))) b expr tighter h g = unchained Or tighter h g
  rise (suc (suc (suc (suc (suc (suc (suc (suc zero)))))))) b expr tighter h g = unchosen expr tighter h g
  rise (suc (suc (suc (suc (suc (suc (suc (suc (suc k))))))))) b expr tighter h g = absurd (omega (arith, b))

  pub tightens : (low high : ℕ) (us : List TokenKind) → low ≤ high → Ends high us → Ends low us
  tightens low high [] b h = tt
  tightens low high (k ∷ us) b h = omega (arith, b, h)

  climb : (steps low high : ℕ) → low + steps ≡ high → high ≤ 9 → Ends (1 + high) ks → Got (from_unary levels low ts) (Same e ks) → Got (from_unary levels high ts) (Same e ks)
  climb zero low high d b h g = let is : low ≡ high = omega (arith, d) in subst (λ n. Got (from_unary levels n ts) (Same e ks)) is g
  climb (suc steps) low high d b h g =
      climb steps (suc low) high (omega (arith, d)) b h
      (rise low (omega (arith, d, b)) (expr_at levels) (from_unary levels low) (tightens (2 + low) (1 + high) ks (omega (arith, d)) h) g)

  pub loosened : (low high : ℕ) → low ≤ high → high ≤ 9 → Ends (1 + high) ks → Got (from_unary levels low ts) (Same e ks) → Got (from_unary levels high ts) (Same e ks)
  loosened low high l b h g = climb (high - low) low high (omega (arith, l)) b h g
