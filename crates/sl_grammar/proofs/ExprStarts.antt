-- What is read as an expression is one of the grammar; and where a fault stands, the tokens before it begin one.
use Rattle.std.proofs.Common.{◌≡◌, ℕ, zero, suc, ◌+◌, ◌≤◌, ◌∷◌, [], ◌++◌, List, Option, Some, None, Ok, Bool, true, false, cond, length, refl, sym, ap, subst, ◌∙◌, append-nil, arith}
use Rattle.sl_ast.specs.Syntax as S
use Rattle.sl_ast.specs.declared.kinds.Operator.{Operator}
use Rattle.sl_ast.specs.declared.kinds.Prefix.{Prefix}
use Rattle.sl_ast.specs.declared.kinds.Row.{Row}
use Rattle.sl_ast.specs.declared.kinds.Row.TheVariants as rows
use Rattle.sl_ast.specs.declared.kinds.SlType.{SlType}
use Rattle.sl_ast.specs.declared.syntax.Space.{Space}
use Rattle.sl_lexer.specs.declared.token.Token.{Token}
use Rattle.sl_lexer.specs.declared.token.TokenKind.{TokenKind}
use Rattle.sl_lexer.specs.declared.token.TokenKind.TheVariants as kinds
use Rattle.sl_lexer.specs.declared.token.Mark.TheVariants.{LeftParen, RightParen, Comma, Question, Colon}
use Rattle.sl_expression_grammar.specs.Reading.{Reads, ◌>>=◌, with_front, many, after_comma, commas, past, rest_after, line_and_rest, is_mark, too_deep}
use Rattle.sl_expression_grammar.specs.Expressions.{row_of, same_row, is_single, most_links, operator_in, operator_at, link, next_link, chain_of, links_in, chain, chains, choice_then, expr_with, args_with, args_in, name_then, paren_with, space_at, triple_then, value_then, typed_with, prim_in, prim_with, prefix_at, unary_then, unary_with, deep_typed, deep_operand, begins_expr, expr_at, unary_at, prim_at}
use Rattle.sl_expression_grammar.specs.Rows.{rows_from}
use Rattle.sl_grammar.specs.Grammatical.{looseness, count, Grammatical, GrammaticalArgs, GrammaticalLinks}
use Rattle.sl_parser.specs.Spelled.{spelled, spelled_args, spelled_more, spelled_links, spelled_prefix, spelled_space}
use Rattle.sl_parser.proofs.Fronts.{passed, mapped, operator_at_is, line_after_is, mark_after, prefix_at_is, space_at_is}
use Rattle.sl_parser.proofs.Good.{Takes, and_then}
use Rattle.sl_grammar.proofs.Starts.{Shape, Starts, then_starts, starts_on, taken_on, Done, begun_here, done_bind, done_past, done_deep, done_more, done_front, done_many}

-- any, and one that binds at most so loosely
abbrev pub whole : Shape S.Expr
whole = record { spell = spelled; fine = Grammatical; ends = λ e rest. Unit {0} }

abbrev tight : ℕ → Shape S.Expr
tight loose = record { spell = spelled; fine = λ e. (looseness e ≤ loose) × Grammatical e; ends = λ e rest. Unit {0} }

-- what stands for an expression that is missing
abbrev pub blank : S.Expr
blank = S.name [] 0

same_row_is : (a b : Row) → same_row a b ≡ true → b ≡ a
same_row_is rows.Or rows.Or h = refl
same_row_is rows.And rows.And h = refl
same_row_is rows.Equality rows.Equality h = refl
same_row_is rows.Relation rows.Relation h = refl
same_row_is rows.Sum rows.Sum h = refl
same_row_is rows.Cross rows.Cross h = refl
same_row_is rows.Product rows.Product h = refl
same_row_is rows.Dot rows.Dot h = refl
same_row_is _ _ h = absurd (cc h)

row_in : (row : Row) (k : TokenKind) (o : Operator) → operator_in row k ≡ Some o → row_of o ≡ row
row_in row (kinds.Operator p) o h = let e = passed (same_row row (row_of p)) p o h in sym (ap row_of e.1) ∙ same_row_is row (row_of p) e.0
row_in row (kinds.Number x) o h = absurd (cc h)
row_in row (kinds.Str x) o h = absurd (cc h)
row_in row (kinds.Name x) o h = absurd (cc h)
row_in row (kinds.Kind x) o h = absurd (cc h)
row_in row (kinds.Class x) o h = absurd (cc h)
row_in row (kinds.Type x) o h = absurd (cc h)
row_in row (kinds.Word x) o h = absurd (cc h)
row_in row (kinds.Mark x) o h = absurd (cc h)
row_in row kinds.Not o h = absurd (cc h)
row_in row (kinds.Set x) o h = absurd (cc h)
row_in row kinds.Bad o h = absurd (cc h)

row_at : (row : Row) (ts : List Token) (x : Operator × ℕ × List Token) → operator_at row ts ≡ Some x → row_of x.0 ≡ row
row_at row [] x h = absurd (cc h)
row_at row (t ∷ ts) x h =
    let m = mapped (λ o. (o, t.line, ts)) (operator_in row t.kind) x h in
    ap (λ y. row_of y.0) (sym m.1.1) ∙ row_in row t.kind m.0 m.1.0

count_links : (ls : List S.Link) → count (S.links ls) ≡ length ls
count_links [] = refl
count_links (l ∷ ls) = let i = count_links ls in omega (arith, i)

single_enough : (single : Bool) (c n : ℕ) → c ≤ cond single 1 n → c ≤ cond single 1 c
single_enough true c n h = h
single_enough false c n h = omega arith

chained : (row : Row) (e : S.Expr) (ls : List S.Link) (n : ℕ) → (looseness e ≤ rows_from row) × Grammatical e → GrammaticalLinks row (S.links ls) → length ls ≤ most_links row n → (looseness (chain_of row e ls) ≤ 1 + rows_from row) × Grammatical (chain_of row e ls)
chained row e [] n p g h = let l = p.0 in (omega (arith, l), p.1)
chained row e (l ∷ ls) n p g h =
    let c = count_links (l ∷ ls) in
    let all : count (S.links (l ∷ ls)) ≤ cond (is_single row) 1 n = subst (λ k. k ≤ cond (is_single row) 1 n) (sym c) h in
    (omega arith, (p, ((omega arith, single_enough (is_single row) (count (S.links (l ∷ ls))) n all), g)))

spelled_chain : (row : Row) (e : S.Expr) (ls : List S.Link) → spelled (chain_of row e ls) ≡ spelled e ++ spelled_links (S.links ls)
spelled_chain row e [] = sym (append-nil (spelled e))
spelled_chain row e (l ∷ ls) = refl

module _ (row : Row) (operand : List Token → Reads S.Expr) (ok : (ts : List Token) → Done (tight (rows_from row)) ts (operand ts)) where
  abbrev linked : Shape S.Link
  linked = record {
    spell = λ l. kinds.Operator l.operator ∷ spelled l.operand;
    fine = λ l. (row_of l.operator ≡ row) × ((looseness l.operand ≤ rows_from row) × Grammatical l.operand);
    ends = λ l rest. Unit {0};
  }

  abbrev FineLinks : ℕ → List S.Link → Type 0
  FineLinks k ls = GrammaticalLinks row (S.links ls) × (length ls ≤ k)

  fine_more : (k : ℕ) (l : S.Link) (ls : List S.Link) → (row_of l.operator ≡ row) × ((looseness l.operand ≤ rows_from row) × Grammatical l.operand) → FineLinks k ls → FineLinks (suc k) (l ∷ ls)
  fine_more k l ls f g = let n = g.1 in ((f.0, (f.1, g.0)), omega (arith, n))

  link_done : (ts : List Token) (r : Reads S.Link) → next_link row operand ts ≡ Some r → Done linked ts r
  link_done ts r e =
      let m = mapped (link operand) (operator_at row ts) r e in
      let o = m.0 in
      let is = row_at row ts o m.1.0 in
      let t : Takes ts (kinds.Operator o.0 ∷ []) o.2 = record { text = operator_at_is row ts o m.1.0 } in
      subst (λ r. Done linked ts r) m.1.1
      (done_bind (tight (rows_from row)) linked ts o.2 (operand o.2) (λ e. Ok (record { operator = o.0; line = o.1; operand = e.0 }, e.1)) (ok o.2)
      (λ x rest f s. record { item = record { operator = o.0; line = o.1; operand = x }; fine = (is, f); starts = then_starts t s })
      (λ x u f h. ((and_then t u, (is, f)), tt)))

  abbrev spelled_list : List S.Link → List TokenKind
  spelled_list ls = spelled_links (S.links ls)

  abbrev all_links : ℕ → Shape (List S.Link)
  all_links k = record { spell = spelled_list; fine = FineLinks k; ends = λ xs rest. Unit {0} }

  links_done : (k : ℕ) (ts : List Token) → Done (all_links k) ts (many (next_link row operand) k ts)
  links_done k ts = done_many linked spelled_list FineLinks refl (λ x xs. refl) (λ k. (tt, omega arith)) fine_more (next_link row operand) link_done k ts

  chain_done : (ts : List Token) → Done (tight (1 + rows_from row)) ts (chain row operand ts)
  chain_done ts =
      let out = tight (1 + rows_from row) in
      done_bind (tight (rows_from row)) out ts ts (operand ts) (λ first. links_in row operand first.1 >>= λ links. Ok (chain_of row first.0 links.0, links.1)) (ok ts)
      (λ x rest f s. let l = f.0 in record { item = x; fine = (omega (arith, l), f.1); starts = s }) (λ x t f h.
      done_bind (all_links (most_links row (length x.1))) out ts x.1 (links_in row operand x.1) (λ links. Ok (chain_of row x.0 links.0, links.1)) (links_done (most_links row (length x.1)) x.1)
      (λ ls rest g s. record { item = chain_of row x.0 ls; fine = chained row x.0 ls (length x.1) f g.0 g.1; starts = subst (λ ks. Starts ts ks rest) (sym (spelled_chain row x.0 ls)) (then_starts t s) })
      (λ y u g k. ((subst (λ ks. Takes ts ks y.1) (sym (spelled_chain row x.0 y.0)) (and_then t u), chained row x.0 y.0 (length x.1) f g.0 g.1), tt)))

chains_done : (unary : List Token → Reads S.Expr) → ((ts : List Token) → Done (tight 1) ts (unary ts)) → (ts : List Token) → Done (tight 9) ts (chains unary ts)
chains_done unary ok =
    chain_done rows.Or _ (chain_done rows.And _ (chain_done rows.Equality _ (chain_done rows.Relation _ (chain_done rows.Sum _ (chain_done rows.Cross _ (chain_done rows.Product _ (chain_done rows.Dot unary ok)))))))

module _ (expr : List Token → Reads S.Expr) (ok : (ts : List Token) → Done whole ts (expr ts)) where
  choice_done : (ts after : List Token) (t : S.Expr) → (looseness t ≤ 9) × Grammatical t → Takes ts (spelled t) after → (o : Option (ℕ × List Token)) → line_and_rest Question after ≡ o
      → Done whole ts (choice_then expr t after o)
  choice_done ts after t p u None e = ((u, p.1), tt)
  choice_done ts after t p u (Some q) e =
      let mark : Takes after (kinds.Mark Question ∷ []) q.1 = record { text = line_after_is Question after q e } in
      let second = kinds.Mark Colon ∷ spelled blank in
      done_bind whole whole ts q.1 (expr q.1) (λ first. past Colon first.1 λ rest. expr rest >>= λ second. Ok (S.choice t first.0 second.0 q.0, second.1)) (ok q.1)
      (λ x rest f s. record { item = S.choice t x blank 0; fine = (p, (f, tt)); starts = then_starts u (then_starts mark (starts_on second s)) }) (λ x v f h.
      done_past whole Colon ts x.1 (λ rest. expr rest >>= λ second. Ok (S.choice t x.0 second.0 q.0, second.1))
      (record { item = S.choice t x.0 blank 0; fine = (p, (f, tt)); starts = then_starts u (then_starts mark (taken_on second v)) }) (λ rest colon.
      done_bind whole whole ts rest (expr rest) (λ second. Ok (S.choice t x.0 second.0 q.0, second.1)) (ok rest)
      (λ y left g s. record { item = S.choice t x.0 y 0; fine = (p, (f, g)); starts = then_starts u (then_starts mark (then_starts v (then_starts colon s))) })
      (λ y w g k. ((and_then u (and_then mark (and_then v (and_then colon w))), (p, (f, g))), tt))))

  expr_done : (unary : List Token → Reads S.Expr) → ((ts : List Token) → Done (tight 1) ts (unary ts)) → (ts : List Token) → Done whole ts (expr_with unary expr ts)
  expr_done unary u ts =
      done_bind (tight 9) whole ts ts (chains unary ts) (λ test. choice_then expr test.0 test.1 (line_and_rest Question test.1)) (chains_done unary u ts)
      (λ x rest f s. record { item = x; fine = f.1; starts = s }) (λ x t f h. choice_done ts x.1 x.0 f t (line_and_rest Question x.1) refl)

  abbrev rest_after_comma : Shape S.Expr
  rest_after_comma = record { spell = λ e. kinds.Mark Comma ∷ spelled e; fine = Grammatical; ends = λ e rest. Unit {0} }

  comma_done : (ts : List Token) (r : Reads S.Expr) → after_comma expr ts ≡ Some r → Done rest_after_comma ts r
  comma_done ts r e =
      let m = mapped expr (rest_after (is_mark Comma) ts) r e in
      let t : Takes ts (kinds.Mark Comma ∷ []) m.0 = record { text = mark_after Comma ts m.0 m.1.0 } in
      subst (λ r. Done rest_after_comma ts r) m.1.1
      (done_more whole rest_after_comma ts m.0 (expr m.0) (ok m.0) (λ x rest f s. record { item = x; fine = f; starts = then_starts t s }) (λ x rest u f h. ((and_then t u, f), tt)))

  abbrev FineArgs : List S.Expr → Type 0
  FineArgs es = GrammaticalArgs (S.exprs es)

  abbrev more_args : Shape (List S.Expr)
  more_args = record { spell = λ es. spelled_more (S.exprs es); fine = FineArgs; ends = λ es rest. Unit {0} }

  abbrev some_args : Shape (List S.Expr)
  some_args = record { spell = λ es. spelled_args (S.exprs es); fine = FineArgs; ends = λ es rest. Unit {0} }

  abbrev closed_args : Shape (List S.Expr)
  closed_args = record { spell = λ es. spelled_args (S.exprs es) ++ (kinds.Mark RightParen ∷ []); fine = FineArgs; ends = λ es rest. Unit {0} }

  more_done : (k : ℕ) (ts : List Token) → Done more_args ts (many (after_comma expr) k ts)
  more_done k ts =
      done_many rest_after_comma (λ es. spelled_more (S.exprs es)) (λ k es. FineArgs es) refl (λ x xs. refl) (λ k. tt) (λ k x xs f g. (f, g)) (after_comma expr) comma_done k ts

  some_done : (ts : List Token) → Done some_args ts (commas expr ts)
  some_done ts =
      done_bind whole some_args ts ts (expr ts) (λ x. with_front (x.0 ∷ []) (many (after_comma expr) (length x.1) x.1)) (ok ts)
      (λ x rest f s. record { item = x ∷ []; fine = (f, tt); starts = starts_on [] s }) (λ x t f h.
      done_front more_args some_args ts x.1 x.0 (many (after_comma expr) (length x.1) x.1) (more_done (length x.1) x.1)
      (λ xs rest g s. record { item = x.0 ∷ xs; fine = (f, g); starts = then_starts t s })
      (λ xs rest u g. ((and_then t u, (f, g)), tt)))

  args_done : (ts : List Token) (o : Option (List Token)) → rest_after (is_mark RightParen) ts ≡ o → Done closed_args ts (args_with expr ts o)
  args_done ts (Some rest) e = ((record { text = mark_after RightParen ts rest e }, tt), tt)
  args_done ts None e =
      let close = kinds.Mark RightParen ∷ [] in
      done_bind some_args closed_args ts ts (commas expr ts) (λ args. past RightParen args.1 λ rest. Ok (args.0, rest)) (some_done ts)
      (λ xs rest f s. record { item = xs; fine = f; starts = starts_on close s }) (λ x t f h.
      done_past closed_args RightParen ts x.1 (λ rest. Ok (x.0, rest)) (record { item = x.0; fine = f; starts = taken_on close t })
      (λ rest u. ((and_then t u, f), tt)))

  name_done : (before ts : List Token) (name : List ℕ) (line : ℕ) → Takes before (kinds.Name name ∷ []) ts → (o : Option (List Token)) → rest_after (is_mark LeftParen) ts ≡ o
      → Done (tight 0) before (name_then expr name line ts o)
  name_done before ts name line t None e = ((t, (omega arith, tt)), tt)
  name_done before ts name line t (Some inside) e =
      let mark : Takes ts (kinds.Mark LeftParen ∷ []) inside = record { text = mark_after LeftParen ts inside e } in
      done_bind closed_args (tight 0) before inside (args_in expr inside) (λ args. Ok (S.call name (S.exprs args.0) line, args.1)) (args_done inside (rest_after (is_mark RightParen) inside) refl)
      (λ xs rest f s. record { item = S.call name (S.exprs xs) 0; fine = (omega arith, f); starts = then_starts t (then_starts mark s) })
      (λ x u f h. ((and_then t (and_then mark u), (omega arith, f)), tt))

  paren_done : (before ts : List Token) (line : ℕ) → Takes before (kinds.Mark LeftParen ∷ []) ts → Done (tight 0) before (paren_with expr line ts)
  paren_done before ts line t =
      let close = kinds.Mark RightParen ∷ [] in
      done_bind whole (tight 0) before ts (expr ts) (λ e. past RightParen e.1 λ rest. Ok (S.paren e.0 line, rest)) (ok ts)
      (λ x rest f s. record { item = S.paren x 0; fine = (omega arith, f); starts = then_starts t (starts_on close s) }) (λ x u f h.
      done_past (tight 0) RightParen before x.1 (λ rest. Ok (S.paren x.0 line, rest)) (record { item = S.paren x.0 0; fine = (omega arith, f); starts = then_starts t (taken_on close u) })
      (λ rest v. ((and_then t (and_then u v), (omega arith, f)), tt)))

-- after a type
module _ (expr prim : List Token → Reads S.Expr) (ok : (ts : List Token) → Done whole ts (expr ts)) (prim_fine : (ts : List Token) → Done (tight 0) ts (prim ts))
    (kind : SlType) (line : ℕ) (before : List Token) (space : Option Space) (inside : List Token) (t : Takes before (kinds.Type kind ∷ spelled_space space) inside) where
  triple_done : (inner : ℕ) (ts after : List Token) (x : S.Expr) → Takes inside (kinds.Mark LeftParen ∷ []) ts → Takes ts (spelled x) after → Grammatical x
      → (o : Option (List Token)) → rest_after (is_mark Comma) after ≡ o → Done (tight 0) before (triple_then expr kind space line inner x after o)
  triple_done inner ts after x paren u p None e =
      done_past (tight 0) RightParen before after (λ rest. Ok (S.typed kind space (S.paren x inner) line, rest))
      (record { item = S.typed kind space (S.paren x inner) line; fine = (omega arith, (refl, p)); starts = then_starts t (then_starts paren (taken_on (kinds.Mark RightParen ∷ []) u)) })
      (λ rest close. ((and_then t (and_then paren (and_then u close)), (omega arith, (refl, p))), tt))
  triple_done inner ts after x paren u p (Some second) e =
      let comma : Takes after (kinds.Mark Comma ∷ []) second = record { text = mark_after Comma after second e } in
      let close = kinds.Mark RightParen ∷ [] in
      let last = kinds.Mark Comma ∷ (spelled blank ++ close) in
      done_bind whole (tight 0) before second (expr second) (λ y. past Comma y.1 λ third. expr third >>= λ z. past RightParen z.1 λ rest. Ok (S.triple kind space x y.0 z.0 line, rest)) (ok second)
      (λ y rest q s. record { item = S.triple kind space x y blank line; fine = (omega arith, (p, (q, tt))); starts = then_starts t (then_starts paren (then_starts u (then_starts comma (starts_on last s)))) }) (λ y v q h.
      done_past (tight 0) Comma before y.1 (λ third. expr third >>= λ z. past RightParen z.1 λ rest. Ok (S.triple kind space x y.0 z.0 line, rest))
      (record { item = S.triple kind space x y.0 blank line; fine = (omega arith, (p, (q, tt))); starts = then_starts t (then_starts paren (then_starts u (then_starts comma (taken_on last v)))) }) (λ third comma_two.
      done_bind whole (tight 0) before third (expr third) (λ z. past RightParen z.1 λ rest. Ok (S.triple kind space x y.0 z.0 line, rest)) (ok third)
      (λ z rest r s. record { item = S.triple kind space x y.0 z line; fine = (omega arith, (p, (q, r))); starts = then_starts t (then_starts paren (then_starts u (then_starts comma (then_starts v (then_starts comma_two (starts_on close s)))))) }) (λ z w r k.
      done_past (tight 0) RightParen before z.1 (λ rest. Ok (S.triple kind space x y.0 z.0 line, rest))
      (record { item = S.triple kind space x y.0 z.0 line; fine = (omega arith, (p, (q, r))); starts = then_starts t (then_starts paren (then_starts u (then_starts comma (then_starts v (then_starts comma_two (taken_on close w)))))) }) (λ rest c.
      ((and_then t (and_then paren (and_then u (and_then comma (and_then v (and_then comma_two (and_then w c)))))), (omega arith, (p, (q, r)))), tt)))))

  value_done : (o : Option (ℕ × List Token)) → line_and_rest LeftParen inside ≡ o → Done (tight 0) before (value_then expr prim kind space line inside o)
  value_done None e =
      done_bind (tight 0) (tight 0) before inside (prim inside) (λ e. Ok (S.typed kind space e.0 line, e.1)) (prim_fine inside)
      (λ x rest f s. let l = f.0 in record { item = S.typed kind space x line; fine = (omega arith, (omega (arith, l), f.1)); starts = then_starts t s })
      (λ x u f h. let l = f.0 in ((and_then t u, (omega arith, (omega (arith, l), f.1))), tt))
  value_done (Some q) e =
      let paren : Takes inside (kinds.Mark LeftParen ∷ []) q.1 = record { text = line_after_is LeftParen inside q e } in
      done_bind whole (tight 0) before q.1 (expr q.1) (λ x. triple_then expr kind space line q.0 x.0 x.1 (rest_after (is_mark Comma) x.1)) (ok q.1)
      (λ x rest f s. record { item = S.typed kind space (S.paren x q.0) line; fine = (omega arith, (refl, f)); starts = then_starts t (then_starts paren (starts_on (kinds.Mark RightParen ∷ []) s)) })
      (λ x u f h. triple_done q.0 q.1 x.1 x.0 paren u f (rest_after (is_mark Comma) x.1) refl)

typed_done : (expr prim : List Token → Reads S.Expr) → ((ts : List Token) → Done whole ts (expr ts)) → ((ts : List Token) → Done (tight 0) ts (prim ts)) → (kind : SlType) (line : ℕ) (rest ts : List Token)
    → Takes ts (kinds.Type kind ∷ []) rest → Done (tight 0) ts (typed_with expr prim kind line rest)
typed_done expr prim ok prim_fine kind line rest ts t =
    let s = space_at rest in
    let space : Takes rest (spelled_space s.0) s.1 = record { text = space_at_is rest } in
    value_done expr prim ok prim_fine kind line ts s.0 s.1 (and_then t space) (line_and_rest LeftParen s.1) refl

module _ (expr : List Token → Reads S.Expr) (ok : (ts : List Token) → Done whole ts (expr ts)) (typed : SlType → ℕ → List Token → List Token → Reads S.Expr)
    (typed_fine : (kind : SlType) (line : ℕ) (rest ts : List Token) → Takes ts (kinds.Type kind ∷ []) rest → Done (tight 0) ts (typed kind line rest ts)) where
  prim_on : (k : TokenKind) (line : ℕ) (rest ts : List Token) → Takes ts (k ∷ []) rest → Done (tight 0) ts (prim_in expr typed k line rest ts)
  prim_on (kinds.Number text) line rest ts t = ((t, (omega arith, tt)), tt)
  prim_on (kinds.Str text) line rest ts t = ((t, (omega arith, tt)), tt)
  prim_on (kinds.Name name) line rest ts t = name_done expr ok ts rest name line t (rest_after (is_mark LeftParen) rest) refl
  prim_on (kinds.Mark LeftParen) line rest ts t = paren_done expr ok ts rest line t
  prim_on (kinds.Type kind) line rest ts t = typed_fine kind line rest ts t
  prim_on _ line rest ts t = begun_here (tight 0) ts blank (omega arith, tt)

  prim_done : (ts : List Token) → Done (tight 0) ts (prim_with expr typed ts)
  prim_done [] = begun_here (tight 0) [] blank (omega arith, tt)
  prim_done (t ∷ ts) = prim_on t.kind t.line ts (t ∷ ts) (record { text = refl })

module _ (prim : List Token → Reads S.Expr) (ok : (ts : List Token) → Done (tight 0) ts (prim ts)) (operand : List Token → List Token → Reads S.Expr)
    (operand_fine : (p : Prefix) (line : ℕ) (rest ts : List Token) → Takes ts (spelled_prefix p ∷ []) rest → Done (tight 1) ts (operand rest ts >>= λ e. Ok (S.prefixed p e.0 line, e.1))) where
  unary_on : (ts : List Token) (o : Option (Prefix × ℕ × List Token)) → prefix_at ts ≡ o → Done (tight 1) ts (unary_then prim operand ts o)
  unary_on ts None e =
      done_more (tight 0) (tight 1) ts ts (prim ts) (ok ts) (λ x rest f s. let l = f.0 in record { item = x; fine = (omega (arith, l), f.1); starts = s })
      (λ x rest u f h. let l = f.0 in ((u, (omega (arith, l), f.1)), tt))
  unary_on ts (Some p) e = operand_fine p.0 p.1 p.2 ts (record { text = prefix_at_is ts p e })

  unary_done : (ts : List Token) → Done (tight 1) ts (unary_with prim operand ts)
  unary_done ts = unary_on ts (prefix_at ts) refl

operand_done : (unary : List Token → Reads S.Expr) → ((ts : List Token) → Done (tight 1) ts (unary ts)) → (p : Prefix) (line : ℕ) (rest ts : List Token) → Takes ts (spelled_prefix p ∷ []) rest
    → Done (tight 1) ts (unary rest >>= λ e. Ok (S.prefixed p e.0 line, e.1))
operand_done unary ok p line rest ts t =
    done_bind (tight 1) (tight 1) ts rest (unary rest) (λ e. Ok (S.prefixed p e.0 line, e.1)) (ok rest)
    (λ x left f s. record { item = S.prefixed p x line; fine = (omega arith, f); starts = then_starts t s }) (λ x u f h. ((and_then t u, (omega arith, f)), tt))

deep_done : (ts : List Token) → Done whole ts (too_deep begins_expr ts)
deep_done ts = done_deep whole begins_expr ts (begun_here whole ts blank tt)

mutual
  pub expr_starts : (n : ℕ) (ts : List Token) → Done whole ts (expr_at n ts)
  expr_starts zero ts = deep_done ts
  expr_starts (suc n) ts = expr_done (expr_at n) (expr_starts n) (unary_at n) (unary_starts n) ts

  unary_starts : (n : ℕ) (ts : List Token) → Done (tight 1) ts (unary_at n ts)
  unary_starts zero ts =
      unary_done (prim_with (too_deep begins_expr) deep_typed)
      (prim_done (too_deep begins_expr) deep_done deep_typed (λ kind line rest ts t. begun_here (tight 0) ts blank (omega arith, tt))) deep_operand
      (λ p line rest ts t. begun_here (tight 1) ts blank (omega arith, tt)) ts
  unary_starts (suc n) ts =
      let typed : SlType → ℕ → List Token → List Token → Reads S.Expr = λ kind line rest ts. typed_with (expr_at n) (prim_at n) kind line rest in
      unary_done (prim_with (expr_with (unary_at n) (expr_at n)) typed)
      (prim_done (expr_with (unary_at n) (expr_at n)) (λ ts. expr_done (expr_at n) (expr_starts n) (unary_at n) (unary_starts n) ts) typed
      (λ kind line rest ts t. typed_done (expr_at n) (prim_at n) (expr_starts n) (prim_starts n) kind line rest ts t))
      (λ rest ts. unary_at n rest) (λ p line rest ts t. operand_done (unary_at n) (unary_starts n) p line rest ts t) ts

  prim_starts : (n : ℕ) (ts : List Token) → Done (tight 0) ts (prim_at n ts)
  prim_starts zero ts = prim_done (too_deep begins_expr) deep_done deep_typed (λ kind line rest ts t. begun_here (tight 0) ts blank (omega arith, tt)) ts
  prim_starts (suc n) ts =
      prim_done (expr_with (unary_at n) (expr_at n)) (λ ts. expr_done (expr_at n) (expr_starts n) (unary_at n) (unary_starts n) ts)
      (λ kind line rest ts. typed_with (expr_at n) (prim_at n) kind line rest)
      (λ kind line rest ts t. typed_done (expr_at n) (prim_at n) (expr_starts n) (prim_starts n) kind line rest ts t) ts
