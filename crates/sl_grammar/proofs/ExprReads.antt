-- The tokens of an expression of the grammar are read as that expression.
use Rattle.std.proofs.Common.{◌≡◌, ℕ, zero, suc, ◌+◌, ◌≤◌, ◌∷◌, [], ◌++◌, List, Option, Some, None, Ok, Bool, true, false, cond, length, length-append, refl, sym, ap, subst, ◌∙◌, append_assoc, append-nil, arith}
use Rattle.std.proofs.lemmas.List.{length-map}
use Rattle.std.specs.Prelude.{option_map}
use Rattle.sl_ast.specs.Syntax as S
use Rattle.sl_ast.specs.Levels.{within, within_args, within_links, levels_of}
use Rattle.sl_ast.specs.declared.kinds.Operator.{Operator}
use Rattle.sl_ast.specs.declared.kinds.Prefix.{Prefix}
use Rattle.sl_ast.specs.declared.kinds.Prefix.TheVariants as prefixes
use Rattle.sl_ast.specs.declared.kinds.Row.{Row}
use Rattle.sl_ast.specs.declared.kinds.Row.TheVariants as rows
use Rattle.sl_ast.specs.declared.kinds.SlType.{SlType}
use Rattle.sl_ast.specs.declared.syntax.Space.{Space}
use Rattle.sl_lexer.specs.declared.token.Token.{Token}
use Rattle.sl_lexer.specs.declared.token.TokenKind.{TokenKind}
use Rattle.sl_lexer.specs.declared.token.TokenKind.TheVariants as kinds
use Rattle.sl_lexer.specs.declared.token.Mark.TheVariants.{LeftParen, RightParen, Comma, Question, Colon}
use Rattle.sl_expression_grammar.specs.Reading.{◌>>=◌, with_front, many, after_comma, commas, past, rest_after, line_and_rest, is_mark}
use Rattle.sl_expression_grammar.specs.Expressions.{row_of, same_row, is_single, most_links, link, next_link, chain_of, links_in, chain, choice_then, args_with, args_in, name_then, triple_then, value_then, prim_with, prefix_in, prefix_at, unary_then, expr_at, unary_at, prim_at}
use Rattle.sl_expression_grammar.specs.Rows.{rows_from, typed_at, operand_at}
use Rattle.sl_parser.specs.Spelled.{kinds_of, spelled, spelled_args, spelled_more, spelled_links, spelled_prefix, spelled_space}
use Rattle.sl_grammar.specs.Bare.{bare_space, bare, bare_args, bare_links}
use Rattle.sl_grammar.specs.Grammatical.{looseness, count, Grammatical, GrammaticalArgs, GrammaticalLinks, Ends}
use Rattle.sl_expression_grammar.proofs.Levels.{prim_is, unary_is}
use Rattle.sl_grammar.proofs.Got.{Got, got_bind, got_front, got_more, got_past, at_front, token, Lacks, not_after, many_more, many_none, got_both, tokens_for, tokens_for_is}
use Rattle.sl_grammar.proofs.ExprFronts.{is_paren, Front, front_of, lacks_paren, opens_not_closed, spaced}
use Rattle.sl_grammar.proofs.Rises.{Same, from_unary, reader, no_link, loosened, tightens}

abbrev PrimRead : S.Expr → Type 0
PrimRead e =
    (levels : ℕ) → within e ≤ levels → (ks : List TokenKind) → Ends 0 ks → (ts : List Token) → kinds_of ts ≡ spelled e ++ ks
    → Got (prim_with (expr_at levels) (typed_at levels) ts) (Same e ks)

abbrev IsRead : S.Expr → Type 0
IsRead e =
    (levels loose : ℕ) → looseness e ≤ loose → loose ≤ 10 → within e ≤ levels → (ks : List TokenKind) → Ends loose ks → (ts : List Token) → kinds_of ts ≡ spelled e ++ ks
    → Got (reader levels loose ts) (Same e ks)

abbrev pub WholeRead : S.Expr → Type 0
WholeRead e =
    (levels : ℕ) → levels_of e ≤ levels → (ks : List TokenKind) → Ends 10 ks → (ts : List Token) → kinds_of ts ≡ spelled e ++ ks
    → Got (expr_at levels ts) (Same e ks)

few_rows : (row : Row) → rows_from row ≤ 8
few_rows rows.Or = omega arith
few_rows rows.And = omega arith
few_rows rows.Equality = omega arith
few_rows rows.Relation = omega arith
few_rows rows.Sum = omega arith
few_rows rows.Cross = omega arith
few_rows rows.Product = omega arith
few_rows rows.Dot = omega arith

loosest : (e : S.Expr) → looseness e ≤ 10
loosest (S.number text line) = omega arith
loosest (S.string text line) = omega arith
loosest (S.name text line) = omega arith
loosest (S.call text args line) = omega arith
loosest (S.paren e line) = omega arith
loosest (S.triple kind space x y z line) = omega arith
loosest (S.typed kind space e line) = omega arith
loosest (S.prefixed operator e line) = omega arith
loosest (S.chain row e rest) = let b = few_rows row in omega (arith, b)
loosest (S.choice t e f line) = omega arith

whole : (e : S.Expr) → IsRead e → WholeRead e
whole e r zero w ks h ts t = absurd (omega (arith, w))
whole e r (suc levels) w ks h ts t = r levels 10 (loosest e) (omega arith) (omega (arith, w)) ks h ts t

no_prefix : (e : S.Expr) → Front e → (ks : List TokenKind) (ts : List Token) → kinds_of ts ≡ spelled e ++ ks → prefix_at ts ≡ None
no_prefix e f ks ts t =
    at_front ts f.kind (f.tail ++ ks) (t ∙ ap (λ js. js ++ ks) f.is) (λ ts. prefix_at ts ≡ None) (λ line rest r. ap (λ o. option_map (λ p. (p, line, rest)) o) f.plain)

-- what stands between operators is read where anything looser may stand
from_prim : (e : S.Expr) → Front e → PrimRead e → IsRead e
from_prim e f r levels zero l b w ks h ts t = subst (λ p. Got (p ts) (Same e ks)) (sym (prim_is levels)) (r levels w ks h ts t)
from_prim e f r levels (suc k) l b w ks h ts t =
    let low : Ends 0 ks = tightens e ks levels ts 0 (suc k) ks (omega arith) h in
    let g : Got (prim_at levels ts) (Same e ks) = subst (λ p. Got (p ts) (Same e ks)) (sym (prim_is levels)) (r levels w ks low ts t) in
    loosened e ks levels ts 0 k (omega arith) (omega (arith, b)) (tightens e ks levels ts (1 + k) (suc k) ks (omega arith) h)
    (subst (λ p. Got (p ts) (Same e ks)) (sym (unary_is levels))
    (subst (λ o. Got (unary_then (prim_at levels) (operand_at levels) ts o) (Same e ks)) (sym (no_prefix e f ks ts t)) g))

number_read : (text : List ℕ) (line : ℕ) → PrimRead (S.number text line)
number_read text line levels w ks h ts t =
    at_front ts (kinds.Number text) ks t (λ ts. Got (prim_with (expr_at levels) (typed_at levels) ts) (Same (S.number text line) ks)) (λ at rest r. (refl, r))

string_read : (text : List ℕ) (line : ℕ) → PrimRead (S.string text line)
string_read text line levels w ks h ts t =
    at_front ts (kinds.Str text) ks t (λ ts. Got (prim_with (expr_at levels) (typed_at levels) ts) (Same (S.string text line) ks)) (λ at rest r. (refl, r))

name_read : (text : List ℕ) (line : ℕ) → PrimRead (S.name text line)
name_read text line levels w ks h ts t =
    at_front ts (kinds.Name text) ks t (λ ts. Got (prim_with (expr_at levels) (typed_at levels) ts) (Same (S.name text line) ks)) (λ at rest r.
    subst (λ o. Got (name_then (expr_at levels) text at rest o) (Same (S.name text line) ks))
    (sym (not_after (is_mark LeftParen) rest (subst (Lacks (is_mark LeftParen)) (sym r) (lacks_paren ks h)))) (refl, r))

-- arguments
abbrev amount : S.Exprs → ℕ
amount S.none = 0
amount (S.more e rest) = 1 + amount rest

abbrev SameArgs : S.Exprs → List TokenKind → List S.Expr → List Token → Type 0
SameArgs args ks xs rest = (bare_args (S.exprs xs) ≡ bare_args args) × (kinds_of rest ≡ ks)

abbrev ArgsRead : S.Exprs → Type 0
ArgsRead args =
    (levels : ℕ) → within_args args ≤ levels → (ks : List TokenKind) (ts : List Token) → kinds_of ts ≡ spelled_args args ++ (kinds.Mark RightParen ∷ ks)
    → Got (args_in (expr_at levels) ts) (SameArgs args ks)

abbrev MoreRead : S.Exprs → Type 0
MoreRead args =
    (levels : ℕ) → within_args args ≤ levels → (ks : List TokenKind) (turns : ℕ) (ts : List Token) → amount args ≤ turns
    → kinds_of ts ≡ spelled_more args ++ (kinds.Mark RightParen ∷ ks)
    → Got (many (after_comma (expr_at levels)) turns ts) (SameArgs args (kinds.Mark RightParen ∷ ks))

ends_more : (args : S.Exprs) (ks : List TokenKind) → Ends 10 (spelled_more args ++ (kinds.Mark RightParen ∷ ks))
ends_more S.none ks = omega arith
ends_more (S.more e rest) ks = omega arith

amount_within : (args : S.Exprs) (ks : List TokenKind) → amount args ≤ length (spelled_more args ++ ks)
amount_within S.none ks = omega arith
amount_within (S.more e rest) ks =
    let i = amount_within rest ks in
    let l = length-append (spelled e) (spelled_more rest ++ ks) in
    let a = ap length (append_assoc (spelled e) (spelled_more rest) ks) in
    omega (arith, i, l, a)

pub kinds_length : (ts : List Token) (ks : List TokenKind) → kinds_of ts ≡ ks → length ts ≡ length ks
kinds_length ts ks e = sym (length-map ts (λ t. t.kind)) ∙ ap length e

more_none : MoreRead S.none
more_none levels w ks turns ts l t =
    many_none (after_comma (expr_at levels)) turns ts
    (at_front ts (kinds.Mark RightParen) ks t (λ ts. after_comma (expr_at levels) ts ≡ None) (λ line rest r. refl))
    (SameArgs S.none (kinds.Mark RightParen ∷ ks)) (refl, t)

more_one : (e : S.Expr) (rest : S.Exprs) → WholeRead e → MoreRead rest → MoreRead (S.more e rest)
more_one e rest r m levels w ks zero ts l t = absurd (omega (arith, l))
more_one e rest r m levels w ks (suc turns) ts l t =
    let after = spelled_more rest ++ (kinds.Mark RightParen ∷ ks) in
    at_front ts (kinds.Mark Comma) ((spelled e ++ spelled_more rest) ++ (kinds.Mark RightParen ∷ ks)) t
    (λ ts. Got (many (after_comma (expr_at levels)) (suc turns) ts) (SameArgs (S.more e rest) (kinds.Mark RightParen ∷ ks))) (λ line us u.
    many_more (after_comma (expr_at levels)) turns (token (kinds.Mark Comma) line ∷ us) (expr_at levels us) refl (Same e after) (SameArgs (S.more e rest) (kinds.Mark RightParen ∷ ks))
    (r levels (omega (arith, w)) after (ends_more rest ks) us (u ∙ append_assoc (spelled e) (spelled_more rest) (kinds.Mark RightParen ∷ ks)))
    (λ x vs p.
    got_more (many (after_comma (expr_at levels)) turns vs) (SameArgs rest (kinds.Mark RightParen ∷ ks)) (λ xs left. SameArgs (S.more e rest) (kinds.Mark RightParen ∷ ks) (x ∷ xs) left)
    (m levels (omega (arith, w)) ks turns vs (omega (arith, l)) p.1)
    (λ xs left q. (ap (λ y. S.more y (bare_args (S.exprs xs))) p.0 ∙ ap (λ ys. S.more (bare e) ys) q.0, q.1))))

args_none : ArgsRead S.none
args_none levels w ks ts t =
    at_front ts (kinds.Mark RightParen) ks t (λ ts. Got (args_in (expr_at levels) ts) (SameArgs S.none ks)) (λ line rest r. (refl, r))

args_some : (e : S.Expr) (rest : S.Exprs) → WholeRead e → MoreRead rest → ArgsRead (S.more e rest)
args_some e rest r m levels w ks ts t =
    let close = kinds.Mark RightParen ∷ ks in
    let after = spelled_more rest ++ close in
    let u : kinds_of ts ≡ spelled e ++ after = t ∙ append_assoc (spelled e) (spelled_more rest) close in
    let item = expr_at levels in
    subst (λ o. Got (args_with item ts o) (SameArgs (S.more e rest) ks)) (sym (not_after (is_mark RightParen) ts (subst (Lacks (is_mark RightParen)) (sym u) (opens_not_closed e after))))
    (got_bind (commas item ts) (λ args. past RightParen args.1 λ rest. Ok (args.0, rest)) (SameArgs (S.more e rest) close) (SameArgs (S.more e rest) ks)
    (got_bind (item ts) (λ x. with_front (x.0 ∷ []) (many (after_comma item) (length x.1) x.1)) (Same e after) (SameArgs (S.more e rest) close)
    (r levels (omega (arith, w)) after (ends_more rest ks) ts u) (λ x p.
    let n = kinds_length x.1 after p.1 in
    let a = amount_within rest close in
    got_front x.0 (many (after_comma item) (length x.1) x.1) (SameArgs rest close) (SameArgs (S.more e rest) close) (m levels (omega (arith, w)) ks (length x.1) x.1 (omega (arith, n, a)) p.1)
    (λ xs left q. (ap (λ y. S.more y (bare_args (S.exprs xs))) p.0 ∙ ap (λ ys. S.more (bare e) ys) q.0, q.1))))
    (λ x p. got_past RightParen x.1 ks (λ rest. Ok (x.0, rest)) (SameArgs (S.more e rest) ks) p.1 (λ left v. (p.0, v))))

call_read : (text : List ℕ) (args : S.Exprs) (line : ℕ) → ArgsRead args → PrimRead (S.call text args line)
call_read text args line a levels w ks h ts t =
    let inner = (spelled_args args ++ (kinds.Mark RightParen ∷ [])) ++ ks in
    let Q = Same (S.call text args line) ks in
    at_front ts (kinds.Name text) (kinds.Mark LeftParen ∷ inner) t (λ ts. Got (prim_with (expr_at levels) (typed_at levels) ts) Q) (λ at rest r.
    at_front rest (kinds.Mark LeftParen) inner r (λ us. Got (name_then (expr_at levels) text at us (rest_after (is_mark LeftParen) us)) Q) (λ second inside i.
    got_bind (args_in (expr_at levels) inside) (λ args. Ok (S.call text (S.exprs args.0) at, args.1)) (SameArgs args ks) Q
    (a levels w ks inside (i ∙ append_assoc (spelled_args args) (kinds.Mark RightParen ∷ []) ks)) (λ x p. (ap (λ ys. S.call text ys 0) p.0, p.1))))

paren_read : (e : S.Expr) (line : ℕ) → WholeRead e → PrimRead (S.paren e line)
paren_read e line r levels w ks h ts t =
    let inner = (spelled e ++ (kinds.Mark RightParen ∷ [])) ++ ks in
    let Q = Same (S.paren e line) ks in
    at_front ts (kinds.Mark LeftParen) inner t (λ ts. Got (prim_with (expr_at levels) (typed_at levels) ts) Q) (λ at inside i.
    got_bind (expr_at levels inside) (λ e. past RightParen e.1 λ rest. Ok (S.paren e.0 at, rest)) (Same e (kinds.Mark RightParen ∷ ks)) Q
    (r levels (omega (arith, w)) (kinds.Mark RightParen ∷ ks) (omega arith) inside (i ∙ append_assoc (spelled e) (kinds.Mark RightParen ∷ []) ks)) (λ x p.
    got_past RightParen x.1 ks (λ rest. Ok (S.paren x.0 at, rest)) Q p.1 (λ rest v. (ap (λ y. S.paren y 0) p.0, v))))

-- after a type
space_bare : (s space : Option Space) (e x : S.Expr) (kind : SlType) → bare_space s ≡ bare_space space → bare x ≡ bare e → S.typed kind (bare_space s) (bare x) 0 ≡ S.typed kind (bare_space space) (bare e) 0
space_bare s space e x kind b p = ap (λ o. S.typed kind o (bare x) 0) b ∙ ap (λ y. S.typed kind (bare_space space) y 0) p

typed_read : (kind : SlType) (space : Option Space) (e : S.Expr) (line : ℕ) → looseness e ≡ 0 → is_paren e ≡ false → IsRead e → PrimRead (S.typed kind space e line)
typed_read kind space e line z n r zero w ks h ts t = absurd (omega (arith, w))
typed_read kind space e line z n r (suc levels) w ks h ts t =
    let f = front_of e z in
    let us = f.tail ++ ks in
    let Q = Same (S.typed kind space e line) ks in
    let expr = expr_at levels in
    let prim = prim_at levels in
    at_front ts (kinds.Type kind) ((spelled_space space ++ spelled e) ++ ks) t (λ ts. Got (prim_with (expr_at (suc levels)) (typed_at (suc levels)) ts) Q) (λ at rest i.
    spaced expr prim kind at space f.kind us f.value (λ line rest e. f.alone ks h line rest (token f.kind line ∷ rest) e) rest
    (i ∙ append_assoc (spelled_space space) (spelled e) ks ∙ ap (λ js. spelled_space space ++ (js ++ ks)) f.is) Q (λ s vs b v.
    subst (λ o. Got (value_then expr prim kind s at vs o) Q)
    (sym (at_front vs f.kind us v (λ vs. line_and_rest LeftParen vs ≡ None) (λ line rest e. ap (λ b. cond b (Some (line, rest)) None) (f.unopened n))))
    (got_bind (prim vs) (λ e. Ok (S.typed kind s e.0 at, e.1)) (Same e ks) Q
    (r levels 0 (omega (arith, z)) (omega arith) (omega (arith, w)) ks h vs (v ∙ ap (λ js. js ++ ks) (sym f.is)))
    (λ x p. (space_bare s space e x.0 kind b p.0, p.1)))))

typed_paren_read : (kind : SlType) (space : Option Space) (e : S.Expr) (inner line : ℕ) → WholeRead e → PrimRead (S.typed kind space (S.paren e inner) line)
typed_paren_read kind space e inner line r zero w ks h ts t = absurd (omega (arith, w))
typed_paren_read kind space e inner line r (suc levels) w ks h ts t =
    let close = kinds.Mark RightParen ∷ [] in
    let us = (spelled e ++ close) ++ ks in
    let Q = Same (S.typed kind space (S.paren e inner) line) ks in
    let expr = expr_at levels in
    let prim = prim_at levels in
    at_front ts (kinds.Type kind) ((spelled_space space ++ (kinds.Mark LeftParen ∷ (spelled e ++ close))) ++ ks) t (λ ts. Got (prim_with (expr_at (suc levels)) (typed_at (suc levels)) ts) Q) (λ at rest i.
    spaced expr prim kind at space (kinds.Mark LeftParen) us refl (λ line rest e. refl) rest
    (i ∙ append_assoc (spelled_space space) (kinds.Mark LeftParen ∷ (spelled e ++ close)) ks) Q (λ s vs b v.
    at_front vs (kinds.Mark LeftParen) us v (λ vs. Got (value_then expr prim kind s at vs (line_and_rest LeftParen vs)) Q) (λ opened inside j.
    got_bind (expr inside) (λ x. triple_then expr kind s at opened x.0 x.1 (rest_after (is_mark Comma) x.1)) (Same e (kinds.Mark RightParen ∷ ks)) Q
    (r levels (omega (arith, w)) (kinds.Mark RightParen ∷ ks) (omega arith) inside (j ∙ append_assoc (spelled e) close ks)) (λ x p.
    at_front x.1 (kinds.Mark RightParen) ks p.1 (λ ws. Got (triple_then expr kind s at opened x.0 ws (rest_after (is_mark Comma) ws)) Q) (λ closed left m.
    (space_bare s space (S.paren e 0) (S.paren x.0 0) kind b (ap (λ y. S.paren y 0) p.0), m))))))

triple_bare : (s space : Option Space) (a b c x y z : S.Expr) (kind : SlType) → bare_space s ≡ bare_space space → bare a ≡ bare x → bare b ≡ bare y → bare c ≡ bare z
    → S.triple kind (bare_space s) (bare a) (bare b) (bare c) 0 ≡ S.triple kind (bare_space space) (bare x) (bare y) (bare z) 0
triple_bare s space a b c x y z kind d p q r =
    ap (λ o. S.triple kind o (bare a) (bare b) (bare c) 0) d
    ∙ ap (λ e. S.triple kind (bare_space space) e (bare b) (bare c) 0) p
    ∙ ap (λ e. S.triple kind (bare_space space) (bare x) e (bare c) 0) q
    ∙ ap (λ e. S.triple kind (bare_space space) (bare x) (bare y) e 0) r

triple_read : (kind : SlType) (space : Option Space) (x y z : S.Expr) (line : ℕ) → WholeRead x → WholeRead y → WholeRead z → PrimRead (S.triple kind space x y z line)
triple_read kind space x y z line rx ry rz zero w ks h ts t = absurd (omega (arith, w))
triple_read kind space x y z line rx ry rz (suc levels) w ks h ts t =
    let close = kinds.Mark RightParen ∷ [] in
    let third = kinds.Mark Comma ∷ (spelled z ++ close) in
    let second = kinds.Mark Comma ∷ (spelled y ++ third) in
    let us = (spelled x ++ second) ++ ks in
    let Q = Same (S.triple kind space x y z line) ks in
    let expr = expr_at levels in
    let prim = prim_at levels in
    at_front ts (kinds.Type kind) ((spelled_space space ++ (kinds.Mark LeftParen ∷ (spelled x ++ second))) ++ ks) t (λ ts. Got (prim_with (expr_at (suc levels)) (typed_at (suc levels)) ts) Q) (λ at rest i.
    spaced expr prim kind at space (kinds.Mark LeftParen) us refl (λ line rest e. refl) rest
    (i ∙ append_assoc (spelled_space space) (kinds.Mark LeftParen ∷ (spelled x ++ second)) ks) Q (λ s vs d v.
    at_front vs (kinds.Mark LeftParen) us v (λ vs. Got (value_then expr prim kind s at vs (line_and_rest LeftParen vs)) Q) (λ opened inside j.
    got_bind (expr inside) (λ x. triple_then expr kind s at opened x.0 x.1 (rest_after (is_mark Comma) x.1)) (Same x (second ++ ks)) Q
    (rx levels (omega (arith, w)) (second ++ ks) (omega arith) inside (j ∙ append_assoc (spelled x) second ks)) (λ a p.
    at_front a.1 (kinds.Mark Comma) ((spelled y ++ third) ++ ks) p.1 (λ ws. Got (triple_then expr kind s at opened a.0 ws (rest_after (is_mark Comma) ws)) Q) (λ comma after_x m.
    got_bind (expr after_x) (λ y. past Comma y.1 λ after_y. expr after_y >>= λ z. past RightParen z.1 λ rest. Ok (S.triple kind s a.0 y.0 z.0 at, rest)) (Same y (third ++ ks)) Q
    (ry levels (omega (arith, w)) (third ++ ks) (omega arith) after_x (m ∙ append_assoc (spelled y) third ks)) (λ b q.
    got_past Comma b.1 ((spelled z ++ close) ++ ks) (λ after_y. expr after_y >>= λ z. past RightParen z.1 λ rest. Ok (S.triple kind s a.0 b.0 z.0 at, rest)) Q q.1 (λ after_y u.
    got_bind (expr after_y) (λ z. past RightParen z.1 λ rest. Ok (S.triple kind s a.0 b.0 z.0 at, rest)) (Same z (close ++ ks)) Q
    (rz levels (omega (arith, w)) (close ++ ks) (omega arith) after_y (u ∙ append_assoc (spelled z) close ks)) (λ c o.
    got_past RightParen c.1 ks (λ rest. Ok (S.triple kind s a.0 b.0 c.0 at, rest)) Q o.1 (λ left f. (triple_bare s space a.0 b.0 c.0 x y z kind d p.0 q.0 o.0, f))))))))))

-- after a prefix operator
prefix_of : (p : Prefix) → prefix_in (spelled_prefix p) ≡ Some p
prefix_of prefixes.Negative = refl
prefix_of prefixes.Not = refl

prefixed_at : (operator : Prefix) (e : S.Expr) (line : ℕ) → looseness e ≤ 1 → IsRead e → (levels : ℕ) → 1 + within e ≤ levels → (ks : List TokenKind) → Ends 1 ks → (ts : List Token)
    → kinds_of ts ≡ spelled_prefix operator ∷ (spelled e ++ ks) → Got (unary_at levels ts) (Same (S.prefixed operator e line) ks)
prefixed_at operator e line l r zero w ks h ts t = absurd (omega (arith, w))
prefixed_at operator e line l r (suc levels) w ks h ts t =
    let Q = Same (S.prefixed operator e line) ks in
    at_front ts (spelled_prefix operator) (spelled e ++ ks) t (λ ts. Got (unary_at (suc levels) ts) Q) (λ at rest i.
    let here = token (spelled_prefix operator) at ∷ rest in
    subst (λ o. Got (unary_then (prim_at (suc levels)) (operand_at (suc levels)) here (option_map (λ p. (p, at, rest)) o)) Q) (sym (prefix_of operator))
    (got_bind (unary_at levels rest) (λ e. Ok (S.prefixed operator e.0 at, e.1)) (Same e ks) Q (r levels 1 l (omega arith) (omega (arith, w)) ks h rest i)
    (λ x p. (ap (λ y. S.prefixed operator y 0) p.0, p.1))))

prefixed_read : (operator : Prefix) (e : S.Expr) (line : ℕ) → looseness e ≤ 1 → IsRead e → IsRead (S.prefixed operator e line)
prefixed_read operator e line l r levels zero o b w ks h ts t = absurd (omega (arith, o))
prefixed_read operator e line l r levels (suc k) o b w ks h ts t =
    let whole = S.prefixed operator e line in
    loosened whole ks levels ts 0 k (omega arith) (omega (arith, b)) (tightens whole ks levels ts (1 + k) (suc k) ks (omega arith) h)
    (prefixed_at operator e line l r levels w ks (tightens whole ks levels ts 1 (suc k) ks (omega arith) h) ts t)

-- chains
abbrev SameLinks : S.Links → List TokenKind → List S.Link → List Token → Type 0
SameLinks ls ks xs rest = (bare_links (S.links xs) ≡ bare_links ls) × (kinds_of rest ≡ ks)

abbrev LinksRead : Row → S.Links → Type 0
LinksRead row ls =
    (levels : ℕ) → within_links ls ≤ levels → (ks : List TokenKind) → Ends (1 + rows_from row) ks → (turns : ℕ) (ts : List Token) → count ls ≤ turns
    → kinds_of ts ≡ spelled_links ls ++ ks → Got (many (next_link row (reader levels (rows_from row))) turns ts) (SameLinks ls ks)

same_row_self : (row : Row) → same_row row row ≡ true
same_row_self rows.Or = refl
same_row_self rows.And = refl
same_row_self rows.Equality = refl
same_row_self rows.Relation = refl
same_row_self rows.Sum = refl
same_row_self rows.Cross = refl
same_row_self rows.Product = refl
same_row_self rows.Dot = refl

links_end : (row : Row) → LinksRead row S.end
links_end row levels w ks h turns ts l t =
    let operand = reader levels (rows_from row) in
    many_none (next_link row operand) turns ts (no_link row operand ts (subst (Ends (1 + rows_from row)) (sym t) h)) (SameLinks S.end ks) (refl, t)

-- an operand ends before the operator after it
ends_links : (row : Row) (ls : S.Links) → GrammaticalLinks row ls → (ks : List TokenKind) → Ends (1 + rows_from row) ks → Ends (rows_from row) (spelled_links ls ++ ks)
ends_links row S.end f [] h = tt
ends_links row S.end f (k ∷ ks) h = omega (arith, h)
ends_links row (S.link operator line e rest) f ks h = let is = ap rows_from f.0 in omega (arith, is)

links_one : (row : Row) (operator : Operator) (line : ℕ) (e : S.Expr) (rest : S.Links) → row_of operator ≡ row → looseness e ≤ rows_from row → GrammaticalLinks row rest
    → IsRead e → LinksRead row rest → LinksRead row (S.link operator line e rest)
links_one row operator line e rest on low f r m levels w ks h zero ts l t = absurd (omega (arith, l))
links_one row operator line e rest on low f r m levels w ks h (suc turns) ts l t =
    let operand = reader levels (rows_from row) in
    let step = next_link row operand in
    let Q = SameLinks (S.link operator line e rest) ks in
    let after = spelled_links rest ++ ks in
    let few = few_rows row in
    at_front ts (kinds.Operator operator) ((spelled e ++ spelled_links rest) ++ ks) t (λ ts. Got (many step (suc turns) ts) Q) (λ at us u.
    let here : same_row row (row_of operator) ≡ true = subst (λ x. same_row row x ≡ true) (sym on) (same_row_self row) in
    let next : step (token (kinds.Operator operator) at ∷ us) ≡ Some (link operand (operator, at, us)) =
    ap (λ b. option_map (link operand) (option_map (λ o. (o, at, us)) (cond b (Some operator) None))) here in
    many_more step turns (token (kinds.Operator operator) at ∷ us) (link operand (operator, at, us)) next
    (λ x vs. ((x.operator ≡ operator) × (bare x.operand ≡ bare e)) × (kinds_of vs ≡ after)) Q
    (got_bind (operand us) (λ e. Ok (record { operator = operator; line = at; operand = e.0 }, e.1)) (Same e after) (λ x vs. ((x.operator ≡ operator) × (bare x.operand ≡ bare e)) × (kinds_of vs ≡ after))
    (r levels (rows_from row) low (omega (arith, few)) (omega (arith, w)) after (ends_links row rest f ks h) us (u ∙ append_assoc (spelled e) (spelled_links rest) ks))
    (λ x p. ((refl, p.0), p.1)))
    (λ x vs p.
    got_more (many step turns vs) (SameLinks rest ks) (λ xs left. Q (x ∷ xs) left) (m levels (omega (arith, w)) ks h turns vs (omega (arith, l)) p.1)
    (λ xs left q. (
      ap (λ o. S.link o 0 (bare x.operand) (bare_links (S.links xs))) p.0.0
          ∙ ap (λ y. S.link operator 0 y (bare_links (S.links xs))) p.0.1
          ∙ ap (λ ys. S.link operator 0 (bare e) ys) q.0,
      q.1,
    ))))

chained : (row : Row) (e x : S.Expr) (ls : S.Links) (xs : List S.Link) → 1 ≤ count ls → bare x ≡ bare e → bare_links (S.links xs) ≡ bare_links ls
    → bare (chain_of row x xs) ≡ S.chain row (bare e) (bare_links ls)
chained row e x S.end xs l p q = absurd (omega (arith, l))
chained row e x (S.link operator line f rest) [] l p q = absurd (cc q)
chained row e x (S.link operator line f rest) (y ∷ ys) l p q =
    ap (λ z. S.chain row z (bare_links (S.links (y ∷ ys)))) p ∙ ap (λ zs. S.chain row (bare e) zs) q

turns_enough : (single : Bool) (c n : ℕ) → c ≤ cond single 1 c → c ≤ n → c ≤ cond single 1 n
turns_enough true c n one all = one
turns_enough false c n one all = all

count_within : (ls : S.Links) (ks : List TokenKind) → count ls ≤ length (spelled_links ls ++ ks)
count_within S.end ks = omega arith
count_within (S.link operator line e rest) ks =
    let i = count_within rest ks in
    let l = length-append (spelled e) (spelled_links rest ++ ks) in
    let a = ap length (append_assoc (spelled e) (spelled_links rest) ks) in
    omega (arith, i, l, a)

at_row : (levels : ℕ) (row : Row) → from_unary levels (rows_from row) ≡ chain row (reader levels (rows_from row))
at_row levels rows.Or = refl
at_row levels rows.And = refl
at_row levels rows.Equality = refl
at_row levels rows.Relation = refl
at_row levels rows.Sum = refl
at_row levels rows.Cross = refl
at_row levels rows.Product = refl
at_row levels rows.Dot = refl

chain_read : (row : Row) (e : S.Expr) (ls : S.Links) → looseness e ≤ rows_from row → 1 ≤ count ls → count ls ≤ most_links row (count ls) → GrammaticalLinks row ls
    → IsRead e → LinksRead row ls → IsRead (S.chain row e ls)
chain_read row e ls low some single f r m levels zero o b w ks h ts t = absurd (omega (arith, o))
chain_read row e ls low some single f r m levels (suc k) o b w ks h ts t =
    let whole = S.chain row e ls in
    let operand = reader levels (rows_from row) in
    let after = spelled_links ls ++ ks in
    let few = few_rows row in
    let ends : Ends (1 + rows_from row) ks = tightens whole ks levels ts (1 + rows_from row) (suc k) ks (omega (arith, o)) h in
    loosened whole ks levels ts (rows_from row) k (omega (arith, o)) (omega (arith, b)) (tightens whole ks levels ts (1 + k) (suc k) ks (omega arith) h)
    (subst (λ p. Got (p ts) (Same whole ks)) (sym (at_row levels row))
    (got_bind (operand ts) (λ first. links_in row operand first.1 >>= λ links. Ok (chain_of row first.0 links.0, links.1)) (Same e after) (Same whole ks)
    (r levels (rows_from row) low (omega (arith, few)) (omega (arith, w)) after (ends_links row ls f ks ends) ts (t ∙ append_assoc (spelled e) (spelled_links ls) ks)) (λ x p.
    let n = kinds_length x.1 after p.1 in
    let c = count_within ls ks in
    got_bind (links_in row operand x.1) (λ links. Ok (chain_of row x.0 links.0, links.1)) (SameLinks ls ks) (Same whole ks)
    (m levels (omega (arith, w)) ks ends (most_links row (length x.1)) x.1 (turns_enough (is_single row) (count ls) (length x.1) single (omega (arith, n, c))) p.1) (λ y q.
    (chained row e x.0 ls y.0 some p.0 q.0, q.1)))))

-- a choice
choice_here : (c e f : S.Expr) (line : ℕ) → looseness c ≤ 9 → IsRead c → WholeRead e → WholeRead f → (levels : ℕ) → within (S.choice c e f line) ≤ levels
    → (ks : List TokenKind) → Ends 10 ks → (ts : List Token) → kinds_of ts ≡ spelled (S.choice c e f line) ++ ks → Got (reader levels 10 ts) (Same (S.choice c e f line) ks)
choice_here c e f line low rc re rf levels w ks h ts t =
    let Q = Same (S.choice c e f line) ks in
    let expr = expr_at levels in
    let second = kinds.Mark Colon ∷ spelled f in
    let first = kinds.Mark Question ∷ (spelled e ++ second) in
    got_bind (reader levels 9 ts) (λ test. choice_then expr test.0 test.1 (line_and_rest Question test.1)) (Same c (first ++ ks)) Q
    (rc levels 9 low (omega arith) (omega (arith, w)) (first ++ ks) (omega arith) ts (t ∙ append_assoc (spelled c) first ks)) (λ x p.
    at_front x.1 (kinds.Mark Question) ((spelled e ++ second) ++ ks) p.1 (λ us. Got (choice_then expr x.0 us (line_and_rest Question us)) Q) (λ at rest i.
    got_bind (expr rest) (λ first. past Colon first.1 λ rest. expr rest >>= λ second. Ok (S.choice x.0 first.0 second.0 at, second.1)) (Same e (second ++ ks)) Q
    (re levels (omega (arith, w)) (second ++ ks) (omega arith) rest (i ∙ append_assoc (spelled e) second ks)) (λ y q.
    got_past Colon y.1 (spelled f ++ ks) (λ rest. expr rest >>= λ second. Ok (S.choice x.0 y.0 second.0 at, second.1)) Q q.1 (λ left u.
    got_bind (expr left) (λ second. Ok (S.choice x.0 y.0 second.0 at, second.1)) (Same f ks) Q (rf levels (omega (arith, w)) ks h left u) (λ z o.
    (ap (λ a. S.choice a (bare y.0) (bare z.0) 0) p.0 ∙ ap (λ a. S.choice (bare c) a (bare z.0) 0) q.0 ∙ ap (λ a. S.choice (bare c) (bare e) a 0) o.0, o.1))))))

choice_read : (c e f : S.Expr) (line : ℕ) → looseness c ≤ 9 → IsRead c → WholeRead e → WholeRead f → IsRead (S.choice c e f line)
choice_read c e f line low rc re rf levels loose o b w ks h ts t =
    let is : 10 ≡ loose = omega (arith, o, b) in
    subst (λ n. Got (reader levels n ts) (Same (S.choice c e f line) ks)) is
    (choice_here c e f line low rc re rf levels w ks (tightens c ks levels ts 10 loose ks o h) ts t)

mutual
  read : (e : S.Expr) → Grammatical e → IsRead e
  read (S.number text line) g = from_prim (S.number text line) (front_of (S.number text line) refl) (number_read text line)
  read (S.string text line) g = from_prim (S.string text line) (front_of (S.string text line) refl) (string_read text line)
  read (S.name text line) g = from_prim (S.name text line) (front_of (S.name text line) refl) (name_read text line)
  read (S.call text args line) g = from_prim (S.call text args line) (front_of (S.call text args line) refl) (call_read text args line (read_args args g))
  read (S.paren e line) g = from_prim (S.paren e line) (front_of (S.paren e line) refl) (paren_read e line (whole e (read e g)))
  read (S.triple kind space x y z line) g =
      from_prim (S.triple kind space x y z line) (front_of (S.triple kind space x y z line) refl)
      (triple_read kind space x y z line (whole x (read x g.0)) (whole y (read y g.1.0)) (whole z (read z g.1.1)))
  read (S.typed kind space (S.paren e inner) line) g =
      from_prim (S.typed kind space (S.paren e inner) line) (front_of (S.typed kind space (S.paren e inner) line) refl)
      (typed_paren_read kind space e inner line (whole e (read e g.1)))
  read (S.typed kind space e line) g =
      from_prim (S.typed kind space e line) (front_of (S.typed kind space e line) refl) (typed_read kind space e line g.0 refl (read e g.1))
  read (S.prefixed operator e line) g = prefixed_read operator e line g.0 (read e g.1)
  read (S.chain row e rest) g = chain_read row e rest g.0.0 g.1.0.0 g.1.0.1 g.1.1 (read e g.0.1) (read_links row rest g.1.1)
  read (S.choice t e f line) g = choice_read t e f line g.0.0 (read t g.0.1) (whole e (read e g.1.0)) (whole f (read f g.1.1))

  read_args : (args : S.Exprs) → GrammaticalArgs args → ArgsRead args
  read_args S.none g = args_none
  read_args (S.more e rest) g = args_some e rest (whole e (read e g.0)) (read_more rest g.1)

  read_more : (args : S.Exprs) → GrammaticalArgs args → MoreRead args
  read_more S.none g = more_none
  read_more (S.more e rest) g = more_one e rest (whole e (read e g.0)) (read_more rest g.1)

  read_links : (row : Row) (ls : S.Links) → GrammaticalLinks row ls → LinksRead row ls
  read_links row S.end g = links_end row
  read_links row (S.link operator line e rest) g = links_one row operator line e rest g.0 g.1.0.0 g.1.1 (read e g.1.0.1) (read_links row rest g.1.1)

pub whole_read : (e : S.Expr) → Grammatical e → WholeRead e
whole_read e g = whole e (read e g)

pub spelled_once : (a b : S.Expr) → Grammatical a → Grammatical b → spelled a ≡ spelled b → bare a ≡ bare b
spelled_once a b f g e =
    let levels = levels_of a + levels_of b in
    let ts = tokens_for (spelled a) in
    let t : kinds_of ts ≡ spelled a ++ [] = tokens_for_is (spelled a) ∙ sym (append-nil (spelled a)) in
    got_both (expr_at levels ts) (Same a []) (Same b []) (bare a ≡ bare b)
    (whole_read a f levels (omega arith) [] tt ts t) (whole_read b g levels (omega arith) [] tt ts (t ∙ ap (λ ks. ks ++ []) e))
    (λ x rest p q. sym p.0 ∙ q.0)
