-- What the front of tokens shows.
use Rattle.std.proofs.Common.{◌≡◌, ℕ, ◌∷◌, [], ◌++◌, List, Option, Some, None, Bool, true, false, cond, refl, ap, ◌∙◌}
use Rattle.std.specs.Prelude.{option_map}
use Rattle.sl_ast.specs.declared.kinds.Operator.{Operator}
use Rattle.sl_ast.specs.declared.kinds.Row.{Row}
use Rattle.sl_lexer.specs.declared.token.Token.{Token}
use Rattle.sl_lexer.specs.declared.token.TokenKind.{TokenKind}
use Rattle.sl_lexer.specs.declared.token.TokenKind.TheVariants as kinds
use Rattle.sl_lexer.specs.declared.token.Mark.{Mark}
use Rattle.sl_lexer.specs.declared.token.Mark.TheVariants as marks
use Rattle.sl_ast.specs.declared.kinds.Operator.TheVariants as operators
use Rattle.sl_ast.specs.declared.kinds.Prefix.{Prefix}
use Rattle.sl_ast.specs.declared.kinds.Prefix.TheVariants as prefixes
use Rattle.sl_expression_grammar.specs.Reading.{same_mark, is_mark, rest_after, line_and_rest, head_is}
use Rattle.sl_expression_grammar.specs.Expressions.{same_row, row_of, operator_in, operator_at, prefix_in, prefix_at, begins_prim, space_when, space_in, space_at}
use Rattle.sl_parser.specs.Spelled.{kinds_of, spelled_prefix, spelled_space}
use Rattle.sl_parser.proofs.Never.{not_true, not_some}

same_mark_is : (a b : Mark) → same_mark a b ≡ true → b ≡ a
same_mark_is marks.LeftParen marks.LeftParen h = refl
same_mark_is marks.LeftParen marks.RightParen h = not_true h
same_mark_is marks.LeftParen marks.LeftBrace h = not_true h
same_mark_is marks.LeftParen marks.RightBrace h = not_true h
same_mark_is marks.LeftParen marks.Semicolon h = not_true h
same_mark_is marks.LeftParen marks.Comma h = not_true h
same_mark_is marks.LeftParen marks.Question h = not_true h
same_mark_is marks.LeftParen marks.Colon h = not_true h
same_mark_is marks.RightParen marks.LeftParen h = not_true h
same_mark_is marks.RightParen marks.RightParen h = refl
same_mark_is marks.RightParen marks.LeftBrace h = not_true h
same_mark_is marks.RightParen marks.RightBrace h = not_true h
same_mark_is marks.RightParen marks.Semicolon h = not_true h
same_mark_is marks.RightParen marks.Comma h = not_true h
same_mark_is marks.RightParen marks.Question h = not_true h
same_mark_is marks.RightParen marks.Colon h = not_true h
same_mark_is marks.LeftBrace marks.LeftParen h = not_true h
same_mark_is marks.LeftBrace marks.RightParen h = not_true h
same_mark_is marks.LeftBrace marks.LeftBrace h = refl
same_mark_is marks.LeftBrace marks.RightBrace h = not_true h
same_mark_is marks.LeftBrace marks.Semicolon h = not_true h
same_mark_is marks.LeftBrace marks.Comma h = not_true h
same_mark_is marks.LeftBrace marks.Question h = not_true h
same_mark_is marks.LeftBrace marks.Colon h = not_true h
same_mark_is marks.RightBrace marks.LeftParen h = not_true h
same_mark_is marks.RightBrace marks.RightParen h = not_true h
same_mark_is marks.RightBrace marks.LeftBrace h = not_true h
same_mark_is marks.RightBrace marks.RightBrace h = refl
same_mark_is marks.RightBrace marks.Semicolon h = not_true h
same_mark_is marks.RightBrace marks.Comma h = not_true h
same_mark_is marks.RightBrace marks.Question h = not_true h
same_mark_is marks.RightBrace marks.Colon h = not_true h
same_mark_is marks.Semicolon marks.LeftParen h = not_true h
same_mark_is marks.Semicolon marks.RightParen h = not_true h
same_mark_is marks.Semicolon marks.LeftBrace h = not_true h
same_mark_is marks.Semicolon marks.RightBrace h = not_true h
same_mark_is marks.Semicolon marks.Semicolon h = refl
same_mark_is marks.Semicolon marks.Comma h = not_true h
same_mark_is marks.Semicolon marks.Question h = not_true h
same_mark_is marks.Semicolon marks.Colon h = not_true h
same_mark_is marks.Comma marks.LeftParen h = not_true h
same_mark_is marks.Comma marks.RightParen h = not_true h
same_mark_is marks.Comma marks.LeftBrace h = not_true h
same_mark_is marks.Comma marks.RightBrace h = not_true h
same_mark_is marks.Comma marks.Semicolon h = not_true h
same_mark_is marks.Comma marks.Comma h = refl
same_mark_is marks.Comma marks.Question h = not_true h
same_mark_is marks.Comma marks.Colon h = not_true h
same_mark_is marks.Question marks.LeftParen h = not_true h
same_mark_is marks.Question marks.RightParen h = not_true h
same_mark_is marks.Question marks.LeftBrace h = not_true h
same_mark_is marks.Question marks.RightBrace h = not_true h
same_mark_is marks.Question marks.Semicolon h = not_true h
same_mark_is marks.Question marks.Comma h = not_true h
same_mark_is marks.Question marks.Question h = refl
same_mark_is marks.Question marks.Colon h = not_true h
same_mark_is marks.Colon marks.LeftParen h = not_true h
same_mark_is marks.Colon marks.RightParen h = not_true h
same_mark_is marks.Colon marks.LeftBrace h = not_true h
same_mark_is marks.Colon marks.RightBrace h = not_true h
same_mark_is marks.Colon marks.Semicolon h = not_true h
same_mark_is marks.Colon marks.Comma h = not_true h
same_mark_is marks.Colon marks.Question h = not_true h
same_mark_is marks.Colon marks.Colon h = refl

pub is_mark_is : (mark : Mark) (k : TokenKind) → is_mark mark k ≡ true → k ≡ kinds.Mark mark
is_mark_is mark (kinds.Mark m) h = ap kinds.Mark (same_mark_is mark m h)
is_mark_is mark (kinds.Number x) h = not_true h
is_mark_is mark (kinds.Str x) h = not_true h
is_mark_is mark (kinds.Name x) h = not_true h
is_mark_is mark (kinds.Kind x) h = not_true h
is_mark_is mark (kinds.Class x) h = not_true h
is_mark_is mark (kinds.Type x) h = not_true h
is_mark_is mark (kinds.Word x) h = not_true h
is_mark_is mark (kinds.Operator x) h = not_true h
is_mark_is mark kinds.Not h = not_true h
is_mark_is mark (kinds.Set x) h = not_true h
is_mark_is mark kinds.Bad h = not_true h

-- what passed on a test
pub passed : {A : Type 0} (b : Bool) (x y : A) → cond b (Some x) None ≡ Some y → (b ≡ true) × (x ≡ y)
passed true x y e = (refl, cc)
passed false x y e = not_some e

some_is : {A : Type 0} (x y : A) → ◌≡◌ {A = Option A} (Some x) (Some y) → x ≡ y
some_is x y e = cc

-- what was made of an optional value
pub mapped : {A B : Type 0} (f : A → B) (o : Option A) (y : B) → option_map f o ≡ Some y → (x : A) × ((o ≡ Some x) × (f x ≡ y))
mapped f None y e = not_some e
mapped f (Some x) y e = (x, (refl, cc))

pub after_is : (p : TokenKind → Bool) (k : TokenKind) → ((j : TokenKind) → p j ≡ true → j ≡ k) → (ts rest : List Token) → rest_after p ts ≡ Some rest → kinds_of ts ≡ k ∷ kinds_of rest
after_is p k only [] rest h = not_some h
after_is p k only (t ∷ ts) rest h =
    let e = passed (p t.kind) ts rest h in ap (λ j. j ∷ kinds_of ts) (only t.kind e.0) ∙ ap (λ us. k ∷ kinds_of us) e.1

pub mark_after : (mark : Mark) (ts rest : List Token) → rest_after (is_mark mark) ts ≡ Some rest → kinds_of ts ≡ kinds.Mark mark ∷ kinds_of rest
mark_after mark ts rest h = after_is (is_mark mark) (kinds.Mark mark) (is_mark_is mark) ts rest h

pub line_after_is : (mark : Mark) (ts : List Token) (o : ℕ × List Token) → line_and_rest mark ts ≡ Some o → kinds_of ts ≡ kinds.Mark mark ∷ kinds_of o.1
line_after_is mark [] o h = not_some h
line_after_is mark (t ∷ ts) o h =
    let here : ℕ × List Token = (t.line, ts) in
    let e = passed (is_mark mark t.kind) here o h in
    ap (λ j. j ∷ kinds_of ts) (is_mark_is mark t.kind e.0) ∙ ap (λ x. kinds.Mark mark ∷ kinds_of x.1) e.1

operator_is : (row : Row) (k : TokenKind) (o : Operator) → operator_in row k ≡ Some o → k ≡ kinds.Operator o
operator_is row (kinds.Operator p) o h = ap kinds.Operator (passed (same_row row (row_of p)) p o h).1
operator_is row (kinds.Number x) o h = not_some h
operator_is row (kinds.Str x) o h = not_some h
operator_is row (kinds.Name x) o h = not_some h
operator_is row (kinds.Kind x) o h = not_some h
operator_is row (kinds.Class x) o h = not_some h
operator_is row (kinds.Type x) o h = not_some h
operator_is row (kinds.Word x) o h = not_some h
operator_is row (kinds.Mark x) o h = not_some h
operator_is row kinds.Not o h = not_some h
operator_is row (kinds.Set x) o h = not_some h
operator_is row kinds.Bad o h = not_some h

pub operator_at_is : (row : Row) (ts : List Token) (x : Operator × ℕ × List Token) → operator_at row ts ≡ Some x → kinds_of ts ≡ kinds.Operator x.0 ∷ kinds_of x.2
operator_at_is row [] x h = not_some h
operator_at_is row (t ∷ ts) x h =
    let m = mapped (λ o. (o, t.line, ts)) (operator_in row t.kind) x h in
    ap (λ j. j ∷ kinds_of ts) (operator_is row t.kind m.0 m.1.0) ∙ ap (λ y. kinds.Operator y.0 ∷ kinds_of y.2) m.1.1

prefix_is : (k : TokenKind) (p : Prefix) → prefix_in k ≡ Some p → k ≡ spelled_prefix p
prefix_is (kinds.Operator operators.Subtract) p h = ap spelled_prefix (some_is prefixes.Negative p h)
prefix_is kinds.Not p h = ap spelled_prefix (some_is prefixes.Not p h)
prefix_is (kinds.Operator operators.Or) p h = not_some h
prefix_is (kinds.Operator operators.And) p h = not_some h
prefix_is (kinds.Operator operators.Equal) p h = not_some h
prefix_is (kinds.Operator operators.NotEqual) p h = not_some h
prefix_is (kinds.Operator operators.Less) p h = not_some h
prefix_is (kinds.Operator operators.LessEqual) p h = not_some h
prefix_is (kinds.Operator operators.Greater) p h = not_some h
prefix_is (kinds.Operator operators.GreaterEqual) p h = not_some h
prefix_is (kinds.Operator operators.Add) p h = not_some h
prefix_is (kinds.Operator operators.Cross) p h = not_some h
prefix_is (kinds.Operator operators.Multiply) p h = not_some h
prefix_is (kinds.Operator operators.Divide) p h = not_some h
prefix_is (kinds.Operator operators.Dot) p h = not_some h
prefix_is (kinds.Number x) p h = not_some h
prefix_is (kinds.Str x) p h = not_some h
prefix_is (kinds.Name x) p h = not_some h
prefix_is (kinds.Kind x) p h = not_some h
prefix_is (kinds.Class x) p h = not_some h
prefix_is (kinds.Type x) p h = not_some h
prefix_is (kinds.Word x) p h = not_some h
prefix_is (kinds.Mark x) p h = not_some h
prefix_is (kinds.Set x) p h = not_some h
prefix_is kinds.Bad p h = not_some h

pub prefix_at_is : (ts : List Token) (x : Prefix × ℕ × List Token) → prefix_at ts ≡ Some x → kinds_of ts ≡ spelled_prefix x.0 ∷ kinds_of x.2
prefix_at_is [] x h = not_some h
prefix_at_is (t ∷ ts) x h =
    let m = mapped (λ o. (o, t.line, ts)) (prefix_in t.kind) x h in
    ap (λ j. j ∷ kinds_of ts) (prefix_is t.kind m.0 m.1.0) ∙ ap (λ y. spelled_prefix y.0 ∷ kinds_of y.2) m.1.1

space_when_is : (b : Bool) (name : List ℕ) (line at : ℕ) (ts : List Token) →
    let s = space_when b (record { name = name; line = line }) ts (record { kind = kinds.Str name; line = at } ∷ ts) in kinds.Str name ∷ kinds_of ts ≡ spelled_space s.0 ++ kinds_of s.1
space_when_is true name line at ts = refl
space_when_is false name line at ts = refl

space_in_is : (k : TokenKind) (line : ℕ) (ts : List Token) → let s = space_in k line ts (record { kind = k; line = line } ∷ ts) in k ∷ kinds_of ts ≡ spelled_space s.0 ++ kinds_of s.1
space_in_is (kinds.Str name) line ts = space_when_is (head_is begins_prim ts) name line line ts
space_in_is (kinds.Number x) line ts = refl
space_in_is (kinds.Name x) line ts = refl
space_in_is (kinds.Kind x) line ts = refl
space_in_is (kinds.Class x) line ts = refl
space_in_is (kinds.Type x) line ts = refl
space_in_is (kinds.Word x) line ts = refl
space_in_is (kinds.Mark x) line ts = refl
space_in_is (kinds.Operator x) line ts = refl
space_in_is kinds.Not line ts = refl
space_in_is (kinds.Set x) line ts = refl
space_in_is kinds.Bad line ts = refl

pub space_at_is : (ts : List Token) → kinds_of ts ≡ spelled_space (space_at ts).0 ++ kinds_of (space_at ts).1
space_at_is [] = refl
space_at_is (t ∷ ts) = space_in_is t.kind t.line ts
