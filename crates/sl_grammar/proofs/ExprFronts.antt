-- What an expression begins with.
use Rattle.std.proofs.Common.{◌≡◌, ℕ, ◌<◌, ◌∷◌, [], ◌++◌, List, Option, Some, None, Bool, true, false, refl, sym, ap, subst, arith}
use Rattle.sl_ast.specs.Syntax.{Expr, number, string, name, call, paren, triple, typed, prefixed, chain, choice}
use Rattle.sl_ast.specs.declared.kinds.Prefix.{Prefix}
use Rattle.sl_ast.specs.declared.kinds.Prefix.TheVariants as prefixes
use Rattle.sl_ast.specs.declared.kinds.SlType.{SlType}
use Rattle.sl_ast.specs.declared.syntax.Space.{Space}
use Rattle.sl_lexer.specs.declared.token.Token.{Token}
use Rattle.sl_lexer.specs.declared.token.TokenKind.{TokenKind}
use Rattle.sl_lexer.specs.declared.token.TokenKind.TheVariants as kinds
use Rattle.sl_lexer.specs.declared.token.Mark.TheVariants.{LeftParen, RightParen}
use Rattle.sl_expression_grammar.specs.Reading.{Reads, is_mark, head_is}
use Rattle.sl_expression_grammar.specs.Expressions.{begins_expr, begins_prim, prefix_in, space_when, space_in, space_at, value_with}
use Rattle.sl_parser.specs.Spelled.{kinds_of, spelled, spelled_prefix, spelled_space}
use Rattle.sl_grammar.specs.Bare.{bare_space}
use Rattle.sl_grammar.specs.Grammatical.{looseness, goes_on_from, Ends}
use Rattle.sl_grammar.proofs.Got.{Got, at_front, token, Lacks}

no_value : (k : TokenKind) → 0 < goes_on_from k → begins_prim k ≡ false
no_value (kinds.Number x) h = absurd (omega (arith, h))
no_value (kinds.Str x) h = absurd (omega (arith, h))
no_value (kinds.Name x) h = absurd (omega (arith, h))
no_value (kinds.Type x) h = absurd (omega (arith, h))
no_value (kinds.Mark LeftParen) h = absurd (omega (arith, h))
no_value _ h = refl

no_values : (ts : List Token) → Ends 0 (kinds_of ts) → head_is begins_prim ts ≡ false
no_values [] h = refl
no_values (t ∷ ts) h = no_value t.kind h

no_paren : (k : TokenKind) → 0 < goes_on_from k → is_mark LeftParen k ≡ false
no_paren (kinds.Mark LeftParen) h = absurd (omega (arith, h))
no_paren _ h = refl

pub lacks_paren : (ks : List TokenKind) → Ends 0 ks → Lacks (is_mark LeftParen) ks
lacks_paren [] h = tt
lacks_paren (k ∷ ks) h = no_paren k h

abbrev pub is_paren : Expr → Bool
is_paren (paren e line) = true
is_paren _ = false

-- what stands between operators
pub record Front (e : Expr) : Type 0 where
  pub kind : TokenKind
  pub tail : List TokenKind
  pub is : spelled e ≡ kind ∷ tail
  pub value : begins_prim kind ≡ true
  pub plain : prefix_in kind ≡ None
  pub unopened : is_paren e ≡ false → is_mark LeftParen kind ≡ false
  pub alone : (ks : List TokenKind) → Ends 0 ks → (line : ℕ) (rest ts : List Token) → kinds_of rest ≡ tail ++ ks → space_in kind line rest ts ≡ (None, ts)

string_alone : (text : List ℕ) (ks : List TokenKind) → Ends 0 ks → (line : ℕ) (rest ts : List Token) → kinds_of rest ≡ ks → space_in (kinds.Str text) line rest ts ≡ (None, ts)
string_alone text ks h line rest ts e =
    ap (λ b. space_when b (record { name = text; line = line }) rest ts) (no_values rest (subst (Ends 0) (sym e) h))

pub front_of : (e : Expr) → looseness e ≡ 0 → Front e
front_of (number text line) z = record { kind = kinds.Number text; tail = []; is = refl; value = refl; plain = refl; unopened = λ h. refl; alone = λ ks h line rest ts e. refl }
front_of (string text line) z = record { kind = kinds.Str text; tail = []; is = refl; value = refl; plain = refl; unopened = λ h. refl; alone = λ ks h line rest ts e. string_alone text ks h line rest ts e }
front_of (name text line) z = record { kind = kinds.Name text; tail = []; is = refl; value = refl; plain = refl; unopened = λ h. refl; alone = λ ks h line rest ts e. refl }
front_of (call text args line) z = record { kind = kinds.Name text; tail = _; is = refl; value = refl; plain = refl; unopened = λ h. refl; alone = λ ks h line rest ts e. refl }
front_of (paren e line) z = record { kind = kinds.Mark LeftParen; tail = _; is = refl; value = refl; plain = refl; unopened = λ h. absurd (cc h); alone = λ ks h line rest ts e. refl }
front_of (triple kind space x y w line) z = record { kind = kinds.Type kind; tail = _; is = refl; value = refl; plain = refl; unopened = λ h. refl; alone = λ ks h line rest ts e. refl }
front_of (typed kind space e line) z = record { kind = kinds.Type kind; tail = _; is = refl; value = refl; plain = refl; unopened = λ h. refl; alone = λ ks h line rest ts e. refl }
front_of (prefixed operator e line) z = absurd (omega (arith, z))
front_of (chain row e rest) z = absurd (omega (arith, z))
front_of (choice t e f line) z = absurd (omega (arith, z))

-- any expression
pub record First (ks : List TokenKind) : Type 0 where
  pub kind : TokenKind
  pub tail : List TokenKind
  pub is : ks ≡ kind ∷ tail
  pub begins : begins_expr kind ≡ true

first_on : (ks us : List TokenKind) → First ks → First (ks ++ us)
first_on ks us f = record { kind = f.kind; tail = f.tail ++ us; is = ap (λ js. js ++ us) f.is; begins = f.begins }

prefix_begins : (p : Prefix) → begins_expr (spelled_prefix p) ≡ true
prefix_begins prefixes.Negative = refl
prefix_begins prefixes.Not = refl

first_of_expr : (e : Expr) → First (spelled e)
first_of_expr (number text line) = record { kind = kinds.Number text; tail = []; is = refl; begins = refl }
first_of_expr (string text line) = record { kind = kinds.Str text; tail = []; is = refl; begins = refl }
first_of_expr (name text line) = record { kind = kinds.Name text; tail = []; is = refl; begins = refl }
first_of_expr (call text args line) = record { kind = kinds.Name text; tail = _; is = refl; begins = refl }
first_of_expr (paren e line) = record { kind = kinds.Mark LeftParen; tail = _; is = refl; begins = refl }
first_of_expr (triple kind space x y w line) = record { kind = kinds.Type kind; tail = _; is = refl; begins = refl }
first_of_expr (typed kind space e line) = record { kind = kinds.Type kind; tail = _; is = refl; begins = refl }
first_of_expr (prefixed operator e line) = record { kind = spelled_prefix operator; tail = spelled e; is = refl; begins = prefix_begins operator }
first_of_expr (chain row e rest) = first_on (spelled e) _ (first_of_expr e)
first_of_expr (choice t e f line) = first_on (spelled t) _ (first_of_expr t)

no_close : (k : TokenKind) → begins_expr k ≡ true → is_mark RightParen k ≡ false
no_close (kinds.Mark RightParen) h = absurd (cc h)
no_close _ h = refl

-- no closing parenthesis
pub opens_not_closed : (e : Expr) (ks : List TokenKind) → Lacks (is_mark RightParen) (spelled e ++ ks)
opens_not_closed e ks =
    let f = first_of_expr e in
    subst (λ js. Lacks (is_mark RightParen) (js ++ ks)) (sym f.is) (no_close f.kind f.begins)

head_begins : (ts : List Token) (k : TokenKind) (ks : List TokenKind) → kinds_of ts ≡ k ∷ ks → begins_prim k ≡ true → head_is begins_prim ts ≡ true
head_begins ts k ks e h = at_front ts k ks e (λ ts. head_is begins_prim ts ≡ true) (λ line rest r. h)

-- a space name, or none, before a value
pub spaced : (expr prim : List Token → Reads Expr) (kind : SlType) (at : ℕ) (space : Option Space) (k : TokenKind) (us : List TokenKind) → begins_prim k ≡ true
    → ((line : ℕ) (rest : List Token) → kinds_of rest ≡ us → space_in k line rest (token k line ∷ rest) ≡ (None, token k line ∷ rest))
    → (ts : List Token) → kinds_of ts ≡ spelled_space space ++ (k ∷ us) → (Q : Expr → List Token → Type 0)
    → ((s : Option Space) (vs : List Token) → bare_space s ≡ bare_space space → kinds_of vs ≡ k ∷ us → Got (value_with expr prim kind at (s, vs)) Q)
    → Got (value_with expr prim kind at (space_at ts)) Q
spaced expr prim kind at None k us begins alone ts e Q h =
    at_front ts k us e (λ ts. Got (value_with expr prim kind at (space_at ts)) Q) (λ line rest r.
    subst (λ s. Got (value_with expr prim kind at s) Q) (sym (alone line rest r)) (h None (token k line ∷ rest) refl (ap (λ js. k ∷ js) r)))
spaced expr prim kind at (Some space) k us begins alone ts e Q h =
    at_front ts (kinds.Str space.name) (k ∷ us) e (λ ts. Got (value_with expr prim kind at (space_at ts)) Q) (λ line rest r.
    subst (λ b. Got (value_with expr prim kind at (space_when b (record { name = space.name; line = line }) rest (token (kinds.Str space.name) line ∷ rest))) Q)
    (sym (head_begins rest k us r begins)) (h (Some (record { name = space.name; line = line })) rest refl r))
