-- The names, types and words at the front of tokens.
use Rattle.std.proofs.Common.{◌≡◌, ℕ, ◌∷◌, [], ◌++◌, List, Option, Some, true, refl, ap, ◌∙◌}
use Rattle.sl_ast.specs.declared.kinds.SetOperator.{SetOperator}
use Rattle.sl_ast.specs.declared.kinds.SetOperator.TheVariants as sets
use Rattle.sl_ast.specs.declared.kinds.SlType.{SlType}
use Rattle.sl_ast.specs.declared.kinds.SlKind.{SlKind}
use Rattle.sl_lexer.specs.declared.token.Token.{Token}
use Rattle.sl_lexer.specs.declared.token.TokenKind.{TokenKind}
use Rattle.sl_lexer.specs.declared.token.TokenKind.TheVariants as kinds
use Rattle.sl_lexer.specs.declared.token.Word.TheVariants as words
use Rattle.sl_parser.specs.Statements.{name_in, name_at, set_in, set_at, type_in, type_at, class_in, class_at, is_equals, is_else}
use Rattle.sl_parser.specs.Files.{sort_in, sort_at}
use Rattle.sl_parser.specs.Spelled.{kinds_of, spelled_class}
use Rattle.sl_parser.proofs.Fronts.{mapped}
use Rattle.sl_parser.proofs.Never.{not_true, not_some}

some_is : {A : Type 0} (x y : A) → ◌≡◌ {A = Option A} (Some x) (Some y) → x ≡ y
some_is x y e = cc

name_is : (k : TokenKind) (n : List ℕ) → name_in k ≡ Some n → k ≡ kinds.Name n
name_is (kinds.Number x) n h = not_some h
name_is (kinds.Str x) n h = not_some h
name_is (kinds.Name x) n h = ap kinds.Name (some_is x n h)
name_is (kinds.Kind x) n h = not_some h
name_is (kinds.Class x) n h = not_some h
name_is (kinds.Type x) n h = not_some h
name_is (kinds.Word x) n h = not_some h
name_is (kinds.Mark x) n h = not_some h
name_is (kinds.Operator x) n h = not_some h
name_is kinds.Not n h = not_some h
name_is (kinds.Set x) n h = not_some h
name_is kinds.Bad n h = not_some h

pub name_at_is : (ts : List Token) (x : List ℕ × ℕ × List Token) → name_at ts ≡ Some x → kinds_of ts ≡ kinds.Name x.0 ∷ kinds_of x.2
name_at_is [] x h = not_some h
name_at_is (t ∷ ts) x h =
    let m = mapped (λ o. (o, t.line, ts)) (name_in t.kind) x h in
    ap (λ j. j ∷ kinds_of ts) (name_is t.kind m.0 m.1.0) ∙ ap (λ y. kinds.Name y.0 ∷ kinds_of y.2) m.1.1

set_is : (k : TokenKind) (o : SetOperator) → set_in k ≡ Some o → k ≡ kinds.Set o
set_is (kinds.Number x) o h = not_some h
set_is (kinds.Str x) o h = not_some h
set_is (kinds.Name x) o h = not_some h
set_is (kinds.Kind x) o h = not_some h
set_is (kinds.Class x) o h = not_some h
set_is (kinds.Type x) o h = not_some h
set_is (kinds.Word x) o h = not_some h
set_is (kinds.Mark x) o h = not_some h
set_is (kinds.Operator x) o h = not_some h
set_is kinds.Not o h = not_some h
set_is (kinds.Set x) o h = ap kinds.Set (some_is x o h)
set_is kinds.Bad o h = not_some h

pub set_at_is : (ts : List Token) (x : SetOperator × List Token) → set_at ts ≡ Some x → kinds_of ts ≡ kinds.Set x.0 ∷ kinds_of x.1
set_at_is [] x h = not_some h
set_at_is (t ∷ ts) x h =
    let m = mapped (λ o. (o, ts)) (set_in t.kind) x h in
    ap (λ j. j ∷ kinds_of ts) (set_is t.kind m.0 m.1.0) ∙ ap (λ y. kinds.Set y.0 ∷ kinds_of y.1) m.1.1

type_is : (k : TokenKind) (o : SlType) → type_in k ≡ Some o → k ≡ kinds.Type o
type_is (kinds.Number x) o h = not_some h
type_is (kinds.Str x) o h = not_some h
type_is (kinds.Name x) o h = not_some h
type_is (kinds.Kind x) o h = not_some h
type_is (kinds.Class x) o h = not_some h
type_is (kinds.Type x) o h = ap kinds.Type (some_is x o h)
type_is (kinds.Word x) o h = not_some h
type_is (kinds.Mark x) o h = not_some h
type_is (kinds.Operator x) o h = not_some h
type_is kinds.Not o h = not_some h
type_is (kinds.Set x) o h = not_some h
type_is kinds.Bad o h = not_some h

pub type_at_is : (ts : List Token) (x : SlType × List Token) → type_at ts ≡ Some x → kinds_of ts ≡ kinds.Type x.0 ∷ kinds_of x.1
type_at_is [] x h = not_some h
type_at_is (t ∷ ts) x h =
    let m = mapped (λ o. (o, ts)) (type_in t.kind) x h in
    ap (λ j. j ∷ kinds_of ts) (type_is t.kind m.0 m.1.0) ∙ ap (λ y. kinds.Type y.0 ∷ kinds_of y.1) m.1.1

sort_is : (k : TokenKind) (o : SlKind) → sort_in k ≡ Some o → k ≡ kinds.Kind o
sort_is (kinds.Number x) o h = not_some h
sort_is (kinds.Str x) o h = not_some h
sort_is (kinds.Name x) o h = not_some h
sort_is (kinds.Kind x) o h = ap kinds.Kind (some_is x o h)
sort_is (kinds.Class x) o h = not_some h
sort_is (kinds.Type x) o h = not_some h
sort_is (kinds.Word x) o h = not_some h
sort_is (kinds.Mark x) o h = not_some h
sort_is (kinds.Operator x) o h = not_some h
sort_is kinds.Not o h = not_some h
sort_is (kinds.Set x) o h = not_some h
sort_is kinds.Bad o h = not_some h

pub sort_at_is : (ts : List Token) (x : SlKind × ℕ × List Token) → sort_at ts ≡ Some x → kinds_of ts ≡ kinds.Kind x.0 ∷ kinds_of x.2
sort_at_is [] x h = not_some h
sort_at_is (t ∷ ts) x h =
    let m = mapped (λ o. (o, t.line, ts)) (sort_in t.kind) x h in
    ap (λ j. j ∷ kinds_of ts) (sort_is t.kind m.0 m.1.0) ∙ ap (λ y. kinds.Kind y.0 ∷ kinds_of y.2) m.1.1

class_in_is : (k : TokenKind) (line : ℕ) (ts : List Token) → let c = class_in k ts (record { kind = k; line = line } ∷ ts) in k ∷ kinds_of ts ≡ spelled_class c.0 ++ kinds_of c.1
class_in_is (kinds.Number x) line ts = refl
class_in_is (kinds.Str x) line ts = refl
class_in_is (kinds.Name x) line ts = refl
class_in_is (kinds.Kind x) line ts = refl
class_in_is (kinds.Class x) line ts = refl
class_in_is (kinds.Type x) line ts = refl
class_in_is (kinds.Word x) line ts = refl
class_in_is (kinds.Mark x) line ts = refl
class_in_is (kinds.Operator x) line ts = refl
class_in_is kinds.Not line ts = refl
class_in_is (kinds.Set x) line ts = refl
class_in_is kinds.Bad line ts = refl

pub class_at_is : (ts : List Token) → kinds_of ts ≡ spelled_class (class_at ts).0 ++ kinds_of (class_at ts).1
class_at_is [] = refl
class_at_is (t ∷ ts) = class_in_is t.kind t.line ts

pub is_equals_is : (k : TokenKind) → is_equals k ≡ true → k ≡ kinds.Set sets.Set
is_equals_is (kinds.Number x) h = not_true h
is_equals_is (kinds.Str x) h = not_true h
is_equals_is (kinds.Name x) h = not_true h
is_equals_is (kinds.Kind x) h = not_true h
is_equals_is (kinds.Class x) h = not_true h
is_equals_is (kinds.Type x) h = not_true h
is_equals_is (kinds.Word x) h = not_true h
is_equals_is (kinds.Mark x) h = not_true h
is_equals_is (kinds.Operator x) h = not_true h
is_equals_is kinds.Not h = not_true h
is_equals_is (kinds.Set sets.Set) h = refl
is_equals_is (kinds.Set sets.Add) h = not_true h
is_equals_is (kinds.Set sets.Subtract) h = not_true h
is_equals_is (kinds.Set sets.Multiply) h = not_true h
is_equals_is (kinds.Set sets.Divide) h = not_true h
is_equals_is kinds.Bad h = not_true h

pub is_else_is : (k : TokenKind) → is_else k ≡ true → k ≡ kinds.Word words.Else
is_else_is (kinds.Number x) h = not_true h
is_else_is (kinds.Str x) h = not_true h
is_else_is (kinds.Name x) h = not_true h
is_else_is (kinds.Kind x) h = not_true h
is_else_is (kinds.Class x) h = not_true h
is_else_is (kinds.Type x) h = not_true h
is_else_is (kinds.Word words.Break) h = not_true h
is_else_is (kinds.Word words.Continue) h = not_true h
is_else_is (kinds.Word words.Return) h = not_true h
is_else_is (kinds.Word words.If) h = not_true h
is_else_is (kinds.Word words.Else) h = refl
is_else_is (kinds.Word words.While) h = not_true h
is_else_is (kinds.Word words.For) h = not_true h
is_else_is (kinds.Word words.Illuminance) h = not_true h
is_else_is (kinds.Word words.Illuminate) h = not_true h
is_else_is (kinds.Word words.Solar) h = not_true h
is_else_is (kinds.Mark x) h = not_true h
is_else_is (kinds.Operator x) h = not_true h
is_else_is kinds.Not h = not_true h
is_else_is (kinds.Set x) h = not_true h
is_else_is kinds.Bad h = not_true h
