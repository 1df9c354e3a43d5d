-- Chains and arguments, one turn after another.
use Rattle.std.proofs.Common.{◌≡◌, ℕ, zero, suc, ◌+◌, ◌-◌, ◌≤◌, ◌<◌, ◌∷◌, [], ◌++◌, ◌&&◌, List, Option, Some, None, Result, Ok, Err, Bool, true, false, cond, refl, sym, ap, ◌∙◌, subst, arith, append_assoc}
use Rattle.std.proofs.lemmas.Bool.Decides.{nat_tests}
use Rattle.std.specs.Borrow.{Bor}
use Rattle.std.specs.Prelude.{Vec, nat_lt, option_map}
use Rattle.std.specs.declared.alloc.Global.{Global}
use Rattle.sl_ast.specs.Syntax as S
use Rattle.sl_ast.specs.declared.kinds.Row.{Row}
use Rattle.sl_ast.specs.declared.kinds.Operator.{Operator}
use Rattle.sl_ast.specs.declared.kinds.SlType.{SlType}
use Rattle.sl_lexer.specs.declared.token.Token.{Token}
use Rattle.sl_lexer.specs.declared.token.TokenKind.TheVariants as kinds
use Rattle.sl_lexer.specs.declared.token.Mark.TheVariants.{Comma}
use Rattle.sl_expression_grammar.specs.declared.fault.SlCode.{SlCode}
use Rattle.sl_expression_grammar.specs.declared.reading.Stop.{Stop}
use Rattle.sl_expression_grammar.specs.declared.reading.Stop.TheVariants.{At, NoMemory}
use Rattle.sl_expression_grammar.specs.Reading.{Reads, ◌>>=◌, with_front, many_then, many, after_comma, rest_after, is_mark}
use Rattle.sl_expression_grammar.specs.Expressions.{operator_at, link_at, linked, link, next_link, is_single, most_links, expr_with, typed_with, name_with, prim_in, expr_at, unary_at, prim_at}
use Rattle.sl_expression_grammar.specs.Rows.{typed_at}
use Rattle.sl_expression_grammar.specs.Parsing.{Gives, GivesItems}
use Rattle.sl_expression_grammar.proofs.Levels.{prim_is}

one_less : (n : ℕ) → suc n - 1 ≡ n
one_less n = omega arith

pub with_front-append : {A : Type 0} (a b : List A) (r : Reads (List A)) → with_front (a ++ b) r ≡ with_front a (with_front b r)
with_front-append a b (Ok x) = ap (λ xs. Ok (xs, x.1)) (append_assoc a b x.0)
with_front-append a b (Err e) = refl

-- a fault is handed on
pub handed_on : {A B C D : Type 0} (view : A → B) (s : Stop) (r : Result (Vec C Global × Bor (List Token)) Stop) (seen : C → D) (inner : Reads B) (outer : Reads (List D))
    → r ≡ Err s → Gives view (Err s) inner → ((x : SlCode × List Token) → inner ≡ Err x → outer ≡ Err x) → GivesItems seen r outer
handed_on view (At code rest) r seen inner outer e gives on = subst (λ q. GivesItems seen q outer) (sym e) (on (code, rest.now) gives)
handed_on view NoMemory r seen inner outer e gives on = subst (λ q. GivesItems seen q outer) (sym e) tt

-- one item more, a fault, and the end
module _ {A : Type 0} (step : List Token → Option (Reads A)) where
  pub many-turn : (n : ℕ) (ts : List Token) (r : Reads A) (x : A) (left : List Token) → 1 ≤ n → step ts ≡ Some r → r ≡ Ok (x, left) → many step n ts ≡ with_front (x ∷ []) (many step (n - 1) left)
  many-turn zero ts r x left low at is = absurd (omega arith)
  many-turn (suc n) ts r x left low at is =
      ap (many_then (many step n) ts) at ∙ ap (λ r. r >>= λ x. with_front (x.0 ∷ []) (many step n x.1)) is
      ∙ ap (λ k. with_front (x ∷ []) (many step k left)) (sym (one_less n))

  pub many-err : (n : ℕ) (ts : List Token) (r : Reads A) (x : SlCode × List Token) → 1 ≤ n → step ts ≡ Some r → r ≡ Err x → many step n ts ≡ Err x
  many-err zero ts r x low at is = absurd (omega arith)
  many-err (suc n) ts r x low at is = ap (many_then (many step n) ts) at ∙ ap (λ r. r >>= λ x. with_front (x.0 ∷ []) (many step n x.1)) is

  pub many-end : (n : ℕ) (ts : List Token) → step ts ≡ None → many step n ts ≡ Ok ([], ts)
  many-end zero ts at = refl
  many-end (suc n) ts at = ap (many_then (many step n) ts) at

-- a link that is allowed here stands at the front, and a turn is left for it
allowed : (single more : Bool) (o : Option (Operator × ℕ × List Token)) (x : Operator × ℕ × List Token)
    → Some x ≡ cond (single && more) None o → (single && more ≡ false) × (Some x ≡ o)
allowed true true o x e = absurd (cc e)
allowed true false o x e = (refl, e)
allowed false more o x e = (refl, e)

turn_left : (single : Bool) (count len : ℕ) → count < len → single && nat_lt 0 count ≡ false → 1 ≤ cond single 1 len - count
turn_left true zero len room h = omega arith
turn_left true (suc count) len room h = grind (arith, nat_tests, h)
turn_left false count len room h = omega arith

refused : (single : Bool) (count len : ℕ) (row : Row) (operand : List Token → Reads S.Expr) (ts : List Token)
    → None ≡ cond (single && nat_lt 0 count) None (operator_at row ts) → many (next_link row operand) (cond single 1 len - count) ts ≡ Ok ([], ts)
refused true zero len row operand ts h = many-end (next_link row operand) (1 - zero) ts (ap (option_map (link operand)) (sym h))
refused true (suc count) len row operand ts h =
    let z : 1 - suc count ≡ 0 = omega arith in ap (λ n. many (next_link row operand) n ts) z
refused false count len row operand ts h = many-end (next_link row operand) (len - count) ts (ap (option_map (link operand)) (sym h))

one_each : (single : Bool) (count len : ℕ) → cond single 1 len - count - 1 ≡ cond single 1 len - (count + 1)
one_each single count len = omega arith

module _ (row : Row) (operand : List Token → Reads S.Expr) (count len : ℕ) where
  pub link-turn : (ts : List Token) (o : Operator) (line : ℕ) (after : List Token) (e : S.Expr) (left : List Token)
      → count < len → Some (o, line, after) ≡ link_at row count ts → operand after ≡ Ok (e, left)
      → many (next_link row operand) (most_links row len - count) ts ≡ with_front (linked o line e ∷ []) (many (next_link row operand) (most_links row len - (count + 1)) left)
  link-turn ts o line after e left room at is =
      let a = allowed (is_single row) (nat_lt 0 count) (operator_at row ts) (o, line, after) at in
      many-turn (next_link row operand) (most_links row len - count) ts (link operand (o, line, after)) (linked o line e) left (turn_left (is_single row) count len room a.0)
      (ap (option_map (link operand)) (sym a.1)) (ap (λ r. r >>= λ e. Ok (linked o line e.0, e.1)) is)
      ∙ ap (λ n. with_front (linked o line e ∷ []) (many (next_link row operand) n left)) (one_each (is_single row) count len)

  pub link-err : (ts : List Token) (o : Operator) (line : ℕ) (after : List Token) (x : SlCode × List Token)
      → count < len → Some (o, line, after) ≡ link_at row count ts → operand after ≡ Err x
      → many (next_link row operand) (most_links row len - count) ts ≡ Err x
  link-err ts o line after x room at is =
      let a = allowed (is_single row) (nat_lt 0 count) (operator_at row ts) (o, line, after) at in
      many-err (next_link row operand) (most_links row len - count) ts (link operand (o, line, after)) x (turn_left (is_single row) count len room a.0)
      (ap (option_map (link operand)) (sym a.1)) (ap (λ r. r >>= λ e. Ok (linked o line e.0, e.1)) is)

  pub link-end : (ts : List Token) → None ≡ link_at row count ts → many (next_link row operand) (most_links row len - count) ts ≡ Ok ([], ts)
  link-end ts at = refused (is_single row) count len row operand ts at

-- an item after a comma
module _ {A : Type 0} (item : List Token → Reads A) where
  pub comma-turn : (n : ℕ) (ts after : List Token) (x : A) (left : List Token)
      → 1 ≤ n → Some after ≡ rest_after (is_mark Comma) ts → item after ≡ Ok (x, left) → many (after_comma item) n ts ≡ with_front (x ∷ []) (many (after_comma item) (n - 1) left)
  comma-turn n ts after x left low at is = many-turn (after_comma item) n ts (item after) x left low (ap (option_map item) (sym at)) is

  pub comma-err : (n : ℕ) (ts after : List Token) (x : SlCode × List Token)
      → 1 ≤ n → Some after ≡ rest_after (is_mark Comma) ts → item after ≡ Err x → many (after_comma item) n ts ≡ Err x
  comma-err n ts after x low at is = many-err (after_comma item) n ts (item after) x low (ap (option_map item) (sym at)) is

  pub comma-end : (n : ℕ) (ts : List Token) → None ≡ rest_after (is_mark Comma) ts → many (after_comma item) n ts ≡ Ok ([], ts)
  comma-end n ts at = many-end (after_comma item) n ts (ap (option_map item) (sym at))

-- the level that an expression opens
pub expr-opened : (levels : ℕ) (ts : List Token) → 0 < levels → expr_at levels ts ≡ expr_with (unary_at (levels - 1)) (expr_at (levels - 1)) ts
expr-opened zero ts h = absurd (omega arith)
expr-opened (suc n) ts h = ap (λ k. expr_with (unary_at k) (expr_at k) ts) (sym (one_less n))

pub prim-name : (levels : ℕ) (name : List ℕ) (t : Token) (ts : List Token) → t.kind ≡ kinds.Name name → prim_at levels (t ∷ ts) ≡ name_with (expr_at levels) name t.line ts
prim-name levels name t ts is = ap (λ p. p (t ∷ ts)) (prim_is levels) ∙ ap (λ k. prim_in (expr_at levels) (typed_at levels) k t.line ts (t ∷ ts)) is

pub prim-type : (levels : ℕ) (kind : SlType) (t : Token) (ts : List Token) → 0 < levels → t.kind ≡ kinds.Type kind
    → prim_at levels (t ∷ ts) ≡ typed_with (expr_at (levels - 1)) (prim_at (levels - 1)) kind t.line ts
prim-type zero kind t ts low is = absurd (omega arith)
prim-type (suc n) kind t ts low is =
    ap (λ p. p (t ∷ ts)) (prim_is (suc n)) ∙ ap (λ k. prim_in (expr_at (suc n)) (typed_at (suc n)) k t.line ts (t ∷ ts)) is
    ∙ ap (λ k. typed_with (expr_at k) (prim_at k) kind t.line ts) (sym (one_less n))
