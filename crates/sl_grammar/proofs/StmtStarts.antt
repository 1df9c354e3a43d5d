-- What is read as a statement is one of the grammar, and no `else` that it would take stands after it; and where a fault
-- stands, the tokens before it begin one.
use Rattle.std.proofs.Common.{◌≡◌, ℕ, zero, suc, ◌+◌, ◌∷◌, [], ◌++◌, List, Option, Some, None, Ok, Bool, true, false, length, refl, sym, subst, arith}
use Rattle.sl_ast.specs.Syntax as S
use Rattle.sl_ast.specs.declared.kinds.Class.{Class}
use Rattle.sl_ast.specs.declared.kinds.SetOperator.{SetOperator}
use Rattle.sl_ast.specs.declared.kinds.SetOperator.TheVariants as sets
use Rattle.sl_ast.specs.declared.kinds.SlType.{SlType}
use Rattle.sl_ast.specs.declared.kinds.SlType.TheVariants as types
use Rattle.sl_ast.specs.declared.syntax.LightWord.{LightWord}
use Rattle.sl_ast.specs.declared.syntax.LightWord.TheVariants as light_words
use Rattle.sl_lexer.specs.declared.token.Token.{Token}
use Rattle.sl_lexer.specs.declared.token.TokenKind.{TokenKind}
use Rattle.sl_lexer.specs.declared.token.TokenKind.TheVariants as kinds
use Rattle.sl_lexer.specs.declared.token.Word.{Word}
use Rattle.sl_lexer.specs.declared.token.Word.TheVariants as words
use Rattle.sl_lexer.specs.declared.token.Mark.TheVariants.{LeftParen, RightParen, LeftBrace, RightBrace, Semicolon, Comma}
use Rattle.sl_expression_grammar.specs.Reading.{Reads, ◌>>=◌, with_front, many, after_comma, commas, past, rest_after, is_mark, head_is}
use Rattle.sl_expression_grammar.specs.Expressions.{expr_at}
use Rattle.sl_parser.specs.declared.declarations.Valued.{Valued}
use Rattle.sl_parser.specs.declared.declarations.Valued.TheVariants.{Always, Never, Freely}
use Rattle.sl_parser.specs.Statements.{front_line, name_at, named_then, named, set_at, set_then, set_with, type_at, class_at, is_equals, value_after, value_then, value_with, declared_with, group_then, group_with, begins_stmt, is_else, stmt_unless, next_stmt, block_in, test_with, else_then, if_with, while_with, set_or, is_name, set_maybe, For, for_head, for_with, pair_with, cone_then, cone_in, lights_head, lights_with, solar_head, solar_with, return_with, assign_with, declare_with, word_with, stmt_in, stmt_opened, stmt_at}
use Rattle.sl_grammar.specs.Grammatical.{Grammatical, GrammaticalValue, GrammaticalValues, GrammaticalNames, GrammaticalSet, GrammaticalCone, takes_else, GrammaticalStmt, GrammaticalStmts}
use Rattle.sl_parser.specs.Spelled.{spelled, spelled_set, spelled_maybe, spelled_value, spelled_declared, spelled_further, spelled_names, spelled_class, spelled_group, spelled_pair, spelled_cone, spelled_light, spelled_test, spelled_for, spelled_stmt, spelled_stmts}
use Rattle.sl_parser.proofs.Fronts.{mapped, after_is, mark_after}
use Rattle.sl_parser.proofs.FrontNames.{name_at_is, set_at_is, type_at_is, class_at_is, is_equals_is, is_else_is}
use Rattle.sl_parser.proofs.Good.{Takes, and_then}
use Rattle.sl_grammar.proofs.Starts.{Shape, Starts, then_starts, starts_on, taken_on, Begun, Done, begun_here, done_bind, done_past, done_deep, done_more, done_front, done_many}
use Rattle.sl_grammar.proofs.ExprStarts.{whole, blank, expr_starts}

named_on : {A : Type 0} (shape : Shape A) (before ts : List Token) (go : List ℕ → ℕ → List Token → Reads A) (o : Option (List ℕ × ℕ × List Token)) → name_at ts ≡ o → Begun shape before ts
    → ((name : List ℕ) (line : ℕ) (rest : List Token) → Takes ts (kinds.Name name ∷ []) rest → Done shape before (go name line rest)) → Done shape before (named_then ts go o)
named_on shape before ts go None e bad next = bad
named_on shape before ts go (Some n) e bad next = next n.0 n.1 n.2 (record { text = name_at_is ts n e })

pub done_named : {A : Type 0} (shape : Shape A) (before ts : List Token) (go : List ℕ → ℕ → List Token → Reads A) → Begun shape before ts
    → ((name : List ℕ) (line : ℕ) (rest : List Token) → Takes ts (kinds.Name name ∷ []) rest → Done shape before (go name line rest)) → Done shape before (named ts go)
done_named shape before ts go bad next = named_on shape before ts go (name_at ts) refl bad next

abbrev set_shape : Shape S.Assignment
set_shape = record { spell = spelled_set; fine = λ a. Grammatical a.value; ends = λ a rest. Unit {0} }

abbrev value_shape : Valued → Shape (Option S.Expr)
value_shape valued = record { spell = spelled_value; fine = GrammaticalValue valued; ends = λ v rest. Unit {0} }

abbrev declared_shape : Valued → Shape S.Declared
declared_shape valued = record { spell = spelled_declared; fine = λ d. GrammaticalValue valued d.value; ends = λ d rest. Unit {0} }

abbrev comma_shape : Valued → Shape S.Declared
comma_shape valued = record { spell = λ d. kinds.Mark Comma ∷ spelled_declared d; fine = λ d. GrammaticalValue valued d.value; ends = λ d rest. Unit {0} }

abbrev further_shape : Valued → Shape (List S.Declared)
further_shape valued = record { spell = spelled_further; fine = GrammaticalValues valued; ends = λ ds rest. Unit {0} }

abbrev names_shape : Valued → Shape (List S.Declared)
names_shape valued = record { spell = spelled_names; fine = GrammaticalNames valued; ends = λ ds rest. Unit {0} }

abbrev pub group_shape : Valued → Shape S.Group
group_shape valued = record { spell = spelled_group; fine = λ g. GrammaticalNames valued g.names; ends = λ g rest. Unit {0} }

abbrev test_shape : Shape S.Expr
test_shape = record { spell = spelled_test; fine = Grammatical; ends = λ e rest. Unit {0} }

abbrev maybe_shape : Shape (Option S.Assignment)
maybe_shape = record { spell = spelled_maybe; fine = GrammaticalSet; ends = λ a rest. Unit {0} }

abbrev for_shape : Shape For
for_shape = record { spell = λ h. spelled_for h.0 h.1 h.2; fine = λ h. GrammaticalSet h.0 × (Grammatical h.1 × GrammaticalSet h.2); ends = λ h rest. Unit {0} }

abbrev pair_shape : Shape (S.Expr × S.Expr)
pair_shape = record { spell = spelled_pair; fine = λ c. Grammatical c.0 × Grammatical c.1; ends = λ c rest. Unit {0} }

abbrev cone_shape : Shape (Option (S.Expr × S.Expr))
cone_shape = record { spell = spelled_cone; fine = GrammaticalCone; ends = λ c rest. Unit {0} }

abbrev place_shape : Shape (S.Expr × Option (S.Expr × S.Expr))
place_shape = record { spell = λ h. kinds.Mark LeftParen ∷ (spelled h.0 ++ spelled_cone h.1); fine = λ h. Grammatical h.0 × GrammaticalCone h.1; ends = λ h rest. Unit {0} }

abbrev sun_shape : Shape (S.Expr × S.Expr)
sun_shape = record { spell = λ c. kinds.Mark LeftParen ∷ spelled_pair c; fine = λ c. Grammatical c.0 × Grammatical c.1; ends = λ c rest. Unit {0} }

abbrev pub stmt_shape : Shape S.Stmt
stmt_shape = record { spell = spelled_stmt; fine = GrammaticalStmt; ends = λ s rest. takes_else s ≡ true → rest_after is_else rest ≡ None }

abbrev body_shape : Shape (List S.Stmt)
body_shape = record { spell = λ b. spelled_stmts (S.stmts b); fine = λ b. GrammaticalStmts (S.stmts b); ends = λ b rest. Unit {0} }

abbrev pub closed_shape : Shape (List S.Stmt)
closed_shape = record { spell = λ b. spelled_stmts (S.stmts b) ++ (kinds.Mark RightBrace ∷ []); fine = λ b. GrammaticalStmts (S.stmts b); ends = λ b rest. Unit {0} }

-- what stands for what is missing
abbrev blank_set : S.Assignment
blank_set = record { name = []; operator = sets.Set; value = blank; line = 0; set_line = 0 }

blank_value : (valued : Valued) → (v : Option S.Expr) × GrammaticalValue valued v
blank_value Always = (Some blank, tt)
blank_value Never = (None, tt)
blank_value Freely = (None, tt)

abbrev blank_declared : Valued → S.Declared
blank_declared valued = record { name = []; value = (blank_value valued).0; line = 0; set_line = 0 }

abbrev blank_group : Valued → Option Class → S.Group
blank_group valued class = record { class = class; kind = types.Float; names = blank_declared valued ∷ [] }

blank_group_fine : (valued : Valued) → GrammaticalNames valued (blank_declared valued ∷ [])
blank_group_fine valued = (omega arith, ((blank_value valued).1, tt))

abbrev blank_stmt : S.Stmt
blank_stmt = S.empty 0

nothing : (ts : List Token) → Takes ts [] ts
nothing ts = record { text = refl }

module _ (expr : List Token → Reads S.Expr) (ok : (ts : List Token) → Done whole ts (expr ts)) where
  set_on : (before ts : List Token) (name : List ℕ) (line set_line : ℕ) → Takes before (kinds.Name name ∷ []) ts → (o : Option (SetOperator × List Token)) → set_at ts ≡ o → Done set_shape before (set_then expr name line set_line ts o)
  set_on before ts name line set_line t None e =
      record { item = record { name = name; operator = sets.Set; value = blank; line = line; set_line = set_line }; fine = tt; starts = taken_on (kinds.Set sets.Set ∷ spelled blank) t }
  set_on before ts name line set_line t (Some o) e =
      let u : Takes ts (kinds.Set o.0 ∷ []) o.1 = record { text = set_at_is ts o e } in
      done_bind whole set_shape before o.1 (expr o.1) (λ e. Ok (record { name = name; operator = o.0; value = e.0; line = line; set_line = set_line }, e.1)) (ok o.1)
      (λ x rest f s. record { item = record { name = name; operator = o.0; value = x; line = line; set_line = set_line }; fine = f; starts = then_starts t (then_starts u s) })
      (λ x v f h. ((and_then t (and_then u v), f), tt))

  set_done : (ts : List Token) → Done set_shape ts (set_with expr ts)
  set_done ts =
      done_named set_shape ts ts (λ name line rest. set_then expr name line (front_line rest) rest (set_at rest)) (begun_here set_shape ts blank_set tt) (λ name line rest t. set_on ts rest name line (front_line rest) t (set_at rest) refl)

  given : (valued : Valued) → ((x : S.Expr) → Grammatical x → GrammaticalValue valued (Some x)) → (ts rest : List Token) → Takes ts (kinds.Set sets.Set ∷ []) rest → Done (value_shape valued) ts (value_after expr rest)
  given valued may ts rest t =
      done_bind whole (value_shape valued) ts rest (expr rest) (λ e. Ok (Some e.0, e.1)) (ok rest) (λ x left f s. record { item = Some x; fine = may x f; starts = then_starts t s })
      (λ x u f h. ((and_then t u, may x.0 f), tt))

  value_on : (valued : Valued) (ts : List Token) (o : Option (List Token)) → rest_after is_equals ts ≡ o → Done (value_shape valued) ts (value_then expr valued ts o)
  value_on Always ts None e = begun_here (value_shape Always) ts (Some blank) tt
  value_on Always ts (Some rest) e = given Always (λ x f. f) ts rest (record { text = after_is is_equals (kinds.Set sets.Set) is_equals_is ts rest e })
  value_on Freely ts None e = ((nothing ts, tt), tt)
  value_on Freely ts (Some rest) e = given Freely (λ x f. f) ts rest (record { text = after_is is_equals (kinds.Set sets.Set) is_equals_is ts rest e })
  value_on Never ts None e = ((nothing ts, tt), tt)
  value_on Never ts (Some rest) e = ((nothing ts, tt), tt)

  declared_done : (valued : Valued) (ts : List Token) → Done (declared_shape valued) ts (declared_with expr valued ts)
  declared_done valued ts =
      done_named (declared_shape valued) ts ts (λ name line rest. value_with expr valued rest >>= λ value. Ok (record { name = name; value = value.0; line = line; set_line = front_line rest }, value.1))
      (begun_here (declared_shape valued) ts (blank_declared valued) (blank_value valued).1) (λ name line rest t.
      done_bind (value_shape valued) (declared_shape valued) ts rest (value_with expr valued rest) (λ value. Ok (record { name = name; value = value.0; line = line; set_line = front_line rest }, value.1)) (value_on valued rest (rest_after is_equals rest) refl)
      (λ v left f s. record { item = record { name = name; value = v; line = line; set_line = front_line rest }; fine = f; starts = then_starts t s })
      (λ v u f h. ((and_then t u, f), tt)))

  comma_done : (valued : Valued) (ts : List Token) (r : Reads S.Declared) → after_comma (declared_with expr valued) ts ≡ Some r → Done (comma_shape valued) ts r
  comma_done valued ts r e =
      let m = mapped (declared_with expr valued) (rest_after (is_mark Comma) ts) r e in
      let t : Takes ts (kinds.Mark Comma ∷ []) m.0 = record { text = mark_after Comma ts m.0 m.1.0 } in
      subst (λ r. Done (comma_shape valued) ts r) m.1.1
      (done_more (declared_shape valued) (comma_shape valued) ts m.0 (declared_with expr valued m.0) (declared_done valued m.0) (λ x rest f s. record { item = x; fine = f; starts = then_starts t s })
      (λ x rest u f h. ((and_then t u, f), tt)))

  further_done : (valued : Valued) (k : ℕ) (ts : List Token) → Done (further_shape valued) ts (many (after_comma (declared_with expr valued)) k ts)
  further_done valued k ts =
      done_many (comma_shape valued) spelled_further (λ k ds. GrammaticalValues valued ds) refl (λ x xs. refl) (λ k. tt) (λ k x xs f g. (f, g)) (after_comma (declared_with expr valued)) (comma_done valued) k ts

  names_done : (valued : Valued) (ts : List Token) → Done (names_shape valued) ts (commas (declared_with expr valued) ts)
  names_done valued ts =
      let item = declared_with expr valued in
      done_bind (declared_shape valued) (names_shape valued) ts ts (item ts) (λ x. with_front (x.0 ∷ []) (many (after_comma item) (length x.1) x.1)) (declared_done valued ts)
      (λ x rest f s. record { item = x ∷ []; fine = (omega arith, (f, tt)); starts = starts_on [] s }) (λ x t f h.
      done_front (further_shape valued) (names_shape valued) ts x.1 x.0 (many (after_comma item) (length x.1) x.1) (further_done valued (length x.1) x.1)
      (λ xs rest g s. record { item = x.0 ∷ xs; fine = (omega arith, (f, g)); starts = then_starts t s })
      (λ xs rest u g. ((and_then t u, (omega arith, (f, g))), tt)))

  group_on : (valued : Valued) (before ts : List Token) (class : Option Class) → Takes before (spelled_class class) ts → (o : Option (SlType × List Token)) → type_at ts ≡ o → Done (group_shape valued) before (group_then expr valued class ts o)
  group_on valued before ts class t None e =
      record { item = blank_group valued class; fine = blank_group_fine valued; starts = taken_on (kinds.Type types.Float ∷ spelled_names (blank_declared valued ∷ [])) t }
  group_on valued before ts class t (Some k) e =
      let u : Takes ts (kinds.Type k.0 ∷ []) k.1 = record { text = type_at_is ts k e } in
      done_bind (names_shape valued) (group_shape valued) before k.1 (commas (declared_with expr valued) k.1) (λ names. Ok (record { class = class; kind = k.0; names = names.0 }, names.1)) (names_done valued k.1)
      (λ ds rest f s. record { item = record { class = class; kind = k.0; names = ds }; fine = f; starts = then_starts t (then_starts u s) })
      (λ x v f h. ((and_then t (and_then u v), f), tt))

  pub group_done : (valued : Valued) (ts : List Token) → Done (group_shape valued) ts (group_with expr valued ts)
  group_done valued ts =
      let c = class_at ts in group_on valued ts c.1 c.0 (record { text = class_at_is ts }) (type_at c.1) refl

  abbrev close : List TokenKind
  close = kinds.Mark RightParen ∷ []

  test_done : (ts : List Token) → Done test_shape ts (test_with expr ts)
  test_done ts =
      done_past test_shape LeftParen ts ts (λ inside. expr inside >>= λ e. past RightParen e.1 λ rest. Ok (e.0, rest)) (begun_here test_shape ts blank tt) (λ inside t.
      done_bind whole test_shape ts inside (expr inside) (λ e. past RightParen e.1 λ rest. Ok (e.0, rest)) (ok inside) (λ x rest f s. record { item = x; fine = f; starts = then_starts t (starts_on close s) }) (λ x u f h.
      done_past test_shape RightParen ts x.1 (λ rest. Ok (x.0, rest)) (record { item = x.0; fine = f; starts = then_starts t (taken_on close u) }) (λ rest v. ((and_then t (and_then u v), f), tt))))

  maybe_done : (ts : List Token) (b : Bool) → Done maybe_shape ts (set_or expr ts b)
  maybe_done ts true =
      done_bind set_shape maybe_shape ts ts (set_with expr ts) (λ set. Ok (Some set.0, set.1)) (set_done ts) (λ x rest f s. record { item = Some x; fine = f; starts = s }) (λ x u f h. ((u, f), tt))
  maybe_done ts false = ((nothing ts, tt), tt)

  for_done : (ts : List Token) → Done for_shape ts (for_head expr ts)
  for_done ts =
      let third = kinds.Mark Semicolon ∷ close in
      let second = kinds.Mark Semicolon ∷ (spelled blank ++ third) in
      done_past for_shape LeftParen ts ts _ (begun_here for_shape ts (None, blank, None) (tt, (tt, tt))) (λ inside t.
      done_bind maybe_shape for_shape ts inside (set_maybe expr inside) _ (maybe_done inside (head_is is_name inside))
      (λ x rest f s. record { item = (x, blank, None); fine = (f, (tt, tt)); starts = then_starts t (starts_on second s) }) (λ a p f h.
      done_past for_shape Semicolon ts a.1 _ (record { item = (a.0, blank, None); fine = (f, (tt, tt)); starts = then_starts t (taken_on second p) }) (λ after_first u.
      done_bind whole for_shape ts after_first (expr after_first) _ (ok after_first)
      (λ x rest g s. record { item = (a.0, x, None); fine = (f, (g, tt)); starts = then_starts t (then_starts p (then_starts u (starts_on third s))) }) (λ e q g i.
      done_past for_shape Semicolon ts e.1 _ (record { item = (a.0, e.0, None); fine = (f, (g, tt)); starts = then_starts t (then_starts p (then_starts u (taken_on third q))) }) (λ after_test v.
      done_bind maybe_shape for_shape ts after_test (set_maybe expr after_test) _ (maybe_done after_test (head_is is_name after_test))
      (λ x rest k s. record { item = (a.0, e.0, x); fine = (f, (g, k)); starts = then_starts t (then_starts p (then_starts u (then_starts q (then_starts v (starts_on close s))))) }) (λ b r k j.
      done_past for_shape RightParen ts b.1 (λ rest. Ok ((a.0, e.0, b.0), rest))
      (record { item = (a.0, e.0, b.0); fine = (f, (g, k)); starts = then_starts t (then_starts p (then_starts u (then_starts q (then_starts v (taken_on close r))))) }) (λ rest w.
      ((and_then t (and_then p (and_then u (and_then q (and_then v (and_then r w))))), (f, (g, k))), tt))))))))

  pair_done : (ts : List Token) → Done pair_shape ts (pair_with expr ts)
  pair_done ts =
      let second = kinds.Mark Comma ∷ (spelled blank ++ close) in
      done_bind whole pair_shape ts ts (expr ts) (λ a. past Comma a.1 λ after_a. expr after_a >>= λ b. past RightParen b.1 λ rest. Ok ((a.0, b.0), rest)) (ok ts)
      (λ x rest f s. record { item = (x, blank); fine = (f, tt); starts = starts_on second s }) (λ a p f h.
      done_past pair_shape Comma ts a.1 (λ after_a. expr after_a >>= λ b. past RightParen b.1 λ rest. Ok ((a.0, b.0), rest)) (record { item = (a.0, blank); fine = (f, tt); starts = taken_on second p }) (λ after_a u.
      done_bind whole pair_shape ts after_a (expr after_a) (λ b. past RightParen b.1 λ rest. Ok ((a.0, b.0), rest)) (ok after_a)
      (λ x rest g s. record { item = (a.0, x); fine = (f, g); starts = then_starts p (then_starts u (starts_on close s)) }) (λ b q g k.
      done_past pair_shape RightParen ts b.1 (λ rest. Ok ((a.0, b.0), rest)) (record { item = (a.0, b.0); fine = (f, g); starts = then_starts p (then_starts u (taken_on close q)) }) (λ rest w.
      ((and_then p (and_then u (and_then q w)), (f, g)), tt)))))

  cone_done : (ts : List Token) (o : Option (List Token)) → rest_after (is_mark Comma) ts ≡ o → Done cone_shape ts (cone_then expr ts o)
  cone_done ts None e = done_past cone_shape RightParen ts ts (λ rest. Ok (None, rest)) (begun_here cone_shape ts None tt) (λ rest u. ((u, tt), tt))
  cone_done ts (Some inside) e =
      let t : Takes ts (kinds.Mark Comma ∷ []) inside = record { text = mark_after Comma ts inside e } in
      done_bind pair_shape cone_shape ts inside (pair_with expr inside) (λ cone. Ok (Some cone.0, cone.1)) (pair_done inside)
      (λ x rest f s. record { item = Some x; fine = f; starts = then_starts t s }) (λ x u f h. ((and_then t u, f), tt))

  place_done : (ts : List Token) → Done place_shape ts (lights_head expr ts)
  place_done ts =
      done_past place_shape LeftParen ts ts (λ inside. expr inside >>= λ place. cone_in expr place.1 >>= λ cone. Ok ((place.0, cone.0), cone.1)) (begun_here place_shape ts (blank, None) (tt, tt)) (λ inside t.
      done_bind whole place_shape ts inside (expr inside) (λ place. cone_in expr place.1 >>= λ cone. Ok ((place.0, cone.0), cone.1)) (ok inside)
      (λ x rest f s. record { item = (x, None); fine = (f, tt); starts = then_starts t (starts_on close s) }) (λ a p f h.
      done_bind cone_shape place_shape ts a.1 (cone_in expr a.1) (λ cone. Ok ((a.0, cone.0), cone.1)) (cone_done a.1 (rest_after (is_mark Comma) a.1) refl)
      (λ c rest g s. record { item = (a.0, c); fine = (f, g); starts = then_starts t (then_starts p s) }) (λ c q g k. ((and_then t (and_then p q), (f, g)), tt))))

  sun_done : (ts : List Token) → Done sun_shape ts (solar_head expr ts)
  sun_done ts =
      done_past sun_shape LeftParen ts ts (λ inside. pair_with expr inside) (begun_here sun_shape ts (blank, blank) (tt, tt)) (λ inside t.
      done_more pair_shape sun_shape ts inside (pair_with expr inside) (pair_done inside) (λ x rest f s. record { item = x; fine = f; starts = then_starts t s }) (λ x rest u f h. ((and_then t u, f), tt)))

  not_taken : (b : Bool) (o : Option (List Token)) (rest : List Token) → (b ≡ true → o ≡ None) → o ≡ Some rest → b ≡ false
  not_taken false o rest h e = refl
  not_taken true o rest h e = let n = h refl in absurd (cc (n, e))

  taken : (rest : List Token) → ◌≡◌ {A = Bool} false true → rest_after is_else rest ≡ None
  taken rest h = absurd (cc h)

  module _ (stmt : List Token → Reads S.Stmt) (fine : (ts : List Token) → Done stmt_shape ts (stmt ts)) where
    unless_on : (ts : List Token) (o : Option (List Token)) (r : Reads S.Stmt) → stmt_unless stmt ts o ≡ Some r → Done stmt_shape ts r
    unless_on ts None r e = subst (λ r. Done stmt_shape ts r) (same (stmt ts) r e) (fine ts)
      where
        same : (a b : Reads S.Stmt) → ◌≡◌ {A = Option (Reads S.Stmt)} (Some a) (Some b) → a ≡ b
        same a b e = cc
    unless_on ts (Some rest) r e = absurd (cc e)

    stmts_done : (k : ℕ) (ts : List Token) → Done body_shape ts (many (next_stmt stmt) k ts)
    stmts_done k ts =
        done_many stmt_shape (λ b. spelled_stmts (S.stmts b)) (λ k b. GrammaticalStmts (S.stmts b)) refl (λ x xs. refl) (λ k. tt) (λ k x xs f g. (f, g)) (next_stmt stmt)
        (λ ts r e. unless_on ts (rest_after (is_mark RightBrace) ts) r e) k ts

    pub block_done : (ts : List Token) → Done closed_shape ts (block_in stmt ts)
    block_done ts =
        let brace = kinds.Mark RightBrace ∷ [] in
        done_bind body_shape closed_shape ts ts (many (next_stmt stmt) (length ts + 1) ts) (λ body. past RightBrace body.1 λ rest. Ok (body.0, rest)) (stmts_done (length ts + 1) ts)
        (λ b rest f s. record { item = b; fine = f; starts = starts_on brace s }) (λ x t f h.
        done_past closed_shape RightBrace ts x.1 (λ rest. Ok (x.0, rest)) (record { item = x.0; fine = f; starts = taken_on brace t }) (λ rest u. ((and_then t u, f), tt)))

    module _ (before : List Token) (line : ℕ) where
      abbrev end : List TokenKind
      end = kinds.Mark Semicolon ∷ []

      else_on : (mid after : List Token) (e : S.Expr) (s : S.Stmt) → Takes before (kinds.Word words.If ∷ spelled_test e) mid → Grammatical e → Takes mid (spelled_stmt s) after → GrammaticalStmt s
          → (takes_else s ≡ true → rest_after is_else after ≡ None) → (o : Option (List Token)) → rest_after is_else after ≡ o → Done stmt_shape before (else_then stmt e s line after o)
      else_on mid after e s t g u f h None i = ((and_then t u, (g, f)), λ takes. i)
      else_on mid after e s t g u f h (Some rest) i =
          let v : Takes after (kinds.Word words.Else ∷ []) rest = record { text = after_is is_else (kinds.Word words.Else) is_else_is after rest i } in
          let n = not_taken (takes_else s) (rest_after is_else after) rest h i in
          done_bind stmt_shape stmt_shape before rest (stmt rest) (λ second. Ok (S.test_else e s second.0 line, second.1)) (fine rest)
          (λ x left k w. record { item = S.test_else e s x line; fine = (g, ((n, f), k)); starts = then_starts t (then_starts u (then_starts v w)) })
          (λ x w k j. ((and_then t (and_then u (and_then v w)), (g, ((n, f), k))), j))

      if_done : (ts : List Token) → Takes before (kinds.Word words.If ∷ []) ts → Done stmt_shape before (if_with stmt expr line ts)
      if_done ts t =
          done_bind test_shape stmt_shape before ts (test_with expr ts) (λ test. stmt test.1 >>= λ first. else_then stmt test.0 first.0 line first.1 (rest_after is_else first.1)) (test_done ts)
          (λ x rest f s. record { item = S.test x blank_stmt line; fine = (f, tt); starts = then_starts t (starts_on end s) }) (λ e p f h.
          done_bind stmt_shape stmt_shape before e.1 (stmt e.1) (λ first. else_then stmt e.0 first.0 line first.1 (rest_after is_else first.1)) (fine e.1)
          (λ x rest g s. record { item = S.test e.0 x line; fine = (f, g); starts = then_starts t (then_starts p s) })
          (λ s q g k. else_on e.1 s.1 e.0 s.0 (and_then t p) f q g k (rest_after is_else s.1) refl))

      while_done : (ts : List Token) → Takes before (kinds.Word words.While ∷ []) ts → Done stmt_shape before (while_with stmt expr line ts)
      while_done ts t =
          done_bind test_shape stmt_shape before ts (test_with expr ts) (λ test. stmt test.1 >>= λ body. Ok (S.repeat test.0 body.0 line, body.1)) (test_done ts)
          (λ x rest f s. record { item = S.repeat x blank_stmt line; fine = (f, tt); starts = then_starts t (starts_on end s) }) (λ e p f h.
          done_bind stmt_shape stmt_shape before e.1 (stmt e.1) (λ body. Ok (S.repeat e.0 body.0 line, body.1)) (fine e.1)
          (λ x rest g s. record { item = S.repeat e.0 x line; fine = (f, g); starts = then_starts t (then_starts p s) }) (λ s q g k. ((and_then t (and_then p q), (f, g)), k)))

      for_stmt : (ts : List Token) → Takes before (kinds.Word words.For ∷ []) ts → Done stmt_shape before (for_with stmt expr line ts)
      for_stmt ts t =
          done_bind for_shape stmt_shape before ts (for_head expr ts) (λ head. stmt head.1 >>= λ body. Ok (S.steps head.0.0 head.0.1 head.0.2 body.0 line, body.1)) (for_done ts)
          (λ x rest f s. record { item = S.steps x.0 x.1 x.2 blank_stmt line; fine = (f, tt); starts = then_starts t (starts_on end s) }) (λ e p f h.
          done_bind stmt_shape stmt_shape before e.1 (stmt e.1) (λ body. Ok (S.steps e.0.0 e.0.1 e.0.2 body.0 line, body.1)) (fine e.1)
          (λ x rest g s. record { item = S.steps e.0.0 e.0.1 e.0.2 x line; fine = (f, g); starts = then_starts t (then_starts p s) }) (λ s q g k. ((and_then t (and_then p q), (f, g)), k)))

      lights_done : (word : LightWord) (ts : List Token) → Takes before (spelled_light word ∷ []) ts → Done stmt_shape before (lights_with stmt expr word line ts)
      lights_done word ts t =
          done_bind place_shape stmt_shape before ts (lights_head expr ts) (λ head. stmt head.1 >>= λ body. Ok (S.lights word head.0.0 head.0.1 body.0 line, body.1)) (place_done ts)
          (λ x rest f s. record { item = S.lights word x.0 x.1 blank_stmt line; fine = (f, tt); starts = then_starts t (starts_on end s) }) (λ e p f h.
          done_bind stmt_shape stmt_shape before e.1 (stmt e.1) (λ body. Ok (S.lights word e.0.0 e.0.1 body.0 line, body.1)) (fine e.1)
          (λ x rest g s. record { item = S.lights word e.0.0 e.0.1 x line; fine = (f, g); starts = then_starts t (then_starts p s) }) (λ s q g k. ((and_then t (and_then p q), (f, g)), k)))

      solar_done : (ts : List Token) → Takes before (kinds.Word words.Solar ∷ []) ts → Done stmt_shape before (solar_with stmt expr line ts)
      solar_done ts t =
          done_bind sun_shape stmt_shape before ts (solar_head expr ts) (λ head. stmt head.1 >>= λ body. Ok (S.solar head.0.0 head.0.1 body.0 line, body.1)) (sun_done ts)
          (λ x rest f s. record { item = S.solar x.0 x.1 blank_stmt line; fine = (f, tt); starts = then_starts t (starts_on end s) }) (λ e p f h.
          done_bind stmt_shape stmt_shape before e.1 (stmt e.1) (λ body. Ok (S.solar e.0.0 e.0.1 body.0 line, body.1)) (fine e.1)
          (λ x rest g s. record { item = S.solar e.0.0 e.0.1 x line; fine = (f, g); starts = then_starts t (then_starts p s) }) (λ s q g k. ((and_then t (and_then p q), (f, g)), k)))

      return_done : (ts : List Token) → Takes before (kinds.Word words.Return ∷ []) ts → Done stmt_shape before (return_with expr line ts)
      return_done ts t =
          done_bind whole stmt_shape before ts (expr ts) (λ e. past Semicolon e.1 λ rest. Ok (S.give e.0 line, rest)) (ok ts)
          (λ x rest f s. record { item = S.give x line; fine = f; starts = then_starts t (starts_on end s) }) (λ e p f h.
          done_past stmt_shape Semicolon before e.1 (λ rest. Ok (S.give e.0 line, rest)) (record { item = S.give e.0 line; fine = f; starts = then_starts t (taken_on end p) })
          (λ rest u. ((and_then t (and_then p u), f), taken rest)))

      assign_done : Done stmt_shape before (assign_with expr before)
      assign_done =
          done_bind set_shape stmt_shape before before (set_with expr before) (λ set. past Semicolon set.1 λ rest. Ok (S.assign set.0, rest)) (set_done before)
          (λ x rest f s. record { item = S.assign x; fine = f; starts = starts_on end s }) (λ a p f h.
          done_past stmt_shape Semicolon before a.1 (λ rest. Ok (S.assign a.0, rest)) (record { item = S.assign a.0; fine = f; starts = taken_on end p }) (λ rest u. ((and_then p u, f), taken rest)))

      declare_done : Done stmt_shape before (declare_with expr line before)
      declare_done =
          done_bind (group_shape Freely) stmt_shape before before (group_with expr Freely before) (λ g. past Semicolon g.1 λ rest. Ok (S.declare g.0.class g.0.kind g.0.names line, rest)) (group_done Freely before)
          (λ x rest f s. record { item = S.declare x.class x.kind x.names line; fine = f; starts = starts_on end s }) (λ g p f h.
          done_past stmt_shape Semicolon before g.1 (λ rest. Ok (S.declare g.0.class g.0.kind g.0.names line, rest)) (record { item = S.declare g.0.class g.0.kind g.0.names line; fine = f; starts = taken_on end p })
          (λ rest u. ((and_then p u, f), taken rest)))

      simple_done : (s : S.Stmt) (word : Word) (rest : List Token) → GrammaticalStmt s → takes_else s ≡ false → spelled_stmt s ≡ kinds.Word word ∷ end → Takes before (kinds.Word word ∷ []) rest
          → Done stmt_shape before (past Semicolon rest (λ left. Ok (s, left)))
      simple_done s word rest f n is t =
          done_past stmt_shape Semicolon before rest (λ left. Ok (s, left)) (record { item = s; fine = f; starts = subst (λ ks. Starts before ks rest) (sym is) (taken_on end t) })
          (λ left u. ((subst (λ ks. Takes before ks left) (sym is) (and_then t u), f), λ takes. absurd (cc (n, takes))))

      word_on : (word : Word) (rest : List Token) → Takes before (kinds.Word word ∷ []) rest → Done stmt_shape before (word_with stmt expr word line rest before)
      word_on words.Break rest t = simple_done (S.leave line) words.Break rest tt refl refl t
      word_on words.Continue rest t = simple_done (S.again line) words.Continue rest tt refl refl t
      word_on words.Return rest t = return_done rest t
      word_on words.If rest t = if_done rest t
      word_on words.Else rest t = begun_here stmt_shape before blank_stmt tt
      word_on words.While rest t = while_done rest t
      word_on words.For rest t = for_stmt rest t
      word_on words.Illuminance rest t = lights_done light_words.Illuminance rest t
      word_on words.Illuminate rest t = lights_done light_words.Illuminate rest t
      word_on words.Solar rest t = solar_done rest t

      stmt_on : (k : TokenKind) (rest : List Token) → Takes before (k ∷ []) rest → Done stmt_shape before (stmt_in stmt expr k line rest before)
      stmt_on (kinds.Mark Semicolon) rest t = ((t, tt), taken rest)
      stmt_on (kinds.Mark LeftBrace) rest t =
          done_bind closed_shape stmt_shape before rest (block_in stmt rest) (λ body. Ok (S.block (S.stmts body.0) line, body.1)) (block_done rest)
          (λ x left f s. record { item = S.block (S.stmts x) line; fine = f; starts = then_starts t s }) (λ x u f h. ((and_then t u, f), taken x.1))
      stmt_on (kinds.Name name) rest t = assign_done
      stmt_on (kinds.Class class) rest t = declare_done
      stmt_on (kinds.Type kind) rest t = declare_done
      stmt_on (kinds.Word word) rest t = word_on word rest t
      stmt_on _ rest t = begun_here stmt_shape before blank_stmt tt

    opened_done : (ts : List Token) → Done stmt_shape ts (stmt_opened stmt expr ts)
    opened_done [] = begun_here stmt_shape [] blank_stmt tt
    opened_done (t ∷ ts) = stmt_on (t ∷ ts) t.line t.kind ts (record { text = refl })

pub stmt_starts : (n : ℕ) (ts : List Token) → Done stmt_shape ts (stmt_at n ts)
stmt_starts zero ts = done_deep stmt_shape begins_stmt ts (begun_here stmt_shape ts blank_stmt tt)
stmt_starts (suc n) ts = opened_done (expr_at n) (expr_starts n) (stmt_at n) (stmt_starts n) ts
