-- The tree of a statement spells the tokens that were read, and opens no more levels than were left.
use Rattle.std.proofs.Common.{◌≡◌, ℕ, ◌+◌, ◌≤◌, ◌∷◌, [], ◌++◌, List, Option, Some, None, Ok, Bool, true, false, length, refl, subst, arith, max}
use Rattle.sl_ast.specs.Syntax as S
use Rattle.sl_ast.specs.Levels.{levels_of, levels_where, levels_set, levels_cone, levels_names, levels_stmt, levels_stmts}
use Rattle.sl_ast.specs.declared.kinds.SlType.{SlType}
use Rattle.sl_ast.specs.declared.kinds.Class.{Class}
use Rattle.sl_ast.specs.declared.kinds.SetOperator.{SetOperator}
use Rattle.sl_ast.specs.declared.kinds.SetOperator.TheVariants as sets
use Rattle.sl_ast.specs.declared.syntax.LightWord.{LightWord}
use Rattle.sl_ast.specs.declared.syntax.LightWord.TheVariants as light_words
use Rattle.sl_lexer.specs.declared.token.Token.{Token}
use Rattle.sl_lexer.specs.declared.token.TokenKind.{TokenKind}
use Rattle.sl_lexer.specs.declared.token.TokenKind.TheVariants as kinds
use Rattle.sl_lexer.specs.declared.token.Word.{Word}
use Rattle.sl_lexer.specs.declared.token.Word.TheVariants as words
use Rattle.sl_lexer.specs.declared.token.Mark.TheVariants.{LeftParen, RightParen, LeftBrace, RightBrace, Semicolon, Comma, Question, Colon}
use Rattle.sl_expression_grammar.specs.Reading.{Reads, with_front, many, after_comma, commas, rest_after, is_mark, head_is}
use Rattle.sl_parser.specs.declared.declarations.Valued.{Valued}
use Rattle.sl_parser.specs.declared.declarations.Valued.TheVariants.{Always, Never, Freely}
use Rattle.sl_parser.specs.Statements.{front_line, name_at, named_then, named, set_at, set_then, set_with, type_at, class_at, is_equals, value_after, value_then, value_with, declared_with, group_then, group_with, is_else, stmt_unless, next_stmt, block_in, test_with, else_then, if_with, while_with, set_or, is_name, set_maybe, For, for_head, for_with, pair_with, cone_then, cone_in, lights_head, lights_with, solar_head, solar_with, return_with, assign_with, declare_with, word_with, stmt_in, stmt_opened}
use Rattle.sl_parser.specs.Spelled.{spelled, spelled_set, spelled_maybe, spelled_value, spelled_declared, spelled_further, spelled_names, spelled_class, spelled_group, spelled_pair, spelled_cone, spelled_light, spelled_test, spelled_for, spelled_stmt, spelled_stmts}
use Rattle.sl_parser.proofs.Fronts.{after_is, mark_after}
use Rattle.sl_parser.proofs.FrontNames.{name_at_is, set_at_is, type_at_is, class_at_is, is_equals_is, is_else_is}
use Rattle.sl_parser.proofs.Good.{Good, good_bind, good_past, good_front, good_more, good_many, comma_each, Takes, and_then}
use Rattle.sl_parser.proofs.ExprTexts.{Spells, IsExpr, nothing}

named_on : {A : Type 0} (ts : List Token) (go : List ℕ → ℕ → List Token → Reads A) (Q : A → List Token → Type 0) (o : Option (List ℕ × ℕ × List Token)) → name_at ts ≡ o
    → ((name : List ℕ) (line : ℕ) (rest : List Token) → Takes ts (kinds.Name name ∷ []) rest → Good (go name line rest) Q) → Good (named_then ts go o) Q
named_on ts go Q None e h = tt
named_on ts go Q (Some n) e h = h n.0 n.1 n.2 (record { text = name_at_is ts n e })

pub good_named : {A : Type 0} (ts : List Token) (go : List ℕ → ℕ → List Token → Reads A) (Q : A → List Token → Type 0)
    → ((name : List ℕ) (line : ℕ) (rest : List Token) → Takes ts (kinds.Name name ∷ []) rest → Good (go name line rest) Q) → Good (named ts go) Q
good_named ts go Q h = named_on ts go Q (name_at ts) refl h

module _ (n : ℕ) (expr : List Token → Reads S.Expr) (ok : (ts : List Token) → Good (expr ts) (IsExpr n ts)) where
  abbrev pub IsSet : List Token → S.Assignment → List Token → Type 0
  IsSet = Spells spelled_set (λ a. levels_of a.value) n

  abbrev pub IsValue : List Token → Option S.Expr → List Token → Type 0
  IsValue = Spells spelled_value levels_where n

  abbrev pub IsDeclared : List Token → S.Declared → List Token → Type 0
  IsDeclared = Spells spelled_declared (λ d. levels_where d.value) n

  abbrev pub IsGroup : List Token → S.Group → List Token → Type 0
  IsGroup = Spells spelled_group (λ g. levels_names g.names) n

  set_on : (before ts : List Token) (name : List ℕ) (line set_line : ℕ) → Takes before (kinds.Name name ∷ []) ts → (o : Option (SetOperator × List Token)) → set_at ts ≡ o
      → Good (set_then expr name line set_line ts o) (IsSet before)
  set_on before ts name line set_line t None e = tt
  set_on before ts name line set_line t (Some o) e =
      let u : Takes ts (kinds.Set o.0 ∷ []) o.1 = record { text = set_at_is ts o e } in
      good_bind (expr o.1) (λ e. Ok (record { name = name; operator = o.0; value = e.0; line = line; set_line = set_line }, e.1)) (IsExpr n o.1) (IsSet before) (ok o.1)
      (λ x p. record { takes = and_then t (and_then u p.takes); levels = p.levels })

  pub set_ok : (ts : List Token) → Good (set_with expr ts) (IsSet ts)
  set_ok ts = good_named ts _ (IsSet ts) (λ name line rest t. set_on ts rest name line (front_line rest) t (set_at rest) refl)

  given : (before rest : List Token) → Takes before (kinds.Set sets.Set ∷ []) rest → Good (value_after expr rest) (IsValue before)
  given before rest t =
      good_bind (expr rest) (λ e. Ok (Some e.0, e.1)) (IsExpr n rest) (IsValue before) (ok rest)
      (λ x p. record { takes = and_then t p.takes; levels = p.levels })

  missing : (ts : List Token) → IsValue ts None ts
  missing ts = record { takes = nothing ts; levels = omega arith }

  value_on : (valued : Valued) (ts : List Token) (o : Option (List Token)) → rest_after is_equals ts ≡ o → Good (value_then expr valued ts o) (IsValue ts)
  value_on Always ts None e = tt
  value_on Always ts (Some rest) e = given ts rest (record { text = after_is is_equals (kinds.Set sets.Set) is_equals_is ts rest e })
  value_on Freely ts None e = missing ts
  value_on Freely ts (Some rest) e = given ts rest (record { text = after_is is_equals (kinds.Set sets.Set) is_equals_is ts rest e })
  value_on Never ts None e = missing ts
  value_on Never ts (Some rest) e = missing ts

  declared_ok : (valued : Valued) (ts : List Token) → Good (declared_with expr valued ts) (IsDeclared ts)
  declared_ok valued ts =
      good_named ts _ (IsDeclared ts) (λ name line rest t.
      good_bind (value_with expr valued rest) (λ value. Ok (record { name = name; value = value.0; line = line; set_line = front_line rest }, value.1)) (IsValue rest) (IsDeclared ts)
      (value_on valued rest (rest_after is_equals rest) refl) (λ x p. record { takes = and_then t p.takes; levels = p.levels }))

  abbrev IsFurther : List Token → List S.Declared → List Token → Type 0
  IsFurther = Spells spelled_further levels_names n

  abbrev IsNames : List Token → List S.Declared → List Token → Type 0
  IsNames = Spells spelled_names levels_names n

  further_ok : (valued : Valued) (k : ℕ) (ts : List Token) → Good (many (after_comma (declared_with expr valued)) k ts) (IsFurther ts)
  further_ok valued k ts =
      good_many (after_comma (declared_with expr valued)) (λ ts x rest. (after : List Token) × (Takes ts (kinds.Mark Comma ∷ []) after × IsDeclared after x rest)) IsFurther
      (λ ts. record { takes = nothing ts; levels = omega arith })
      (λ ts rest left x xs p q. let e = p.1.1 in record { takes = and_then p.1.0 (and_then e.takes q.takes); levels = omega (arith, e.levels, q.levels) })
      (comma_each (declared_with expr valued) IsDeclared (declared_ok valued)) k ts

  names_ok : (valued : Valued) (ts : List Token) → Good (commas (declared_with expr valued) ts) (IsNames ts)
  names_ok valued ts =
      let item = declared_with expr valued in
      good_bind (item ts) (λ x. with_front (x.0 ∷ []) (many (after_comma item) (length x.1) x.1)) (IsDeclared ts) (IsNames ts) (declared_ok valued ts) (λ x p.
      good_front x.0 (many (after_comma item) (length x.1) x.1) (IsFurther x.1) (IsNames ts) (further_ok valued (length x.1) x.1)
      (λ xs rest q. record { takes = and_then p.takes q.takes; levels = omega (arith, p.levels, q.levels) }))

  group_on : (valued : Valued) (before ts : List Token) (class : Option Class) → Takes before (spelled_class class) ts → (o : Option (SlType × List Token)) → type_at ts ≡ o
      → Good (group_then expr valued class ts o) (IsGroup before)
  group_on valued before ts class t None e = tt
  group_on valued before ts class t (Some k) e =
      let u : Takes ts (kinds.Type k.0 ∷ []) k.1 = record { text = type_at_is ts k e } in
      good_bind (commas (declared_with expr valued) k.1) (λ names. Ok (record { class = class; kind = k.0; names = names.0 }, names.1)) (IsNames k.1) (IsGroup before) (names_ok valued k.1)
      (λ x p. record { takes = and_then t (and_then u p.takes); levels = p.levels })

  pub group_ok : (valued : Valued) (ts : List Token) → Good (group_with expr valued ts) (IsGroup ts)
  group_ok valued ts =
      let c = class_at ts in
      group_on valued ts c.1 c.0 (record { text = class_at_is ts }) (type_at c.1) refl

  abbrev IsTest : List Token → S.Expr → List Token → Type 0
  IsTest = Spells spelled_test levels_of n

  test_ok : (ts : List Token) → Good (test_with expr ts) (IsTest ts)
  test_ok ts =
      good_past LeftParen ts _ (IsTest ts) (λ inside t.
      good_bind (expr inside) _ (IsExpr n inside) (IsTest ts) (ok inside) (λ x p.
      good_past RightParen x.1 (λ rest. Ok (x.0, rest)) (IsTest ts) (λ rest u. record { takes = and_then t (and_then p.takes u); levels = p.levels })))

  abbrev IsMaybe : List Token → Option S.Assignment → List Token → Type 0
  IsMaybe = Spells spelled_maybe levels_set n

  maybe_on : (ts : List Token) (b : Bool) → Good (set_or expr ts b) (IsMaybe ts)
  maybe_on ts true =
      good_bind (set_with expr ts) (λ set. Ok (Some set.0, set.1)) (IsSet ts) (IsMaybe ts) (set_ok ts) (λ x p. record { takes = p.takes; levels = p.levels })
  maybe_on ts false = record { takes = nothing ts; levels = omega arith }

  abbrev IsFor : List Token → For → List Token → Type 0
  IsFor = Spells (λ h. spelled_for h.0 h.1 h.2) (λ h. max (levels_set h.0) (max (levels_of h.1) (levels_set h.2))) n

  for_ok : (ts : List Token) → Good (for_head expr ts) (IsFor ts)
  for_ok ts =
      good_past LeftParen ts _ (IsFor ts) (λ inside t.
      good_bind (set_maybe expr inside) _ (IsMaybe inside) (IsFor ts) (maybe_on inside (head_is is_name inside)) (λ a p.
      good_past Semicolon a.1 _ (IsFor ts) (λ second u.
      good_bind (expr second) _ (IsExpr n second) (IsFor ts) (ok second) (λ e q.
      good_past Semicolon e.1 _ (IsFor ts) (λ third v.
      good_bind (set_maybe expr third) _ (IsMaybe third) (IsFor ts) (maybe_on third (head_is is_name third)) (λ b r.
      good_past RightParen b.1 (λ rest. Ok ((a.0, e.0, b.0), rest)) (IsFor ts) (λ rest w.
      record {
        takes = and_then t (and_then p.takes (and_then u (and_then q.takes (and_then v (and_then r.takes w)))));
        levels = omega (arith, p.levels, q.levels, r.levels);
      })))))))

  abbrev IsPair : List Token → S.Expr × S.Expr → List Token → Type 0
  IsPair = Spells spelled_pair (λ c. max (levels_of c.0) (levels_of c.1)) n

  pair_ok : (ts : List Token) → Good (pair_with expr ts) (IsPair ts)
  pair_ok ts =
      good_bind (expr ts) _ (IsExpr n ts) (IsPair ts) (ok ts) (λ a p.
      good_past Comma a.1 _ (IsPair ts) (λ second u.
      good_bind (expr second) _ (IsExpr n second) (IsPair ts) (ok second) (λ b q.
      good_past RightParen b.1 (λ rest. Ok ((a.0, b.0), rest)) (IsPair ts) (λ rest w.
      record { takes = and_then p.takes (and_then u (and_then q.takes w)); levels = omega (arith, p.levels, q.levels) }))))

  abbrev IsCone : List Token → Option (S.Expr × S.Expr) → List Token → Type 0
  IsCone = Spells spelled_cone levels_cone n

  cone_on : (ts : List Token) (o : Option (List Token)) → rest_after (is_mark Comma) ts ≡ o → Good (cone_then expr ts o) (IsCone ts)
  cone_on ts None e = good_past RightParen ts (λ rest. Ok (None, rest)) (IsCone ts) (λ rest u. record { takes = u; levels = omega arith })
  cone_on ts (Some inside) e =
      let t : Takes ts (kinds.Mark Comma ∷ []) inside = record { text = mark_after Comma ts inside e } in
      good_bind (pair_with expr inside) (λ cone. Ok (Some cone.0, cone.1)) (IsPair inside) (IsCone ts) (pair_ok inside)
      (λ x p. record { takes = and_then t p.takes; levels = p.levels })

  abbrev IsPlace : List Token → S.Expr × Option (S.Expr × S.Expr) → List Token → Type 0
  IsPlace = Spells (λ h. kinds.Mark LeftParen ∷ (spelled h.0 ++ spelled_cone h.1)) (λ h. max (levels_of h.0) (levels_cone h.1)) n

  place_ok : (ts : List Token) → Good (lights_head expr ts) (IsPlace ts)
  place_ok ts =
      good_past LeftParen ts _ (IsPlace ts) (λ inside t.
      good_bind (expr inside) _ (IsExpr n inside) (IsPlace ts) (ok inside) (λ a p.
      good_bind (cone_in expr a.1) (λ cone. Ok ((a.0, cone.0), cone.1)) (IsCone a.1) (IsPlace ts) (cone_on a.1 (rest_after (is_mark Comma) a.1) refl) (λ c q.
      record { takes = and_then t (and_then p.takes q.takes); levels = omega (arith, p.levels, q.levels) })))

  abbrev IsSun : List Token → S.Expr × S.Expr → List Token → Type 0
  IsSun = Spells (λ c. kinds.Mark LeftParen ∷ spelled_pair c) (λ c. max (levels_of c.0) (levels_of c.1)) n

  sun_ok : (ts : List Token) → Good (solar_head expr ts) (IsSun ts)
  sun_ok ts =
      good_past LeftParen ts _ (IsSun ts) (λ inside t.
      good_more (pair_with expr inside) (IsPair inside) (IsSun ts) (pair_ok inside) (λ x rest p. record { takes = and_then t p.takes; levels = p.levels }))

  module _ (stmt : List Token → Reads S.Stmt) (fine : (ts : List Token) → Good (stmt ts) (Spells spelled_stmt levels_stmt n ts)) where
    abbrev IsInner : List Token → S.Stmt → List Token → Type 0
    IsInner = Spells spelled_stmt levels_stmt n

    -- with the level that a statement opens itself
    abbrev pub IsOuter : List Token → S.Stmt → List Token → Type 0
    IsOuter = Spells spelled_stmt levels_stmt (1 + n)

    abbrev IsStmts : List Token → List S.Stmt → List Token → Type 0
    IsStmts = Spells (λ b. spelled_stmts (S.stmts b)) (λ b. levels_stmts (S.stmts b)) n

    abbrev pub IsBlock : List Token → List S.Stmt → List Token → Type 0
    IsBlock = Spells (λ b. spelled_stmts (S.stmts b) ++ (kinds.Mark RightBrace ∷ [])) (λ b. levels_stmts (S.stmts b)) n

    unless_on : (ts : List Token) (o : Option (List Token)) (r : Reads S.Stmt) → stmt_unless stmt ts o ≡ Some r → Good r (IsInner ts)
    unless_on ts None r e = subst (λ r. Good r (IsInner ts)) (same (stmt ts) r e) (fine ts)
      where
        same : (a b : Reads S.Stmt) → ◌≡◌ {A = Option (Reads S.Stmt)} (Some a) (Some b) → a ≡ b
        same a b e = cc
    unless_on ts (Some rest) r e = absurd (cc e)

    pub block_ok : (ts : List Token) → Good (block_in stmt ts) (IsBlock ts)
    block_ok ts =
        good_bind (many (next_stmt stmt) (length ts + 1) ts) _ (IsStmts ts) (IsBlock ts)
        (good_many (next_stmt stmt) IsInner IsStmts (λ ts. record { takes = nothing ts; levels = omega arith })
        (λ ts rest left x xs p q. record { takes = and_then p.takes q.takes; levels = omega (arith, p.levels, q.levels) })
        (λ ts r e. unless_on ts (rest_after (is_mark RightBrace) ts) r e) (length ts + 1) ts) (λ x p.
        good_past RightBrace x.1 (λ rest. Ok (x.0, rest)) (IsBlock ts) (λ rest u. record { takes = and_then p.takes u; levels = p.levels }))

    module _ (before : List Token) (line : ℕ) where
      else_on : (after : List Token) (e : S.Expr) (s : S.Stmt) (mid : List Token) → Takes before (kinds.Word words.If ∷ spelled_test e) mid → levels_of e ≤ n → IsInner mid s after
          → (o : Option (List Token)) → rest_after is_else after ≡ o → Good (else_then stmt e s line after o) (IsOuter before)
      else_on after e s mid t low p None h = record { takes = and_then t p.takes; levels = omega (arith, low, p.levels) }
      else_on after e s mid t low p (Some rest) h =
          let u : Takes after (kinds.Word words.Else ∷ []) rest = record { text = after_is is_else (kinds.Word words.Else) is_else_is after rest h } in
          good_bind (stmt rest) (λ second. Ok (S.test_else e s second.0 line, second.1)) (IsInner rest) (IsOuter before) (fine rest)
          (λ x q. record { takes = and_then t (and_then p.takes (and_then u q.takes)); levels = omega (arith, low, p.levels, q.levels) })

      if_ok : (ts : List Token) → Takes before (kinds.Word words.If ∷ []) ts → Good (if_with stmt expr line ts) (IsOuter before)
      if_ok ts t =
          good_bind (test_with expr ts) _ (IsTest ts) (IsOuter before) (test_ok ts) (λ e p.
          good_bind (stmt e.1) (λ first. else_then stmt e.0 first.0 line first.1 (rest_after is_else first.1)) (IsInner e.1) (IsOuter before) (fine e.1) (λ s q.
          else_on s.1 e.0 s.0 e.1 (and_then t p.takes) p.levels q (rest_after is_else s.1) refl))

      while_ok : (ts : List Token) → Takes before (kinds.Word words.While ∷ []) ts → Good (while_with stmt expr line ts) (IsOuter before)
      while_ok ts t =
          good_bind (test_with expr ts) _ (IsTest ts) (IsOuter before) (test_ok ts) (λ e p.
          good_bind (stmt e.1) (λ body. Ok (S.repeat e.0 body.0 line, body.1)) (IsInner e.1) (IsOuter before) (fine e.1) (λ s q.
          record { takes = and_then t (and_then p.takes q.takes); levels = omega (arith, p.levels, q.levels) }))

      for_fine : (ts : List Token) → Takes before (kinds.Word words.For ∷ []) ts → Good (for_with stmt expr line ts) (IsOuter before)
      for_fine ts t =
          good_bind (for_head expr ts) _ (IsFor ts) (IsOuter before) (for_ok ts) (λ h p.
          good_bind (stmt h.1) (λ body. Ok (S.steps h.0.0 h.0.1 h.0.2 body.0 line, body.1)) (IsInner h.1) (IsOuter before) (fine h.1) (λ s q.
          record { takes = and_then t (and_then p.takes q.takes); levels = omega (arith, p.levels, q.levels) }))

      lights_ok : (word : LightWord) (ts : List Token) → Takes before (spelled_light word ∷ []) ts → Good (lights_with stmt expr word line ts) (IsOuter before)
      lights_ok word ts t =
          good_bind (lights_head expr ts) _ (IsPlace ts) (IsOuter before) (place_ok ts) (λ h p.
          good_bind (stmt h.1) (λ body. Ok (S.lights word h.0.0 h.0.1 body.0 line, body.1)) (IsInner h.1) (IsOuter before) (fine h.1) (λ s q.
          record { takes = and_then t (and_then p.takes q.takes); levels = omega (arith, p.levels, q.levels) }))

      solar_ok : (ts : List Token) → Takes before (kinds.Word words.Solar ∷ []) ts → Good (solar_with stmt expr line ts) (IsOuter before)
      solar_ok ts t =
          good_bind (solar_head expr ts) _ (IsSun ts) (IsOuter before) (sun_ok ts) (λ h p.
          good_bind (stmt h.1) (λ body. Ok (S.solar h.0.0 h.0.1 body.0 line, body.1)) (IsInner h.1) (IsOuter before) (fine h.1) (λ s q.
          record { takes = and_then t (and_then p.takes q.takes); levels = omega (arith, p.levels, q.levels) }))

      return_ok : (ts : List Token) → Takes before (kinds.Word words.Return ∷ []) ts → Good (return_with expr line ts) (IsOuter before)
      return_ok ts t =
          good_bind (expr ts) _ (IsExpr n ts) (IsOuter before) (ok ts) (λ e p.
          good_past Semicolon e.1 (λ rest. Ok (S.give e.0 line, rest)) (IsOuter before) (λ rest u.
          record { takes = and_then t (and_then p.takes u); levels = omega (arith, p.levels) }))

      assign_ok : Good (assign_with expr before) (IsOuter before)
      assign_ok =
          good_bind (set_with expr before) _ (IsSet before) (IsOuter before) (set_ok before) (λ a p.
          good_past Semicolon a.1 (λ rest. Ok (S.assign a.0, rest)) (IsOuter before) (λ rest u.
          record { takes = and_then p.takes u; levels = omega (arith, p.levels) }))

      declare_ok : Good (declare_with expr line before) (IsOuter before)
      declare_ok =
          good_bind (group_with expr Freely before) _ (IsGroup before) (IsOuter before) (group_ok Freely before) (λ g p.
          good_past Semicolon g.1 (λ rest. Ok (S.declare g.0.class g.0.kind g.0.names line, rest)) (IsOuter before) (λ rest u.
          record { takes = and_then p.takes u; levels = omega (arith, p.levels) }))

      word_on : (word : Word) (rest : List Token) → Takes before (kinds.Word word ∷ []) rest → Good (word_with stmt expr word line rest before) (IsOuter before)
      word_on words.Break rest t = good_past Semicolon rest (λ left. Ok (S.leave line, left)) (IsOuter before) (λ left u. record { takes = and_then t u; levels = omega arith })
      word_on words.Continue rest t = good_past Semicolon rest (λ left. Ok (S.again line, left)) (IsOuter before) (λ left u. record { takes = and_then t u; levels = omega arith })
      word_on words.Return rest t = return_ok rest t
      word_on words.If rest t = if_ok rest t
      word_on words.Else rest t = tt
      word_on words.While rest t = while_ok rest t
      word_on words.For rest t = for_fine rest t
      word_on words.Illuminance rest t = lights_ok light_words.Illuminance rest t
      word_on words.Illuminate rest t = lights_ok light_words.Illuminate rest t
      word_on words.Solar rest t = solar_ok rest t

      stmt_on : (k : TokenKind) (rest : List Token) → Takes before (k ∷ []) rest → Good (stmt_in stmt expr k line rest before) (IsOuter before)
      stmt_on (kinds.Mark Semicolon) rest t = record { takes = t; levels = omega arith }
      stmt_on (kinds.Mark LeftBrace) rest t =
          good_bind (block_in stmt rest) (λ body. Ok (S.block (S.stmts body.0) line, body.1)) (IsBlock rest) (IsOuter before) (block_ok rest)
          (λ x p. record { takes = and_then t p.takes; levels = omega (arith, p.levels) })
      stmt_on (kinds.Name name) rest t = assign_ok
      stmt_on (kinds.Class class) rest t = declare_ok
      stmt_on (kinds.Type kind) rest t = declare_ok
      stmt_on (kinds.Word word) rest t = word_on word rest t
      stmt_on (kinds.Mark LeftParen) rest t = tt
      stmt_on (kinds.Mark RightParen) rest t = tt
      stmt_on (kinds.Mark RightBrace) rest t = tt
      stmt_on (kinds.Mark Comma) rest t = tt
      stmt_on (kinds.Mark Question) rest t = tt
      stmt_on (kinds.Mark Colon) rest t = tt
      stmt_on (kinds.Number x) rest t = tt
      stmt_on (kinds.Str x) rest t = tt
      stmt_on (kinds.Kind x) rest t = tt
      stmt_on (kinds.Operator x) rest t = tt
      stmt_on kinds.Not rest t = tt
      stmt_on (kinds.Set x) rest t = tt
      stmt_on kinds.Bad rest t = tt

    pub opened_ok : (ts : List Token) → Good (stmt_opened stmt expr ts) (IsOuter ts)
    opened_ok [] = tt
    opened_ok (t ∷ ts) = stmt_on (t ∷ ts) t.line t.kind ts (record { text = refl })
