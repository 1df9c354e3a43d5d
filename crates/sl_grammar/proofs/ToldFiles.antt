-- Where the fault of a statement or a file stands, and which it is.
use Rattle.std.proofs.Common.{◌≡◌, ℕ, zero, suc, ◌+◌, [], ◌∷◌, List, Option, Some, None, Bool, true, false, length, refl, subst}
use Rattle.std.specs.Prelude.{◌↔◌}
use Rattle.sl_ast.specs.Syntax as S
use Rattle.sl_ast.specs.declared.kinds.Class.{Class}
use Rattle.sl_ast.specs.declared.kinds.SetOperator.{SetOperator}
use Rattle.sl_ast.specs.declared.kinds.SlKind.{SlKind}
use Rattle.sl_ast.specs.declared.kinds.SlType.{SlType}
use Rattle.sl_ast.specs.declared.syntax.LightWord.{LightWord}
use Rattle.sl_ast.specs.declared.syntax.LightWord.TheVariants as light_words
use Rattle.sl_lexer.specs.declared.token.Token.{Token}
use Rattle.sl_lexer.specs.declared.token.TokenKind.{TokenKind}
use Rattle.sl_lexer.specs.declared.token.TokenKind.TheVariants as kinds
use Rattle.sl_lexer.specs.declared.token.Word.{Word}
use Rattle.sl_lexer.specs.declared.token.Word.TheVariants as words
use Rattle.sl_lexer.specs.declared.token.Mark.TheVariants.{LeftParen, RightParen, LeftBrace, RightBrace, Semicolon, Comma}
use Rattle.sl_expression_grammar.specs.declared.fault.SlCode.{SlCode}
use Rattle.sl_expression_grammar.specs.declared.fault.SlCode.TheVariants.{P1, P2, P3}
use Rattle.sl_expression_grammar.specs.Reading.{Reads, many, commas, head_is, is_bad, rest_after, is_mark}
use Rattle.sl_expression_grammar.specs.Expressions.{expr_at}
use Rattle.sl_parser.specs.declared.declarations.Valued.{Valued}
use Rattle.sl_parser.specs.declared.declarations.Valued.TheVariants.{Always, Never, Freely}
use Rattle.sl_parser.specs.Statements.{name_at, named_then, named, set_at, set_then, front_line, set_with, type_at, class_at, is_equals, value_then, value_with, declared_with, group_then, group_with, begins_stmt, is_else, stmt_unless, next_stmt, block_in, test_with, else_then, set_or, is_name, set_maybe, step_with, steps_with, for_head, pair_with, cone_then, cone_in, lights_head, lights_with, assign_with, declare_with, word_with, stmt_in, stmt_opened, stmt_at}
use Rattle.sl_parser.specs.Files.{next_group, semicolon_at, groups_end, some_groups, groups_in, groups_with, body_at, function_with, next_function, functions_in, sort_at, shader_then, ended, file_of}
use Rattle.sl_grammar.specs.Laws.{opens, StandsAt, BadTokens, DeepTokens}
use Rattle.sl_grammar.proofs.Told.{Told, ToldSome, told_unexpected, told_deep, told_bind, told_front, told_past, told_map, told_many, told_commas, stmt_opens, expr_told}

then_named : {A : Type 0} (ts : List Token) (go : List ℕ → ℕ → List Token → Reads A) (o : Option (List ℕ × ℕ × List Token))
    → ((name : List ℕ) (line : ℕ) (rest : List Token) → Told (go name line rest)) → Told (named_then ts go o)
then_named {A} ts go None next = told_unexpected A ts
then_named ts go (Some n) next = next n.0 n.1 n.2

told_named : {A : Type 0} (ts : List Token) (go : List ℕ → ℕ → List Token → Reads A) → ((name : List ℕ) (line : ℕ) (rest : List Token) → Told (go name line rest)) → Told (named ts go)
told_named ts go next = then_named ts go (name_at ts) next

module _ (expr : List Token → Reads S.Expr) (h : (ts : List Token) → Told (expr ts)) where
  set_told : (name : List ℕ) (line set_line : ℕ) (ts : List Token) (o : Option (SetOperator × List Token)) → Told (set_then expr name line set_line ts o)
  set_told name line set_line ts None = told_unexpected S.Assignment ts
  set_told name line set_line ts (Some o) = told_bind (expr o.1) _ (h o.1) (λ e. tt)

  set_with_told : (ts : List Token) → Told (set_with expr ts)
  set_with_told ts = told_named ts _ (λ name line rest. set_told name line (front_line rest) rest (set_at rest))

  value_told : (valued : Valued) (ts : List Token) (o : Option (List Token)) → Told (value_then expr valued ts o)
  value_told Always ts None = told_unexpected (Option S.Expr) ts
  value_told Always ts (Some rest) = told_bind (expr rest) _ (h rest) (λ e. tt)
  value_told Freely ts None = tt
  value_told Freely ts (Some rest) = told_bind (expr rest) _ (h rest) (λ e. tt)
  value_told Never ts o = tt

  declared_told : (valued : Valued) (ts : List Token) → Told (declared_with expr valued ts)
  declared_told valued ts = told_named ts _ (λ name line rest. told_bind (value_with expr valued rest) _ (value_told valued rest (rest_after is_equals rest)) (λ value. tt))

  group_told : (valued : Valued) (class : Option Class) (ts : List Token) (o : Option (SlType × List Token)) → Told (group_then expr valued class ts o)
  group_told valued class ts None = told_unexpected S.Group ts
  group_told valued class ts (Some k) = told_bind (commas (declared_with expr valued) k.1) _ (told_commas (declared_with expr valued) (declared_told valued) k.1) (λ names. tt)

  group_with_told : (valued : Valued) (ts : List Token) → Told (group_with expr valued ts)
  group_with_told valued ts = group_told valued (class_at ts).0 (class_at ts).1 (type_at (class_at ts).1)

  test_told : (ts : List Token) → Told (test_with expr ts)
  test_told ts = told_past LeftParen ts _ (λ inside. told_bind (expr inside) _ (h inside) (λ e. told_past RightParen e.1 _ (λ rest. tt)))

  or_told : (ts : List Token) (b : Bool) → Told (set_or expr ts b)
  or_told ts true = told_bind (set_with expr ts) _ (set_with_told ts) (λ set. tt)
  or_told ts false = tt

  maybe_told : (ts : List Token) → Told (set_maybe expr ts)
  maybe_told ts = or_told ts (head_is is_name ts)

  step_told : (first : Option S.Assignment) (test : S.Expr) (ts : List Token) → Told (step_with expr first test ts)
  step_told first test ts = told_bind (set_maybe expr ts) _ (maybe_told ts) (λ step. told_past RightParen step.1 _ (λ rest. tt))

  steps_told : (first : Option S.Assignment) (ts : List Token) → Told (steps_with expr first ts)
  steps_told first ts = told_bind (expr ts) _ (h ts) (λ test. told_past Semicolon test.1 _ (λ after_test. step_told first test.0 after_test))

  for_told : (ts : List Token) → Told (for_head expr ts)
  for_told ts =
      told_past LeftParen ts _ (λ inside. told_bind (set_maybe expr inside) _ (maybe_told inside) (λ first. told_past Semicolon first.1 _ (λ after_first. steps_told first.0 after_first)))

  pair_told : (ts : List Token) → Told (pair_with expr ts)
  pair_told ts = told_bind (expr ts) _ (h ts) (λ a. told_past Comma a.1 _ (λ after_a. told_bind (expr after_a) _ (h after_a) (λ b. told_past RightParen b.1 _ (λ rest. tt))))

  cone_told : (ts : List Token) (o : Option (List Token)) → Told (cone_then expr ts o)
  cone_told ts None = told_past RightParen ts _ (λ rest. tt)
  cone_told ts (Some inside) = told_bind (pair_with expr inside) _ (pair_told inside) (λ cone. tt)

  place_told : (ts : List Token) → Told (lights_head expr ts)
  place_told ts =
      told_past LeftParen ts _ (λ inside. told_bind (expr inside) _ (h inside) (λ place. told_bind (cone_in expr place.1) _ (cone_told place.1 (rest_after (is_mark Comma) place.1)) (λ cone. tt)))

  declare_told : (line : ℕ) (ts : List Token) → Told (declare_with expr line ts)
  declare_told line ts = told_bind (group_with expr Freely ts) _ (group_with_told Freely ts) (λ g. told_past Semicolon g.1 _ (λ rest. tt))

  assign_told : (ts : List Token) → Told (assign_with expr ts)
  assign_told ts = told_bind (set_with expr ts) _ (set_with_told ts) (λ set. told_past Semicolon set.1 _ (λ rest. tt))

  module _ (stmt : List Token → Reads S.Stmt) (g : (ts : List Token) → Told (stmt ts)) where
    unless_told : (ts : List Token) (o : Option (List Token)) → ToldSome (stmt_unless stmt ts o)
    unless_told ts (Some rest) = tt
    unless_told ts None = g ts

    pub block_told : (ts : List Token) → Told (block_in stmt ts)
    block_told ts =
        told_bind (many (next_stmt stmt) (length ts + 1) ts) _ (told_many (next_stmt stmt) (λ us. unless_told us (rest_after (is_mark RightBrace) us)) (length ts + 1) ts)
        (λ body. told_past RightBrace body.1 _ (λ rest. tt))

    else_told : (test : S.Expr) (first : S.Stmt) (line : ℕ) (ts : List Token) (o : Option (List Token)) → Told (else_then stmt test first line ts o)
    else_told test first line ts None = tt
    else_told test first line ts (Some rest) = told_bind (stmt rest) _ (g rest) (λ second. tt)

    lights_told : (word : LightWord) (line : ℕ) (ts : List Token) → Told (lights_with stmt expr word line ts)
    lights_told word line ts = told_bind (lights_head expr ts) _ (place_told ts) (λ head. told_bind (stmt head.1) _ (g head.1) (λ body. tt))

    word_told : (word : Word) (line : ℕ) (rest ts : List Token) → Told (word_with stmt expr word line rest ts)
    word_told words.Break line rest ts = told_past Semicolon rest _ (λ left. tt)
    word_told words.Continue line rest ts = told_past Semicolon rest _ (λ left. tt)
    word_told words.Return line rest ts = told_bind (expr rest) _ (h rest) (λ e. told_past Semicolon e.1 _ (λ left. tt))
    word_told words.If line rest ts =
        told_bind (test_with expr rest) _ (test_told rest) (λ test. told_bind (stmt test.1) _ (g test.1) (λ first. else_told test.0 first.0 line first.1 (rest_after is_else first.1)))
    word_told words.Else line rest ts = told_unexpected S.Stmt ts
    word_told words.While line rest ts = told_bind (test_with expr rest) _ (test_told rest) (λ test. told_bind (stmt test.1) _ (g test.1) (λ body. tt))
    word_told words.For line rest ts = told_bind (for_head expr rest) _ (for_told rest) (λ head. told_bind (stmt head.1) _ (g head.1) (λ body. tt))
    word_told words.Illuminance line rest ts = lights_told light_words.Illuminance line rest
    word_told words.Illuminate line rest ts = lights_told light_words.Illuminate line rest
    word_told words.Solar line rest ts =
        told_bind _ _ (told_past LeftParen rest _ (λ inside. pair_told inside)) (λ head. told_bind (stmt head.1) _ (g head.1) (λ body. tt))

    by_kind : (k : TokenKind) (line : ℕ) (rest ts : List Token) → Told (stmt_in stmt expr k line rest ts)
    by_kind (kinds.Mark Semicolon) line rest ts = tt
    by_kind (kinds.Mark LeftBrace) line rest ts = told_bind (block_in stmt rest) _ (block_told rest) (λ body. tt)
    by_kind (kinds.Name name) line rest ts = assign_told ts
    by_kind (kinds.Class class) line rest ts = declare_told line ts
    by_kind (kinds.Type kind) line rest ts = declare_told line ts
    by_kind (kinds.Word word) line rest ts = word_told word line rest ts
    by_kind _ line rest ts = told_unexpected S.Stmt ts

    opened_told : (ts : List Token) → Told (stmt_opened stmt expr ts)
    opened_told [] = told_unexpected S.Stmt []
    opened_told (t ∷ ts) = by_kind t.kind t.line ts (t ∷ ts)

stmt_told : (n : ℕ) (ts : List Token) → Told (stmt_at n ts)
stmt_told zero ts = told_deep S.Stmt begins_stmt stmt_opens ts
stmt_told (suc n) ts = opened_told (expr_at n) (expr_told n) (stmt_at n) (stmt_told n) ts

module _ (group : List Token → Reads S.Group) (h : (ts : List Token) → Told (group ts)) where
  end_told : (groups : List S.Group) (ts : List Token) (o : Option (List Token)) → Told (groups_end groups ts o)
  end_told groups ts None = told_past RightParen ts _ (λ rest. tt)
  end_told groups ts (Some rest_after_mark) = told_past RightParen rest_after_mark _ (λ rest. tt)

  some_told : (ts : List Token) → Told (some_groups group ts)
  some_told ts =
      told_bind (group ts) _ (h ts) (λ g. told_front (g.0 ∷ []) (many (next_group group) (length g.1) g.1) (told_many (next_group group) (λ us. told_map group (semicolon_at us) h) (length g.1) g.1))

  groups_told : (ts : List Token) (o : Option (List Token)) → Told (groups_in group ts o)
  groups_told ts (Some rest) = tt
  groups_told ts None = told_bind (some_groups group ts) _ (some_told ts) (λ groups. end_told groups.0 groups.1 (rest_after (is_mark Semicolon) groups.1))

module _ (n : ℕ) where
  list_told : (valued : Valued) (ts : List Token) → Told (groups_with n valued ts)
  list_told valued ts =
      told_past LeftParen ts _ (λ inside. groups_told (group_with (expr_at n) valued) (group_with_told (expr_at n) (expr_told n) valued) inside (rest_after (is_mark RightParen) inside))

  body_told : (ts : List Token) → Told (body_at n ts)
  body_told ts = told_past LeftBrace ts _ (λ inside. block_told (expr_at n) (expr_told n) (stmt_at n) (stmt_told n) inside)

  function_told : (returns : SlType) (ts : List Token) → Told (function_with n returns ts)
  function_told returns ts =
      told_named ts _ (λ name line rest. told_bind (groups_with n Never rest) _ (list_told Never rest) (λ formals. told_bind (body_at n formals.1) _ (body_told formals.1) (λ body. tt)))

  shader_told : (fs : List S.Function) (ts : List Token) (o : Option (SlKind × ℕ × List Token)) → Told (shader_then n fs ts o)
  shader_told fs ts None = told_unexpected S.Shader ts
  shader_told fs ts (Some k) =
      told_named k.2 _ (λ name at rest. told_bind (groups_with n Always rest) _ (list_told Always rest) (λ params. told_bind (body_at n params.1) _ (body_told params.1) (λ body. tt)))

  ended_told : (s : S.Shader) (ts : List Token) → Told (ended (s, ts))
  ended_told s [] = tt
  ended_told s (t ∷ ts) = told_unexpected S.Shader (t ∷ ts)

  file_told : (ts : List Token) → Told (file_of n ts)
  file_told ts =
      told_bind (functions_in n ts) _ (told_many (next_function n) (λ us. told_map (λ k. function_with n k.0 k.1) (type_at us) (λ k. function_told k.0 k.1)) (length ts) ts) (λ fs.
      told_bind (shader_then n fs.0 fs.1 (sort_at fs.1)) ended (shader_told fs.0 fs.1 (sort_at fs.1)) (λ s. ended_told s.0 s.1))

-- the laws
not_bad : (k : TokenKind) → opens k ≡ true → is_bad k ≡ true → ⊥
not_bad kinds.Bad h b = absurd (cc h)
not_bad _ h b = absurd (cc b)

told_bad : (code : SlCode) (rest : List Token) → StandsAt code rest → (code ≡ P1) ↔ (head_is is_bad rest ≡ true)
told_bad P1 rest h = (λ p. h, λ b. refl)
told_bad P2 rest h = (λ p. absurd (cc p), λ b. absurd (cc (h, b)))
told_bad P3 [] h = (λ p. absurd (cc p), λ b. absurd (cc b))
told_bad P3 (t ∷ ts) h = (λ p. absurd (cc p), λ b. absurd (not_bad t.kind h b))

pub bad_tokens : BadTokens
bad_tokens ts rest code e = told_bad code rest (subst (λ r. Told r) e (file_told 64 ts))

pub deep_tokens : DeepTokens
deep_tokens ts rest e = subst (λ r. Told r) e (file_told 64 ts)
