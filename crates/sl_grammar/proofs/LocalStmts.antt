-- Reading a statement or a file looks no further than the token after it.
use Rattle.std.proofs.Common.{◌≡◌, ℕ, ◌+◌, ◌≤◌, ◌<◌, ◌∷◌, [], ◌++◌, List, Option, Some, None, Ok, Bool, true, false, cond, length, refl, subst, arith}
use Rattle.sl_ast.specs.Syntax as S
use Rattle.sl_ast.specs.declared.kinds.Class.{Class}
use Rattle.sl_ast.specs.declared.syntax.LightWord.{LightWord}
use Rattle.sl_ast.specs.declared.syntax.LightWord.TheVariants as light_words
use Rattle.sl_lexer.specs.declared.token.Token.{Token}
use Rattle.sl_lexer.specs.declared.token.TokenKind.{TokenKind}
use Rattle.sl_lexer.specs.declared.token.TokenKind.TheVariants as kinds
use Rattle.sl_lexer.specs.declared.token.Word.{Word}
use Rattle.sl_lexer.specs.declared.token.Word.TheVariants as words
use Rattle.sl_lexer.specs.declared.token.Mark.TheVariants.{LeftParen, RightParen, LeftBrace, RightBrace, Semicolon, Comma, Question, Colon}
use Rattle.sl_expression_grammar.specs.Reading.{Reads, ◌>>=◌, many, commas, is_bad, code_for, unexpected, past, rest_after, is_mark}
use Rattle.sl_parser.specs.declared.declarations.Valued.{Valued}
use Rattle.sl_parser.specs.declared.declarations.Valued.TheVariants.{Always, Never, Freely}
use Rattle.sl_parser.specs.Statements.{front_line, name_at, named_then, named, set_at, set_then, set_with, type_at, class_in, is_equals, value_after, value_then, value_with, declared_with, group_then, group_after, group_with, is_else, stmt_unless, next_stmt, block_in, test_with, else_then, if_with, while_with, set_or, is_name, set_maybe, For, for_head, for_with, pair_with, cone_then, cone_in, lights_head, lights_with, solar_head, solar_with, return_with, assign_with, declare_with, word_with, stmt_in, stmt_opened}
use Rattle.sl_grammar.proofs.Agreeing.{left_of, StepAgree, Fine, FineAfter, FineStep, rest_after_fine, fine_head, fine_ok, fault_after, fine_unexpected, fine_bind, fine_past, fine_turns}
use Rattle.sl_grammar.proofs.Looking.{only, paired, placed_at, after_looks, name_looks, set_looks, type_looks, with_token, fine_look, fine_commas}

pub fine_named : {A : Type 0} (go : List ℕ → ℕ → List Token → Reads A) → ((name : List ℕ) (line : ℕ) → Fine (go name line)) → Fine (λ ts. named ts go)
fine_named go fine =
    fine_look placed_at name_at refl name_looks (λ ts o. named_then ts go o) (λ ts. unexpected ts) (λ y ts. go y.0 y.1 ts) (λ ts. refl) (λ ts rest y. refl)
    fine_unexpected (λ y. fine y.0 y.1)

-- with the line of the token at the front, which stands before the place that is reached
fine_lined : {A : Type 0} (go : ℕ → List Token → Reads A) → ((line : ℕ) → Fine (go line)) → Fine (λ ts. go (front_line ts) ts)
fine_lined go fine = fine_head (λ ts. go (front_line ts) ts) ((fine 0).shorter []) (λ t. with_token (go t.line) (fine t.line) t)

module _ (expr : List Token → Reads S.Expr) (fine : Fine expr) where
  set_on : (name : List ℕ) (line set_line : ℕ) → Fine (λ ts. set_then expr name line set_line ts (set_at ts))
  set_on name line set_line =
      fine_look paired set_at refl set_looks (λ ts o. set_then expr name line set_line ts o) (λ ts. unexpected ts)
      (λ o ts. expr ts >>= λ e. Ok (record { name = name; operator = o; value = e.0; line = line; set_line = set_line }, e.1)) (λ ts. refl) (λ ts rest y. refl) fine_unexpected
      (λ o. fine_bind (λ e. Ok (record { name = name; operator = o; value = e.0; line = line; set_line = set_line }, e.1)) (λ e. fine_ok (record { name = name; operator = o; value = e; line = line; set_line = set_line })) expr fine)

  pub set_fine : Fine (set_with expr)
  set_fine =
      fine_named (λ name line rest. set_then expr name line (front_line rest) rest (set_at rest))
      (λ name line. fine_lined (λ set_line ts. set_then expr name line set_line ts (set_at ts)) (set_on name line))

  given_fine : Fine (value_after expr)
  given_fine = fine_bind (λ e. Ok (Some e.0, e.1)) (λ e. fine_ok (Some e)) expr fine

  value_fine : (valued : Valued) → Fine (value_with expr valued)
  value_fine Always =
      fine_look only (rest_after is_equals) refl (after_looks is_equals) (λ ts o. value_then expr Always ts o) (λ ts. unexpected ts) (λ y. value_after expr) (λ ts. refl) (λ ts rest y. refl) fine_unexpected (λ y. given_fine)
  value_fine Freely =
      fine_look only (rest_after is_equals) refl (after_looks is_equals) (λ ts o. value_then expr Freely ts o) (λ ts. Ok (None, ts)) (λ y. value_after expr) (λ ts. refl) (λ ts rest y. refl) (fine_ok None) (λ y. given_fine)
  value_fine Never = fine_ok None

  declared_fine : (valued : Valued) → Fine (declared_with expr valued)
  declared_fine valued =
      fine_named (λ name line rest. value_with expr valued rest >>= λ value. Ok (record { name = name; value = value.0; line = line; set_line = front_line rest }, value.1)) (λ name line.
      fine_lined (λ set_line ts. value_with expr valued ts >>= λ value. Ok (record { name = name; value = value.0; line = line; set_line = set_line }, value.1)) (λ set_line.
      fine_bind (λ value. Ok (record { name = name; value = value.0; line = line; set_line = set_line }, value.1)) (λ v. fine_ok (record { name = name; value = v; line = line; set_line = set_line }))
      (value_with expr valued) (value_fine valued)))

  group_on : (valued : Valued) (class : Option Class) → Fine (λ ts. group_then expr valued class ts (type_at ts))
  group_on valued class =
      fine_look paired type_at refl type_looks (λ ts o. group_then expr valued class ts o) (λ ts. unexpected ts)
      (λ k ts. commas (declared_with expr valued) ts >>= λ names. Ok (record { class = class; kind = k; names = names.0 }, names.1)) (λ ts. refl) (λ ts rest y. refl) fine_unexpected
      (λ k. fine_bind (λ names. Ok (record { class = class; kind = k; names = names.0 }, names.1)) (λ ds. fine_ok (record { class = class; kind = k; names = ds }))
      (commas (declared_with expr valued)) (fine_commas (declared_with expr valued) (declared_fine valued)))

  group_by : (valued : Valued) (k : TokenKind) (t : Token) → FineAfter (λ ts. group_after expr valued (class_in k ts (t ∷ ts)))
  group_by valued (kinds.Class class) t = rest_after_fine (λ ts. group_then expr valued (Some class) ts (type_at ts)) (group_on valued (Some class))
  group_by valued (kinds.Number x) t = with_token (λ ts. group_then expr valued None ts (type_at ts)) (group_on valued None) t
  group_by valued (kinds.Str x) t = with_token (λ ts. group_then expr valued None ts (type_at ts)) (group_on valued None) t
  group_by valued (kinds.Name x) t = with_token (λ ts. group_then expr valued None ts (type_at ts)) (group_on valued None) t
  group_by valued (kinds.Kind x) t = with_token (λ ts. group_then expr valued None ts (type_at ts)) (group_on valued None) t
  group_by valued (kinds.Type x) t = with_token (λ ts. group_then expr valued None ts (type_at ts)) (group_on valued None) t
  group_by valued (kinds.Word x) t = with_token (λ ts. group_then expr valued None ts (type_at ts)) (group_on valued None) t
  group_by valued (kinds.Mark x) t = with_token (λ ts. group_then expr valued None ts (type_at ts)) (group_on valued None) t
  group_by valued (kinds.Operator x) t = with_token (λ ts. group_then expr valued None ts (type_at ts)) (group_on valued None) t
  group_by valued kinds.Not t = with_token (λ ts. group_then expr valued None ts (type_at ts)) (group_on valued None) t
  group_by valued (kinds.Set x) t = with_token (λ ts. group_then expr valued None ts (type_at ts)) (group_on valued None) t
  group_by valued kinds.Bad t = with_token (λ ts. group_then expr valued None ts (type_at ts)) (group_on valued None) t

  pub group_fine : (valued : Valued) → Fine (group_with expr valued)
  group_fine valued = fine_head (group_with expr valued) ((group_on valued None).shorter []) (λ t. group_by valued t.kind t)

  test_fine : Fine (test_with expr)
  test_fine =
      fine_past LeftParen (λ inside. expr inside >>= λ e. past RightParen e.1 λ rest. Ok (e.0, rest))
      (fine_bind (λ e. past RightParen e.1 λ rest. Ok (e.0, rest)) (λ e. fine_past RightParen (λ rest. Ok (e, rest)) (fine_ok e)) expr fine)

  maybe_on : (b : Bool) (t : Token) → FineAfter (λ ts. set_or expr (t ∷ ts) b)
  maybe_on true t =
      with_token (λ ts. set_with expr ts >>= λ set. Ok (Some set.0, set.1)) (fine_bind (λ set. Ok (Some set.0, set.1)) (λ a. fine_ok (Some a)) (set_with expr) set_fine) t
  maybe_on false t = with_token (λ ts. Ok (None, ts)) (fine_ok None) t

  maybe_fine : Fine (set_maybe expr)
  maybe_fine = fine_head (set_maybe expr) (omega arith) (λ t. maybe_on (is_name t.kind) t)

  module _ (first : Option S.Assignment) where
    last_fine : (test : S.Expr) → Fine {A = For} (λ ts. set_maybe expr ts >>= λ step. past RightParen step.1 λ rest. Ok ((first, test, step.0), rest))
    last_fine test =
        fine_bind (λ step. past RightParen step.1 λ rest. Ok ((first, test, step.0), rest))
        (λ step. fine_past RightParen (λ rest. Ok ((first, test, step), rest)) (fine_ok (first, test, step))) (set_maybe expr) maybe_fine

    middle_fine : Fine {A = For} (λ ts. expr ts >>= λ test. past Semicolon test.1 λ third. set_maybe expr third >>= λ step. past RightParen step.1 λ rest. Ok ((first, test.0, step.0), rest))
    middle_fine =
        fine_bind (λ test. past Semicolon test.1 λ third. set_maybe expr third >>= λ step. past RightParen step.1 λ rest. Ok ((first, test.0, step.0), rest))
        (λ test. fine_past Semicolon (λ third. set_maybe expr third >>= λ step. past RightParen step.1 λ rest. Ok ((first, test, step.0), rest)) (last_fine test)) expr fine

  abbrev for_rest : Option S.Assignment × List Token → Reads For
  for_rest first =
      past Semicolon first.1 λ second. expr second >>= λ test. past Semicolon test.1 λ third. set_maybe expr third >>= λ step.
      past RightParen step.1 λ rest. Ok ((first.0, test.0, step.0), rest)

  for_fine : Fine (for_head expr)
  for_fine =
      fine_past LeftParen (λ inside. set_maybe expr inside >>= for_rest)
      (fine_bind for_rest
      (λ first. fine_past Semicolon (λ second. expr second >>= λ test. past Semicolon test.1 λ third. set_maybe expr third >>= λ step. past RightParen step.1 λ rest. Ok ((first, test.0, step.0), rest)) (middle_fine first))
      (set_maybe expr) maybe_fine)

  abbrev pair_end : S.Expr → S.Expr × List Token → Reads (S.Expr × S.Expr)
  pair_end a b = past RightParen b.1 λ rest. Ok ((a, b.0), rest)

  pair_fine : Fine (pair_with expr)
  pair_fine =
      fine_bind (λ a. past Comma a.1 λ second. expr second >>= pair_end a.0)
      (λ a. fine_past Comma (λ second. expr second >>= pair_end a)
      (fine_bind (pair_end a) (λ b. fine_past RightParen (λ rest. Ok ((a, b), rest)) (fine_ok (a, b))) expr fine)) expr fine

  cone_fine : Fine (cone_in expr)
  cone_fine =
      fine_look only (rest_after (is_mark Comma)) refl (after_looks (is_mark Comma)) (λ ts o. cone_then expr ts o) (λ ts. past RightParen ts λ rest. Ok (None, rest))
      (λ y ts. pair_with expr ts >>= λ cone. Ok (Some cone.0, cone.1)) (λ ts. refl) (λ ts rest y. refl) (fine_past RightParen (λ rest. Ok (None, rest)) (fine_ok None))
      (λ y. fine_bind (λ cone. Ok (Some cone.0, cone.1)) (λ c. fine_ok (Some c)) (pair_with expr) pair_fine)

  place_fine : Fine (lights_head expr)
  place_fine =
      fine_past LeftParen (λ inside. expr inside >>= λ place. cone_in expr place.1 >>= λ cone. Ok ((place.0, cone.0), cone.1))
      (fine_bind (λ place. cone_in expr place.1 >>= λ cone. Ok ((place.0, cone.0), cone.1))
      (λ place. fine_bind (λ cone. Ok ((place, cone.0), cone.1)) (λ c. fine_ok (place, c)) (cone_in expr) cone_fine) expr fine)

  sun_fine : Fine (solar_head expr)
  sun_fine = fine_past LeftParen (λ inside. pair_with expr inside) pair_fine

  -- a statement takes at least one token
  module _ (stmt : List Token → Reads S.Stmt) (stmt_fine : Fine stmt) (strict : (ts : List Token) (s : S.Stmt) (rest : List Token) → stmt ts ≡ Ok (s, rest) → length rest < length ts) where
    unless_shorter : (ts : List Token) (o : Option (List Token)) (r : Reads S.Stmt) → stmt_unless stmt ts o ≡ Some r → left_of r ≤ length ts
    unless_shorter ts None r e = let same : stmt ts ≡ r = cc in subst (λ r. left_of r ≤ length ts) same (stmt_fine.shorter ts)
    unless_shorter ts (Some rest) r e = absurd (cc e)

    unless_strict : (ts : List Token) (o : Option (List Token)) (s : S.Stmt) (rest : List Token) → stmt_unless stmt ts o ≡ Some (Ok (s, rest)) → length rest < length ts
    unless_strict ts None s rest e = let same : stmt ts ≡ Ok (s, rest) = cc in strict ts s rest same
    unless_strict ts (Some x) s rest e = absurd (cc e)

    unless_agree : (b : Bool) (t : Token) (a w v : List Token)
        → StepAgree w v (stmt_unless stmt (t ∷ (a ++ w)) (cond b (Some (a ++ w)) None)) (stmt_unless stmt (t ∷ (a ++ v)) (cond b (Some (a ++ v)) None))
    unless_agree true t a w v = tt
    unless_agree false t a w v = stmt_fine.agree (t ∷ a) w v

    next_fine : FineStep (next_stmt stmt)
    next_fine = record {
      shorter = λ ts r e. unless_shorter ts (rest_after (is_mark RightBrace) ts) r e;
      agree = λ t a w v. unless_agree (is_mark RightBrace t.kind) t a w v;
    }

    pub block_fine : Fine (block_in stmt)
    block_fine =
        fine_bind (λ body. past RightBrace body.1 λ rest. Ok (body.0, rest)) (λ b. fine_past RightBrace (λ rest. Ok (b, rest)) (fine_ok b))
        (λ ts. many (next_stmt stmt) (length ts + 1) ts) (fine_turns (next_stmt stmt) (λ ts x rest e. unless_strict ts (rest_after (is_mark RightBrace) ts) x rest e) next_fine)

    module _ (line : ℕ) where
      else_on : (test : S.Expr) (first : S.Stmt) → Fine (λ ts. else_then stmt test first line ts (rest_after is_else ts))
      else_on test first =
          fine_look only (rest_after is_else) refl (after_looks is_else) (λ ts o. else_then stmt test first line ts o) (λ ts. Ok (S.test test first line, ts))
          (λ y ts. stmt ts >>= λ second. Ok (S.test_else test first second.0 line, second.1)) (λ ts. refl) (λ ts rest y. refl) (fine_ok (S.test test first line))
          (λ y. fine_bind (λ second. Ok (S.test_else test first second.0 line, second.1)) (λ s. fine_ok (S.test_else test first s line)) stmt stmt_fine)

      if_fine : Fine (if_with stmt expr line)
      if_fine =
          fine_bind (λ test. stmt test.1 >>= λ first. else_then stmt test.0 first.0 line first.1 (rest_after is_else first.1))
          (λ test. fine_bind (λ first. else_then stmt test first.0 line first.1 (rest_after is_else first.1)) (λ first. else_on test first) stmt stmt_fine) (test_with expr) test_fine

      while_fine : Fine (while_with stmt expr line)
      while_fine =
          fine_bind (λ test. stmt test.1 >>= λ body. Ok (S.repeat test.0 body.0 line, body.1))
          (λ test. fine_bind (λ body. Ok (S.repeat test body.0 line, body.1)) (λ b. fine_ok (S.repeat test b line)) stmt stmt_fine) (test_with expr) test_fine

      for_with_fine : Fine (for_with stmt expr line)
      for_with_fine =
          fine_bind (λ head. stmt head.1 >>= λ body. Ok (S.steps head.0.0 head.0.1 head.0.2 body.0 line, body.1))
          (λ head. fine_bind (λ body. Ok (S.steps head.0 head.1 head.2 body.0 line, body.1)) (λ b. fine_ok (S.steps head.0 head.1 head.2 b line)) stmt stmt_fine) (for_head expr) for_fine

      lights_fine : (word : LightWord) → Fine (lights_with stmt expr word line)
      lights_fine word =
          fine_bind (λ head. stmt head.1 >>= λ body. Ok (S.lights word head.0.0 head.0.1 body.0 line, body.1))
          (λ head. fine_bind (λ body. Ok (S.lights word head.0 head.1 body.0 line, body.1)) (λ b. fine_ok (S.lights word head.0 head.1 b line)) stmt stmt_fine) (lights_head expr) place_fine

      solar_fine : Fine (solar_with stmt expr line)
      solar_fine =
          fine_bind (λ head. stmt head.1 >>= λ body. Ok (S.solar head.0.0 head.0.1 body.0 line, body.1))
          (λ head. fine_bind (λ body. Ok (S.solar head.0 head.1 body.0 line, body.1)) (λ b. fine_ok (S.solar head.0 head.1 b line)) stmt stmt_fine) (solar_head expr) sun_fine

      return_fine : Fine (return_with expr line)
      return_fine = fine_bind (λ e. past Semicolon e.1 λ rest. Ok (S.give e.0 line, rest)) (λ e. fine_past Semicolon (λ rest. Ok (S.give e line, rest)) (fine_ok (S.give e line))) expr fine

      declare_fine : Fine (declare_with expr line)
      declare_fine =
          fine_bind (λ g. past Semicolon g.1 λ rest. Ok (S.declare g.0.class g.0.kind g.0.names line, rest))
          (λ g. fine_past Semicolon (λ rest. Ok (S.declare g.class g.kind g.names line, rest)) (fine_ok (S.declare g.class g.kind g.names line))) (group_with expr Freely) (group_fine Freely)

    assign_fine : Fine (assign_with expr)
    assign_fine = fine_bind (λ set. past Semicolon set.1 λ rest. Ok (S.assign set.0, rest)) (λ a. fine_past Semicolon (λ rest. Ok (S.assign a, rest)) (fine_ok (S.assign a))) (set_with expr) set_fine

    word_by : (word : Word) (line : ℕ) (t : Token) → FineAfter (λ ts. word_with stmt expr word line ts (t ∷ ts))
    word_by words.Break line t = rest_after_fine (λ ts. past Semicolon ts λ left. Ok (S.leave line, left)) (fine_past Semicolon (λ left. Ok (S.leave line, left)) (fine_ok (S.leave line)))
    word_by words.Continue line t = rest_after_fine (λ ts. past Semicolon ts λ left. Ok (S.again line, left)) (fine_past Semicolon (λ left. Ok (S.again line, left)) (fine_ok (S.again line)))
    word_by words.Return line t = rest_after_fine (return_with expr line) (return_fine line)
    word_by words.If line t = rest_after_fine (if_with stmt expr line) (if_fine line)
    word_by words.Else line t = fault_after (code_for (is_bad t.kind)) t
    word_by words.While line t = rest_after_fine (while_with stmt expr line) (while_fine line)
    word_by words.For line t = rest_after_fine (for_with stmt expr line) (for_with_fine line)
    word_by words.Illuminance line t = rest_after_fine (lights_with stmt expr light_words.Illuminance line) (lights_fine line light_words.Illuminance)
    word_by words.Illuminate line t = rest_after_fine (lights_with stmt expr light_words.Illuminate line) (lights_fine line light_words.Illuminate)
    word_by words.Solar line t = rest_after_fine (solar_with stmt expr line) (solar_fine line)

    abbrev blocked : ℕ → List Token → Reads S.Stmt
    blocked line ts = block_in stmt ts >>= λ body. Ok (S.block (S.stmts body.0) line, body.1)

    stmt_by : (k : TokenKind) (line : ℕ) (t : Token) → FineAfter (λ ts. stmt_in stmt expr k line ts (t ∷ ts))
    stmt_by (kinds.Mark Semicolon) line t = rest_after_fine (λ ts. Ok (S.empty line, ts)) (fine_ok (S.empty line))
    stmt_by (kinds.Mark LeftBrace) line t =
        rest_after_fine (blocked line) (fine_bind (λ body. Ok (S.block (S.stmts body.0) line, body.1)) (λ b. fine_ok (S.block (S.stmts b) line)) (block_in stmt) block_fine)
    stmt_by (kinds.Name name) line t = with_token (assign_with expr) assign_fine t
    stmt_by (kinds.Class class) line t = with_token (declare_with expr line) (declare_fine line) t
    stmt_by (kinds.Type kind) line t = with_token (declare_with expr line) (declare_fine line) t
    stmt_by (kinds.Word word) line t = word_by word line t
    stmt_by (kinds.Mark LeftParen) line t = fault_after (code_for (is_bad t.kind)) t
    stmt_by (kinds.Mark RightParen) line t = fault_after (code_for (is_bad t.kind)) t
    stmt_by (kinds.Mark RightBrace) line t = fault_after (code_for (is_bad t.kind)) t
    stmt_by (kinds.Mark Comma) line t = fault_after (code_for (is_bad t.kind)) t
    stmt_by (kinds.Mark Question) line t = fault_after (code_for (is_bad t.kind)) t
    stmt_by (kinds.Mark Colon) line t = fault_after (code_for (is_bad t.kind)) t
    stmt_by (kinds.Number x) line t = fault_after (code_for (is_bad t.kind)) t
    stmt_by (kinds.Str x) line t = fault_after (code_for (is_bad t.kind)) t
    stmt_by (kinds.Kind x) line t = fault_after (code_for (is_bad t.kind)) t
    stmt_by (kinds.Operator x) line t = fault_after (code_for (is_bad t.kind)) t
    stmt_by kinds.Not line t = fault_after (code_for (is_bad t.kind)) t
    stmt_by (kinds.Set x) line t = fault_after (code_for (is_bad t.kind)) t
    stmt_by kinds.Bad line t = fault_after (code_for (is_bad t.kind)) t

    pub opened_fine : Fine (stmt_opened stmt expr)
    opened_fine = fine_head (stmt_opened stmt expr) (omega arith) (λ t. stmt_by t.kind t.line t)
