-- What is read as a shader is one of the grammar; and where a fault stands, the tokens before it begin one.
use Rattle.std.proofs.Common.{◌≡◌, ℕ, ◌≤◌, ◌∷◌, [], ◌++◌, List, Option, Some, None, Ok, Err, Bool, true, false, length, refl, subst}
use Rattle.sl_ast.specs.Syntax as S
use Rattle.sl_ast.specs.Levels.{levels_file}
use Rattle.sl_ast.specs.declared.kinds.SlType.{SlType}
use Rattle.sl_ast.specs.declared.kinds.SlKind.{SlKind}
use Rattle.sl_ast.specs.declared.kinds.SlKind.TheVariants as shaders
use Rattle.sl_lexer.specs.declared.token.Token.{Token}
use Rattle.sl_lexer.specs.declared.token.TokenKind.{TokenKind}
use Rattle.sl_lexer.specs.declared.token.TokenKind.TheVariants as kinds
use Rattle.sl_lexer.specs.declared.token.Mark.TheVariants.{LeftParen, RightParen, LeftBrace, Semicolon}
use Rattle.sl_lexer.specs.Tokens.{tokens_of, last_line}
use Rattle.sl_expression_grammar.specs.declared.fault.SlCode.{SlCode}
use Rattle.sl_expression_grammar.specs.Reading.{Reads, ◌>>=◌, with_front, many, rest_after, is_mark}
use Rattle.sl_expression_grammar.specs.Expressions.{expr_at}
use Rattle.sl_parser.specs.declared.declarations.Valued.{Valued}
use Rattle.sl_parser.specs.declared.declarations.Valued.TheVariants.{Always, Never}
use Rattle.sl_parser.specs.Statements.{type_at, group_with, block_in, stmt_at}
use Rattle.sl_parser.specs.Files.{semicolon_at, next_group, Groups, groups_end, some_groups, groups_in, groups_with, body_at, function_with, next_function, functions_in, sort_at, shader_then, ended, file_of, placed, parsed}
use Rattle.sl_grammar.specs.Grammatical.{GrammaticalNames, GrammaticalStmts, EachGrammatical, GrammaticalGroups, GrammaticalFunctions, GrammaticalShader}
use Rattle.sl_parser.specs.Spelled.{kinds_of, spelled_group, spelled_end, further_groups, spelled_groups, spelled_list, spelled_block, spelled_function, spelled_functions, spelled_shader}
use Rattle.sl_parser.proofs.Fronts.{mapped, mark_after}
use Rattle.sl_parser.proofs.FrontNames.{type_at_is, sort_at_is}
use Rattle.sl_parser.proofs.Good.{Good, Takes, and_then}
use Rattle.sl_grammar.proofs.Starts.{Shape, then_starts, starts_on, taken_on, taken_whole, Done, begun_here, done_bind, done_past, done_more, done_front, done_many}
use Rattle.sl_grammar.proofs.ExprStarts.{expr_starts}
use Rattle.sl_grammar.proofs.StmtStarts.{done_named, group_shape, group_done, closed_shape, block_done, stmt_starts}
use Rattle.sl_parser.proofs.FileTexts.{goes_on_is, IsShader, file_read, parsed_spelled}

module _ (n : ℕ) where
  module _ (valued : Valued) where
    abbrev item : List Token → Reads S.Group
    item = group_with (expr_at n) valued

    item_done : (ts : List Token) → Done (group_shape valued) ts (item ts)
    item_done = group_done (expr_at n) (expr_starts n) valued

    abbrev next_shape : Shape S.Group
    next_shape = record { spell = λ g. kinds.Mark Semicolon ∷ spelled_group g; fine = λ g. GrammaticalNames valued g.names; ends = λ g rest. Unit {0} }

    abbrev further_shape : Shape (List S.Group)
    further_shape = record { spell = further_groups; fine = EachGrammatical valued; ends = λ gs rest. Unit {0} }

    -- at least one
    abbrev some_shape : Shape (List S.Group)
    some_shape = record { spell = spelled_groups; fine = λ gs. (end : Bool) → GrammaticalGroups valued gs end; ends = λ gs rest. Unit {0} }

    abbrev groups_shape : Shape Groups
    groups_shape = record { spell = λ g. spelled_groups g.0 ++ spelled_end g.1; fine = λ g. GrammaticalGroups valued g.0 g.1; ends = λ g rest. Unit {0} }

    abbrev list_shape : Shape Groups
    list_shape = record { spell = λ g. spelled_list g.0 g.1; fine = λ g. GrammaticalGroups valued g.0 g.1; ends = λ g rest. Unit {0} }

    next_done : (ts : List Token) (r : Reads S.Group) → next_group item ts ≡ Some r → Done next_shape ts r
    next_done ts r e =
        let m = mapped item (semicolon_at ts) r e in
        let t : Takes ts (kinds.Mark Semicolon ∷ []) m.0 = record { text = mark_after Semicolon ts m.0 (goes_on_is (rest_after (is_mark Semicolon) ts) m.0 m.1.0) } in
        subst (λ r. Done next_shape ts r) m.1.1
        (done_more (group_shape valued) next_shape ts m.0 (item m.0) (item_done m.0) (λ x rest f s. record { item = x; fine = f; starts = then_starts t s }) (λ x rest u f h. ((and_then t u, f), tt)))

    further_done : (k : ℕ) (ts : List Token) → Done further_shape ts (many (next_group item) k ts)
    further_done k ts = done_many next_shape further_groups (λ k gs. EachGrammatical valued gs) refl (λ x xs. refl) (λ k. tt) (λ k x xs f g. (f, g)) (next_group item) next_done k ts

    some_done : (ts : List Token) → Done some_shape ts (some_groups item ts)
    some_done ts =
        done_bind (group_shape valued) some_shape ts ts (item ts) (λ g. with_front (g.0 ∷ []) (many (next_group item) (length g.1) g.1)) (item_done ts)
        (λ x rest f s. record { item = x ∷ []; fine = λ end. (f, tt); starts = starts_on [] s }) (λ x t f h.
        done_front further_shape some_shape ts x.1 x.0 (many (next_group item) (length x.1) x.1) (further_done (length x.1) x.1)
        (λ xs rest g s. record { item = x.0 ∷ xs; fine = λ end. (f, g); starts = then_starts t s })
        (λ xs rest u g. ((and_then t u, λ end. (f, g)), tt)))

    end_done : (before ts : List Token) (gs : List S.Group) → ((end : Bool) → GrammaticalGroups valued gs end) → Takes before (spelled_groups gs) ts → (o : Option (List Token)) → rest_after (is_mark Semicolon) ts ≡ o
        → Done groups_shape before (groups_end gs ts o)
    end_done before ts gs f t None e =
        done_past groups_shape RightParen before ts (λ rest. Ok ((gs, false), rest)) (record { item = (gs, false); fine = f false; starts = taken_on (spelled_end false) t }) (λ rest u. ((and_then t u, f false), tt))
    end_done before ts gs f t (Some after) e =
        let mark : Takes ts (kinds.Mark Semicolon ∷ []) after = record { text = mark_after Semicolon ts after e } in
        done_past groups_shape RightParen before after (λ rest. Ok ((gs, true), rest)) (record { item = (gs, true); fine = f true; starts = then_starts t (taken_on (kinds.Mark RightParen ∷ []) mark) })
        (λ rest u. ((and_then t (and_then mark u), f true), tt))

    groups_done : (ts : List Token) (o : Option (List Token)) → rest_after (is_mark RightParen) ts ≡ o → Done groups_shape ts (groups_in item ts o)
    groups_done ts None e =
        done_bind some_shape groups_shape ts ts (some_groups item ts) (λ groups. groups_end groups.0 groups.1 (rest_after (is_mark Semicolon) groups.1)) (some_done ts)
        (λ gs rest f s. record { item = (gs, false); fine = f false; starts = starts_on (spelled_end false) s }) (λ x t f h. end_done ts x.1 x.0 f t (rest_after (is_mark Semicolon) x.1) refl)
    groups_done ts (Some rest) e = ((record { text = mark_after RightParen ts rest e }, refl), tt)

    list_done : (ts : List Token) → Done list_shape ts (groups_with n valued ts)
    list_done ts =
        done_past list_shape LeftParen ts ts (λ inside. groups_in item inside (rest_after (is_mark RightParen) inside)) (begun_here list_shape ts ([], false) refl) (λ inside t.
        done_more groups_shape list_shape ts inside (groups_in item inside (rest_after (is_mark RightParen) inside)) (groups_done inside (rest_after (is_mark RightParen) inside) refl)
        (λ x rest f s. record { item = x; fine = f; starts = then_starts t s }) (λ x rest u f h. ((and_then t u, f), tt)))

  abbrev block_shape : Shape (List S.Stmt)
  block_shape = record { spell = λ b. spelled_block (S.stmts b); fine = λ b. GrammaticalStmts (S.stmts b); ends = λ b rest. Unit {0} }

  body_done : (ts : List Token) → Done block_shape ts (body_at n ts)
  body_done ts =
      done_past block_shape LeftBrace ts ts (λ inside. block_in (stmt_at n) inside) (begun_here block_shape ts [] tt) (λ inside t.
      done_more closed_shape block_shape ts inside (block_in (stmt_at n) inside) (block_done (expr_at n) (expr_starts n) (stmt_at n) (stmt_starts n) inside)
      (λ x rest f s. record { item = x; fine = f; starts = then_starts t s }) (λ x rest u f h. ((and_then t u, f), tt)))

  abbrev function_shape : Shape S.Function
  function_shape = record { spell = spelled_function; fine = λ f. GrammaticalGroups Never f.formals f.ended × GrammaticalStmts f.body; ends = λ f rest. Unit {0} }

  function_done : (before ts : List Token) (returns : SlType) → Takes before (kinds.Type returns ∷ []) ts → Done function_shape before (function_with n returns ts)
  function_done before ts returns t =
      let block = spelled_block S.done in
      done_named function_shape before ts _
      (record { item = record { returns = returns; name = []; formals = []; ended = false; body = S.done; line = 0 }; fine = (refl, tt); starts = taken_on (kinds.Name [] ∷ (spelled_list [] false ++ block)) t }) (λ name line rest u.
      done_bind (list_shape Never) function_shape before rest (groups_with n Never rest) _ (list_done Never rest)
      (λ x left f s. record { item = record { returns = returns; name = name; formals = x.0; ended = x.1; body = S.done; line = line }; fine = (f, tt); starts = then_starts t (then_starts u (starts_on block s)) }) (λ formals p f h.
      done_bind block_shape function_shape before formals.1 (body_at n formals.1)
      (λ body. Ok (record { returns = returns; name = name; formals = formals.0.0; ended = formals.0.1; body = S.stmts body.0; line = line }, body.1)) (body_done formals.1)
      (λ x left g s. record { item = record { returns = returns; name = name; formals = formals.0.0; ended = formals.0.1; body = S.stmts x; line = line }; fine = (f, g); starts = then_starts t (then_starts u (then_starts p s)) })
      (λ body q g k. ((and_then t (and_then u (and_then p q)), (f, g)), tt))))

  abbrev functions_shape : Shape (List S.Function)
  functions_shape = record { spell = spelled_functions; fine = GrammaticalFunctions; ends = λ fs rest. Unit {0} }

  next_function_done : (ts : List Token) (r : Reads S.Function) → next_function n ts ≡ Some r → Done function_shape ts r
  next_function_done ts r e =
      let m = mapped (λ k. function_with n k.0 k.1) (type_at ts) r e in
      let k = m.0 in
      let t : Takes ts (kinds.Type k.0 ∷ []) k.1 = record { text = type_at_is ts k m.1.0 } in
      subst (λ r. Done function_shape ts r) m.1.1 (function_done ts k.1 k.0 t)

  functions_done : (ts : List Token) → Done functions_shape ts (functions_in n ts)
  functions_done ts =
      done_many function_shape spelled_functions (λ k fs. GrammaticalFunctions fs) refl (λ x xs. refl) (λ k. tt) (λ k x xs f g. (f, g)) (next_function n) next_function_done (length ts) ts

  abbrev shader_shape : Shape S.Shader
  shader_shape = record { spell = spelled_shader; fine = GrammaticalShader; ends = λ s rest. Unit {0} }

  shader_done : (before ts : List Token) (fs : List S.Function) → GrammaticalFunctions fs → Takes before (spelled_functions fs) ts → (o : Option (SlKind × ℕ × List Token)) → sort_at ts ≡ o
      → Done shader_shape before (shader_then n fs ts o)
  shader_done before ts fs g f None e =
      record {
        item = record { functions = fs; kind = shaders.Surface; name = []; params = []; ended = false; body = S.done; line = 0 };
        fine = (g, (refl, tt));
        starts = taken_on (kinds.Kind shaders.Surface ∷ kinds.Name [] ∷ (spelled_list [] false ++ spelled_block S.done)) f;
      }
  shader_done before ts fs g f (Some k) e =
      let t : Takes ts (kinds.Kind k.0 ∷ []) k.2 = record { text = sort_at_is ts k e } in
      let block = spelled_block S.done in
      done_named shader_shape before k.2 _
      (record {
        item = record { functions = fs; kind = k.0; name = []; params = []; ended = false; body = S.done; line = 0 };
        fine = (g, (refl, tt));
        starts = then_starts f (taken_on (kinds.Name [] ∷ (spelled_list [] false ++ block)) t);
      }) (λ name line rest u.
      done_bind (list_shape Always) shader_shape before rest (groups_with n Always rest) _ (list_done Always rest)
      (λ x left h s. record {
        item = record { functions = fs; kind = k.0; name = name; params = x.0; ended = x.1; body = S.done; line = line };
        fine = (g, (h, tt));
        starts = then_starts f (then_starts t (then_starts u (starts_on block s)));
      }) (λ params p h i.
      done_bind block_shape shader_shape before params.1 (body_at n params.1)
      (λ body. Ok (record { functions = fs; kind = k.0; name = name; params = params.0.0; ended = params.0.1; body = S.stmts body.0; line = k.1 }, body.1)) (body_done params.1)
      (λ x left j s. record {
        item = record { functions = fs; kind = k.0; name = name; params = params.0.0; ended = params.0.1; body = S.stmts x; line = line };
        fine = (g, (h, j));
        starts = then_starts f (then_starts t (then_starts u (then_starts p s)));
      })
      (λ body q j l. ((and_then f (and_then t (and_then u (and_then p q))), (g, (h, j))), tt))))

  ended_done : (ts : List Token) (x : S.Shader × List Token) → Takes ts (spelled_shader x.0) x.1 → GrammaticalShader x.0 → Done shader_shape ts (ended x)
  ended_done ts (s, []) t f = ((t, f), tt)
  ended_done ts (s, u ∷ rest) t f = record { item = s; fine = f; starts = taken_whole t }

  file_done : (ts : List Token) → Done shader_shape ts (file_of n ts)
  file_done ts =
      done_bind functions_shape shader_shape ts ts (functions_in n ts) (λ fs. shader_then n fs.0 fs.1 (sort_at fs.1) >>= ended) (functions_done ts)
      (λ fs rest f s. record {
        item = record { functions = fs; kind = shaders.Surface; name = []; params = []; ended = false; body = S.done; line = 0 };
        fine = (f, (refl, tt));
        starts = starts_on (kinds.Kind shaders.Surface ∷ kinds.Name [] ∷ (spelled_list [] false ++ spelled_block S.done)) s;
      }) (λ x t f h.
      done_bind shader_shape shader_shape ts ts (shader_then n x.0 x.1 (sort_at x.1)) ended (shader_done ts x.1 x.0 f t (sort_at x.1) refl)
      (λ s rest g u. record { item = s; fine = g; starts = u }) (λ y u g k. ended_done ts y u g))

-- the tokens before a fault
abbrev pub Prefixed : List Token → List Token → Type 0
Prefixed ts rest = (s : S.Shader) × (GrammaticalShader s × ((front : List TokenKind) × ((other : List TokenKind) × ((kinds_of ts ≡ front ++ kinds_of rest) × (spelled_shader s ≡ front ++ other)))))

begins_in : (n : ℕ) (ts : List Token) (r : Reads S.Shader) (code : SlCode) (rest : List Token) → Done (shader_shape n) ts r → r ≡ Err (code, rest) → Prefixed ts rest
begins_in n ts (Ok x) code rest d e = absurd (cc e)
begins_in n ts (Err x) code rest d e =
    let same : x.1 ≡ rest = cc in
    subst (Prefixed ts) same (d.item, (d.fine, (d.starts.front, (d.starts.other, (d.starts.taken, d.starts.text)))))

pub begins : (ts rest : List Token) (code : SlCode) → file_of 64 ts ≡ Err (code, rest) → Prefixed ts rest
begins ts rest code e = begins_in 64 ts (file_of 64 ts) code rest (file_done 64 ts) e

-- the tree of a text
abbrev Whole : List Token → S.Shader → Type 0
Whole ts s = GrammaticalShader s × ((levels_file s.functions s.params s.body ≤ 64) × (kinds_of ts ≡ spelled_shader s))

abbrev Read : List Token → S.Shader → List Token → Type 0
Read ts s rest = IsShader 64 ts s rest × (rest ≡ [])

placed_whole : (end : ℕ) (ts : List Token) (r : Reads S.Shader) (s : S.Shader) → Done (shader_shape 64) ts r → Good r (Read ts) → kinds_of ts ≡ spelled_shader s → placed end r ≡ Ok s → Whole ts s
placed_whole end ts (Ok x) s g h t e =
    let same : x.0 ≡ s = cc in (subst GrammaticalShader same g.0.1, (subst (λ y. levels_file y.functions y.params y.body ≤ 64) same h.0.levels, t))
placed_whole end ts (Err x) s g h t e = absurd (cc e)

pub parsed_whole : (bytes : List ℕ) (s : S.Shader) → parsed bytes ≡ Ok s → Whole (tokens_of bytes) s
parsed_whole bytes s e =
    let ts = tokens_of bytes in
    placed_whole (last_line bytes) ts (file_of 64 ts) s (file_done 64 ts) (file_read 64 ts) (parsed_spelled bytes s e) e
