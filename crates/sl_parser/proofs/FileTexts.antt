-- The tree of a file spells all of its tokens, and opens no more levels than may be open.
use Rattle.std.proofs.Common.{◌≡◌, ℕ, zero, suc, ◌+◌, ◌≤◌, ◌∷◌, [], ◌++◌, List, Option, Some, None, Ok, Err, Bool, true, false, length, refl, ap, subst, ◌∙◌, arith, append-nil}
use Rattle.sl_ast.specs.Syntax as S
use Rattle.sl_ast.specs.Levels.{levels_stmt, levels_stmts, levels_groups, levels_function, levels_functions, levels_file}
use Rattle.sl_ast.specs.declared.kinds.SlType.{SlType}
use Rattle.sl_ast.specs.declared.kinds.SlKind.{SlKind}
use Rattle.sl_lexer.specs.declared.token.Token.{Token}
use Rattle.sl_lexer.specs.declared.token.TokenKind.TheVariants as kinds
use Rattle.sl_lexer.specs.declared.token.Mark.TheVariants.{LeftParen, RightParen, LeftBrace, Semicolon}
use Rattle.sl_lexer.specs.Tokens.{tokens_of, last_line}
use Rattle.sl_expression_grammar.specs.Reading.{Reads, ◌>>=◌, with_front, many, rest_after, is_mark}
use Rattle.sl_expression_grammar.specs.Expressions.{expr_at}
use Rattle.sl_parser.specs.declared.declarations.Valued.{Valued}
use Rattle.sl_parser.specs.declared.declarations.Valued.TheVariants.{Always, Never}
use Rattle.sl_parser.specs.Statements.{type_at, group_with, block_in, begins_stmt, stmt_opened, stmt_at}
use Rattle.sl_parser.specs.Files.{unless_closed, goes_on, semicolon_at, next_group, Groups, groups_end, some_groups, groups_in, groups_with, body_at, function_with, next_function, functions_in, sort_at, shader_then, ended, file_of, placed, parsed}
use Rattle.sl_parser.specs.Spelled.{kinds_of, spelled_stmt, spelled_end, further_groups, spelled_groups, spelled_list, spelled_block, spelled_function, spelled_functions, spelled_shader}
use Rattle.sl_parser.proofs.Fronts.{mapped, mark_after}
use Rattle.sl_parser.proofs.FrontNames.{type_at_is, sort_at_is}
use Rattle.sl_parser.proofs.Good.{Good, good_bind, good_past, good_front, good_more, good_deep, good_many, Takes, and_then}
use Rattle.sl_parser.proofs.ExprTexts.{Spells, nothing}
use Rattle.sl_parser.proofs.ExprLevels.{expr_read}
use Rattle.sl_parser.proofs.StmtTexts.{good_named, IsGroup, group_ok, IsBlock, block_ok, opened_ok}

pub stmt_read : (n : ℕ) (ts : List Token) → Good (stmt_at n ts) (Spells spelled_stmt levels_stmt n ts)
stmt_read zero ts = good_deep begins_stmt ts (Spells spelled_stmt levels_stmt zero ts)
stmt_read (suc n) ts =
    good_more (stmt_opened (stmt_at n) (expr_at n) ts) (Spells spelled_stmt levels_stmt (1 + n) ts) (Spells spelled_stmt levels_stmt (suc n) ts)
    (opened_ok n (expr_at n) (expr_read n) (stmt_at n) (stmt_read n) ts) (λ x rest p. record { takes = p.takes; levels = omega (arith, p.levels) })

unless_is : (rest after : List Token) (o : Option (List Token)) → unless_closed (Some rest) o ≡ Some after → rest ≡ after
unless_is rest after None e = cc
unless_is rest after (Some x) e = absurd (cc e)

pub goes_on_is : (o : Option (List Token)) (after : List Token) → goes_on o ≡ Some after → o ≡ Some after
goes_on_is None after e = absurd (cc e)
goes_on_is (Some rest) after e = ap Some (unless_is rest after (rest_after (is_mark RightParen) rest) e)

module _ (n : ℕ) where
  module _ (valued : Valued) where
    abbrev item : List Token → Reads S.Group
    item = group_with (expr_at n) valued

    abbrev IsItem : List Token → S.Group → List Token → Type 0
    IsItem = IsGroup n (expr_at n) (expr_read n)

    item_ok : (ts : List Token) → Good (item ts) (IsItem ts)
    item_ok = group_ok n (expr_at n) (expr_read n) valued

    abbrev IsFurther : List Token → List S.Group → List Token → Type 0
    IsFurther = Spells further_groups levels_groups n

    abbrev IsSome : List Token → List S.Group → List Token → Type 0
    IsSome = Spells spelled_groups levels_groups n

    abbrev IsGroups : List Token → Groups → List Token → Type 0
    IsGroups = Spells (λ g. spelled_groups g.0 ++ spelled_end g.1) (λ g. levels_groups g.0) n

    abbrev IsList : List Token → Groups → List Token → Type 0
    IsList = Spells (λ g. spelled_list g.0 g.1) (λ g. levels_groups g.0) n

    abbrev IsNext : List Token → S.Group → List Token → Type 0
    IsNext = λ ts x rest. (after : List Token) × (Takes ts (kinds.Mark Semicolon ∷ []) after × IsItem after x rest)

    next_ok : (ts : List Token) (r : Reads S.Group) → next_group item ts ≡ Some r → Good r (IsNext ts)
    next_ok ts r e =
        let m = mapped item (semicolon_at ts) r e in
        let t : Takes ts (kinds.Mark Semicolon ∷ []) m.0 = record { text = mark_after Semicolon ts m.0 (goes_on_is (rest_after (is_mark Semicolon) ts) m.0 m.1.0) } in
        subst (λ r. Good r (IsNext ts)) m.1.1 (good_more (item m.0) (IsItem m.0) (IsNext ts) (item_ok m.0) (λ x rest p. (m.0, (t, p))))

    some_ok : (ts : List Token) → Good (some_groups item ts) (IsSome ts)
    some_ok ts =
        good_bind (item ts) (λ g. with_front (g.0 ∷ []) (many (next_group item) (length g.1) g.1)) (IsItem ts) (IsSome ts) (item_ok ts) (λ x p.
        good_front x.0 (many (next_group item) (length x.1) x.1) (IsFurther x.1) (IsSome ts)
        (good_many (next_group item) IsNext IsFurther (λ ts. record { takes = nothing ts; levels = omega arith })
        (λ ts rest left x xs p q. let e = p.1.1 in record { takes = and_then p.1.0 (and_then e.takes q.takes); levels = omega (arith, e.levels, q.levels) })
        next_ok (length x.1) x.1)
        (λ xs rest q. record { takes = and_then p.takes q.takes; levels = omega (arith, p.levels, q.levels) }))

    end_on : (before ts : List Token) (gs : List S.Group) → IsSome before gs ts → (o : Option (List Token)) → rest_after (is_mark Semicolon) ts ≡ o → Good (groups_end gs ts o) (IsGroups before)
    end_on before ts gs p None e = good_past RightParen ts (λ rest. Ok ((gs, false), rest)) (IsGroups before) (λ rest u. record { takes = and_then p.takes u; levels = p.levels })
    end_on before ts gs p (Some after) e =
        let t : Takes ts (kinds.Mark Semicolon ∷ []) after = record { text = mark_after Semicolon ts after e } in
        good_past RightParen after (λ rest. Ok ((gs, true), rest)) (IsGroups before) (λ rest u. record { takes = and_then p.takes (and_then t u); levels = p.levels })

    groups_on : (ts : List Token) (o : Option (List Token)) → rest_after (is_mark RightParen) ts ≡ o → Good (groups_in item ts o) (IsGroups ts)
    groups_on ts None e =
        good_bind (some_groups item ts) (λ groups. groups_end groups.0 groups.1 (rest_after (is_mark Semicolon) groups.1)) (IsSome ts) (IsGroups ts) (some_ok ts)
        (λ x p. end_on ts x.1 x.0 p (rest_after (is_mark Semicolon) x.1) refl)
    groups_on ts (Some rest) e = record { takes = record { text = mark_after RightParen ts rest e }; levels = omega arith }

    list_ok : (ts : List Token) → Good (groups_with n valued ts) (IsList ts)
    list_ok ts =
        good_past LeftParen ts (λ inside. groups_in item inside (rest_after (is_mark RightParen) inside)) (IsList ts) (λ inside t.
        good_more (groups_in item inside (rest_after (is_mark RightParen) inside)) (IsGroups inside) (IsList ts) (groups_on inside (rest_after (is_mark RightParen) inside) refl)
        (λ x rest p. record { takes = and_then t p.takes; levels = p.levels }))

  abbrev IsBody : List Token → List S.Stmt → List Token → Type 0
  IsBody = Spells (λ b. spelled_block (S.stmts b)) (λ b. levels_stmts (S.stmts b)) n

  body_ok : (ts : List Token) → Good (body_at n ts) (IsBody ts)
  body_ok ts =
      good_past LeftBrace ts (λ inside. block_in (stmt_at n) inside) (IsBody ts) (λ inside t.
      good_more (block_in (stmt_at n) inside) (IsBlock n (expr_at n) (expr_read n) (stmt_at n) (stmt_read n) inside) (IsBody ts)
      (block_ok n (expr_at n) (expr_read n) (stmt_at n) (stmt_read n) inside) (λ x rest p. record { takes = and_then t p.takes; levels = p.levels }))

  abbrev pub IsFunction : List Token → S.Function → List Token → Type 0
  IsFunction = Spells spelled_function levels_function n

  function_ok : (before ts : List Token) (returns : SlType) → Takes before (kinds.Type returns ∷ []) ts → Good (function_with n returns ts) (IsFunction before)
  function_ok before ts returns t =
      good_named ts _ (IsFunction before) (λ name line rest u.
      good_bind (groups_with n Never rest) _ (IsList Never rest) (IsFunction before) (list_ok Never rest) (λ formals p.
      good_bind (body_at n formals.1)
      (λ body. Ok (record { returns = returns; name = name; formals = formals.0.0; ended = formals.0.1; body = S.stmts body.0; line = line }, body.1))
      (IsBody formals.1) (IsFunction before) (body_ok formals.1) (λ body q.
      record { takes = and_then t (and_then u (and_then p.takes q.takes)); levels = omega (arith, p.levels, q.levels) })))

  abbrev pub IsFunctions : List Token → List S.Function → List Token → Type 0
  IsFunctions = Spells spelled_functions levels_functions n

  next_function_ok : (ts : List Token) (r : Reads S.Function) → next_function n ts ≡ Some r → Good r (IsFunction ts)
  next_function_ok ts r e =
      let m = mapped (λ k. function_with n k.0 k.1) (type_at ts) r e in
      let k = m.0 in
      let t : Takes ts (kinds.Type k.0 ∷ []) k.1 = record { text = type_at_is ts k m.1.0 } in
      subst (λ r. Good r (IsFunction ts)) m.1.1 (function_ok ts k.1 k.0 t)

  pub functions_read : (ts : List Token) → Good (functions_in n ts) (IsFunctions ts)
  functions_read ts =
      good_many (next_function n) IsFunction IsFunctions (λ ts. record { takes = nothing ts; levels = omega arith })
      (λ ts rest left x xs p q. record { takes = and_then p.takes q.takes; levels = omega (arith, p.levels, q.levels) })
      next_function_ok (length ts) ts

  abbrev pub IsShader : List Token → S.Shader → List Token → Type 0
  IsShader = Spells spelled_shader (λ s. levels_file s.functions s.params s.body) n

  shader_on : (before ts : List Token) (fs : List S.Function) → IsFunctions before fs ts → (o : Option (SlKind × ℕ × List Token)) → sort_at ts ≡ o → Good (shader_then n fs ts o) (IsShader before)
  shader_on before ts fs f None e = tt
  shader_on before ts fs f (Some k) e =
      let t : Takes ts (kinds.Kind k.0 ∷ []) k.2 = record { text = sort_at_is ts k e } in
      good_named k.2 _ (IsShader before) (λ name line rest u.
      good_bind (groups_with n Always rest) _ (IsList Always rest) (IsShader before) (list_ok Always rest) (λ params p.
      good_bind (body_at n params.1)
      (λ body. Ok (record { functions = fs; kind = k.0; name = name; params = params.0.0; ended = params.0.1; body = S.stmts body.0; line = k.1 }, body.1))
      (IsBody params.1) (IsShader before) (body_ok params.1) (λ body q.
      record { takes = and_then f.takes (and_then t (and_then u (and_then p.takes q.takes))); levels = omega (arith, f.levels, p.levels, q.levels) })))

  ended_ok : (ts : List Token) (x : S.Shader × List Token) → IsShader ts x.0 x.1 → Good (ended x) (λ s rest. IsShader ts s rest × (rest ≡ []))
  ended_ok ts (s, []) p = (p, refl)
  ended_ok ts (s, t ∷ rest) p = tt

  pub file_read : (ts : List Token) → Good (file_of n ts) (λ s rest. IsShader ts s rest × (rest ≡ []))
  file_read ts =
      good_bind (functions_in n ts) (λ fs. shader_then n fs.0 fs.1 (sort_at fs.1) >>= ended) (IsFunctions ts) (λ s rest. IsShader ts s rest × (rest ≡ [])) (functions_read ts) (λ x p.
      good_bind (shader_then n x.0 x.1 (sort_at x.1)) ended (IsShader ts) (λ s rest. IsShader ts s rest × (rest ≡ [])) (shader_on ts x.1 x.0 p (sort_at x.1) refl) (λ y q. ended_ok ts y q))

whole : (ts : List Token) (s : S.Shader) (rest : List Token) → Takes ts (spelled_shader s) rest → rest ≡ [] → kinds_of ts ≡ spelled_shader s
whole ts s rest t e = t.text ∙ ap (λ r. spelled_shader s ++ kinds_of r) e ∙ append-nil (spelled_shader s)

placed_is : (end : ℕ) (n : ℕ) (ts : List Token) (r : Reads S.Shader) (s : S.Shader) → Good r (λ s rest. IsShader n ts s rest × (rest ≡ [])) → placed end r ≡ Ok s → kinds_of ts ≡ spelled_shader s
placed_is end n ts (Ok x) s g e =
    let same : x.0 ≡ s = cc in
    whole ts x.0 x.1 g.0.takes g.1 ∙ ap spelled_shader same
placed_is end n ts (Err x) s g e = absurd (cc e)

-- the tree of a text spells its tokens
pub parsed_spelled : (bytes : List ℕ) (s : S.Shader) → parsed bytes ≡ Ok s → kinds_of (tokens_of bytes) ≡ spelled_shader s
parsed_spelled bytes s e = placed_is (last_line bytes) 64 (tokens_of bytes) (file_of 64 (tokens_of bytes)) s (file_read 64 (tokens_of bytes)) e

good_at : {A : Type 0} (r : Reads A) (P : A → List Token → Type 0) (x : A) (rest : List Token) → Good r P → r ≡ Ok (x, rest) → P x rest
good_at r P x rest g e = subst (λ r. Good r P) e g

-- how many levels are open in what was read
pub groups_shallow : (n : ℕ) (valued : Valued) (ts : List Token) (gs : List S.Group) (b : Bool) (rest : List Token) → groups_with n valued ts ≡ Ok ((gs, b), rest) → levels_groups gs ≤ n
groups_shallow n valued ts gs b rest e = let p = good_at (groups_with n valued ts) (IsList n valued ts) (gs, b) rest (list_ok n valued ts) e in p.levels

pub body_shallow : (n : ℕ) (ts : List Token) (body : List S.Stmt) (rest : List Token) → body_at n ts ≡ Ok (body, rest) → levels_stmts (S.stmts body) ≤ n
body_shallow n ts body rest e = let p = good_at (body_at n ts) (IsBody n ts) body rest (body_ok n ts) e in p.levels

pub functions_shallow : (n : ℕ) (ts : List Token) (fs : List S.Function) (rest : List Token) → functions_in n ts ≡ Ok (fs, rest) → levels_functions fs ≤ n
functions_shallow n ts fs rest e = let p = good_at (functions_in n ts) (IsFunctions n ts) fs rest (functions_read n ts) e in p.levels
