-- The tokens of a shader of the grammar are read as that shader.
use Rattle.std.proofs.Common.{◌<◌, inl, inr, ◌≡◌, ℕ, zero, suc, ◌+◌, ◌≤◌, ◌∷◌, [], ◌++◌, List, Option, Some, None, Ok, Err, Bool, true, false, length, length-append, map, refl, sym, ap, subst, ◌∙◌, append_assoc, append-nil, arith}
use Rattle.std.specs.Prelude.{option_map}
use Rattle.sl_ast.specs.Syntax as S
use Rattle.sl_ast.specs.Levels.{levels_stmts, levels_groups, levels_function, levels_functions, levels_file}
use Rattle.sl_ast.specs.declared.kinds.Class.{Class}
use Rattle.sl_ast.specs.declared.kinds.SlKind.{SlKind}
use Rattle.sl_lexer.specs.declared.token.Token.{Token}
use Rattle.sl_lexer.specs.declared.token.TokenKind.{TokenKind}
use Rattle.sl_lexer.specs.declared.token.TokenKind.TheVariants as kinds
use Rattle.sl_lexer.specs.declared.token.Mark.TheVariants.{LeftParen, RightParen, LeftBrace, RightBrace, Semicolon}
use Rattle.sl_lexer.specs.Tokens.{tokens_of, last_line}
use Rattle.sl_expression_grammar.specs.declared.fault.SlCode.{SlCode}
use Rattle.sl_expression_grammar.specs.declared.fault.SlCode.TheVariants.{P3}
use Rattle.sl_expression_grammar.specs.Reading.{Reads, ◌>>=◌, with_front, many, rest_after, is_mark}
use Rattle.sl_expression_grammar.specs.Expressions.{expr_at}
use Rattle.sl_parser.specs.declared.declarations.Valued.{Valued}
use Rattle.sl_parser.specs.declared.declarations.Valued.TheVariants.{Always, Never}
use Rattle.sl_parser.specs.Statements.{group_with, block_in, stmt_at}
use Rattle.sl_parser.specs.Files.{unless_closed, next_group, Groups, groups_end, some_groups, groups_in, groups_with, body_at, function_with, next_function, functions_in, sort_at, shader_then, ended, file_of, placed, parsed}
use Rattle.sl_parser.specs.Spelled.{kinds_of, spelled_names, spelled_class, spelled_stmts, spelled_group, spelled_end, further_groups, spelled_groups, spelled_list, spelled_block, spelled_function, spelled_functions, spelled_shader}
use Rattle.sl_grammar.specs.Bare.{bare_stmts, bare_group, bare_function, bare_shader}
use Rattle.sl_grammar.specs.Grammatical.{GrammaticalStmts, EachGrammatical, GrammaticalGroups, GrammaticalFunctions, GrammaticalShader}
use Rattle.sl_grammar.proofs.Got.{Got, got_bind, got_front, got_more, got_past, at_front, token, Lacks, not_after, many_more, many_none, got_both, tokens_for, tokens_for_is}
use Rattle.sl_grammar.proofs.ExprReads.{kinds_length}
use Rattle.sl_grammar.proofs.StmtReads.{Seen, ClosesNames, group_read}
use Rattle.sl_grammar.proofs.Deeper.{Kept, file_kept}
use Rattle.sl_grammar.proofs.LocalFiles.{fault_stays}
use Rattle.sl_grammar.proofs.BlockReads.{block_body_read}

class_open : (class : Option Class) (g : S.Group) (ks : List TokenKind) → Lacks (is_mark RightParen) ((spelled_class class ++ (kinds.Type g.kind ∷ spelled_names g.names)) ++ ks)
class_open None g ks = refl
class_open (Some class) g ks = refl

group_open : (g : S.Group) (ks : List TokenKind) → Lacks (is_mark RightParen) (spelled_group g ++ ks)
group_open g ks = class_open g.class g ks

module _ (levels : ℕ) where
  abbrev group : Valued → List Token → Reads S.Group
  group valued = group_with (expr_at levels) valued

  closes_groups : (gs : List S.Group) (end : Bool) (ks : List TokenKind) → ClosesNames levels (further_groups gs ++ (spelled_end end ++ ks))
  closes_groups [] true ks = ((omega arith, refl), refl)
  closes_groups [] false ks = ((omega arith, refl), refl)
  closes_groups (g ∷ gs) end ks = ((omega arith, refl), refl)

  no_group : (valued : Valued) (end : Bool) (ks : List TokenKind) (ts : List Token) → kinds_of ts ≡ spelled_end end ++ ks → next_group (group valued) ts ≡ None
  no_group valued true ks ts t =
      at_front ts (kinds.Mark Semicolon) (kinds.Mark RightParen ∷ ks) t (λ ts. next_group (group valued) ts ≡ None) (λ at rest r.
      at_front rest (kinds.Mark RightParen) ks r (λ us. option_map (group valued) (unless_closed (Some us) (rest_after (is_mark RightParen) us)) ≡ None) (λ line us u. refl))
  no_group valued false ks ts t = at_front ts (kinds.Mark RightParen) ks t (λ ts. next_group (group valued) ts ≡ None) (λ at rest r. refl)

  further_read : (valued : Valued) (gs : List S.Group) (end : Bool) → EachGrammatical valued gs → levels_groups gs ≤ levels → (ks : List TokenKind) (turns : ℕ) (ts : List Token) → length ts ≤ turns
      → kinds_of ts ≡ further_groups gs ++ (spelled_end end ++ ks) → Got (many (next_group (group valued)) turns ts) (Seen (map bare_group) gs (spelled_end end ++ ks))
  further_read valued [] end g w ks turns ts l t =
      many_none (next_group (group valued)) turns ts (no_group valued end ks ts t) (Seen (map bare_group) [] (spelled_end end ++ ks)) (refl, t)
  further_read valued (x ∷ gs) end g w ks zero ts l t =
      let n = kinds_length ts (further_groups (x ∷ gs) ++ (spelled_end end ++ ks)) t in absurd (omega (arith, l, n))
  further_read valued (x ∷ gs) end g w ks (suc turns) ts l t =
      let close = spelled_end end ++ ks in
      let after = further_groups gs ++ close in
      let Q = Seen (map bare_group) (x ∷ gs) close in
      let step = next_group (group valued) in
      let n = kinds_length ts (further_groups (x ∷ gs) ++ close) t in
      at_front ts (kinds.Mark Semicolon) ((spelled_group x ++ further_groups gs) ++ close) t (λ ts. Got (many step (suc turns) ts) Q) (λ at us u.
      let v : kinds_of us ≡ spelled_group x ++ after = u ∙ append_assoc (spelled_group x) (further_groups gs) close in
      let here = not_after (is_mark RightParen) us (subst (Lacks (is_mark RightParen)) (sym v) (group_open x after)) in
      many_more step turns (token (kinds.Mark Semicolon) at ∷ us) (group valued us) (ap (λ o. option_map (group valued) (unless_closed (Some us) o)) here) (Seen bare_group x after) Q
      (group_read levels valued x g.0 (omega (arith, w)) after (closes_groups gs end ks) us v) (λ y vs p.
      let k = kinds_length vs after p.1 in
      let i = ap length (append_assoc (spelled_group x) (further_groups gs) close) in
      let j = length-append (spelled_group x) after in
      got_more (many step turns vs) (Seen (map bare_group) gs close) (λ xs left. Q (y ∷ xs) left) (further_read valued gs end g.1 (omega (arith, w)) ks turns vs (omega (arith, l, n, k, i, j)) p.1)
      (λ xs left q. (ap (λ z. z ∷ map bare_group xs) p.0 ∙ ap (λ zs. bare_group x ∷ zs) q.0, q.1))))

  abbrev SeenGroups : List S.Group → Bool → List TokenKind → Groups → List Token → Type 0
  SeenGroups groups end ks x rest = ((map bare_group x.0 ≡ map bare_group groups) × (x.1 ≡ end)) × (kinds_of rest ≡ ks)

  end_read : (groups xs : List S.Group) (end : Bool) (ks : List TokenKind) (ts : List Token) → map bare_group xs ≡ map bare_group groups → kinds_of ts ≡ spelled_end end ++ ks
      → Got (groups_end xs ts (rest_after (is_mark Semicolon) ts)) (SeenGroups groups end ks)
  end_read groups xs true ks ts e t =
      at_front ts (kinds.Mark Semicolon) (kinds.Mark RightParen ∷ ks) t (λ ts. Got (groups_end xs ts (rest_after (is_mark Semicolon) ts)) (SeenGroups groups true ks)) (λ at rest r.
      got_past RightParen rest ks (λ rest. Ok ((xs, true), rest)) (SeenGroups groups true ks) r (λ us u. ((e, refl), u)))
  end_read groups xs false ks ts e t =
      at_front ts (kinds.Mark RightParen) ks t (λ ts. Got (groups_end xs ts (rest_after (is_mark Semicolon) ts)) (SeenGroups groups false ks)) (λ at rest r. ((e, refl), r))

  some_read : (valued : Valued) (x : S.Group) (gs : List S.Group) (end : Bool) → EachGrammatical valued (x ∷ gs) → levels_groups (x ∷ gs) ≤ levels → (ks : List TokenKind) (ts : List Token)
      → kinds_of ts ≡ spelled_group x ++ (further_groups gs ++ (spelled_end end ++ ks)) → Got (some_groups (group valued) ts) (Seen (map bare_group) (x ∷ gs) (spelled_end end ++ ks))
  some_read valued x gs end g w ks ts t =
      let close = spelled_end end ++ ks in
      let after = further_groups gs ++ close in
      let Q = Seen (map bare_group) (x ∷ gs) close in
      got_bind (group valued ts) (λ g. with_front (g.0 ∷ []) (many (next_group (group valued)) (length g.1) g.1)) (Seen bare_group x after) Q
      (group_read levels valued x g.0 (omega (arith, w)) after (closes_groups gs end ks) ts t) (λ y p.
      got_front y.0 (many (next_group (group valued)) (length y.1) y.1) (Seen (map bare_group) gs close) Q (further_read valued gs end g.1 (omega (arith, w)) ks (length y.1) y.1 (omega arith) p.1)
      (λ xs left q. (ap (λ z. z ∷ map bare_group xs) p.0 ∙ ap (λ zs. bare_group x ∷ zs) q.0, q.1)))

  inside_read : (valued : Valued) (groups : List S.Group) (end : Bool) → GrammaticalGroups valued groups end → levels_groups groups ≤ levels → (ks : List TokenKind) (ts : List Token)
      → kinds_of ts ≡ (spelled_groups groups ++ spelled_end end) ++ ks → Got (groups_in (group valued) ts (rest_after (is_mark RightParen) ts)) (SeenGroups groups end ks)
  inside_read valued [] true g w ks ts t = absurd (cc g)
  inside_read valued [] false g w ks ts t =
      at_front ts (kinds.Mark RightParen) ks t (λ ts. Got (groups_in (group valued) ts (rest_after (is_mark RightParen) ts)) (SeenGroups [] false ks)) (λ at rest r. ((refl, refl), r))
  inside_read valued (x ∷ gs) end g w ks ts t =
      let close = spelled_end end ++ ks in
      let after = further_groups gs ++ close in
      let u : kinds_of ts ≡ spelled_group x ++ after =
      t ∙ append_assoc (spelled_group x ++ further_groups gs) (spelled_end end) ks ∙ append_assoc (spelled_group x) (further_groups gs) close in
      let here = not_after (is_mark RightParen) ts (subst (Lacks (is_mark RightParen)) (sym u) (group_open x after)) in
      subst (λ o. Got (groups_in (group valued) ts o) (SeenGroups (x ∷ gs) end ks)) (sym here)
      (got_bind (some_groups (group valued) ts) (λ groups. groups_end groups.0 groups.1 (rest_after (is_mark Semicolon) groups.1)) (Seen (map bare_group) (x ∷ gs) close) (SeenGroups (x ∷ gs) end ks)
      (some_read valued x gs end g w ks ts u) (λ y p. end_read (x ∷ gs) y.0 end ks y.1 p.0 p.1))

  groups_read : (valued : Valued) (groups : List S.Group) (end : Bool) → GrammaticalGroups valued groups end → levels_groups groups ≤ levels → (ks : List TokenKind) (ts : List Token)
      → kinds_of ts ≡ spelled_list groups end ++ ks → Got (groups_with levels valued ts) (SeenGroups groups end ks)
  groups_read valued groups end g w ks ts t =
      got_past LeftParen ts ((spelled_groups groups ++ spelled_end end) ++ ks) (λ inside. groups_in (group valued) inside (rest_after (is_mark RightParen) inside)) (SeenGroups groups end ks) t (λ inside i.
      inside_read valued groups end g w ks inside i)

  abbrev SeenBody : S.Stmts → List TokenKind → List S.Stmt → List Token → Type 0
  SeenBody body ks xs rest = (bare_stmts (S.stmts xs) ≡ bare_stmts body) × (kinds_of rest ≡ ks)

  braces_read : (body : S.Stmts) → GrammaticalStmts body → levels_stmts body ≤ levels → (ks : List TokenKind) (ts : List Token) → kinds_of ts ≡ spelled_block body ++ ks
      → Got (body_at levels ts) (SeenBody body ks)
  braces_read body g w ks ts t =
      let close = kinds.Mark RightBrace ∷ [] in
      got_past LeftBrace ts ((spelled_stmts body ++ close) ++ ks) (λ inside. block_in (stmt_at levels) inside) (SeenBody body ks) t (λ inside i.
      block_body_read body g levels w ks inside (i ∙ append_assoc (spelled_stmts body) close ks))

  function_bare : (f : S.Function) (formals : List S.Group) (end : Bool) (body : S.Stmts) (line : ℕ) → map bare_group formals ≡ map bare_group f.formals → end ≡ f.ended → bare_stmts body ≡ bare_stmts f.body
      → bare_function (record { returns = f.returns; name = f.name; formals = formals; ended = end; body = body; line = line }) ≡ bare_function f
  function_bare f formals end body line p q o =
      ap (λ z. record { returns = f.returns; name = f.name; formals = z; ended = end; body = bare_stmts body; line = 0 }) p
      ∙ ap (λ z. record { returns = f.returns; name = f.name; formals = map bare_group f.formals; ended = z; body = bare_stmts body; line = 0 }) q
      ∙ ap (λ z. record { returns = f.returns; name = f.name; formals = map bare_group f.formals; ended = f.ended; body = z; line = 0 }) o

  function_read : (f : S.Function) → GrammaticalGroups Never f.formals f.ended → GrammaticalStmts f.body → levels_function f ≤ levels → (ks : List TokenKind) (ts : List Token)
      → kinds_of ts ≡ kinds.Name f.name ∷ ((spelled_list f.formals f.ended ++ spelled_block f.body) ++ ks) → Got (function_with levels f.returns ts) (Seen bare_function f ks)
  function_read f g b w ks ts t =
      let after = spelled_block f.body ++ ks in
      let Q = Seen bare_function f ks in
      at_front ts (kinds.Name f.name) ((spelled_list f.formals f.ended ++ spelled_block f.body) ++ ks) t (λ ts. Got (function_with levels f.returns ts) Q) (λ at rest r.
      got_bind (groups_with levels Never rest) _ (SeenGroups f.formals f.ended after) Q
      (groups_read Never f.formals f.ended g (omega (arith, w)) after rest (r ∙ append_assoc (spelled_list f.formals f.ended) (spelled_block f.body) ks)) (λ x p.
      got_bind (body_at levels x.1) (λ body. Ok (record { returns = f.returns; name = f.name; formals = x.0.0; ended = x.0.1; body = S.stmts body.0; line = at }, body.1)) (SeenBody f.body ks) Q
      (braces_read f.body b (omega (arith, w)) ks x.1 p.1) (λ y q. (function_bare f x.0.0 x.0.1 (S.stmts y.0) at p.0.0 p.0.1 q.0, q.1))))

  functions_read : (fs : List S.Function) → GrammaticalFunctions fs → levels_functions fs ≤ levels → (kind : SlKind) (ks : List TokenKind) (turns : ℕ) (ts : List Token) → length ts ≤ turns
      → kinds_of ts ≡ spelled_functions fs ++ (kinds.Kind kind ∷ ks) → Got (many (next_function levels) turns ts) (Seen (map bare_function) fs (kinds.Kind kind ∷ ks))
  functions_read [] g w kind ks turns ts l t =
      many_none (next_function levels) turns ts (at_front ts (kinds.Kind kind) ks t (λ ts. next_function levels ts ≡ None) (λ at rest r. refl)) (Seen (map bare_function) [] (kinds.Kind kind ∷ ks)) (refl, t)
  functions_read (f ∷ fs) g w kind ks zero ts l t =
      let n = kinds_length ts (spelled_functions (f ∷ fs) ++ (kinds.Kind kind ∷ ks)) t in absurd (omega (arith, l, n))
  functions_read (f ∷ fs) g w kind ks (suc turns) ts l t =
      let close = kinds.Kind kind ∷ ks in
      let after = spelled_functions fs ++ close in
      let Q = Seen (map bare_function) (f ∷ fs) close in
      let step = next_function levels in
      let u : kinds_of ts ≡ spelled_function f ++ after = t ∙ append_assoc (spelled_function f) (spelled_functions fs) close in
      let n = kinds_length ts (spelled_function f ++ after) u in
      let j = length-append (spelled_function f) after in
      at_front ts (kinds.Type f.returns) (kinds.Name f.name ∷ ((spelled_list f.formals f.ended ++ spelled_block f.body) ++ after)) u (λ ts. Got (many step (suc turns) ts) Q) (λ at us v.
      many_more step turns (token (kinds.Type f.returns) at ∷ us) (function_with levels f.returns us) refl (Seen bare_function f after) Q
      (function_read f g.0.0 g.0.1 (omega (arith, w)) after us v) (λ x vs p.
      let k = kinds_length vs after p.1 in
      got_more (many step turns vs) (Seen (map bare_function) fs close) (λ xs left. Q (x ∷ xs) left) (functions_read fs g.1 (omega (arith, w)) kind ks turns vs (omega (arith, l, n, j, k)) p.1)
      (λ xs left q. (ap (λ z. z ∷ map bare_function xs) p.0 ∙ ap (λ zs. bare_function f ∷ zs) q.0, q.1))))

  abbrev bare_parts : List S.Function → S.Shader → List S.Group → Bool → S.Stmts → S.Shader
  bare_parts functions s params end body = record { functions = functions; kind = s.kind; name = s.name; params = params; ended = end; body = body; line = 0 }

  shader_bare : (s : S.Shader) (functions : List S.Function) (params : List S.Group) (end : Bool) (body : S.Stmts) (line : ℕ) → map bare_function functions ≡ map bare_function s.functions
      → map bare_group params ≡ map bare_group s.params → end ≡ s.ended → bare_stmts body ≡ bare_stmts s.body
      → bare_shader (record { functions = functions; kind = s.kind; name = s.name; params = params; ended = end; body = body; line = line }) ≡ bare_shader s
  shader_bare s functions params end body line d p q o =
      ap (λ z. bare_parts z s (map bare_group params) end (bare_stmts body)) d
      ∙ ap (λ z. bare_parts (map bare_function s.functions) s z end (bare_stmts body)) p
      ∙ ap (λ z. bare_parts (map bare_function s.functions) s (map bare_group s.params) z (bare_stmts body)) q
      ∙ ap (λ z. bare_parts (map bare_function s.functions) s (map bare_group s.params) s.ended z) o

  shader_read : (s : S.Shader) (functions : List S.Function) → map bare_function functions ≡ map bare_function s.functions → GrammaticalGroups Always s.params s.ended → GrammaticalStmts s.body
      → levels_groups s.params ≤ levels → levels_stmts s.body ≤ levels → (ts : List Token)
      → kinds_of ts ≡ kinds.Kind s.kind ∷ kinds.Name s.name ∷ (spelled_list s.params s.ended ++ spelled_block s.body) → Got (shader_then levels functions ts (sort_at ts)) (Seen bare_shader s [])
  shader_read s functions d g b v w ts t =
      let inner = spelled_list s.params s.ended ++ spelled_block s.body in
      let block = spelled_block s.body in
      let Q = Seen bare_shader s [] in
      at_front ts (kinds.Kind s.kind) (kinds.Name s.name ∷ inner) t (λ ts. Got (shader_then levels functions ts (sort_at ts)) Q) (λ at us u.
      at_front us (kinds.Name s.name) inner u (λ us. Got (shader_then levels functions (token (kinds.Kind s.kind) at ∷ us) (Some (s.kind, at, us))) Q) (λ line rest r.
      got_bind (groups_with levels Always rest) _ (SeenGroups s.params s.ended block) Q (groups_read Always s.params s.ended g v block rest r) (λ x p.
      got_bind (body_at levels x.1) (λ body. Ok (record { functions = functions; kind = s.kind; name = s.name; params = x.0.0; ended = x.0.1; body = S.stmts body.0; line = at }, body.1)) (SeenBody s.body []) Q
      (braces_read s.body b w [] x.1 (p.1 ∙ sym (append-nil block))) (λ y q. (shader_bare s functions x.0.0 x.0.1 (S.stmts y.0) at d p.0.0 p.0.1 q.0, q.1)))))

  abbrev pub SeenFile : S.Shader → S.Shader → List Token → Type 0
  SeenFile s x rest = (bare_shader x ≡ bare_shader s) × (rest ≡ [])

  ended_read : (s x : S.Shader) (rest : List Token) → Seen bare_shader s [] x rest → Got (ended (x, rest)) (SeenFile s)
  ended_read s x [] p = (p.0, refl)
  ended_read s x (t ∷ ts) p = let e = p.1 in absurd (cc e)

  pub file_read : (s : S.Shader) → GrammaticalShader s → levels_file s.functions s.params s.body ≤ levels → (ts : List Token) → kinds_of ts ≡ spelled_shader s → Got (file_of levels ts) (SeenFile s)
  file_read s g w ts t =
      let rest = kinds.Name s.name ∷ (spelled_list s.params s.ended ++ spelled_block s.body) in
      got_bind (functions_in levels ts) (λ fs. shader_then levels fs.0 fs.1 (sort_at fs.1) >>= ended) (Seen (map bare_function) s.functions (kinds.Kind s.kind ∷ rest)) (SeenFile s)
      (functions_read s.functions g.0 (omega (arith, w)) s.kind rest (length ts) ts (omega arith) t) (λ x p.
      got_bind (shader_then levels x.0 x.1 (sort_at x.1)) ended (Seen bare_shader s []) (SeenFile s)
      (shader_read s x.0 p.0 g.1.0 g.1.1 (omega (arith, w)) (omega (arith, w)) x.1 p.1) (λ y q. ended_read s y.0 y.1 q))

accepted_in : (s : S.Shader) (end : ℕ) (r : Reads S.Shader) → Got r (SeenFile 64 s) → (x : S.Shader) × ((placed end r ≡ Ok x) × (bare_shader x ≡ bare_shader s))
accepted_in s end (Ok x) g = (x.0, (refl, g.0))
accepted_in s end (Err e) g = absurd g

pub accepted : (s : S.Shader) → GrammaticalShader s → levels_file s.functions s.params s.body ≤ 64 → (bytes : List ℕ) → kinds_of (tokens_of bytes) ≡ spelled_shader s
    → (x : S.Shader) × ((parsed bytes ≡ Ok x) × (bare_shader x ≡ bare_shader s))
accepted s g w bytes t = accepted_in s (last_line bytes) (file_of 64 (tokens_of bytes)) (file_read 64 s g w (tokens_of bytes) t)

pub spelled_once : (a b : S.Shader) → GrammaticalShader a → GrammaticalShader b → spelled_shader a ≡ spelled_shader b → bare_shader a ≡ bare_shader b
spelled_once a b f g e =
    let levels = levels_file a.functions a.params a.body + levels_file b.functions b.params b.body in
    let ts = tokens_for (spelled_shader a) in
    let t = tokens_for_is (spelled_shader a) in
    got_both (file_of levels ts) (SeenFile levels a) (SeenFile levels b) (bare_shader a ≡ bare_shader b)
    (file_read levels a f (omega arith) ts t) (file_read levels b g (omega arith) ts (t ∙ e)) (λ x rest p q. sym p.0 ∙ q.0)

unread : (n : ℕ) (s : S.Shader) (code : SlCode) (rest : List Token) (r : Reads S.Shader) → Got r (SeenFile n s) → r ≡ Err (code, rest) → ⊥
unread n s code rest (Ok x) g e = absurd (cc e)
unread n s code rest (Err e) g h = absurd g

exceeds : (a b : ℕ) → (a ≤ b → ⊥) → b < a
exceeds zero b h = absurd (h (omega arith))
exceeds (suc a) zero h = omega arith
exceeds (suc a) (suc b) h = let r = exceeds a b (λ l. h (omega (arith, l))) in omega (arith, r)

abbrev code_of : Reads S.Shader → SlCode
code_of (Ok x) = P3
code_of (Err e) = e.0

-- with levels enough for the tree it would be read
too_few : (n : ℕ) (s : S.Shader) (ts rest : List Token) (code : SlCode) → file_of 64 ts ≡ Err (code, rest) → Got (file_of n ts) (SeenFile n s) → Kept (file_of 64 ts) (file_of n ts) → code ≡ P3
too_few n s ts rest code e g (inl same) = absurd (unread n s code rest (file_of n ts) g (sym same ∙ e))
too_few n s ts rest code e g (inr deep) = ap code_of (sym e ∙ deep.1)

-- no tree spells refused tokens, or begins with the tokens up to and with a faulty one, but one with too many levels
pub refused : (ts rest : List Token) (code : SlCode) → file_of 64 ts ≡ Err (code, rest) → (s : S.Shader) → GrammaticalShader s → kinds_of ts ≡ spelled_shader s
    → (code ≡ P3) × (64 < levels_file s.functions s.params s.body)
refused ts rest code e s g t =
    let levels = levels_file s.functions s.params s.body in
    let n = 64 + levels in (
      too_few n s ts rest code e (file_read n s g (omega arith) ts t) (file_kept 64 n (omega arith) ts),
      exceeds levels 64 (λ w. unread 64 s code rest (file_of 64 ts) (file_read 64 s g w ts t) e),
    )

pub unspelled : (before : List Token) (faulty : Token) (rest_after other : List Token) (code : SlCode) → file_of 64 (before ++ (faulty ∷ rest_after)) ≡ Err (code, faulty ∷ rest_after)
    → (s : S.Shader) → GrammaticalShader s → kinds_of (before ++ (faulty ∷ other)) ≡ spelled_shader s → (code ≡ P3) × (64 < levels_file s.functions s.params s.body)
unspelled before faulty rest_after other code e s g t = refused (before ++ (faulty ∷ other)) (faulty ∷ other) code (fault_stays 64 before faulty rest_after other code e) s g t
