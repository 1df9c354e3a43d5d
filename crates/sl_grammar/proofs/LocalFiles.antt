-- A fault of a file depends on the tokens up to the faulty one alone.
use Rattle.std.proofs.Common.{◌≡◌, ℕ, zero, suc, ◌+◌, ◌≤◌, ◌<◌, ◌∷◌, [], ◌++◌, inl, inr, List, Option, Some, None, Ok, Err, Bool, true, false, cond, length, refl, sym, ap, subst, ◌∙◌, arith, length-append, append_assoc}
use Rattle.std.specs.Prelude.{option_map}
use Rattle.sl_ast.specs.Syntax as S
use Rattle.sl_ast.specs.Levels.{levels_stmt}
use Rattle.sl_ast.specs.declared.kinds.SlType.{SlType}
use Rattle.sl_ast.specs.declared.kinds.SlKind.{SlKind}
use Rattle.sl_lexer.specs.declared.token.Token.{Token}
use Rattle.sl_lexer.specs.declared.token.TokenKind.{TokenKind}
use Rattle.sl_lexer.specs.declared.token.TokenKind.TheVariants as kinds
use Rattle.sl_lexer.specs.declared.token.Mark.TheVariants.{LeftParen, RightParen, LeftBrace, Semicolon}
use Rattle.sl_expression_grammar.specs.declared.fault.SlCode.{SlCode}
use Rattle.sl_expression_grammar.specs.Reading.{Reads, ◌>>=◌, with_front, many_then, many, go_on, is_bad, code_for, unexpected, past, rest_after, is_mark}
use Rattle.sl_expression_grammar.specs.Expressions.{expr_at}
use Rattle.sl_parser.specs.declared.declarations.Valued.{Valued}
use Rattle.sl_parser.specs.declared.declarations.Valued.TheVariants.{Always, Never}
use Rattle.sl_parser.specs.Statements.{named, type_at, group_with, block_in, begins_stmt, stmt_at}
use Rattle.sl_parser.specs.Files.{unless_closed, goes_on, semicolon_at, next_group, Groups, groups_end, some_groups, groups_in, groups_with, body_at, function_with, next_function, functions_in, sort_at, shader_then, ended, file_of}
use Rattle.sl_parser.specs.Spelled.{kinds_of, spelled_group, spelled_stmt}
use Rattle.sl_parser.proofs.Good.{Good}
use Rattle.sl_parser.proofs.ExprTexts.{Spells}
use Rattle.sl_parser.proofs.Fronts.{mapped, passed}
use Rattle.sl_parser.proofs.FileTexts.{goes_on_is, stmt_read}
use Rattle.sl_grammar.proofs.Agreeing.{left_of, Agree, Fine, FineAfter, rest_after_fine, fine_head, fine_ok, fault_after, fine_unexpected, fine_deep, fine_bind, fine_past, fine_same, fine_each, last_turn, enough_turns}
use Rattle.sl_grammar.proofs.Looking.{only, paired, placed_at, after_looks, type_looks, sort_looks, after_same, with_token, fine_look, fine_step, strict_step}
use Rattle.sl_grammar.proofs.LocalExprs.{expr_fine}
use Rattle.sl_grammar.proofs.LocalStmts.{fine_named, group_fine, block_fine, opened_fine}

nonempty : {A : Type 0} (xs : List A) (y : A) (ys : List A) → 1 ≤ length (xs ++ (y ∷ ys))
nonempty [] y ys = omega arith
nonempty (x ∷ xs) y ys = omega arith

-- a statement spells at least one token
some_kinds : (s : S.Stmt) → 1 ≤ length (spelled_stmt s)
some_kinds (S.empty line) = omega arith
some_kinds (S.leave line) = omega arith
some_kinds (S.again line) = omega arith
some_kinds (S.block body line) = omega arith
some_kinds (S.assign a) = omega arith
some_kinds (S.give e line) = omega arith
some_kinds (S.declare class kind names line) = nonempty (spelled_group (record { class = class; kind = kind; names = names })) (kinds.Mark Semicolon) []
some_kinds (S.test e s line) = omega arith
some_kinds (S.test_else e s r line) = omega arith
some_kinds (S.repeat e s line) = omega arith
some_kinds (S.steps a e b s line) = omega arith
some_kinds (S.lights word e c s line) = omega arith
some_kinds (S.solar e f s line) = omega arith

length-kinds : (ts : List Token) → length (kinds_of ts) ≡ length ts
length-kinds [] = refl
length-kinds (t ∷ ts) = let h = length-kinds ts in omega (arith, h)

stmt_strict : (n : ℕ) (ts : List Token) (s : S.Stmt) (rest : List Token) → stmt_at n ts ≡ Ok (s, rest) → length rest < length ts
stmt_strict n ts s rest e =
    let p : Spells spelled_stmt levels_stmt n ts s rest = subst (λ r. Good r (Spells spelled_stmt levels_stmt n ts)) e (stmt_read n ts) in
    let kinds_len : length (kinds_of ts) ≡ length (spelled_stmt s) + length (kinds_of rest) = ap length p.takes.text ∙ length-append (spelled_stmt s) (kinds_of rest) in
    let left = length-kinds ts in
    let right = length-kinds rest in
    let some = some_kinds s in
    omega (arith, kinds_len, left, right, some)

pub stmt_fine : (n : ℕ) → Fine (stmt_at n)
stmt_fine zero = fine_deep begins_stmt
stmt_fine (suc n) = opened_fine (expr_at n) (expr_fine n) (stmt_at n) (stmt_fine n) (stmt_strict n)

-- groups, with what ends them
module _ (group : List Token → Reads S.Group) (fine : Fine group) where
  abbrev end : List S.Group × List Token → Reads Groups
  end gs = groups_end gs.0 gs.1 (rest_after (is_mark Semicolon) gs.1)

  abbrev in_front : S.Group → Groups × List Token → Reads Groups
  in_front g x = Ok ((g ∷ x.0.0, x.0.1), x.1)

  closed_front : (g : S.Group) (gs : List S.Group) (b : Bool) (ts : List Token) (o : Option (List Token))
      → go_on ts (λ rest. Ok ((g ∷ gs, b), rest)) o ≡ (go_on ts (λ rest. Ok ((gs, b), rest)) o >>= in_front g)
  closed_front g gs b ts None = refl
  closed_front g gs b ts (Some rest) = refl

  end_front : (g : S.Group) (gs : List S.Group) (ts : List Token) (o : Option (List Token)) → groups_end (g ∷ gs) ts o ≡ (groups_end gs ts o >>= in_front g)
  end_front g gs ts None = closed_front g gs false ts (rest_after (is_mark RightParen) ts)
  end_front g gs ts (Some after) = closed_front g gs true after (rest_after (is_mark RightParen) after)

  with_end : (g : S.Group) (r : Reads (List S.Group)) → (with_front (g ∷ []) r >>= end) ≡ ((r >>= end) >>= in_front g)
  with_end g (Ok x) = end_front g x.0 x.1 (rest_after (is_mark Semicolon) x.1)
  with_end g (Err e) = refl

  abbrev rest_of : ℕ → List Token → Reads Groups
  rest_of n ts = many (next_group group) n ts >>= end

  abbrev more_of : (List Token → Reads Groups) → List Token → Reads Groups
  more_of go ts = group ts >>= λ g. go g.1 >>= in_front g.0

  bound : (n : ℕ) (r : Reads S.Group) → ((r >>= λ x. with_front (x.0 ∷ []) (many (next_group group) n x.1)) >>= end) ≡ (r >>= λ g. rest_of n g.1 >>= in_front g.0)
  bound n (Ok x) = with_end x.0 (many (next_group group) n x.1)
  bound n (Err e) = refl

  -- after a semicolon: the closing parenthesis, or a further group
  abbrev after_mark : ℕ → List Token → Option (List Token) → Reads Groups
  after_mark n ts (Some rest) = Ok (([], true), rest)
  after_mark n ts None = more_of (rest_of n) ts

  opened : (n : ℕ) (t : Token) (ts : List Token) (mark : rest_after (is_mark Semicolon) (t ∷ ts) ≡ Some ts) (o : Option (List Token)) → rest_after (is_mark RightParen) ts ≡ o
      → (many_then (many (next_group group) n) (t ∷ ts) (option_map group (unless_closed (Some ts) o)) >>= end) ≡ after_mark n ts o
  opened n t ts mark None e = bound n (group ts)
  opened n t ts mark (Some rest) e = ap (groups_end [] (t ∷ ts)) mark ∙ ap (go_on ts (λ rest. Ok (([], true), rest))) e

  after_fine : (n : ℕ) → Fine (rest_of n) → Fine (λ ts. after_mark n ts (rest_after (is_mark RightParen) ts))
  after_fine n ih =
      fine_look only (rest_after (is_mark RightParen)) refl (after_looks (is_mark RightParen)) (after_mark n) (more_of (rest_of n)) (λ y ts. Ok (([], true), ts)) (λ ts. refl) (λ ts rest y. refl)
      (fine_bind (λ g. rest_of n g.1 >>= in_front g.0) (λ g. fine_bind (in_front g) (λ gs. fine_ok (g ∷ gs.0, gs.1)) (rest_of n) ih) group fine) (λ y. fine_ok ([], true))

  abbrev closing : List Token → Reads Groups
  closing ts = past RightParen ts λ rest. Ok (([], false), rest)

  closing_fine : Fine closing
  closing_fine = fine_past RightParen (λ rest. Ok (([], false), rest)) (fine_ok ([], false))

  end_fine : Fine (λ ts. groups_end [] ts (rest_after (is_mark Semicolon) ts))
  end_fine =
      fine_look only (rest_after (is_mark Semicolon)) refl (after_looks (is_mark Semicolon)) (groups_end []) closing (λ y ts. past RightParen ts λ rest. Ok (([], true), rest)) (λ ts. refl) (λ ts rest y. refl)
      closing_fine (λ y. fine_past RightParen (λ rest. Ok (([], true), rest)) (fine_ok ([], true)))

  abbrev turned : ℕ → Token → List Token → Option (List Token) → Reads Groups
  turned n t ts o = many_then (many (next_group group) n) (t ∷ ts) (option_map group (goes_on o)) >>= end

  by_mark : (n : ℕ) → Fine (rest_of n) → (b : Bool) (t : Token) → is_mark Semicolon t.kind ≡ b → FineAfter (λ ts. rest_of (suc n) (t ∷ ts))
  by_mark n ih true t e =
      after_same (λ ts. after_mark n ts (rest_after (is_mark RightParen) ts)) (λ ts. rest_of (suc n) (t ∷ ts))
      (λ ts.
      let mark : rest_after (is_mark Semicolon) (t ∷ ts) ≡ Some ts = ap (λ b. cond b (Some ts) None) e in
      sym (ap (turned n t ts) mark ∙ opened n t ts mark (rest_after (is_mark RightParen) ts) refl))
      (rest_after_fine (λ ts. after_mark n ts (rest_after (is_mark RightParen) ts)) (after_fine n ih))
  by_mark n ih false t e =
      after_same (λ ts. closing (t ∷ ts)) (λ ts. rest_of (suc n) (t ∷ ts))
      (λ ts.
      let mark : rest_after (is_mark Semicolon) (t ∷ ts) ≡ None = ap (λ b. cond b (Some ts) None) e in
      sym (ap (turned n t ts) mark ∙ ap (groups_end [] (t ∷ ts)) mark))
      (with_token closing closing_fine t)

  rest_fine : (n : ℕ) → Fine (rest_of n)
  rest_fine zero = end_fine
  rest_fine (suc n) = fine_head (rest_of (suc n)) (closing_fine.shorter []) (λ t. by_mark n (rest_fine n) (is_mark Semicolon t.kind) t refl)

  after_less : (p : TokenKind → Bool) (ts rest : List Token) → rest_after p ts ≡ Some rest → length rest < length ts
  after_less p [] rest e = absurd (cc e)
  after_less p (t ∷ ts) rest e = let same = (passed (p t.kind) ts rest e).1 in let len : length ts ≡ length rest = ap length same in omega (arith, len)

  group_strict : (ts : List Token) (x : S.Group) (rest : List Token) → next_group group ts ≡ Some (Ok (x, rest)) → length rest < length ts
  group_strict ts x rest e =
      let m = mapped group (semicolon_at ts) (Ok (x, rest)) e in
      let less = after_less (is_mark Semicolon) ts m.0 (goes_on_is (rest_after (is_mark Semicolon) ts) m.0 m.1.0) in
      let low : length rest ≤ length m.0 = subst (λ r. left_of r ≤ length m.0) m.1.1 (fine.shorter m.0) in
      omega (arith, less, low)

  all_fine : Fine (λ ts. rest_of (length ts) ts)
  all_fine = enough_turns (next_group group) group_strict (λ r. r >>= end) (λ ts. length ts) (λ ts n h. last_turn (next_group group) group_strict refl n (length ts) ts h (omega arith)) rest_fine

  whole_is : (r : Reads S.Group) → ((r >>= λ g. with_front (g.0 ∷ []) (many (next_group group) (length g.1) g.1)) >>= end) ≡ (r >>= λ g. rest_of (length g.1) g.1 >>= in_front g.0)
  whole_is (Ok g) = with_end g.0 (many (next_group group) (length g.1) g.1)
  whole_is (Err e) = refl

  some_fine : Fine (λ ts. some_groups group ts >>= end)
  some_fine =
      fine_same (λ ts. group ts >>= λ g. rest_of (length g.1) g.1 >>= in_front g.0) (λ ts. some_groups group ts >>= end) (λ ts. sym (whole_is (group ts)))
      (fine_bind (λ g. rest_of (length g.1) g.1 >>= in_front g.0) (λ g. fine_bind (in_front g) (λ gs. fine_ok (g ∷ gs.0, gs.1)) (λ ts. rest_of (length ts) ts) all_fine) group fine)

  pub groups_fine : Fine (λ ts. groups_in group ts (rest_after (is_mark RightParen) ts))
  groups_fine =
      fine_look only (rest_after (is_mark RightParen)) refl (after_looks (is_mark RightParen)) (groups_in group) (λ ts. some_groups group ts >>= end) (λ y ts. Ok (([], false), ts)) (λ ts. refl) (λ ts rest y. refl)
      some_fine (λ y. fine_ok ([], false))

module _ (n : ℕ) where
  list_fine : (valued : Valued) → Fine (groups_with n valued)
  list_fine valued =
      fine_past LeftParen (λ inside. groups_in (group_with (expr_at n) valued) inside (rest_after (is_mark RightParen) inside))
      (groups_fine (group_with (expr_at n) valued) (group_fine (expr_at n) (expr_fine n) valued))

  body_fine : Fine (body_at n)
  body_fine = fine_past LeftBrace (λ inside. block_in (stmt_at n) inside) (block_fine (expr_at n) (expr_fine n) (stmt_at n) (stmt_fine n) (stmt_strict n))

  abbrev function_end : SlType → List ℕ → ℕ → List Token → Reads S.Function
  function_end returns name line rest =
      groups_with n Never rest >>= λ formals. body_at n formals.1 >>= λ body.
      Ok (record { returns = returns; name = name; formals = formals.0.0; ended = formals.0.1; body = S.stmts body.0; line = line }, body.1)

  function_fine : (returns : SlType) → Fine (function_with n returns)
  function_fine returns =
      fine_named (function_end returns) (λ name line.
      fine_bind (λ formals. body_at n formals.1 >>= λ body. Ok (record { returns = returns; name = name; formals = formals.0.0; ended = formals.0.1; body = S.stmts body.0; line = line }, body.1))
      (λ formals. fine_bind (λ body. Ok (record { returns = returns; name = name; formals = formals.0; ended = formals.1; body = S.stmts body.0; line = line }, body.1))
      (λ body. fine_ok (record { returns = returns; name = name; formals = formals.0; ended = formals.1; body = S.stmts body; line = line })) (body_at n) body_fine)
      (groups_with n Never) (list_fine Never))

  abbrev with_type : SlType × List Token → Reads S.Function
  with_type k = function_with n k.0 k.1

  functions_fine : Fine (functions_in n)
  functions_fine =
      fine_each (next_function n)
      (strict_step paired type_at refl type_looks with_type (λ k ts. function_with n k ts) (λ rest y. refl) function_fine)
      (fine_step paired type_at refl type_looks with_type (λ k ts. function_with n k ts) (λ rest y. refl) function_fine) refl

  module _ (fs : List S.Function) where
    abbrev shader_end : SlKind → ℕ → List ℕ → ℕ → List Token → Reads S.Shader
    shader_end kind line name at rest =
        groups_with n Always rest >>= λ params. body_at n params.1 >>= λ body.
        Ok (record { functions = fs; kind = kind; name = name; params = params.0.0; ended = params.0.1; body = S.stmts body.0; line = line }, body.1)

    shader_end_fine : (kind : SlKind) (line : ℕ) (name : List ℕ) (at : ℕ) → Fine (shader_end kind line name at)
    shader_end_fine kind line name at =
        fine_bind (λ params. body_at n params.1 >>= λ body. Ok (record { functions = fs; kind = kind; name = name; params = params.0.0; ended = params.0.1; body = S.stmts body.0; line = line }, body.1))
        (λ params. fine_bind (λ body. Ok (record { functions = fs; kind = kind; name = name; params = params.0; ended = params.1; body = S.stmts body.0; line = line }, body.1))
        (λ body. fine_ok (record { functions = fs; kind = kind; name = name; params = params.0; ended = params.1; body = S.stmts body; line = line })) (body_at n) body_fine)
        (groups_with n Always) (list_fine Always)

    shader_fine : Fine (λ ts. shader_then n fs ts (sort_at ts))
    shader_fine =
        fine_look placed_at sort_at refl sort_looks (shader_then n fs) (λ ts. unexpected ts) (λ y ts. named ts (shader_end y.0 y.1)) (λ ts. refl) (λ ts rest y. refl) fine_unexpected
        (λ y. fine_named (shader_end y.0 y.1) (shader_end_fine y.0 y.1))

  ended_fine : (s : S.Shader) → Fine (λ ts. ended (s, ts))
  ended_fine s = fine_head (λ ts. ended (s, ts)) (omega arith) (λ t. fault_after (code_for (is_bad t.kind)) t)

  pub file_fine : Fine (file_of n)
  file_fine =
      fine_bind (λ fs. shader_then n fs.0 fs.1 (sort_at fs.1) >>= ended)
      (λ fs. fine_bind ended ended_fine (λ ts. shader_then n fs ts (sort_at ts)) (shader_fine fs)) (functions_in n) functions_fine

-- at the seam, or before it
module _ (t : Token) (w v : List Token) (code : SlCode) where
  same_place : (u : Token) (c : List Token) → length (u ∷ (c ++ w)) ≡ length (t ∷ w) → c ≡ []
  same_place u [] e = refl
  same_place u (x ∷ c) e = let l = length-append c w in absurd (omega (arith, l, e))

  fault_same : (r s : Reads S.Shader) → Agree w v r s → r ≡ Err (code, t ∷ w) → s ≡ Err (code, t ∷ v)
  fault_same r s (inl p) e = absurd (cc (p.1.1.1.0, e))
  fault_same r s (inr (inl p)) e =
      let c = p.1.1.0 in
      let here : SlCode × List Token = (p.0, p.1.0 ∷ (c ++ w)) in
      let there : SlCode × List Token = (code, t ∷ w) in
      let both : here ≡ there = cc (p.1.1.1.0, e) in
      let places : p.1.0 ∷ (c ++ w) ≡ t ∷ w = ap (λ x. x.1) both in
      let none : c ≡ [] = same_place p.1.0 c (ap length places) in
      let tokens : p.1.0 ≡ t = cc in
      let codes : p.0 ≡ code = ap (λ x. x.0) both in
      p.1.1.1.1 ∙ ap (λ c. Err (p.0, p.1.0 ∷ (c ++ v))) none ∙ ap (λ u. Err (p.0, u ∷ v)) tokens ∙ ap (λ k. Err (k, t ∷ v)) codes
  fault_same r s (inr (inr p)) e =
      let left : left_of r ≡ length (t ∷ w) = ap left_of e in
      absurd (omega (arith, left, p.0))

one_token : (a : List Token) (t : Token) (ts : List Token) → (a ++ (t ∷ [])) ++ ts ≡ a ++ (t ∷ ts)
one_token a t ts = append_assoc a (t ∷ []) ts

-- whatever stands after the faulty token, the fault is the same
pub fault_stays : (n : ℕ) (before : List Token) (t : Token) (w v : List Token) (code : SlCode)
    → file_of n (before ++ (t ∷ w)) ≡ Err (code, t ∷ w) → file_of n (before ++ (t ∷ v)) ≡ Err (code, t ∷ v)
fault_stays n before t w v code e =
    let a = before ++ (t ∷ []) in
    let agree = (file_fine n).agree a w v in
    let from : file_of n (a ++ w) ≡ Err (code, t ∷ w) = ap (file_of n) (one_token before t w) ∙ e in
    sym (ap (file_of n) (one_token before t v)) ∙ fault_same t w v code (file_of n (a ++ w)) (file_of n (a ++ v)) agree from
