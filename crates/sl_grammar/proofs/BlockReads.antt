-- The tokens of a statement and of a block of the grammar are read as that statement, as that block.
use Rattle.std.proofs.Common.{◌≡◌, ℕ, zero, suc, ◌+◌, ◌≤◌, ◌∷◌, [], ◌++◌, List, Option, Some, None, Ok, true, false, length, length-append, refl, sym, ap, subst, ◌∙◌, append_assoc, arith}
use Rattle.std.specs.Prelude.{option_map}
use Rattle.sl_ast.specs.Syntax as S
use Rattle.sl_ast.specs.Levels.{levels_names, levels_stmt, levels_stmts}
use Rattle.sl_ast.specs.declared.kinds.SlType.{SlType}
use Rattle.sl_ast.specs.declared.kinds.Class.{Class}
use Rattle.sl_ast.specs.declared.syntax.LightWord.{LightWord}
use Rattle.sl_ast.specs.declared.syntax.LightWord.TheVariants as light_words
use Rattle.sl_lexer.specs.declared.token.Token.{Token}
use Rattle.sl_lexer.specs.declared.token.TokenKind.{TokenKind}
use Rattle.sl_lexer.specs.declared.token.TokenKind.TheVariants as kinds
use Rattle.sl_lexer.specs.declared.token.Word.TheVariants as words
use Rattle.sl_lexer.specs.declared.token.Mark.TheVariants.{LeftParen, LeftBrace, RightBrace, Semicolon}
use Rattle.sl_expression_grammar.specs.Reading.{Reads, ◌>>=◌, many, past, rest_after, is_mark}
use Rattle.sl_expression_grammar.specs.Expressions.{expr_at}
use Rattle.sl_parser.specs.declared.declarations.Valued.TheVariants.{Freely}
use Rattle.sl_parser.specs.Statements.{set_with, group_with, begins_stmt, is_else, stmt_unless, next_stmt, block_in, test_with, else_then, for_head, pair_with, lights_head, lights_with, solar_head, stmt_opened, stmt_at}
use Rattle.sl_parser.specs.Spelled.{kinds_of, spelled, spelled_set, spelled_cone, spelled_pair, spelled_class, spelled_names, spelled_group, spelled_light, spelled_test, spelled_for, spelled_stmt, spelled_stmts}
use Rattle.sl_grammar.specs.Bare.{bare, bare_set, bare_pair, bare_stmt, bare_stmts, bare_group}
use Rattle.sl_grammar.specs.Grammatical.{Grammatical, GrammaticalNames, GrammaticalSet, GrammaticalCone, takes_else, GrammaticalStmt, GrammaticalStmts}
use Rattle.sl_grammar.proofs.Got.{Got, got_bind, got_more, got_past, at_front, token, Lacks, not_after, many_more, many_none}
use Rattle.sl_grammar.proofs.ExprReads.{whole_read, kinds_length}
use Rattle.sl_grammar.proofs.Rises.{Same}
use Rattle.sl_grammar.proofs.StmtReads.{Seen, set_read, group_read, test_read, SeenFor, for_read, pair_read, SeenLights, lights_read}

-- what a statement begins with
record First (ks : List TokenKind) : Type 0 where
  pub kind : TokenKind
  pub tail : List TokenKind
  pub is : ks ≡ kind ∷ tail
  pub begins : begins_stmt kind ≡ true

class_first : (class : Option Class) (kind : SlType) (ks : List TokenKind) → First (spelled_class class ++ (kinds.Type kind ∷ ks))
class_first None kind ks = record { kind = kinds.Type kind; tail = ks; is = refl; begins = refl }
class_first (Some class) kind ks = record { kind = kinds.Class class; tail = kinds.Type kind ∷ ks; is = refl; begins = refl }

first_on : (ks us : List TokenKind) → First ks → First (ks ++ us)
first_on ks us f = record { kind = f.kind; tail = f.tail ++ us; is = ap (λ js. js ++ us) f.is; begins = f.begins }

light_begins : (word : LightWord) → begins_stmt (spelled_light word) ≡ true
light_begins light_words.Illuminance = refl
light_begins light_words.Illuminate = refl

first_of_stmt : (s : S.Stmt) → First (spelled_stmt s)
first_of_stmt (S.empty line) = record { kind = kinds.Mark Semicolon; tail = []; is = refl; begins = refl }
first_of_stmt (S.leave line) = record { kind = kinds.Word words.Break; tail = _; is = refl; begins = refl }
first_of_stmt (S.again line) = record { kind = kinds.Word words.Continue; tail = _; is = refl; begins = refl }
first_of_stmt (S.block body line) = record { kind = kinds.Mark LeftBrace; tail = _; is = refl; begins = refl }
first_of_stmt (S.assign a) = record { kind = kinds.Name a.name; tail = _; is = refl; begins = refl }
first_of_stmt (S.give e line) = record { kind = kinds.Word words.Return; tail = _; is = refl; begins = refl }
first_of_stmt (S.declare class kind names line) =
    first_on (spelled_class class ++ (kinds.Type kind ∷ spelled_names names)) (kinds.Mark Semicolon ∷ []) (class_first class kind (spelled_names names))
first_of_stmt (S.test e s line) = record { kind = kinds.Word words.If; tail = _; is = refl; begins = refl }
first_of_stmt (S.test_else e s r line) = record { kind = kinds.Word words.If; tail = _; is = refl; begins = refl }
first_of_stmt (S.repeat e s line) = record { kind = kinds.Word words.While; tail = _; is = refl; begins = refl }
first_of_stmt (S.steps a e b s line) = record { kind = kinds.Word words.For; tail = _; is = refl; begins = refl }
first_of_stmt (S.lights word e c s line) = record { kind = spelled_light word; tail = _; is = refl; begins = light_begins word }
first_of_stmt (S.solar e f s line) = record { kind = kinds.Word words.Solar; tail = _; is = refl; begins = refl }

no_else : (k : TokenKind) → begins_stmt k ≡ true → is_else k ≡ false
no_else (kinds.Word words.Else) h = absurd (cc h)
no_else _ h = refl

no_brace : (k : TokenKind) → begins_stmt k ≡ true → is_mark RightBrace k ≡ false
no_brace (kinds.Mark RightBrace) h = absurd (cc h)
no_brace _ h = refl

-- neither an `else` nor a closing brace
lacks_else : (s : S.Stmt) (ks : List TokenKind) → Lacks is_else (spelled_stmt s ++ ks)
lacks_else s ks = let f = first_of_stmt s in subst (λ js. Lacks is_else (js ++ ks)) (sym f.is) (no_else f.kind f.begins)

lacks_brace : (s : S.Stmt) (ks : List TokenKind) → Lacks (is_mark RightBrace) (spelled_stmt s ++ ks)
lacks_brace s ks = let f = first_of_stmt s in subst (λ js. Lacks (is_mark RightBrace) (js ++ ks)) (sym f.is) (no_brace f.kind f.begins)

-- no `else` stands after where the statement would take it
abbrev Ended : S.Stmt → List TokenKind → Type 0
Ended s ks = takes_else s ≡ true → Lacks is_else ks

abbrev StmtRead : S.Stmt → Type 0
StmtRead s =
    (levels : ℕ) → levels_stmt s ≤ levels → (ks : List TokenKind) → Ended s ks → (ts : List Token) → kinds_of ts ≡ spelled_stmt s ++ ks → Got (stmt_at levels ts) (Seen bare_stmt s ks)

-- after the level that it opens
abbrev OpenedRead : S.Stmt → Type 0
OpenedRead s =
    (levels : ℕ) → levels_stmt s ≤ suc levels → (ks : List TokenKind) → Ended s ks → (ts : List Token) → kinds_of ts ≡ spelled_stmt s ++ ks
    → Got (stmt_opened (stmt_at levels) (expr_at levels) ts) (Seen bare_stmt s ks)

some_level : (s : S.Stmt) → 1 ≤ levels_stmt s
some_level (S.empty line) = omega arith
some_level (S.leave line) = omega arith
some_level (S.again line) = omega arith
some_level (S.block body line) = omega arith
some_level (S.assign a) = omega arith
some_level (S.give e line) = omega arith
some_level (S.declare class kind names line) = omega arith
some_level (S.test e s line) = omega arith
some_level (S.test_else e s r line) = omega arith
some_level (S.repeat e s line) = omega arith
some_level (S.steps a e b s line) = omega arith
some_level (S.lights word e c s line) = omega arith
some_level (S.solar e f s line) = omega arith

opened : (s : S.Stmt) → OpenedRead s → StmtRead s
opened s r zero w ks h ts t = let some = some_level s in absurd (omega (arith, some, w))
opened s r (suc levels) w ks h ts t = r levels w ks h ts t

abbrev SeenStmts : S.Stmts → List TokenKind → List S.Stmt → List Token → Type 0
SeenStmts body ks xs rest = (bare_stmts (S.stmts xs) ≡ bare_stmts body) × (kinds_of rest ≡ ks)

abbrev BodyRead : S.Stmts → Type 0
BodyRead body =
    (levels : ℕ) → levels_stmts body ≤ levels → (ks : List TokenKind) (ts : List Token) → kinds_of ts ≡ spelled_stmts body ++ (kinds.Mark RightBrace ∷ ks)
    → Got (block_in (stmt_at levels) ts) (SeenStmts body ks)

abbrev StmtsRead : S.Stmts → Type 0
StmtsRead body =
    (levels : ℕ) → levels_stmts body ≤ levels → (ks : List TokenKind) (turns : ℕ) (ts : List Token) → length ts ≤ turns → kinds_of ts ≡ spelled_stmts body ++ (kinds.Mark RightBrace ∷ ks)
    → Got (many (next_stmt (stmt_at levels)) turns ts) (SeenStmts body (kinds.Mark RightBrace ∷ ks))

module _ (levels : ℕ) where
  abbrev at : List Token → Reads S.Stmt
  at = stmt_opened (stmt_at levels) (expr_at levels)

  past_semicolon : (s x : S.Stmt) (ks : List TokenKind) (ts : List Token) → kinds_of ts ≡ kinds.Mark Semicolon ∷ ks → bare_stmt x ≡ bare_stmt s → Got (past Semicolon ts (λ rest. Ok (x, rest))) (Seen bare_stmt s ks)
  past_semicolon s x ks ts t e = got_past Semicolon ts ks (λ rest. Ok (x, rest)) (Seen bare_stmt s ks) t (λ rest r. (e, r))

empty_read : (line : ℕ) → OpenedRead (S.empty line)
empty_read line levels w ks h ts t = at_front ts (kinds.Mark Semicolon) ks t (λ ts. Got (at levels ts) (Seen bare_stmt (S.empty line) ks)) (λ here rest r. (refl, r))

leave_read : (line : ℕ) → OpenedRead (S.leave line)
leave_read line levels w ks h ts t =
    at_front ts (kinds.Word words.Break) (kinds.Mark Semicolon ∷ ks) t (λ ts. Got (at levels ts) (Seen bare_stmt (S.leave line) ks)) (λ here rest r.
    past_semicolon levels (S.leave line) (S.leave here) ks rest r refl)

again_read : (line : ℕ) → OpenedRead (S.again line)
again_read line levels w ks h ts t =
    at_front ts (kinds.Word words.Continue) (kinds.Mark Semicolon ∷ ks) t (λ ts. Got (at levels ts) (Seen bare_stmt (S.again line) ks)) (λ here rest r.
    past_semicolon levels (S.again line) (S.again here) ks rest r refl)

give_read : (e : S.Expr) (line : ℕ) → Grammatical e → OpenedRead (S.give e line)
give_read e line g levels w ks h ts t =
    let end = kinds.Mark Semicolon ∷ [] in
    let Q = Seen bare_stmt (S.give e line) ks in
    at_front ts (kinds.Word words.Return) ((spelled e ++ end) ++ ks) t (λ ts. Got (at levels ts) Q) (λ here rest r.
    got_bind (expr_at levels rest) (λ e. past Semicolon e.1 λ rest. Ok (S.give e.0 here, rest)) (Same e (end ++ ks)) Q
    (whole_read e g levels (omega (arith, w)) (end ++ ks) (omega arith) rest (r ∙ append_assoc (spelled e) end ks)) (λ x p.
    past_semicolon levels (S.give e line) (S.give x.0 here) ks x.1 p.1 (ap (λ y. S.give y 0) p.0)))

assign_read : (a : S.Assignment) → Grammatical a.value → OpenedRead (S.assign a)
assign_read a g levels w ks h ts t =
    let end = kinds.Mark Semicolon ∷ [] in
    let Q = Seen bare_stmt (S.assign a) ks in
    let after_name = kinds.Set a.operator ∷ (spelled a.value ++ (end ++ ks)) in
    at_front ts (kinds.Name a.name) after_name (t ∙ append_assoc (spelled_set a) end ks) (λ ts. Got (at levels ts) Q) (λ here rest r.
    got_bind (set_with (expr_at levels) (token (kinds.Name a.name) here ∷ rest)) (λ set. past Semicolon set.1 λ rest. Ok (S.assign set.0, rest)) (Seen bare_set a (end ++ ks)) Q
    (set_read levels a g (omega (arith, w)) (end ++ ks) (omega arith) (token (kinds.Name a.name) here ∷ rest) (ap (λ js. kinds.Name a.name ∷ js) r)) (λ x p.
    past_semicolon levels (S.assign a) (S.assign x.0) ks x.1 p.1 (ap (λ y. S.assign y) p.0)))

declared_read : (g : S.Group) (line : ℕ) → GrammaticalNames Freely g.names → (levels : ℕ) → levels_names g.names ≤ levels → (ks : List TokenKind) (here : ℕ) (ts : List Token)
    → kinds_of ts ≡ spelled_group g ++ (kinds.Mark Semicolon ∷ ks)
    → Got (group_with (expr_at levels) Freely ts >>= λ g. past Semicolon g.1 λ rest. Ok (S.declare g.0.class g.0.kind g.0.names here, rest)) (Seen bare_stmt (S.declare g.class g.kind g.names line) ks)
declared_read g line f levels w ks here ts t =
    let s = S.declare g.class g.kind g.names line in
    got_bind (group_with (expr_at levels) Freely ts) (λ g. past Semicolon g.1 λ rest. Ok (S.declare g.0.class g.0.kind g.0.names here, rest)) (Seen bare_group g (kinds.Mark Semicolon ∷ ks)) (Seen bare_stmt s ks)
    (group_read levels Freely g f w (kinds.Mark Semicolon ∷ ks) ((omega arith, refl), refl) ts t) (λ x p.
    past_semicolon levels s (S.declare x.0.class x.0.kind x.0.names here) ks x.1 p.1 (ap (λ y. S.declare y.class y.kind y.names 0) p.0))

declare_read : (class : Option Class) (kind : SlType) (names : List S.Declared) (line : ℕ) → GrammaticalNames Freely names → OpenedRead (S.declare class kind names line)
declare_read None kind names line g levels w ks h ts t =
    let group : S.Group = record { class = None; kind = kind; names = names } in
    let end = kinds.Mark Semicolon ∷ [] in
    at_front ts (kinds.Type kind) (spelled_names names ++ (end ++ ks)) (t ∙ append_assoc (spelled_group group) end ks) (λ ts. Got (at levels ts) (Seen bare_stmt (S.declare None kind names line) ks)) (λ here rest r.
    declared_read group line g levels (omega (arith, w)) ks here (token (kinds.Type kind) here ∷ rest) (ap (λ js. kinds.Type kind ∷ js) r))
declare_read (Some class) kind names line g levels w ks h ts t =
    let group : S.Group = record { class = Some class; kind = kind; names = names } in
    let end = kinds.Mark Semicolon ∷ [] in
    at_front ts (kinds.Class class) (kinds.Type kind ∷ (spelled_names names ++ (end ++ ks))) (t ∙ append_assoc (spelled_group group) end ks) (λ ts. Got (at levels ts) (Seen bare_stmt (S.declare (Some class) kind names line) ks)) (λ here rest r.
    declared_read group line g levels (omega (arith, w)) ks here (token (kinds.Class class) here ∷ rest) (ap (λ js. kinds.Class class ∷ js) r))

-- after a test
test_then_read : (e : S.Expr) (s : S.Stmt) (line : ℕ) → Grammatical e → StmtRead s → OpenedRead (S.test e s line)
test_then_read e s line g r levels w ks h ts t =
    let Q = Seen bare_stmt (S.test e s line) ks in
    let stmt = stmt_at levels in
    at_front ts (kinds.Word words.If) ((spelled_test e ++ spelled_stmt s) ++ ks) t (λ ts. Got (at levels ts) Q) (λ here rest i.
    got_bind (test_with (expr_at levels) rest) (λ test. stmt test.1 >>= λ first. else_then stmt test.0 first.0 here first.1 (rest_after is_else first.1)) (Same e (spelled_stmt s ++ ks)) Q
    (test_read levels e g (omega (arith, w)) (spelled_stmt s ++ ks) rest (i ∙ append_assoc (spelled_test e) (spelled_stmt s) ks)) (λ x p.
    got_bind (stmt x.1) (λ first. else_then stmt x.0 first.0 here first.1 (rest_after is_else first.1)) (Seen bare_stmt s ks) Q
    (r levels (omega (arith, w)) ks (λ takes. h refl) x.1 p.1) (λ y q.
    subst (λ o. Got (else_then stmt x.0 y.0 here y.1 o) Q) (sym (not_after is_else y.1 (subst (Lacks is_else) (sym q.1) (h refl))))
    (ap (λ z. S.test z (bare_stmt y.0) 0) p.0 ∙ ap (λ z. S.test (bare e) z 0) q.0, q.1))))

no_taker : (s : S.Stmt) (ks : List TokenKind) → takes_else s ≡ false → Ended s ks
no_taker s ks n takes = absurd (cc (n, takes))

test_else_read : (e : S.Expr) (s r : S.Stmt) (line : ℕ) → Grammatical e → takes_else s ≡ false → StmtRead s → StmtRead r → OpenedRead (S.test_else e s r line)
test_else_read e s r line g n rs rr levels w ks h ts t =
    let Q = Seen bare_stmt (S.test_else e s r line) ks in
    let stmt = stmt_at levels in
    let second = kinds.Word words.Else ∷ spelled_stmt r in
    at_front ts (kinds.Word words.If) ((spelled_test e ++ (spelled_stmt s ++ second)) ++ ks) t (λ ts. Got (at levels ts) Q) (λ here rest i.
    got_bind (test_with (expr_at levels) rest) (λ test. stmt test.1 >>= λ first. else_then stmt test.0 first.0 here first.1 (rest_after is_else first.1)) (Same e ((spelled_stmt s ++ second) ++ ks)) Q
    (test_read levels e g (omega (arith, w)) ((spelled_stmt s ++ second) ++ ks) rest (i ∙ append_assoc (spelled_test e) (spelled_stmt s ++ second) ks)) (λ x p.
    got_bind (stmt x.1) (λ first. else_then stmt x.0 first.0 here first.1 (rest_after is_else first.1)) (Seen bare_stmt s (second ++ ks)) Q
    (rs levels (omega (arith, w)) (second ++ ks) (no_taker s (second ++ ks) n) x.1 (p.1 ∙ append_assoc (spelled_stmt s) second ks)) (λ y q.
    at_front y.1 (kinds.Word words.Else) (spelled_stmt r ++ ks) q.1 (λ us. Got (else_then stmt x.0 y.0 here us (rest_after is_else us)) Q) (λ other left u.
    got_bind (stmt left) (λ second. Ok (S.test_else x.0 y.0 second.0 here, second.1)) (Seen bare_stmt r ks) Q (rr levels (omega (arith, w)) ks h left u) (λ z o.
    (ap (λ a. S.test_else a (bare_stmt y.0) (bare_stmt z.0) 0) p.0 ∙ ap (λ a. S.test_else (bare e) a (bare_stmt z.0) 0) q.0 ∙ ap (λ a. S.test_else (bare e) (bare_stmt s) a 0) o.0, o.1))))))

repeat_read : (e : S.Expr) (s : S.Stmt) (line : ℕ) → Grammatical e → StmtRead s → OpenedRead (S.repeat e s line)
repeat_read e s line g r levels w ks h ts t =
    let Q = Seen bare_stmt (S.repeat e s line) ks in
    let stmt = stmt_at levels in
    at_front ts (kinds.Word words.While) ((spelled_test e ++ spelled_stmt s) ++ ks) t (λ ts. Got (at levels ts) Q) (λ here rest i.
    got_bind (test_with (expr_at levels) rest) (λ test. stmt test.1 >>= λ body. Ok (S.repeat test.0 body.0 here, body.1)) (Same e (spelled_stmt s ++ ks)) Q
    (test_read levels e g (omega (arith, w)) (spelled_stmt s ++ ks) rest (i ∙ append_assoc (spelled_test e) (spelled_stmt s) ks)) (λ x p.
    got_bind (stmt x.1) (λ body. Ok (S.repeat x.0 body.0 here, body.1)) (Seen bare_stmt s ks) Q (r levels (omega (arith, w)) ks h x.1 p.1) (λ y q.
    (ap (λ z. S.repeat z (bare_stmt y.0) 0) p.0 ∙ ap (λ z. S.repeat (bare e) z 0) q.0, q.1))))

steps_bare : (a c : Option S.Assignment) (e f : S.Expr) (b d : Option S.Assignment) (s r : S.Stmt) → option_map bare_set a ≡ option_map bare_set c → bare e ≡ bare f → option_map bare_set b ≡ option_map bare_set d
    → bare_stmt s ≡ bare_stmt r → S.steps (option_map bare_set a) (bare e) (option_map bare_set b) (bare_stmt s) 0 ≡ S.steps (option_map bare_set c) (bare f) (option_map bare_set d) (bare_stmt r) 0
steps_bare a c e f b d s r p q o u =
    ap (λ z. S.steps z (bare e) (option_map bare_set b) (bare_stmt s) 0) p
    ∙ ap (λ z. S.steps (option_map bare_set c) z (option_map bare_set b) (bare_stmt s) 0) q
    ∙ ap (λ z. S.steps (option_map bare_set c) (bare f) z (bare_stmt s) 0) o
    ∙ ap (λ z. S.steps (option_map bare_set c) (bare f) (option_map bare_set d) z 0) u

steps_read : (a : Option S.Assignment) (e : S.Expr) (b : Option S.Assignment) (s : S.Stmt) (line : ℕ) → GrammaticalSet a → Grammatical e → GrammaticalSet b → StmtRead s → OpenedRead (S.steps a e b s line)
steps_read a e b s line ga ge gb r levels w ks h ts t =
    let Q = Seen bare_stmt (S.steps a e b s line) ks in
    let stmt = stmt_at levels in
    at_front ts (kinds.Word words.For) ((spelled_for a e b ++ spelled_stmt s) ++ ks) t (λ ts. Got (at levels ts) Q) (λ here rest i.
    got_bind (for_head (expr_at levels) rest) (λ head. stmt head.1 >>= λ body. Ok (S.steps head.0.0 head.0.1 head.0.2 body.0 here, body.1)) (SeenFor levels a e b (spelled_stmt s ++ ks)) Q
    (for_read levels a e b ga ge gb (omega (arith, w)) (omega (arith, w)) (omega (arith, w)) (spelled_stmt s ++ ks) rest (i ∙ append_assoc (spelled_for a e b) (spelled_stmt s) ks)) (λ x p.
    got_bind (stmt x.1) (λ body. Ok (S.steps x.0.0 x.0.1 x.0.2 body.0 here, body.1)) (Seen bare_stmt s ks) Q (r levels (omega (arith, w)) ks h x.1 p.1) (λ y q.
    (steps_bare x.0.0 a x.0.1 e x.0.2 b y.0 s p.0.0 p.0.1.0 p.0.1.1 q.0, q.1))))

-- light statements
lit_read : (word : LightWord) (e : S.Expr) (c : Option (S.Expr × S.Expr)) (s : S.Stmt) (line : ℕ) → Grammatical e → GrammaticalCone c → StmtRead s → (levels : ℕ) → levels_stmt (S.lights word e c s line) ≤ suc levels
    → (ks : List TokenKind) → Ended s ks → (here : ℕ) (ts : List Token) → kinds_of ts ≡ kinds.Mark LeftParen ∷ (((spelled e ++ spelled_cone c) ++ spelled_stmt s) ++ ks)
    → Got (lights_with (stmt_at levels) (expr_at levels) word here ts) (Seen bare_stmt (S.lights word e c s line) ks)
lit_read word e c s line ge gc r levels w ks h here ts t =
    let Q = Seen bare_stmt (S.lights word e c s line) ks in
    let stmt = stmt_at levels in
    let args = spelled e ++ spelled_cone c in
    got_bind (lights_head (expr_at levels) ts) (λ head. stmt head.1 >>= λ body. Ok (S.lights word head.0.0 head.0.1 body.0 here, body.1)) (SeenLights levels e c (spelled_stmt s ++ ks)) Q
    (lights_read levels e c ge gc (omega (arith, w)) (omega (arith, w)) (spelled_stmt s ++ ks) ts (t ∙ ap (λ js. kinds.Mark LeftParen ∷ js) (append_assoc args (spelled_stmt s) ks))) (λ x p.
    got_bind (stmt x.1) (λ body. Ok (S.lights word x.0.0 x.0.1 body.0 here, body.1)) (Seen bare_stmt s ks) Q (r levels (omega (arith, w)) ks h x.1 p.1) (λ y q. (
      ap (λ z. S.lights word z (option_map bare_pair x.0.1) (bare_stmt y.0) 0) p.0.0
          ∙ ap (λ z. S.lights word (bare e) z (bare_stmt y.0) 0) p.0.1
          ∙ ap (λ z. S.lights word (bare e) (option_map bare_pair c) z 0) q.0,
      q.1,
    )))

lights_stmt_read : (word : LightWord) (e : S.Expr) (c : Option (S.Expr × S.Expr)) (s : S.Stmt) (line : ℕ) → Grammatical e → GrammaticalCone c → StmtRead s → OpenedRead (S.lights word e c s line)
lights_stmt_read light_words.Illuminance e c s line ge gc r levels w ks h ts t =
    let word = light_words.Illuminance in
    at_front ts (kinds.Word words.Illuminance) (kinds.Mark LeftParen ∷ (((spelled e ++ spelled_cone c) ++ spelled_stmt s) ++ ks)) t (λ ts. Got (at levels ts) (Seen bare_stmt (S.lights word e c s line) ks)) (λ here rest i.
    lit_read word e c s line ge gc r levels w ks h here rest i)
lights_stmt_read light_words.Illuminate e c s line ge gc r levels w ks h ts t =
    let word = light_words.Illuminate in
    at_front ts (kinds.Word words.Illuminate) (kinds.Mark LeftParen ∷ (((spelled e ++ spelled_cone c) ++ spelled_stmt s) ++ ks)) t (λ ts. Got (at levels ts) (Seen bare_stmt (S.lights word e c s line) ks)) (λ here rest i.
    lit_read word e c s line ge gc r levels w ks h here rest i)

solar_read : (e f : S.Expr) (s : S.Stmt) (line : ℕ) → Grammatical e → Grammatical f → StmtRead s → OpenedRead (S.solar e f s line)
solar_read e f s line ge gf r levels w ks h ts t =
    let Q = Seen bare_stmt (S.solar e f s line) ks in
    let stmt = stmt_at levels in
    let after = (spelled_pair (e, f) ++ spelled_stmt s) ++ ks in
    at_front ts (kinds.Word words.Solar) (kinds.Mark LeftParen ∷ after) t (λ ts. Got (at levels ts) Q) (λ here rest i.
    got_bind (solar_head (expr_at levels) rest) (λ head. stmt head.1 >>= λ body. Ok (S.solar head.0.0 head.0.1 body.0 here, body.1)) (Seen bare_pair (e, f) (spelled_stmt s ++ ks)) Q
    (got_past LeftParen rest after (λ inside. pair_with (expr_at levels) inside) (Seen bare_pair (e, f) (spelled_stmt s ++ ks)) i (λ inside j.
    pair_read levels (e, f) ge gf (omega (arith, w)) (omega (arith, w)) (spelled_stmt s ++ ks) inside (j ∙ append_assoc (spelled_pair (e, f)) (spelled_stmt s) ks))) (λ x p.
    got_bind (stmt x.1) (λ body. Ok (S.solar x.0.0 x.0.1 body.0 here, body.1)) (Seen bare_stmt s ks) Q (r levels (omega (arith, w)) ks h x.1 p.1) (λ y q.
    (ap (λ z. S.solar z.0 z.1 (bare_stmt y.0) 0) p.0 ∙ ap (λ z. S.solar (bare e) (bare f) z 0) q.0, q.1))))

-- blocks
stmts_done : StmtsRead S.done
stmts_done levels w ks turns ts l t =
    many_none (next_stmt (stmt_at levels)) turns ts (at_front ts (kinds.Mark RightBrace) ks t (λ ts. next_stmt (stmt_at levels) ts ≡ None) (λ here rest r. refl)) (SeenStmts S.done (kinds.Mark RightBrace ∷ ks)) (refl, t)

ends_stmts : (rest : S.Stmts) (ks : List TokenKind) → Lacks is_else (spelled_stmts rest ++ (kinds.Mark RightBrace ∷ ks))
ends_stmts S.done ks = refl
ends_stmts (S.first s rest) ks =
    subst (Lacks is_else) (sym (append_assoc (spelled_stmt s) (spelled_stmts rest) (kinds.Mark RightBrace ∷ ks))) (lacks_else s (spelled_stmts rest ++ (kinds.Mark RightBrace ∷ ks)))

shorter : (s : S.Stmt) (ks : List TokenKind) → suc (length ks) ≤ length (spelled_stmt s ++ ks)
shorter s ks =
    let f = first_of_stmt s in
    let l = length-append (spelled_stmt s) ks in
    let n = ap length f.is in
    omega (arith, l, n)

stmts_first : (s : S.Stmt) (rest : S.Stmts) → StmtRead s → StmtsRead rest → StmtsRead (S.first s rest)
stmts_first s rest r m levels w ks zero ts l t =
    let after = spelled_stmts rest ++ (kinds.Mark RightBrace ∷ ks) in
    let u : kinds_of ts ≡ spelled_stmt s ++ after = t ∙ append_assoc (spelled_stmt s) (spelled_stmts rest) (kinds.Mark RightBrace ∷ ks) in
    let n = kinds_length ts (spelled_stmt s ++ after) u in
    let some = shorter s after in
    absurd (omega (arith, l, n, some))
stmts_first s rest r m levels w ks (suc turns) ts l t =
    let close = kinds.Mark RightBrace ∷ ks in
    let after = spelled_stmts rest ++ close in
    let stmt = stmt_at levels in
    let Q = SeenStmts (S.first s rest) close in
    let u : kinds_of ts ≡ spelled_stmt s ++ after = t ∙ append_assoc (spelled_stmt s) (spelled_stmts rest) close in
    let n = kinds_length ts (spelled_stmt s ++ after) u in
    let some = shorter s after in
    let here : rest_after (is_mark RightBrace) ts ≡ None = not_after (is_mark RightBrace) ts (subst (Lacks (is_mark RightBrace)) (sym u) (lacks_brace s after)) in
    many_more (next_stmt stmt) turns ts (stmt ts) (ap (λ o. stmt_unless stmt ts o) here) (Seen bare_stmt s after) Q
    (r levels (omega (arith, w)) after (λ takes. ends_stmts rest ks) ts u) (λ x vs p.
    let k = kinds_length vs after p.1 in
    got_more (many (next_stmt stmt) turns vs) (SeenStmts rest close) (λ xs left. Q (x ∷ xs) left) (m levels (omega (arith, w)) ks turns vs (omega (arith, l, n, some, k)) p.1)
    (λ xs left q. (ap (λ y. S.first y (bare_stmts (S.stmts xs))) p.0 ∙ ap (λ ys. S.first (bare_stmt s) ys) q.0, q.1)))

body_read : (body : S.Stmts) → StmtsRead body → BodyRead body
body_read body m levels w ks ts t =
    let close = kinds.Mark RightBrace ∷ ks in
    got_bind (many (next_stmt (stmt_at levels)) (length ts + 1) ts) (λ body. past RightBrace body.1 λ rest. Ok (body.0, rest)) (SeenStmts body close) (SeenStmts body ks)
    (m levels w ks (length ts + 1) ts (omega arith) t) (λ x p.
    got_past RightBrace x.1 ks (λ rest. Ok (x.0, rest)) (SeenStmts body ks) p.1 (λ rest r. (p.0, r)))

block_read : (body : S.Stmts) (line : ℕ) → BodyRead body → OpenedRead (S.block body line)
block_read body line b levels w ks h ts t =
    let close = kinds.Mark RightBrace ∷ [] in
    let Q = Seen bare_stmt (S.block body line) ks in
    at_front ts (kinds.Mark LeftBrace) ((spelled_stmts body ++ close) ++ ks) t (λ ts. Got (at levels ts) Q) (λ here rest i.
    got_bind (block_in (stmt_at levels) rest) (λ body. Ok (S.block (S.stmts body.0) here, body.1)) (SeenStmts body ks) Q
    (b levels (omega (arith, w)) ks rest (i ∙ append_assoc (spelled_stmts body) close ks)) (λ x p. (ap (λ y. S.block y 0) p.0, p.1)))

mutual
  read : (s : S.Stmt) → GrammaticalStmt s → StmtRead s
  read (S.empty line) g = opened (S.empty line) (empty_read line)
  read (S.leave line) g = opened (S.leave line) (leave_read line)
  read (S.again line) g = opened (S.again line) (again_read line)
  read (S.block body line) g = opened (S.block body line) (block_read body line (body_read body (read_stmts body g)))
  read (S.assign a) g = opened (S.assign a) (assign_read a g)
  read (S.give e line) g = opened (S.give e line) (give_read e line g)
  read (S.declare class kind names line) g = opened (S.declare class kind names line) (declare_read class kind names line g)
  read (S.test e s line) g = opened (S.test e s line) (test_then_read e s line g.0 (read s g.1))
  read (S.test_else e s r line) g = opened (S.test_else e s r line) (test_else_read e s r line g.0 g.1.0.0 (read s g.1.0.1) (read r g.1.1))
  read (S.repeat e s line) g = opened (S.repeat e s line) (repeat_read e s line g.0 (read s g.1))
  read (S.steps a e b s line) g = opened (S.steps a e b s line) (steps_read a e b s line g.0.0 g.0.1.0 g.0.1.1 (read s g.1))
  read (S.lights word e c s line) g = opened (S.lights word e c s line) (lights_stmt_read word e c s line g.0.0 g.0.1 (read s g.1))
  read (S.solar e f s line) g = opened (S.solar e f s line) (solar_read e f s line g.0.0 g.0.1 (read s g.1))

  read_stmts : (body : S.Stmts) → GrammaticalStmts body → StmtsRead body
  read_stmts S.done g = stmts_done
  read_stmts (S.first s rest) g = stmts_first s rest (read s g.0) (read_stmts rest g.1)

pub block_body_read : (body : S.Stmts) → GrammaticalStmts body → BodyRead body
block_body_read body g = body_read body (read_stmts body g)
