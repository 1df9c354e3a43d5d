-- The typed trees of statements are well typed once functions stand in place of their calls.
use Rattle.std.proofs.Common.{◌≡◌, ℕ, ◌+◌, Bool, true, false, ◌&&◌, not, cond, List, [], ◌∷◌, ◌++◌, length, Option, Some, None, Ok, Err, refl, sym, ap, ap₂, ◌∙◌, subst}
use Rattle.std.proofs.lemmas.Bool.{cond_both}
use Rattle.std.proofs.lemmas.List.{map-append}
use Rattle.sl_ast.specs.Syntax as U
use Rattle.sl_ast.specs.WellTyped as W
use Rattle.sl_ast.specs.Names.{name_type, has_lights}
use Rattle.sl_ast.specs.Rules.{node_type, is_test, takes, put_into}
use Rattle.sl_ast.specs.declared.kinds.SlType.{SlType}
use Rattle.sl_ast.specs.declared.kinds.LightStmt.{LightStmt}
use Rattle.sl_ast.specs.declared.kinds.LightStmt.TheVariants.{Solar}
use Rattle.sl_ast.specs.declared.kinds.Predefined.{Predefined}
use Rattle.sl_ast.specs.declared.typed.Variable.{Variable}
use Rattle.sl_expressions.specs.declared.faults.TypeCode.TheVariants.{T1, T2, T6, T11}
use Rattle.sl_expressions.specs.Found.{Found, refuses}
use Rattle.sl_expressions.specs.Names.{entry_of}
use Rattle.sl_expressions.specs.Predefined.{predefined_names, is_own, is_written}
use Rattle.sl_expressions.specs.Typed as T
use Rattle.sl_expressions.specs.Typed.{kind_of}
use Rattle.sl_expressions.specs.Scope.{Local, level_of, Around}
use Rattle.sl_expressions.specs.Exprs.{operands_of, typed_expr, typed_args, listed}
use Rattle.sl_typing.specs.Stmts.{Rows, put_after, followed, is_since, is_uniform, value_in, declared, typed_name, typed_names, predefined_set, variable_set, sets, typed_set, optional_set, no_test, condition, one_of, inner, branch, in_loop, in_lights, light_word, light_args, light_misfit, lights_of, typed_stmt, typed_rows}
use Rattle.sl_types.specs.Inline.{Built, count, count_args, count_stmt, count_stmts, inline_stmt, inline_stmts}
use Rattle.sl_types.proofs.WellScope.{Good, GoodSome, good_bind, good_as, types_of, TypedAt, level_typed}
use Rattle.sl_types.proofs.WellExprs.{Ready, Fine, AllFine, kind_kept, operands_kept, args_fine, same}
use Rattle.sl_types.proofs.WellCalls.{GoodArgs, expr_fine, args_good, not_false}

-- a statement in a scope of these types, and the types after it
abbrev pub StmtFine : W.Around → List Built → List SlType → T.Stmt → List SlType → Type 0
StmtFine g fs ks s after = (n : ℕ) → (W.typed_stmt g ks (inline_stmt fs n s) ≡ true) × (W.types_after (inline_stmt fs n s) ks ≡ after)

abbrev pub RowsFine : W.Around → List Built → List SlType → List T.Stmt → List SlType → Type 0
RowsFine g fs ks [] after = ks ≡ after
RowsFine g fs ks (s ∷ ts) after = (mid : List SlType) × StmtFine g fs ks s mid × RowsFine g fs mid ts after

rows_join : (g : W.Around) (fs : List Built) (ks : List SlType) (ts ss : List T.Stmt) (mid after : List SlType) → RowsFine g fs ks ts mid → RowsFine g fs mid ss after
    → RowsFine g fs ks (ts ++ ss) after
rows_join g fs ks [] ss mid after h p = subst (λ k. RowsFine g fs k ss after) (sym h) p
rows_join g fs ks (t ∷ ts) ss mid after h p = (h.0, h.1, rows_join g fs h.0 ts ss mid after h.2 p)

pub rows_typed : (g : W.Around) (fs : List Built) (ks : List SlType) (ts : List T.Stmt) (after : List SlType) → RowsFine g fs ks ts after → (n : ℕ)
    → W.typed_stmts g ks (inline_stmts fs n (T.stmts ts)) ≡ true
rows_typed g fs ks [] after h n = refl
rows_typed g fs ks (s ∷ ts) after h n =
    let rest = inline_stmts fs (n + count_stmt fs s) (T.stmts ts) in
    ap₂ (λ a b. a && b) ((h.1 n).0) (ap (λ k. W.typed_stmts g k rest) ((h.1 n).1) ∙ rows_typed g fs h.0 ts after h.2 (n + count_stmt fs s))

pub rows_after : (g : W.Around) (fs : List Built) (ks : List SlType) (ts : List T.Stmt) (after : List SlType) → RowsFine g fs ks ts after → (n : ℕ)
    → W.types_after_all (inline_stmts fs n (T.stmts ts)) ks ≡ after
rows_after g fs ks [] after h n = h
rows_after g fs ks (s ∷ ts) after h n =
    let rest = inline_stmts fs (n + count_stmt fs s) (T.stmts ts) in
    ap (λ k. W.types_after_all rest k) ((h.1 n).1) ∙ rows_after g fs h.0 ts after h.2 (n + count_stmt fs s)

-- what a variable of a type is set to
pub value_fine : (g : W.Around) (ks : List SlType) (fs : List Built) (kind : SlType) (line : ℕ) (r : Found T.Expr) → Good r (Fine g ks fs)
    → Good (value_in kind line r) (λ t. (takes kind (kind_of t) ≡ true) × Fine g ks fs t)
value_fine g ks fs kind line (Err e) h = tt
value_fine g ks fs kind line (Ok t) h = cond_both (takes kind (kind_of t)) (Ok t) (Err (T2, line)) (λ r. Good r (λ t. (takes kind (kind_of t) ≡ true) × Fine g ks fs t)) (λ e. (e, h)) (λ e. tt)

-- names of a declaration
declared_fine : (g : Around) (fs : List Built) → Ready g.at.kind g.at.default g.known fs → (uniform : Bool) (kind : SlType) (ls : List Local) (line set_line : ℕ) (o : Option U.Expr)
    → Good (declared g uniform kind ls line set_line o) (λ s. StmtFine g.at fs (types_of ls) s (types_of ls ++ kind ∷ []))
declared_fine g fs r uniform kind ls line set_line None = λ n. (refl, refl)
declared_fine g fs r uniform kind ls line set_line (Some e) =
    good_bind (value_in kind set_line (typed_expr g false ls e)) _ (λ t. (takes kind (kind_of t) ≡ true) × Fine g.at (types_of ls) fs t) _
    (value_fine g.at (types_of ls) fs kind set_line (typed_expr g false ls e) (expr_fine g fs r false ls e))
    (λ t p n. (ap₂ (λ a b. a && b) (ap (takes kind) (kind_kept fs (n + 1) t) ∙ p.0) (p.1 (n + 1)), refl))

abbrev pub GoodRows : W.Around → List Built → List SlType → List T.Stmt × List Local → Type 0
GoodRows g fs ks r = RowsFine g fs ks r.0 (types_of r.1)

pub put_after_fine : (g : W.Around) (fs : List Built) (ks mid : List SlType) (ts : List T.Stmt) (rows : Rows) → RowsFine g fs ks ts mid → Good rows (GoodRows g fs mid)
    → Good (put_after ts rows) (GoodRows g fs ks)
put_after_fine g fs ks mid ts rows h p = good_bind rows _ (GoodRows g fs mid) (GoodRows g fs ks) p (λ r q. rows_join g fs ks ts r.0 mid (types_of r.1) h q)

followed_fine : (g : W.Around) (fs : List Built) (ks : List SlType) (rows : Rows) (next : List Local → Rows) → Good rows (GoodRows g fs ks)
    → ((left : List Local) → Good (next left) (GoodRows g fs (types_of left))) → Good (followed rows next) (GoodRows g fs ks)
followed_fine g fs ks rows next h k =
    good_bind rows _ (GoodRows g fs ks) (GoodRows g fs ks) h (λ r p. put_after_fine g fs ks (types_of r.1) r.0 (next r.1) p (k r.1))

name_fine : (g : Around) (fs : List Built) → Ready g.at.kind g.at.default g.known fs → (from : ℕ) (uniform : Bool) (kind : SlType) (ls : List Local) (d : U.Declared)
    → Good (typed_name g from uniform kind ls d) (GoodRows g.at fs (types_of ls))
name_fine g fs r from uniform kind ls d =
    cond_both (is_since from (level_of d.name ls)) _ _ (λ x. Good x (GoodRows g.at fs (types_of ls))) (λ e. tt)
    (λ e. good_bind (declared g uniform kind ls d.line d.set_line d.value) _ (λ s. StmtFine g.at fs (types_of ls) s (types_of ls ++ kind ∷ [])) (GoodRows g.at fs (types_of ls))
    (declared_fine g fs r uniform kind ls d.line d.set_line d.value)
    (λ s p. (types_of ls ++ kind ∷ [], p, sym (map-append (λ l. l.kind) ls _))))

names_fine : (g : Around) (fs : List Built) → Ready g.at.kind g.at.default g.known fs → (from : ℕ) (uniform : Bool) (kind : SlType) (ls : List Local) (ds : List U.Declared)
    → Good (typed_names g from uniform kind ls ds) (GoodRows g.at fs (types_of ls))
names_fine g fs r from uniform kind ls [] = refl
names_fine g fs r from uniform kind ls (d ∷ ds) =
    followed_fine g.at fs (types_of ls) (typed_name g from uniform kind ls d) _ (name_fine g fs r from uniform kind ls d) (λ left. names_fine g fs r from uniform kind left ds)

-- assignments
abbrev SetType : W.Around → List SlType → Variable × SlType → Type 0
SetType g ks v = W.set_type g ks v.0 ≡ Some (node_type v.1)

variable_fine : (g : W.Around) (ls : List Local) (name : List ℕ) (line : ℕ) (o : Option (ℕ × Local)) → GoodSome o (TypedAt (types_of ls)) → Good (variable_set g name line o) (SetType g (types_of ls))
variable_fine g ls name line (Some at) h = h
variable_fine g ls name line None h = predefined_fine (entry_of predefined_names name)
  where
    predefined_fine : (o : Option Predefined) → Good (predefined_set g line o) (SetType g (types_of ls))
    predefined_fine None = tt
    predefined_fine (Some x) =
        cond_both (is_written g x) _ _ (λ r. Good r (SetType g (types_of ls))) (λ is. ap (λ b. cond b (Some (node_type (name_type x))) None) is)
        (λ is. cond_both (is_own g x) (Err (T6, line)) (Err (T1, line)) (λ r. Good r (SetType g (types_of ls))) (λ e. tt) (λ e. tt))

abbrev SetFine : W.Around → List Built → List SlType → T.Stmt → Type 0
SetFine g fs ks s = StmtFine g fs ks s ks × ((n : ℕ) → W.is_set (inline_stmts fs n (T.first s T.done)) ≡ true)

set_fine : (g : Around) (fs : List Built) → Ready g.at.kind g.at.default g.known fs → (ls : List Local) (a : U.Assignment) → Good (typed_set g ls a) (SetFine g.at fs (types_of ls))
set_fine g fs r ls a =
    good_bind (variable_set g.at a.name a.line (level_of a.name ls)) _ (SetType g.at (types_of ls)) (SetFine g.at fs (types_of ls)) (variable_fine g.at ls a.name a.line (level_of a.name ls) (level_typed a.name ls))
    (λ v p. good_bind (typed_expr g false ls a.value) _ (Fine g.at (types_of ls) fs) (SetFine g.at fs (types_of ls)) (expr_fine g fs r false ls a.value)
    (λ t q. cond_both (sets v.1 a.operator (kind_of t)) _ _ (λ x. Good x (SetFine g.at fs (types_of ls)))
    (λ e. (
      λ n. (
        ap₂ (λ x y. x && y) (ap (W.is_type (node_type v.1)) p ∙ same (node_type v.1))
            (ap₂ (λ x y. x && y) (ap (λ k. W.goes_into (node_type v.1) (put_into (node_type v.1) a.operator k)) (kind_kept fs (n + 1) t) ∙ e) (q (n + 1))),
        refl,
      ),
      λ n. refl,
    ))
    (λ e. tt)))

abbrev OptionalFine : W.Around → List Built → List SlType → List T.Stmt → Type 0
OptionalFine g fs ks ts = (n : ℕ) → (W.typed_stmts g ks (inline_stmts fs n (T.stmts ts)) ≡ true) × (W.is_set (inline_stmts fs n (T.stmts ts)) ≡ true)

optional_fine : (g : Around) (fs : List Built) → Ready g.at.kind g.at.default g.known fs → (ls : List Local) (o : Option U.Assignment) → Good (optional_set g ls o) (OptionalFine g.at fs (types_of ls))
optional_fine g fs r ls None = λ n. (refl, refl)
optional_fine g fs r ls (Some a) =
    good_bind (typed_set g ls a) _ (SetFine g.at fs (types_of ls)) _ (set_fine g fs r ls a)
    (λ s p n. (ap₂ (λ x y. x && y) ((p.0 n).0) refl, p.1 n))

-- conditions and branches
abbrev TestFine : W.Around → List SlType → List Built → T.Expr → Type 0
TestFine g ks fs t = (is_test (kind_of t) ≡ true) × Fine g ks fs t

condition_fine : (g : W.Around) (ks : List SlType) (fs : List Built) (line : ℕ) (r : Found T.Expr) → Good r (Fine g ks fs) → Good (condition line r) (TestFine g ks fs)
condition_fine g ks fs line (Err e) h = tt
condition_fine g ks fs line (Ok t) h = cond_both (is_test (kind_of t)) (Ok t) (Err (T2, line)) (λ r. Good r (TestFine g ks fs)) (λ e. (e, h)) (λ e. tt)

tested_fine : (g : W.Around) (ks : List SlType) (fs : List Built) (r : Found T.Expr) → Good r (Fine g ks fs) → refuses r no_test ≡ false → Good r (TestFine g ks fs)
tested_fine g ks fs (Err e) h q = tt
tested_fine g ks fs (Ok t) h q = (not_false (is_test (kind_of t)) q, h)

abbrev BranchFine : W.Around → List Built → List SlType → T.Stmt → Type 0
BranchFine g fs ks s = (n : ℕ) → W.typed_stmt g ks (inline_stmt fs n s) ≡ true

one_fine : (g : W.Around) (fs : List Built) (ks : List SlType) (ts : List T.Stmt) (after : List SlType) → RowsFine g fs ks ts after → BranchFine g fs ks (one_of ts)
one_fine g fs ks [] after h = λ n. refl
one_fine g fs ks (s ∷ []) after h = λ n. (h.1 n).0
one_fine g fs ks (s ∷ t ∷ ts) after h = λ n. rows_typed g fs ks (s ∷ t ∷ ts) after h n

branch_fine : (g : W.Around) (fs : List Built) (ks : List SlType) (rows : Rows) → Good rows (GoodRows g fs ks) → Good (branch rows) (BranchFine g fs ks)
branch_fine g fs ks rows h = good_bind rows _ (GoodRows g fs ks) (BranchFine g fs ks) h (λ r p. one_fine g fs ks r.0 (types_of r.1) p)

abbrev InnerFine : W.Around → List Built → List SlType → List T.Stmt → Type 0
InnerFine g fs ks ts = (n : ℕ) → W.typed_stmts g ks (inline_stmts fs n (T.stmts ts)) ≡ true

inner_fine : (g : W.Around) (fs : List Built) (ks : List SlType) (rows : Rows) → Good rows (GoodRows g fs ks) → Good (inner rows) (InnerFine g fs ks)
inner_fine g fs ks rows h = good_bind rows _ (GoodRows g fs ks) (InnerFine g fs ks) h (λ r p n. rows_typed g fs ks r.0 (types_of r.1) p n)

-- statements over lights
abbrev LightsFine : W.Around → List SlType → List Built → LightStmt → List T.Expr → Type 0
LightsFine g ks fs word ts = ((has_lights g.kind word && not g.default) ≡ true) × (W.lights_take word (operands_of ts) ≡ true) × AllFine g ks fs ts

lights_fine : (g : W.Around) (ks : List SlType) (fs : List Built) (word : LightStmt) (line : ℕ) (r : Found (List T.Expr)) → Good r (AllFine g ks fs)
    → Good (lights_of g word line r) (LightsFine g ks fs word)
lights_fine g ks fs word line (Err e) h =
    cond_both (not (has_lights g.kind word)) _ _ (λ r. Good r (LightsFine g ks fs word)) (λ x. tt)
    (λ x. cond_both g.default (Err (T11, line)) (Err e) (λ r. Good r (LightsFine g ks fs word)) (λ y. tt) (λ y. tt))
lights_fine g ks fs word line (Ok ts) h =
    cond_both (light_misfit word ts) _ _ (λ r. Good r (LightsFine g ks fs word)) (λ x. tt)
    (λ fit. cond_both (not (has_lights g.kind word)) _ _ (λ r. Good r (LightsFine g ks fs word)) (λ x. tt)
    (λ has. cond_both g.default (Err (T11, line)) (Ok ts) (λ r. Good r (LightsFine g ks fs word)) (λ y. tt)
    (λ off. (ap₂ (λ a b. a && not b) (not_false (has_lights g.kind word) has) off, not_false (W.lights_take word (operands_of ts)) fit, h))))

lit_fine : (g : W.Around) (ks : List SlType) (fs : List Built) (word : LightStmt) (ts : List T.Expr) (s : T.Stmt) (line : ℕ) → LightsFine g ks fs word ts → BranchFine (W.in_lights g) fs ks s
    → StmtFine g fs ks (T.lights word (T.exprs ts) s line) ks
lit_fine g ks fs word ts s line p q = λ n. (
  ap₂ (λ a b. a && b) p.0 (ap₂ (λ a b. a && b) (ap (W.lights_take word) (operands_kept fs (n + 1) ts) ∙ p.1)
      (ap₂ (λ a b. a && b) (args_fine g ks fs ts p.2 (n + 1)) (q (n + 1 + count_args fs (T.exprs ts))))),
  refl,
)

-- a statement that declares nothing
alone : (g : W.Around) (fs : List Built) (ls : List Local) (s : T.Stmt) → StmtFine g fs (types_of ls) s (types_of ls) → GoodRows g fs (types_of ls) (s ∷ [], ls)
alone g fs ls s p = (types_of ls, p, refl)

mutual
  pub stmt_fine : (g : Around) (fs : List Built) → Ready g.at.kind g.at.default g.known fs → (from : ℕ) (ls : List Local) (s : U.Stmt)
      → Good (typed_stmt g from ls s) (GoodRows g.at fs (types_of ls))
  stmt_fine g fs r from ls (U.empty line) = alone g.at fs ls (T.empty line) (λ n. (refl, refl))
  stmt_fine g fs r from ls (U.leave line) =
      cond_both g.at.looped _ _ (λ x. Good x (GoodRows g.at fs (types_of ls))) (λ e. alone g.at fs ls (T.leave line) (λ n. (e, refl))) (λ e. tt)
  stmt_fine g fs r from ls (U.again line) =
      cond_both g.at.looped _ _ (λ x. Good x (GoodRows g.at fs (types_of ls))) (λ e. alone g.at fs ls (T.again line) (λ n. (e, refl))) (λ e. tt)
  stmt_fine g fs r from ls (U.block ss line) =
      good_bind (inner (typed_rows g (length ls) ls ss)) _ (InnerFine g.at fs (types_of ls)) (GoodRows g.at fs (types_of ls))
      (inner_fine g.at fs (types_of ls) (typed_rows g (length ls) ls ss) (rows_fine g fs r (length ls) ls ss))
      (λ b p. alone g.at fs ls (T.block (T.stmts b) line) (λ n. (p (n + 1), refl)))
  stmt_fine g fs r from ls (U.assign a) =
      good_bind (typed_set g ls a) _ (SetFine g.at fs (types_of ls)) (GoodRows g.at fs (types_of ls)) (set_fine g fs r ls a) (λ s p. alone g.at fs ls s p.0)
  stmt_fine g fs r from ls (U.give e line) = tt
  stmt_fine g fs r from ls (U.declare class kind names line) = names_fine g fs r from (is_uniform class) kind ls names
  stmt_fine g fs r from ls (U.test e s line) =
      good_bind (condition line (typed_expr g false ls e)) _ (TestFine g.at (types_of ls) fs) (GoodRows g.at fs (types_of ls))
      (condition_fine g.at (types_of ls) fs line (typed_expr g false ls e) (expr_fine g fs r false ls e))
      (λ t p. good_bind (branch (typed_stmt g (length ls) ls s)) _ (BranchFine g.at fs (types_of ls)) (GoodRows g.at fs (types_of ls))
      (branch_fine g.at fs (types_of ls) (typed_stmt g (length ls) ls s) (stmt_fine g fs r (length ls) ls s))
      (λ x q. alone g.at fs ls (T.test t x line)
      (λ n. (ap₂ (λ a b. a && b) (ap is_test (kind_kept fs (n + 1) t) ∙ p.0) (ap₂ (λ a b. a && b) (p.1 (n + 1)) (q (n + 1 + count fs t))), refl))))
  stmt_fine g fs r from ls (U.test_else e s o line) =
      good_bind (condition line (typed_expr g false ls e)) _ (TestFine g.at (types_of ls) fs) (GoodRows g.at fs (types_of ls))
      (condition_fine g.at (types_of ls) fs line (typed_expr g false ls e) (expr_fine g fs r false ls e))
      (λ t p. good_bind (branch (typed_stmt g (length ls) ls s)) _ (BranchFine g.at fs (types_of ls)) (GoodRows g.at fs (types_of ls))
      (branch_fine g.at fs (types_of ls) (typed_stmt g (length ls) ls s) (stmt_fine g fs r (length ls) ls s))
      (λ x q. good_bind (branch (typed_stmt g (length ls) ls o)) _ (BranchFine g.at fs (types_of ls)) (GoodRows g.at fs (types_of ls))
      (branch_fine g.at fs (types_of ls) (typed_stmt g (length ls) ls o) (stmt_fine g fs r (length ls) ls o))
      (λ y w. alone g.at fs ls (T.test_else t x y line)
      (λ n. (
        ap₂ (λ a b. a && b) (ap is_test (kind_kept fs (n + 1) t) ∙ p.0) (ap₂ (λ a b. a && b) (p.1 (n + 1))
            (ap₂ (λ a b. a && b) (q (n + 1 + count fs t)) (w (n + 1 + count fs t + count_stmt fs x)))),
        refl,
      )))))
  stmt_fine g fs r from ls (U.repeat e s line) =
      good_bind (condition line (typed_expr g false ls e)) _ (TestFine g.at (types_of ls) fs) (GoodRows g.at fs (types_of ls))
      (condition_fine g.at (types_of ls) fs line (typed_expr g false ls e) (expr_fine g fs r false ls e))
      (λ t p. good_bind (branch (typed_stmt (in_loop g) (length ls) ls s)) _ (BranchFine (W.in_loop g.at) fs (types_of ls)) (GoodRows g.at fs (types_of ls))
      (branch_fine (W.in_loop g.at) fs (types_of ls) (typed_stmt (in_loop g) (length ls) ls s) (stmt_fine (in_loop g) fs r (length ls) ls s))
      (λ x q. alone g.at fs ls (T.repeat t x line)
      (λ n. (ap₂ (λ a b. a && b) (ap is_test (kind_kept fs (n + 1) t) ∙ p.0) (ap₂ (λ a b. a && b) (p.1 (n + 1)) (q (n + 1 + count fs t))), refl))))
  stmt_fine g fs r from ls (U.steps a e b s line) =
      cond_both (refuses (typed_expr g false ls e) no_test) _ _ (λ x. Good x (GoodRows g.at fs (types_of ls))) (λ x. tt)
      (λ ok. good_bind (optional_set g ls a) _ (OptionalFine g.at fs (types_of ls)) (GoodRows g.at fs (types_of ls)) (optional_fine g fs r ls a)
      (λ x p. good_bind (typed_expr g false ls e) _ (TestFine g.at (types_of ls) fs) (GoodRows g.at fs (types_of ls))
      (tested_fine g.at (types_of ls) fs (typed_expr g false ls e) (expr_fine g fs r false ls e) ok)
      (λ t q. good_bind (optional_set g ls b) _ (OptionalFine g.at fs (types_of ls)) (GoodRows g.at fs (types_of ls)) (optional_fine g fs r ls b)
      (λ y u. good_bind (branch (typed_stmt (in_loop g) (length ls) ls s)) _ (BranchFine (W.in_loop g.at) fs (types_of ls)) (GoodRows g.at fs (types_of ls))
      (branch_fine (W.in_loop g.at) fs (types_of ls) (typed_stmt (in_loop g) (length ls) ls s) (stmt_fine (in_loop g) fs r (length ls) ls s))
      (λ z w. alone g.at fs ls (T.steps (T.stmts x) t (T.stmts y) z line)
      (λ n.
      let j = n + 1 + count_stmts fs (T.stmts x) in
      let k = j + count fs t in (
        ap₂ (λ c d. c && d) (ap₂ (λ c d. c && d) ((p (n + 1)).1) ((u k).1)) (ap₂ (λ c d. c && d) ((p (n + 1)).0)
            (ap₂ (λ c d. c && d) (ap is_test (kind_kept fs j t) ∙ q.0) (ap₂ (λ c d. c && d) (q.1 j)
            (ap₂ (λ c d. c && d) ((u k).0) (w (k + count_stmts fs (T.stmts y))))))),
        refl,
      )))))))
  stmt_fine g fs r from ls (U.lights word e c s line) =
      good_bind (lights_of g.at (light_word word) line (typed_args g ls (light_args e c))) _ (LightsFine g.at (types_of ls) fs (light_word word)) (GoodRows g.at fs (types_of ls))
      (lights_fine g.at (types_of ls) fs (light_word word) line (typed_args g ls (light_args e c))
      (good_as (typed_args g ls (light_args e c)) (GoodArgs g.at (types_of ls) fs (listed (light_args e c))) (AllFine g.at (types_of ls) fs) (args_good g fs r ls (light_args e c)) (λ xs p. p.0)))
      (λ xs p. good_bind (branch (typed_stmt (in_lights g) (length ls) ls s)) _ (BranchFine (W.in_lights g.at) fs (types_of ls)) (GoodRows g.at fs (types_of ls))
      (branch_fine (W.in_lights g.at) fs (types_of ls) (typed_stmt (in_lights g) (length ls) ls s) (stmt_fine (in_lights g) fs r (length ls) ls s))
      (λ x q. alone g.at fs ls (T.lights (light_word word) (T.exprs xs) x line) (lit_fine g.at (types_of ls) fs (light_word word) xs x line p q)))
  stmt_fine g fs r from ls (U.solar e f s line) =
      good_bind (lights_of g.at Solar line (typed_args g ls (U.more e (U.more f U.none)))) _ (LightsFine g.at (types_of ls) fs Solar) (GoodRows g.at fs (types_of ls))
      (lights_fine g.at (types_of ls) fs Solar line (typed_args g ls (U.more e (U.more f U.none)))
      (good_as (typed_args g ls (U.more e (U.more f U.none))) (GoodArgs g.at (types_of ls) fs (e ∷ f ∷ [])) (AllFine g.at (types_of ls) fs) (args_good g fs r ls (U.more e (U.more f U.none))) (λ xs p. p.0)))
      (λ xs p. good_bind (branch (typed_stmt (in_lights g) (length ls) ls s)) _ (BranchFine (W.in_lights g.at) fs (types_of ls)) (GoodRows g.at fs (types_of ls))
      (branch_fine (W.in_lights g.at) fs (types_of ls) (typed_stmt (in_lights g) (length ls) ls s) (stmt_fine (in_lights g) fs r (length ls) ls s))
      (λ x q. alone g.at fs ls (T.lights Solar (T.exprs xs) x line) (lit_fine g.at (types_of ls) fs Solar xs x line p q)))

  pub rows_fine : (g : Around) (fs : List Built) → Ready g.at.kind g.at.default g.known fs → (from : ℕ) (ls : List Local) (ss : U.Stmts)
      → Good (typed_rows g from ls ss) (GoodRows g.at fs (types_of ls))
  rows_fine g fs r from ls U.done = refl
  rows_fine g fs r from ls (U.first s rest) =
      followed_fine g.at fs (types_of ls) (typed_stmt g from ls s) _ (stmt_fine g fs r from ls s) (λ left. rows_fine g fs r from left rest)
