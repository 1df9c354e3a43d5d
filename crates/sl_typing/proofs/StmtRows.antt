-- What a statement adds to those before it, from what its node gives.
use Rattle.std.proofs.Common.{◌≡◌, ℕ, Bool, true, false, cond, List, [], ◌∷◌, length, Result, Ok, Err, refl, sym, ap, ap₂, subst}
use Rattle.sl_ast.specs.SyntaxView.{stmt_of}
use Rattle.sl_ast.specs.declared.syntax.Stmt.{Stmt}
use Rattle.sl_expressions.specs.Found.{Found, ◌>>=◌}
use Rattle.sl_expressions.specs.Scope as S
use Rattle.sl_expressions.specs.Typed as T
use Rattle.sl_expressions.specs.Views.{Gives}
use Rattle.sl_expressions.specs.declared.faults.TypeCode.TheVariants.{T2}
use Rattle.sl_expressions.specs.declared.faults.TypeFault.{TypeFault}
use Rattle.sl_expressions.specs.declared.faults.TypeFault.TheVariants.{At, NoMemory}
use Rattle.sl_expressions.specs.declared.places.Local.{Local}
use Rattle.sl_expressions.specs.declared.typed.TypedStmt.{TypedStmt}
use Rattle.sl_expressions.specs.TypedView.{tstmt_of}
use Rattle.sl_typing.specs.Stmts.{Rows, put_after, branch, no_test, stepped, for_head, for_of, typed_stmt}
use Rattle.sl_typing.specs.Views.{GivesOne, GivesRows}

-- what is added leaves the scope as it was
pub added : {A : Type 0} (r : Result A TypeFault) (ts : List TypedStmt) (old new : List Local) (before : List T.Stmt) (x y : Rows) → new ≡ old → y ≡ x
    → GivesRows r ts old (put_after before x) → GivesRows r ts new (put_after before y)
added r ts old new before x y same is h =
    subst (λ ls. GivesRows r ts ls (put_after before y)) (sym same) (subst (λ z. GivesRows r ts old (put_after before z)) (sym is) h)

-- an assignment
pub given_one : (r : Result TypedStmt TypeFault) (ls : List S.Local) (found : Found T.Stmt) → Gives tstmt_of r found → GivesOne r ls (found >>= λ s. Ok (s ∷ [], ls))
given_one (Ok s) ls found h = ap (λ r. r >>= λ s. Ok (s ∷ [], ls)) h
given_one (Err (At code line)) ls found h = ap (λ r. r >>= λ s. Ok (s ∷ [], ls)) h
given_one (Err NoMemory) ls found h = tt

-- a branch as the code has it
pub in_branch : (f : Found T.Stmt → Rows) (g h : S.Around) (ls : List S.Local) (s b : Stmt) → b ≡ s → h ≡ g
    → f (branch (typed_stmt g (length ls) ls (stmt_of s))) ≡ f (branch (typed_stmt h (length ls) ls (stmt_of b)))
in_branch f g h ls s b is around = ap₂ (λ k x. f (branch (typed_stmt k (length ls) ls (stmt_of x)))) (sym around) (sym is)

two_parts : (b : Bool) (ls : List S.Local) (line : ℕ) (first : Found (List T.Stmt)) (test : T.Expr) (step : Found (List T.Stmt)) (body : Found T.Stmt)
    → cond b (Err (T2, line)) (first >>= λ x. step >>= λ y. body >>= λ r. Ok (T.steps (T.stmts x) test (T.stmts y) r line ∷ [], ls))
    ≡ for_of ls line (cond b (Err (T2, line)) (first >>= λ x. Ok (x, test))) step body
two_parts true ls line first test step body = refl
two_parts false ls line (Ok x) test step body = refl
two_parts false ls line (Err e) test step body = refl

-- a `for` in two parts
pub steps_in_two : (ls : List S.Local) (line : ℕ) (first : Found (List T.Stmt)) (test : Found T.Expr) (step : Found (List T.Stmt)) (body : Found T.Stmt)
    → stepped ls line first test step body ≡ for_of ls line (for_head line test first) step body
steps_in_two ls line first (Ok t) step body = two_parts (no_test t) ls line first t step body
steps_in_two ls line (Ok x) (Err e) step body = refl
steps_in_two ls line (Err f) (Err e) step body = refl
