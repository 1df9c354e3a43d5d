-- What is typed after what has been typed.
use Rattle.std.proofs.Common.{◌≡◌, ◌≤◌, ◌<◌, ℕ, ◌+◌, Bool, false, cond, List, [], ◌∷◌, ◌++◌, append_assoc, append-nil, drop, map, length, get_or, Ok, Err, refl, sym, ap, ap₂, ◌∙◌}
use Rattle.std.proofs.lemmas.List.{at_drop_more, drop_all}
use Rattle.sl_ast.specs.Syntax as U
use Rattle.sl_ast.specs.SyntaxView.{stmt_of, declared_of}
use Rattle.sl_ast.specs.declared.syntax.Declared.{Declared}
use Rattle.sl_ast.specs.declared.syntax.Stmt.{Stmt}
use Rattle.sl_ast.specs.declared.kinds.SlType.{SlType}
use Rattle.sl_expressions.specs.Found.{Found, ◌>>=◌}
use Rattle.sl_expressions.specs.declared.faults.TypeCode.TheVariants.{T10}
use Rattle.sl_expressions.specs.Typed as T
use Rattle.sl_expressions.specs.Scope.{Local, Around}
use Rattle.sl_expressions.specs.declared.faults.TypeFault.{TypeFault}
use Rattle.sl_expressions.specs.declared.faults.TypeFault.TheVariants.{At, NoMemory}
use Rattle.sl_expressions.specs.declared.places.Local.{Local as Held}
use Rattle.sl_expressions.specs.declared.typed.TypedStmt.{TypedStmt}
use Rattle.sl_typing.specs.Views.{GivesRows}
use Rattle.sl_typing.specs.Stmts.{Rows, put_after, followed, typed_name, typed_names, typed_stmt, typed_rows}

-- statements after none, and those of several statements
pub after_none : (rows : Rows) → put_after [] rows ≡ rows
after_none (Ok r) = refl
after_none (Err e) = refl

after_twice : (ts ss : List T.Stmt) (rows : Rows) → put_after ts (put_after ss rows) ≡ put_after (ts ++ ss) rows
after_twice ts ss (Ok r) = ap (λ x. Ok (x, r.1)) (sym (append_assoc ts ss r.0))
after_twice ts ss (Err e) = refl

after_followed : (ts : List T.Stmt) (rows : Rows) (next : List Local → Rows) → put_after ts (followed rows next) ≡ put_after ts rows >>= λ r. put_after r.0 (next r.1)
after_followed ts (Ok r) next = after_twice ts r.0 (next r.1)
after_followed ts (Err e) next = refl

-- a name that is declared after others
pub name_added : (b : Bool) (found : Found T.Stmt) (s : T.Stmt) (ts : List T.Stmt) (ls : List Local) (l : Local) (line : ℕ) → b ≡ false → found ≡ Ok s
    → put_after ts (cond b (Err (T10, line)) (found >>= λ s. Ok (s ∷ [], ls ++ l ∷ []))) ≡ Ok (ts ++ s ∷ [], ls ++ l ∷ [])
name_added b found s ts ls l line new is = ap₂ (λ b f. put_after ts (cond b (Err (T10, line)) (f >>= λ s. Ok (s ∷ [], ls ++ l ∷ [])))) new is

pub names_step : (g : Around) (from : ℕ) (uniform : Bool) (kind : SlType) (ts : List T.Stmt) (ls : List Local) (ds : List Declared) (i : ℕ) (d : Declared)
    → i < length ds → d ≡ get_or ds i d
    → put_after ts (typed_names g from uniform kind ls (map declared_of (drop i ds)))
    ≡ put_after ts (typed_name g from uniform kind ls (declared_of d)) >>= λ r. put_after r.0 (typed_names g from uniform kind r.1 (map declared_of (drop (i + 1) ds)))
names_step g from uniform kind ts ls ds i d low is =
    let next : List Local → Rows = λ left. typed_names g from uniform kind left (map declared_of (drop (i + 1) ds)) in
    at_drop_more (λ ys. put_after ts (typed_names g from uniform kind ls (map declared_of ys))) ds i d low
    ∙ ap (λ y. put_after ts (followed (typed_name g from uniform kind ls (declared_of y)) next)) (sym is)
    ∙ after_followed ts (typed_name g from uniform kind ls (declared_of d)) next

pub names_end : (g : Around) (from : ℕ) (uniform : Bool) (kind : SlType) (ts : List T.Stmt) (ls : List Local) (ds : List Declared) (i : ℕ) → length ds ≤ i
    → put_after ts (typed_names g from uniform kind ls (map declared_of (drop i ds))) ≡ Ok (ts, ls)
names_end g from uniform kind ts ls ds i high =
    ap (λ ys. put_after ts (typed_names g from uniform kind ls (map declared_of ys))) (drop_all i ds high) ∙ ap (λ x. Ok (x, ls)) (append-nil ts)

pub rows_step : (g : Around) (from : ℕ) (ts : List T.Stmt) (ls : List Local) (xs : List Stmt) (i : ℕ) (x : Stmt) → i < length xs → x ≡ get_or xs i x
    → put_after ts (typed_rows g from ls (U.stmts (map stmt_of (drop i xs))))
    ≡ put_after ts (typed_stmt g from ls (stmt_of x)) >>= λ r. put_after r.0 (typed_rows g from r.1 (U.stmts (map stmt_of (drop (i + 1) xs))))
rows_step g from ts ls xs i x low is =
    let next : List Local → Rows = λ left. typed_rows g from left (U.stmts (map stmt_of (drop (i + 1) xs))) in
    at_drop_more (λ ys. put_after ts (typed_rows g from ls (U.stmts (map stmt_of ys)))) xs i x low
    ∙ ap (λ y. put_after ts (followed (typed_stmt g from ls (stmt_of y)) next)) (sym is)
    ∙ after_followed ts (typed_stmt g from ls (stmt_of x)) next

pub rows_end : (g : Around) (from : ℕ) (ts : List T.Stmt) (ls : List Local) (xs : List Stmt) (i : ℕ) → length xs ≤ i
    → put_after ts (typed_rows g from ls (U.stmts (map stmt_of (drop i xs)))) ≡ Ok (ts, ls)
rows_end g from ts ls xs i high =
    ap (λ ys. put_after ts (typed_rows g from ls (U.stmts (map stmt_of ys)))) (drop_all i xs high) ∙ ap (λ x. Ok (x, ls)) (append-nil ts)

-- a fault at one of the statements is that of all
pub row_fault : (fault : TypeFault) (ts us : List TypedStmt) (ls ms : List Held) (one all : Rows) (rest : List T.Stmt × List Local → Rows)
    → all ≡ one >>= rest → GivesRows {A = Unit {0}} (Err fault) ts ls one → GivesRows {A = Unit {0}} (Err fault) us ms all
row_fault (At code line) ts us ls ms one all rest is h = is ∙ ap (λ r. r >>= rest) h
row_fault NoMemory ts us ls ms one all rest is h = tt
