-- What the code holds of statements and of a file, and what its answers say of the definitions.
use Rattle.std.specs.Prelude.{◌≡◌, ℕ, true, false, List, [], ◌∷◌, Vec, Result, Ok, Err, map, take, length}
use Rattle.std.specs.declared.alloc.Global.{Global}
use Rattle.std.specs.declared.boxed.Box.{Box}
use Rattle.sl_expressions.specs.Found.{Found, refuses}
use Rattle.sl_expressions.specs.Scope as S
use Rattle.sl_expressions.specs.Typed as T
use Rattle.sl_expressions.specs.TypedView.{typed_of, tstmt_of}
use Rattle.sl_expressions.specs.Views.{Gives, GivesAll, local_of, callee_of}
use Rattle.sl_expressions.specs.declared.faults.TypeCode.TheVariants.{T2}
use Rattle.sl_expressions.specs.declared.faults.TypeFault.{TypeFault}
use Rattle.sl_expressions.specs.declared.faults.TypeFault.TheVariants.{At, NoMemory}
use Rattle.sl_expressions.specs.declared.places.Local.{Local}
use Rattle.sl_expressions.specs.declared.typed.TypedExpr.{TypedExpr}
use Rattle.sl_expressions.specs.declared.typed.TypedStmt.{TypedStmt}
use Rattle.sl_typing.specs.Functions as F
use Rattle.sl_typing.specs.Stmts.{Head, no_test, tested_else, for_of}
use Rattle.sl_typing.specs.declared.file.Param.{Param}
use Rattle.sl_typing.specs.declared.file.Program.{Program}

-- what an answer says of the statements and the scope that are left
abbrev pub GivesRows : {A : Type 0} → Result A TypeFault → List TypedStmt → List Local → Found (List T.Stmt × List S.Local) → Type 0
GivesRows (Ok u) ts ls found = found ≡ Ok (map tstmt_of ts, map local_of ls)
GivesRows (Err (At code line)) ts ls found = found ≡ Err (code, line)
GivesRows (Err NoMemory) ts ls found = Unit {0}

-- what an answer says of a statement that leaves the scope as it is
abbrev pub GivesOne : Result TypedStmt TypeFault → List S.Local → Found (List T.Stmt × List S.Local) → Type 0
GivesOne r ls found = Gives (λ s. (tstmt_of s ∷ [], ls)) r found

-- the condition of a `for`, whose type was asked: it is told at that line where it is none, else the condition is as found
abbrev pub GivesTested : Result (Result TypedExpr TypeFault) TypeFault → ℕ → Found T.Expr → Type 0
GivesTested (Ok r) line found = (refuses found no_test ≡ false) × Gives typed_of r found
GivesTested (Err (At code l)) line found = (refuses found no_test ≡ true) × (code ≡ T2) × (l ≡ line)
GivesTested (Err NoMemory) line found = Unit {0}

-- the first assignment of a `for` with its condition
abbrev pub head_of : Vec TypedStmt Global × TypedExpr → List T.Stmt × T.Expr
head_of h = (map tstmt_of h.0.items, typed_of h.1)

abbrev pub boxed_of : Box TypedStmt Global → T.Stmt
boxed_of b = tstmt_of b.value

-- what an `if` with its `else` gives, whatever was found of its condition and its two statements
abbrev pub GivesIfElse : Result TypedExpr TypeFault → Result (Box TypedStmt Global) TypeFault → Result (Box TypedStmt Global) TypeFault → ℕ → Result TypedStmt TypeFault → Type 0
GivesIfElse test then otherwise line result =
    (ls : List S.Local) (t : Found T.Expr) (r : Found T.Stmt) (q : Found T.Stmt) → Gives typed_of test t → Gives boxed_of then r → Gives boxed_of otherwise q → GivesOne result ls (tested_else ls line t r q)

-- what a `for` gives, whatever was found of its head, its step and its body
abbrev pub GivesFor : Result (Vec TypedStmt Global × TypedExpr) TypeFault → Result (Vec TypedStmt Global) TypeFault → Result (Box TypedStmt Global) TypeFault → ℕ → Result TypedStmt TypeFault → Type 0
GivesFor head step body line result =
    (ls : List S.Local) (h : Found Head) (b : Found (List T.Stmt)) (r : Found T.Stmt) → Gives head_of head h → GivesAll tstmt_of step b → Gives boxed_of body r → GivesOne result ls (for_of ls line h b r)

-- a scope with others after it
abbrev pub Extends : List Local → List Local → Type 0
Extends old new = take (length old) new ≡ old

abbrev pub param_of : Param → F.Param
param_of p = record { local = local_of p.local; value = typed_of p.value }

abbrev pub program_of : Program → F.Program
program_of p = record { known = map callee_of p.known; params = map param_of p.params.items; body = map tstmt_of p.body.items }

-- what an answer says of the parameters that are there, with their scope
abbrev pub GivesParams : {A : Type 0} → Result A TypeFault → List Param → List Local → Found (List F.Param) → Type 0
GivesParams (Ok u) ps ls found = (found ≡ Ok (map param_of ps)) × (map local_of ls ≡ F.locals_of (map param_of ps))
GivesParams (Err (At code line)) ps ls found = found ≡ Err (code, line)
GivesParams (Err NoMemory) ps ls found = Unit {0}
