-- The names that statements set, one statement after another, and the variables that stand around them.
use Rattle.std.proofs.Common.{◌≡◌, ◌≤◌, ◌<◌, ℕ, ◌+◌, List, [], ◌∷◌, ◌++◌, append_assoc, append-nil, drop, take, map, length, get_or, refl, sym, ap, ◌∙◌, arith, length-append}
use Rattle.std.proofs.lemmas.List.{at_drop_more, drop_all, take_at, take-append-le}
use Rattle.sl_ast.specs.Syntax as U
use Rattle.sl_ast.specs.SyntaxView.{stmt_of, declared_of}
use Rattle.sl_ast.specs.declared.syntax.Declared.{Declared}
use Rattle.sl_ast.specs.declared.syntax.Stmt.{Stmt}
use Rattle.sl_typing.specs.Assigned.{declared_name, declared_names, sets, sets_all}

-- one statement of those that are left, and those after it
pub sets_step : (own set : List (List ℕ)) (xs : List Stmt) (i : ℕ) (x : Stmt) → i < length xs → x ≡ get_or xs i x
    → set ++ sets_all own (U.stmts (map stmt_of (drop i xs)))
    ≡ (set ++ sets own (stmt_of x)) ++ sets_all (own ++ declared_names (stmt_of x)) (U.stmts (map stmt_of (drop (i + 1) xs)))
sets_step own set xs i x low is =
    let rest = U.stmts (map stmt_of (drop (i + 1) xs)) in
    at_drop_more (λ ys. set ++ sets_all own (U.stmts (map stmt_of ys))) xs i x low
    ∙ ap (λ y. set ++ (sets own (stmt_of y) ++ sets_all (own ++ declared_names (stmt_of y)) rest)) (sym is)
    ∙ sym (append_assoc set (sets own (stmt_of x)) (sets_all (own ++ declared_names (stmt_of x)) rest))

pub sets_end : (own set : List (List ℕ)) (xs : List Stmt) (i : ℕ) → length xs ≤ i → set ++ sets_all own (U.stmts (map stmt_of (drop i xs))) ≡ set
sets_end own set xs i high = ap (λ ys. set ++ sets_all own (U.stmts (map stmt_of ys))) (drop_all i xs high) ∙ append-nil set

-- one name of those that are left to be declared
pub names_step : (own : List (List ℕ)) (ds : List Declared) (i : ℕ) (d : Declared) → i < length ds → d ≡ get_or ds i d
    → own ++ map declared_name (map declared_of (drop i ds)) ≡ (own ++ d.name ∷ []) ++ map declared_name (map declared_of (drop (i + 1) ds))
names_step own ds i d low is =
    let rest = map declared_name (map declared_of (drop (i + 1) ds)) in
    at_drop_more (λ ys. own ++ map declared_name (map declared_of ys)) ds i d low
    ∙ ap (λ y. own ++ (declared_of y).name ∷ rest) (sym is)
    ∙ sym (append_assoc own (d.name ∷ []) rest)

-- variables that begin with those around them still do with more after them
pub begins_still : (around own more : List (List ℕ)) → length around ≤ length own → take (length around) own ≡ around → take (length around) (own ++ more) ≡ around
begins_still around own more long begins = take-append-le (length around) own more long ∙ begins

pub longer_still : (around own more : List (List ℕ)) → length around ≤ length own → length around ≤ length (own ++ more)
longer_still around own more long = let q = length-append own more in omega (arith, long, q)

pub joined : (xs ys zs : List (List ℕ)) → (xs ++ ys) ++ zs ≡ xs ++ (ys ++ zs)
joined xs ys zs = append_assoc xs ys zs

pub with_none : (xs : List (List ℕ)) → xs ++ [] ≡ xs
with_none xs = append-nil xs

-- what was declared in a branch is taken back after it
pub taken_back : (around more : List (List ℕ)) → take (length around) (around ++ more) ≡ around
taken_back around more = take_at around more (length around) refl
