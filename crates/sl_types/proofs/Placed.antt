-- The function of a number is built over those before it, and lists one after another.
use Rattle.std.proofs.Common.{◌≡◌, ◌≤◌, ◌<◌, ℕ, zero, suc, ◌+◌, Bool, List, [], ◌∷◌, ◌++◌, Ok, map, take, drop, get_or, length, refl, sym, ap, ap₂, ◌∙◌, arith, length-append}
use Rattle.std.proofs.lemmas.List.{map-append, take-map, length-map, get_or-map, get_or_append_left, get_or-append-add}
use Rattle.sl_ast.specs.Typed as A
use Rattle.sl_expressions.specs.Typed as T
use Rattle.sl_expressions.specs.Scope.{Callee, body_in}
use Rattle.sl_ast.specs.TypedView.{tree_expr, tree_stmt}
use Rattle.sl_ast.specs.declared.typed.Place.{Place}
use Rattle.sl_ast.specs.declared.typed.TreeExpr.{TreeExpr}
use Rattle.sl_ast.specs.declared.typed.TreeStmt.{TreeStmt}
use Rattle.sl_types.specs.Inline.{Built, nothing, at, count, count_stmt, count_stmts, inline, inline_args, inline_stmt, inline_stmts, built_in, built_from}
use Rattle.sl_expressions.specs.TypedView.{typed_of, tstmt_of}
use Rattle.sl_expressions.specs.declared.typed.TypedExpr.{TypedExpr}
use Rattle.sl_expressions.specs.declared.typed.TypedStmt.{TypedStmt}
use Rattle.sl_types.specs.Placing.{functions, weight_known, weighing}
use Rattle.sl_expressions.specs.Views.{callee_of, local_of}
use Rattle.sl_types.specs.Folds.{fold, fold_args, fold_stmt, fold_stmts, fold_body}
use Rattle.sl_expressions.specs.declared.places.Known.{Known}

abbrev one : Bool → List Built → Callee → Built
one d fs c = built_in fs c.formals (body_in d c)

kept : (d : Bool) (fs : List Built) (cs : List Callee) (k : ℕ) → k < length fs → get_or (built_from d fs cs) k nothing ≡ get_or fs k nothing
kept d fs [] k low = refl
kept d fs (c ∷ cs) k low =
    kept d (fs ++ one d fs c ∷ []) cs k (omega (arith, low, length-append fs (one d fs c ∷ []))) ∙ get_or_append_left fs (one d fs c ∷ []) nothing k low

placed : (d : Bool) (fs : List Built) (cs : List Callee) (k n : ℕ) (x : Callee) → k < length cs → n ≡ length fs + k
    → get_or (built_from d fs cs) n nothing ≡ one d (built_from d fs (take k cs)) (get_or cs k x)
placed d fs [] k n x low at = absurd (omega (arith, low))
placed d fs (c ∷ cs) zero n x low at =
    kept d (fs ++ one d fs c ∷ []) cs n (omega (arith, at, length-append fs (one d fs c ∷ [])))
    ∙ ap (λ i. get_or (fs ++ one d fs c ∷ []) i nothing) at ∙ get_or-append-add fs (one d fs c ∷ []) 0 nothing
placed d fs (c ∷ cs) (suc k) n x low at =
    placed d (fs ++ one d fs c ∷ []) cs k n x (omega (arith, low)) (omega (arith, at, length-append fs (one d fs c ∷ [])))

absent_from : (d : Bool) (fs : List Built) (cs : List Callee) (k : ℕ) → length fs + length cs ≤ k → get_or (built_from d fs cs) k nothing ≡ nothing
absent_from d [] [] k high = refl
absent_from d (f ∷ fs) [] zero high = absurd (omega (arith, high))
absent_from d (f ∷ fs) [] (suc k) high = absent_from d fs [] k (omega (arith, high))
absent_from d fs (c ∷ cs) k high = absent_from d (fs ++ one d fs c ∷ []) cs k (omega (arith, high, length-append fs (one d fs c ∷ [])))

-- the function of a number, over those before it
pub function_at : (d : Bool) (known : List Known) (k : ℕ) (x : Known) → k < length known
    → get_or (functions d known) k nothing ≡ built_in (functions d (take k known)) (map local_of (get_or known k x).formals.items) (body_in d (callee_of (get_or known k x)))
function_at d known k x low =
    placed d [] (map callee_of known) k k (callee_of x) (omega (arith, low, length-map known callee_of)) (omega arith)
    ∙ ap₂ (λ cs c. one d (built_from d [] cs) c) (take-map callee_of k known) (get_or-map callee_of known k x (callee_of x) low)

pub function_after : (d : Bool) (known : List Known) (k : ℕ) → length known ≤ k → get_or (functions d known) k nothing ≡ nothing
function_after d known k high = absent_from d [] (map callee_of known) k (omega (arith, high, length-map known callee_of))

-- what it does weighs no more than all functions without those before it
pub lighter_at : (d : Bool) (known : List Known) (k : ℕ) (x : Known) (b : T.Body) → k < length known → body_in d (callee_of (get_or known k x)) ≡ Ok b
    → fold_body weighing [] (Ok b) + weight_known d (map callee_of (take k known)) ≤ weight_known d (map callee_of known)
lighter_at d [] k x b low is = absurd (omega (arith, low))
lighter_at d (y ∷ ys) zero x b low is = let q = ap (fold_body weighing []) is in omega (arith, q)
lighter_at d (y ∷ ys) (suc k) x b low is = omega (arith, lighter_at d ys k x b (omega (arith, low)) is)

pub light_arg : (xs : List TypedExpr) (i : ℕ) (x : TypedExpr) → i < length xs → x ≡ get_or xs i x → fold weighing [] (typed_of x) < fold_args weighing [] (T.exprs (map typed_of xs))
light_arg [] i x low is = absurd (omega (arith, low))
light_arg (y ∷ ys) zero x low is = let q = ap (λ e. fold weighing [] (typed_of e)) is in omega arith
light_arg (y ∷ ys) (suc i) x low is = omega (arith, light_arg ys i x (omega (arith, low)) is)

-- a group weighs what its statements do, so each statement's own step is counted beside it
some_weight : (ss : T.Stmts) → 1 ≤ fold_stmts weighing [] ss
some_weight T.done = omega arith
some_weight (T.first s rest) = omega arith

pub light_stmt : (xs : List TypedStmt) (i : ℕ) (x : TypedStmt) → i < length xs → x ≡ get_or xs i x → 1 + fold_stmt weighing [] (tstmt_of x) < fold_stmts weighing [] (T.stmts (map tstmt_of xs))
light_stmt [] i x low is = absurd (omega (arith, low))
light_stmt (y ∷ ys) zero x low is = let q = ap (λ s. fold_stmt weighing [] (tstmt_of s)) is in omega (arith, some_weight (T.stmts (map tstmt_of ys)))
light_stmt (y ∷ ys) (suc i) x low is = omega (arith, light_stmt ys i x (omega (arith, low)) is)

-- some arguments before others, and statements before others
abbrev pub args_before : List A.Expr → A.Exprs → A.Exprs
args_before [] rest = rest
args_before (x ∷ xs) rest = A.more x (args_before xs rest)

abbrev pub stmts_before : List A.Stmt → A.Stmts → A.Stmts
stmts_before [] rest = rest
stmts_before (x ∷ xs) rest = A.first x (stmts_before xs rest)

pub args_push : (xs : List A.Expr) (x : A.Expr) (rest : A.Exprs) → args_before (xs ++ x ∷ []) rest ≡ args_before xs (A.more x rest)
args_push [] x rest = refl
args_push (y ∷ xs) x rest = ap (A.more y) (args_push xs x rest)

pub stmts_push : (xs : List A.Stmt) (x : A.Stmt) (rest : A.Stmts) → stmts_before (xs ++ x ∷ []) rest ≡ stmts_before xs (A.first x rest)
stmts_push [] x rest = refl
stmts_push (y ∷ xs) x rest = ap (A.first y) (stmts_push xs x rest)

pub args_alone : (xs : List A.Expr) → args_before xs A.none ≡ A.exprs xs
args_alone [] = refl
args_alone (x ∷ xs) = ap (A.more x) (args_alone xs)

pub stmts_alone : (xs : List A.Stmt) → stmts_before xs A.done ≡ A.stmts xs
stmts_alone [] = refl
stmts_alone (x ∷ xs) = ap (A.first x) (stmts_alone xs)

-- an argument and those after it
pub args_split : (xs : List TypedExpr) (i : ℕ) (x : TypedExpr) → i < length xs → x ≡ get_or xs i x
    → T.exprs (map typed_of (drop i xs)) ≡ T.more (typed_of x) (T.exprs (map typed_of (drop (i + 1) xs)))
args_split [] i x low is = absurd (omega (arith, low))
args_split (y ∷ ys) zero x low is = ap (λ z. T.more (typed_of z) (T.exprs (map typed_of ys))) (sym is)
args_split (y ∷ ys) (suc i) x low is =
    let e : suc (i + 1) ≡ suc i + 1 = omega arith in
    args_split ys i x (omega (arith, low)) is ∙ ap (λ k. T.more (typed_of x) (T.exprs (map typed_of (drop k (y ∷ ys))))) e

pub stmts_split : (xs : List TypedStmt) (i : ℕ) (x : TypedStmt) → i < length xs → x ≡ get_or xs i x
    → T.stmts (map tstmt_of (drop i xs)) ≡ T.first (tstmt_of x) (T.stmts (map tstmt_of (drop (i + 1) xs)))
stmts_split [] i x low is = absurd (omega (arith, low))
stmts_split (y ∷ ys) zero x low is = ap (λ z. T.first (tstmt_of z) (T.stmts (map tstmt_of ys))) (sym is)
stmts_split (y ∷ ys) (suc i) x low is =
    let e : suc (i + 1) ≡ suc i + 1 = omega arith in
    stmts_split ys i x (omega (arith, low)) is ∙ ap (λ k. T.first (tstmt_of x) (T.stmts (map tstmt_of (drop k (y ∷ ys))))) e

pub args_end : (xs : List TypedExpr) (i : ℕ) → length xs ≤ i → T.exprs (map typed_of (drop i xs)) ≡ T.none
args_end [] zero high = refl
args_end [] (suc i) high = refl
args_end (y ∷ ys) zero high = absurd (omega (arith, high))
args_end (y ∷ ys) (suc i) high = args_end ys i (omega (arith, high))

pub stmts_end : (xs : List TypedStmt) (i : ℕ) → length xs ≤ i → T.stmts (map tstmt_of (drop i xs)) ≡ T.done
stmts_end [] zero high = refl
stmts_end [] (suc i) high = refl
stmts_end (y ∷ ys) zero high = absurd (omega (arith, high))
stmts_end (y ∷ ys) (suc i) high = stmts_end ys i (omega (arith, high))

-- one more argument is made
pub args_step : (fs : List Built) (made more : List TreeExpr) (t : TreeExpr) (es : List TypedExpr) (i : ℕ) (x : TypedExpr) (n m : ℕ) → i < length es → x ≡ get_or es i x
    → more ≡ made ++ t ∷ [] → tree_expr t ≡ inline fs n (typed_of x) → m ≡ n + count fs (typed_of x)
    → args_before (map tree_expr more) (inline_args fs m (T.exprs (map typed_of (drop (i + 1) es))))
    ≡ args_before (map tree_expr made) (inline_args fs n (T.exprs (map typed_of (drop i es))))
args_step fs made more t es i x n m low is grown tree next =
    let rest = T.exprs (map typed_of (drop (i + 1) es)) in
    let k = n + count fs (typed_of x) in
    ap₂ (λ xs j. args_before (map tree_expr xs) (inline_args fs j rest)) grown next
    ∙ ap (λ xs. args_before xs (inline_args fs k rest)) (map-append tree_expr made (t ∷ []))
    ∙ args_push (map tree_expr made) (tree_expr t) (inline_args fs k rest)
    ∙ ap (λ y. args_before (map tree_expr made) (A.more y (inline_args fs k rest))) tree
    ∙ sym (ap (λ z. args_before (map tree_expr made) (inline_args fs n z)) (args_split es i x low is))

pub stmts_step : (fs : List Built) (made more : List TreeStmt) (t : TreeStmt) (ss : List TypedStmt) (i : ℕ) (x : TypedStmt) (n m : ℕ) → i < length ss → x ≡ get_or ss i x
    → more ≡ made ++ t ∷ [] → tree_stmt t ≡ inline_stmt fs n (tstmt_of x) → m ≡ n + count_stmt fs (tstmt_of x)
    → stmts_before (map tree_stmt more) (inline_stmts fs m (T.stmts (map tstmt_of (drop (i + 1) ss))))
    ≡ stmts_before (map tree_stmt made) (inline_stmts fs n (T.stmts (map tstmt_of (drop i ss))))
stmts_step fs made more t ss i x n m low is grown tree next =
    let rest = T.stmts (map tstmt_of (drop (i + 1) ss)) in
    let k = n + count_stmt fs (tstmt_of x) in
    ap₂ (λ xs j. stmts_before (map tree_stmt xs) (inline_stmts fs j rest)) grown next
    ∙ ap (λ xs. stmts_before xs (inline_stmts fs k rest)) (map-append tree_stmt made (t ∷ []))
    ∙ stmts_push (map tree_stmt made) (tree_stmt t) (inline_stmts fs k rest)
    ∙ ap (λ y. stmts_before (map tree_stmt made) (A.first y (inline_stmts fs k rest))) tree
    ∙ sym (ap (λ z. stmts_before (map tree_stmt made) (inline_stmts fs n z)) (stmts_split ss i x low is))

-- a `for` from the trees of its parts
pub for_tree : (fs : List Built) (n i j k m line : ℕ) (a b : T.Stmts) (e : T.Expr) (x : T.Stmt) (start turn : A.Stmts) (test : A.Expr) (body : A.Stmt) (place : Place)
    → place ≡ at line n → i ≡ n + 1 → start ≡ inline_stmts fs i a → j ≡ i + count_stmts fs a → test ≡ inline fs j e → k ≡ j + count fs e
    → turn ≡ inline_stmts fs k b → m ≡ k + count_stmts fs b → body ≡ inline_stmt fs m x
    → A.steps start test turn body place ≡ inline_stmt fs n (T.steps a e b x line)
for_tree fs n i j k m line a b e x start turn test body place p pi pa pj pe pk pb pm px = cc (p, pi, pa, pj, pe, pk, pb, pm, px)
