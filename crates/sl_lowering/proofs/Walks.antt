-- The walk over the lists of a typed tree: what was made, before what is left, is what the whole list makes.
use Rattle.std.proofs.Common.{◌≡◌, ℕ, zero, suc, ◌+◌, ◌<◌, ◌≤◌, Bool, List, [], ◌∷◌, ◌++◌, length, get_or, drop, map, refl, ap, sym, ◌∙◌, arith}
use Rattle.sl_ast.specs.Typed as T
use Rattle.sl_ast.specs.TypedView.{tree_expr, tree_stmt}
use Rattle.sl_ast.specs.Classes.{after, after_all, formal_classes, is_uniform_loop}
use Rattle.sl_ast.specs.declared.kinds.NodeType.{NodeType}
use Rattle.sl_ast.specs.declared.kinds.SlType.{SlType}
use Rattle.sl_ast.specs.declared.typed.Place.{Place}
use Rattle.sl_ast.specs.declared.typed.TreeExpr.{TreeExpr}
use Rattle.sl_ast.specs.declared.typed.TreeFormal.{TreeFormal}
use Rattle.sl_ast.specs.declared.typed.TreeStmt.{TreeStmt}
use Rattle.sl_meaning.specs.Core as C
use Rattle.sl_meaning.specs.CoreView.{expr_of, exprs_of, args_of, stmt_of, stmts_of}
use Rattle.sl_meaning.specs.Environment.{value_type}
use Rattle.sl_meaning.specs.Lowered.{expr, exprs, arguments, stmt, stmts, alone}
use Rattle.sl_meaning.specs.declared.core_tree.Argument.{Argument}
use Rattle.sl_meaning.specs.declared.core_tree.CoreExpr.{CoreExpr}
use Rattle.sl_meaning.specs.declared.core_tree.CoreStmt.{CoreStmt}
use Rattle.sl_lowering.proofs.CoreParts.{exprs_before, args_before, stmts_before, exprs_push, args_push, stmts_push, exprs_alone, args_alone, stmts_alone}

-- the operands, arguments or statements from an index on
abbrev pub exprs_from : List TreeExpr → ℕ → T.Exprs
exprs_from xs i = T.exprs (map tree_expr (drop i xs))

abbrev pub stmts_from : List TreeStmt → ℕ → T.Stmts
stmts_from xs i = T.stmts (map tree_stmt (drop i xs))

exprs_split : (xs : List TreeExpr) (i : ℕ) (x : TreeExpr) → i < length xs → x ≡ get_or xs i x → exprs_from xs i ≡ T.more (tree_expr x) (exprs_from xs (i + 1))
exprs_split [] i x low is = absurd (omega (arith, low))
exprs_split (y ∷ ys) zero x low is = ap (λ z. T.more (tree_expr z) (T.exprs (map tree_expr ys))) (sym is)
exprs_split (y ∷ ys) (suc i) x low is =
    let e : suc (i + 1) ≡ suc i + 1 = omega arith in
    exprs_split ys i x (omega (arith, low)) is ∙ ap (λ k. T.more (tree_expr x) (exprs_from (y ∷ ys) k)) e

stmts_split : (xs : List TreeStmt) (i : ℕ) (x : TreeStmt) → i < length xs → x ≡ get_or xs i x → stmts_from xs i ≡ T.first (tree_stmt x) (stmts_from xs (i + 1))
stmts_split [] i x low is = absurd (omega (arith, low))
stmts_split (y ∷ ys) zero x low is = ap (λ z. T.first (tree_stmt z) (T.stmts (map tree_stmt ys))) (sym is)
stmts_split (y ∷ ys) (suc i) x low is =
    let e : suc (i + 1) ≡ suc i + 1 = omega arith in
    stmts_split ys i x (omega (arith, low)) is ∙ ap (λ k. T.first (tree_stmt x) (stmts_from (y ∷ ys) k)) e

exprs_end : (xs : List TreeExpr) (i : ℕ) → length xs ≤ i → exprs_from xs i ≡ T.none
exprs_end [] zero high = refl
exprs_end [] (suc i) high = refl
exprs_end (y ∷ ys) zero high = absurd (omega (arith, high))
exprs_end (y ∷ ys) (suc i) high = exprs_end ys i (omega (arith, high))

stmts_end : (xs : List TreeStmt) (i : ℕ) → length xs ≤ i → stmts_from xs i ≡ T.done
stmts_end [] zero high = refl
stmts_end [] (suc i) high = refl
stmts_end (y ∷ ys) zero high = absurd (omega (arith, high))
stmts_end (y ∷ ys) (suc i) high = stmts_end ys i (omega (arith, high))

-- operands: one more is made, and all are made

pub exprs_step : (made grown : List CoreExpr) (c : CoreExpr) (xs : List TreeExpr) (i : ℕ) (x : TreeExpr) (us : List Bool) (u : Bool) →
    i < length xs → x ≡ get_or xs i x → grown ≡ made ++ c ∷ [] → expr_of c ≡ expr (tree_expr x) us u →
    exprs_before grown (exprs (exprs_from xs (i + 1)) us u) ≡ exprs_before made (exprs (exprs_from xs i) us u)
exprs_step made grown c xs i x us u low is grows tree =
    let rest = exprs (exprs_from xs (i + 1)) us u in
    ap (λ l. exprs_before l rest) grows ∙ exprs_push made c rest ∙
    ap (λ y. exprs_before made (C.more y rest)) tree ∙
    sym (ap (λ z. exprs_before made (exprs z us u)) (exprs_split xs i x low is))

pub exprs_done : (made : List CoreExpr) (xs : List TreeExpr) (i : ℕ) (us : List Bool) (u : Bool) → length xs ≤ i →
    exprs_of made ≡ exprs_before made (exprs (exprs_from xs i) us u)
exprs_done made xs i us u high = sym (ap (λ z. exprs_before made (exprs z us u)) (exprs_end xs i high) ∙ exprs_alone made)

-- arguments, each with its formal

pub args_step : (made grown : List Argument) (c : CoreExpr) (xs : List TreeExpr) (i : ℕ) (x : TreeExpr) (left fs : List TreeFormal) (f : TreeFormal) (us : List Bool) (u : Bool) →
    i < length xs → x ≡ get_or xs i x → left ≡ f ∷ fs → grown ≡ made ++ (record { uniform = f.uniform; kind = f.kind; value = c }) ∷ [] → expr_of c ≡ expr (tree_expr x) us u →
    args_before grown (arguments (exprs_from xs (i + 1)) fs us u) ≡ args_before made (arguments (exprs_from xs i) left us u)
args_step made grown c xs i x left fs f us u low is formals grows tree =
    let rest = arguments (exprs_from xs (i + 1)) fs us u in
    ap (λ l. args_before l rest) grows ∙ args_push made (record { uniform = f.uniform; kind = f.kind; value = c }) rest ∙
    ap (λ y. args_before made (C.argument f.uniform f.kind y rest)) tree ∙
    sym (ap (λ l. args_before made (arguments (T.more (tree_expr x) (exprs_from xs (i + 1))) l us u)) formals) ∙
    sym (ap (λ z. args_before made (arguments z left us u)) (exprs_split xs i x low is))

pub args_done : (made : List Argument) (xs : List TreeExpr) (i : ℕ) (left : List TreeFormal) (us : List Bool) (u : Bool) → length xs ≤ i →
    args_of made ≡ args_before made (arguments (exprs_from xs i) left us u)
args_done made xs i left us u high = sym (ap (λ z. args_before made (arguments z left us u)) (exprs_end xs i high) ∙ args_alone made)

no_formals : (es : T.Exprs) (left : List TreeFormal) (us : List Bool) (u : Bool) → length left ≡ 0 → arguments es left us u ≡ C.no_arguments
no_formals T.none left us u h = refl
no_formals (T.more e rest) [] us u h = refl
no_formals (T.more e rest) (f ∷ fs) us u h = absurd (omega (arith, h))

pub args_short : (made : List Argument) (xs : List TreeExpr) (i : ℕ) (left : List TreeFormal) (us : List Bool) (u : Bool) → length left ≡ 0 →
    args_of made ≡ args_before made (arguments (exprs_from xs i) left us u)
args_short made xs i left us u h = sym (ap (args_before made) (no_formals (exprs_from xs i) left us u h) ∙ args_alone made)

-- statements, over the scope that those before them leave

pub stmts_step : (made grown : List CoreStmt) (c : CoreStmt) (xs : List TreeStmt) (i : ℕ) (x : TreeStmt) (us us1 us2 : List Bool) (u : Bool) →
    i < length xs → x ≡ get_or xs i x → grown ≡ made ++ c ∷ [] → stmt_of c ≡ stmt (tree_stmt x) us u → us1 ≡ us → us2 ≡ after (tree_stmt x) us1 →
    stmts_before grown (stmts (stmts_from xs (i + 1)) us2 u) ≡ stmts_before made (stmts (stmts_from xs i) us u)
stmts_step made grown c xs i x us us1 us2 u low is grows tree same next =
    let rest = stmts (stmts_from xs (i + 1)) (after (tree_stmt x) us) u in
    ap (λ y. stmts_before grown (stmts (stmts_from xs (i + 1)) y u)) (next ∙ ap (after (tree_stmt x)) same) ∙
    ap (λ l. stmts_before l rest) grows ∙ stmts_push made c rest ∙
    ap (λ y. stmts_before made (C.first y rest)) tree ∙
    sym (ap (λ z. stmts_before made (stmts z us u)) (stmts_split xs i x low is))

pub stmts_done : (made : List CoreStmt) (xs : List TreeStmt) (i : ℕ) (us : List Bool) (u : Bool) → length xs ≤ i →
    stmts_of made ≡ stmts_before made (stmts (stmts_from xs i) us u)
stmts_done made xs i us u high = sym (ap (λ z. stmts_before made (stmts z us u)) (stmts_end xs i high) ∙ stmts_alone made)

-- an inlined call of its parts, and a `for` of its parts

pub call_lowered : (whole : T.Expr) (args : T.Exprs) (formals : List TreeFormal) (body : T.Stmts) (returned : Place) (value : T.Expr) (kind : NodeType) (place : Place)
    (us us1 us2 us3 : List Bool) (u : Bool) (given : C.Arguments) (ss : C.Stmts) (k : SlType) (v : C.Expr) →
    whole ≡ T.call args formals body returned value kind place → given ≡ arguments args formals us u → us1 ≡ formal_classes formals →
    ss ≡ stmts body us1 u → us2 ≡ us1 → us3 ≡ after_all body us2 → v ≡ expr value us3 u → k ≡ value_type kind →
    C.call given ss k v ≡ expr whole us u
call_lowered whole args formals body returned value kind place us us1 us2 us3 u given ss k v h ha h1 hs h2 h3 hv hk =
    ap (λ x. C.call x ss k v) ha ∙
    ap (λ x. C.call (arguments args formals us u) x k v) (hs ∙ ap (λ y. stmts body y u) h1) ∙
    ap (λ x. C.call (arguments args formals us u) (stmts body (formal_classes formals) u) x v) hk ∙
    ap (C.call (arguments args formals us u) (stmts body (formal_classes formals) u) (value_type kind))
    (hv ∙ ap (λ y. expr value y u) (h3 ∙ ap (after_all body) (h2 ∙ h1))) ∙
    sym (ap (λ x. expr x us u) h)

pub for_lowered : (whole : T.Stmt) (a a1 b b1 : T.Stmts) (e : T.Expr) (s s1 s2 : T.Stmt) (place : Place) (us us1 us2 us3 us4 us5 : List Bool) (u w : Bool)
    (begun step body : C.Stmts) (turns : C.Stmt) →
    whole ≡ T.steps a e b s place → s1 ≡ s → w ≡ is_uniform_loop e s1 us u → us1 ≡ us → a1 ≡ a → begun ≡ stmts a1 us1 u → us2 ≡ us1 →
    b1 ≡ b → step ≡ stmts b1 us2 w → us3 ≡ us2 → s2 ≡ s → body ≡ alone (stmt s2 us3 w) → us4 ≡ us3 → us5 ≡ us4 →
    turns ≡ C.repeat w (expr e us5 w) step body → C.block (C.first (C.block begun) (alone turns)) ≡ stmt whole us u
for_lowered whole a a1 b b1 e s s1 s2 place us us1 us2 us3 us4 us5 u w begun step body turns h hs1 hw0 h1 ha hbegun0 h2 hb hstep0 h3 hs2 hbody0 h4 h5 hturns =
    let hw = hw0 ∙ ap (λ x. is_uniform_loop e x us u) hs1 in
    let control = is_uniform_loop e s us u in
    let hbegun = hbegun0 ∙ ap (λ x. stmts x us1 u) ha ∙ ap (λ x. stmts a x u) h1 in
    let hstep = hstep0 ∙ ap (λ x. stmts x us2 w) hb ∙ ap (λ x. stmts b x w) (h2 ∙ h1) ∙ ap (stmts b us) hw in
    let hbody = hbody0 ∙ ap (λ x. alone (stmt x us3 w)) hs2 ∙ ap (λ x. alone (stmt s x w)) (h3 ∙ h2 ∙ h1) ∙ ap (λ x. alone (stmt s us x)) hw in
    let htest = ap (λ x. expr e x w) (h5 ∙ h4 ∙ h3 ∙ h2 ∙ h1) ∙ ap (expr e us) hw in
    ap (λ x. C.block (C.first (C.block x) (alone turns))) hbegun ∙
    ap (λ x. C.block (C.first (C.block (stmts a us u)) (alone x)))
    (hturns ∙ ap (λ x. C.repeat x (expr e us5 w) step body) hw ∙ ap (λ x. C.repeat control x step body) htest ∙
    ap (λ x. C.repeat control (expr e us control) x body) hstep ∙
    ap (λ x. C.repeat control (expr e us control) (stmts b us control) x) hbody) ∙
    sym (ap (λ x. stmt x us u) h)
