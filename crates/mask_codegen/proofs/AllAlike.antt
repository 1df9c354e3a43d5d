-- A core tree without differences means on a grid what it means at each point, where the points agree on what is uniform.
use Rattle.std.proofs.Common.{◌≡◌, ℕ, ◌<◌, Bool, true, false, List, refl, sym, ap, ◌∙◌, arith}
use Rattle.sl_ast.specs.declared.typed.Value.{Value}
use Rattle.builtins.specs.Values.{as_kind, is_true}
use Rattle.builtins.specs.Table.{applied}
use Rattle.builtins.specs.Lights.{sum_of}
use Rattle.sl_meaning.specs.Core.{Slot, slot, Expr, literal, read, apply, differ, sum, texture, call, Exprs, none, more, Arguments, no_arguments, argument, Stmt, declare, assign, block, test, repeat, lights, leave, again, Stmts, done, first, formals, after, after_all, is_uniform, are_uniform}
use Rattle.sl_meaning.specs.Environment.{Around}
use Rattle.sl_meaning.specs.Alone.{Gives, on_value, inside, either}
use Rattle.sl_meaning.specs.CoreAlone.{value, all_values, arg_values, run, run_all}
use Rattle.sl_meaning.specs.Grid.{Envs, on_all, inside_all, choice_all, loops_all}
use Rattle.sl_meaning.specs.CoreGrid.{values, all_of, args_of, grid, grid_all}
use Rattle.core_codegen.specs.Fine.{StaysAll, IsStep, When, FineExpr, FineAll, GridExpr, GridExprs, GridArgs, GridStmt, GridAll}
use Rattle.core_codegen.proofs.Scopes.{extends_stmt, extends_all}
use Rattle.core_codegen.proofs.Varying.{stays_all, loop_next, call_uniform}
use Rattle.core_codegen.proofs.Uniform.{all_stay}
use Rattle.mask_codegen.proofs.CorePlain.{PlainExpr, PlainExprs, PlainArgs, PlainStmt, PlainAll}
use Rattle.mask_codegen.proofs.Keeps.{body_kept, repeat_kept}
use Rattle.mask_codegen.proofs.Alike.{Exact, Alike, ArgsAlike, StmtAlike, BodyAlike, callees, read_alike, on_alike, more_alike, summed_alike, no_args_alike, arg_alike, call_alike, block_alike, step_alike, inside_alike, seq_alike}
use Rattle.mask_codegen.proofs.AlikeVariables.{declare_alike, assign_alike}
use Rattle.mask_codegen.proofs.AlikeControl.{one_alike, parts_alike, each_alike, lights_alike, loop_alike}

-- what is uniform in another sense too
as_uniform : (A : Type 0) (c : ℕ) (ss : List Slot) (u w : Bool) (a : Gives A) (es : Envs) (r : (ℕ → A) × Envs) → (w ≡ true → u ≡ true) → Alike A c ss u a es r → Alike A c ss w a es r
as_uniform A c ss u w a es r h x = record { value = x.value; env = x.env; agree = x.agree; same = λ s. x.same (h s) }

module _ (c n : ℕ) (g : Around) (pos : 0 < c) where
  choice_alike : (u : Bool) (t : Expr) (x y : Stmts) (ss : List Slot) (es : Envs) → Alike Value c ss u (value t g n) es (values t g n es)
      → (GridAll x ss → (e : Envs) → Exact c ss e → BodyAlike c ss (inside (run_all x g n)) e (inside_all (grid_all x ss g n) e))
      → (GridAll y ss → (e : Envs) → Exact c ss e → BodyAlike c ss (inside (run_all y g n)) e (inside_all (grid_all y ss g n) e))
      → When u (GridAll x ss × GridAll y ss) ((FineAll x ss × StaysAll x) × (FineAll y ss × StaysAll y))
      → BodyAlike c ss (either (value t g n) (inside (run_all x g n)) (inside (run_all y g n))) es
      (choice_all u (values t g n) (inside_all (grid_all x ss g n)) (inside_all (grid_all y ss g n)) (inside (run_all x g n)) (inside (run_all y g n)) es)
  choice_alike true t x y ss es h hx hy f =
      let e1 = (values t g n es).1 in
      one_alike c ss (is_true ((values t g n es).0 0)) (inside (run_all x g n)) (inside (run_all y g n)) es e1 (inside_all (grid_all x ss g n) e1) (inside_all (grid_all y ss g n) e1) (value t g n)
      (λ i l. ap is_true (sym (h.value i l) ∙ h.same refl i 0 l pos)) h.env (hx f.0 e1 h.agree) (hy f.1 e1 h.agree)
  choice_alike false t x y ss es h hx hy f =
      parts_alike c ss false (value t g n) (inside (run_all x g n)) (inside (run_all y g n)) (values t g n) (inside_all (grid_all x ss g n)) (inside_all (grid_all y ss g n)) es h
      (λ e. stays_all x g n e f.0.1) (λ e. stays_all y g n e f.1.1) (λ e l. body_kept x ss g n e f.0.0 l) (λ e l. body_kept y ss g n e f.1.0 l)

  repeat_alike : (u : Bool) (t : Expr) (e s : Stmts) (ss : List Slot) (es : Envs) → Exact c ss es
      → (GridExpr t ss → (m : Envs) → Exact c ss m → Alike Value c ss (is_uniform t ss) (value t g n) m (values t g n m))
      → (GridAll e ss → (m : Envs) → Exact c ss m → StmtAlike c (after_all e ss) ss (run_all e g n) m (grid_all e ss g n m))
      → (GridAll s ss → (m : Envs) → Exact c ss m → BodyAlike c ss (inside (run_all s g n)) m (inside_all (grid_all s ss g n) m))
      → When u ((is_uniform t ss ≡ true) × (GridExpr t ss × ((GridAll e ss × IsStep e ss) × GridAll s ss))) (FineExpr t ss × ((FineAll e ss × IsStep e ss) × FineAll s ss))
      → BodyAlike c ss (run (repeat u t e s) g n) es (loops_all u n (values t g n) (grid_all e ss g n) (inside_all (grid_all s ss g n)) (run (repeat false t e s) g n) es)
  repeat_alike true t e s ss es x ht he hs f =
      loop_alike c pos ss (value t g n) (run_all e g n) (inside (run_all s g n)) (values t g n) (grid_all e ss g n) (inside_all (grid_all s ss g n))
      (λ m q. as_uniform Value c ss (is_uniform t ss) true (value t g n) m (values t g n m) (λ z. f.0) (ht f.1.0 m q))
      (λ m q. step_alike c (after_all e ss) ss (run_all e g n) m (grid_all e ss g n m) f.1.1.0.1.1 (all_stay e ss g n m f.1.1.0.1.0) (he f.1.1.0.0 m q))
      (hs f.1.1.1) n es x
  repeat_alike false t e s ss es x ht he hs f =
      each_alike c ss (run (repeat false t e s) g n) es x (λ m. loop_next n false (value t g n) (run_all e g n) (inside (run_all s g n)) m) (λ m l. repeat_kept t e s ss g n m f l)

  mutual
    pub expr_alike : (e : Expr) (ss : List Slot) (es : Envs) → GridExpr e ss → PlainExpr e → Exact c ss es → Alike Value c ss (is_uniform e ss) (value e g n) es (values e g n es)
    expr_alike (literal v) ss es h p x = record { value = λ i l. refl; env = λ i l. refl; agree = x; same = λ u i j l m. refl }
    expr_alike (read r) ss es h p x = read_alike c ss r es h x
    expr_alike (apply op args) ss es h p x =
        on_alike (List Value) Value c ss (are_uniform args ss) (applied op g.spaces) (all_values args g n) (all_of args g n) es (exprs_alike args ss es h p x)
    expr_alike (differ d e) ss es h p x = absurd p
    expr_alike (texture k args) ss es h p x = absurd p
    expr_alike (sum s args) ss es h p x = summed_alike c ss (are_uniform args ss) g (sum_of s) (all_values args g n) (all_of args g n) es (exprs_alike args ss es h p x)
    expr_alike (call args body kind e) ss es h p x =
        let fs = formals args in
        let ss2 = after_all body fs in
        let y = args_alike args ss es h.0 p.0 x in
        as_uniform Value c ss (is_uniform e ss2) (is_uniform (call args body kind e) ss) (value (call args body kind e) g n) es (values (call args body kind e) g n es) (call_uniform args body e ss)
        (call_alike c ss fs ss2 (is_uniform e ss2) (arg_values args g n) (run_all body g n) (on_value (as_kind kind) (value e g n)) (args_of args g n) (grid_all body fs g n) (on_all (as_kind kind) (values e g n)) es
        (λ m. all_stay body fs g n m h.1.1.0) y (all_alike body fs (callees (args_of args g n es)) h.1.0 p.1.0 y.callee)
        (λ z. on_alike Value Value c ss2 (is_uniform e ss2) (as_kind kind) (value e g n) (values e g n) _ (expr_alike e ss2 _ h.1.1.1 p.1.1 z)))

    pub exprs_alike : (args : Exprs) (ss : List Slot) (es : Envs) → GridExprs args ss → PlainExprs args → Exact c ss es → Alike (List Value) c ss (are_uniform args ss) (all_values args g n) es (all_of args g n es)
    exprs_alike none ss es h p x = record { value = λ i l. refl; env = λ i l. refl; agree = x; same = λ u i j l m. refl }
    exprs_alike (more e rest) ss es h p x =
        let y = expr_alike e ss es h.0 p.0 x in
        more_alike Value c ss (is_uniform e ss) (are_uniform rest ss) (value e g n) (all_values rest g n) (values e g n) (all_of rest g n) es y (exprs_alike rest ss (values e g n es).1 h.1 p.1 y.agree)

    pub args_alike : (args : Arguments) (ss : List Slot) (es : Envs) → GridArgs args ss → PlainArgs args → Exact c ss es → ArgsAlike c ss (formals args) (arg_values args g n) es (args_of args g n es)
    args_alike no_arguments ss es h p x = no_args_alike c ss es x
    args_alike (argument u kind e rest) ss es h p x =
        let y = on_alike Value Value c ss (is_uniform e ss) (as_kind kind) (value e g n) (values e g n) es (expr_alike e ss es h.0 p.0 x) in
        arg_alike c ss (formals rest) (slot u kind) (is_uniform e ss) (on_value (as_kind kind) (value e g n)) (arg_values rest g n) (on_all (as_kind kind) (values e g n)) (args_of rest g n) es h.1.0 y
        (args_alike rest ss (values e g n es).1 h.1.1 p.1 y.agree)

    pub stmt_alike : (s : Stmt) (ss : List Slot) (es : Envs) → GridStmt s ss → PlainStmt s → Exact c ss es → StmtAlike c (after s ss) ss (run s g n) es (grid s ss g n es)
    stmt_alike (declare u kind e) ss es h p x =
        declare_alike c ss (slot u kind) (is_uniform e ss) (on_value (as_kind kind) (value e g n)) es (on_all (as_kind kind) (values e g n) es) h.1
        (on_alike Value Value c ss (is_uniform e ss) (as_kind kind) (value e g n) (values e g n) es (expr_alike e ss es h.0 p x))
    stmt_alike (assign r kind e) ss es h p x =
        assign_alike c ss r (is_uniform e ss) (on_value (as_kind kind) (value e g n)) es (on_all (as_kind kind) (values e g n) es) h.1.0 h.1.1
        (on_alike Value Value c ss (is_uniform e ss) (as_kind kind) (value e g n) (values e g n) es (expr_alike e ss es h.0 p x))
    stmt_alike (block s) ss es h p x = block_alike c ss (inside (run_all s g n)) es _ (inside_alike c (after_all s ss) ss (run_all s g n) (grid_all s ss g n) es (extends_all s ss) x (all_alike s ss es h p x))
    stmt_alike (test t a b) ss es h p x =
        block_alike c ss (run (test t a b) g n) es _
        (choice_alike (is_uniform t ss) t a b ss es (expr_alike t ss es h.0 p.0 x)
        (λ f e q. inside_alike c (after_all a ss) ss (run_all a g n) (grid_all a ss g n) e (extends_all a ss) q (all_alike a ss e f p.1.0 q))
        (λ f e q. inside_alike c (after_all b ss) ss (run_all b g n) (grid_all b ss g n) e (extends_all b ss) q (all_alike b ss e f p.1.1 q)) h.1)
    stmt_alike (repeat u t e s) ss es h p x =
        block_alike c ss (run (repeat u t e s) g n) es _
        (repeat_alike u t e s ss es x (λ f m q. expr_alike t ss m f p.0 q) (λ f m q. all_alike e ss m f p.1.0 q)
        (λ f m q. inside_alike c (after_all s ss) ss (run_all s g n) (grid_all s ss g n) m (extends_all s ss) q (all_alike s ss m f p.1.1 q)) h)
    stmt_alike (lights w args s) ss es h p x =
        block_alike c ss (run (lights w args s) g n) es _
        (lights_alike c ss (are_uniform args ss) w g (all_values args g n) (inside (run_all s g n)) (all_of args g n) es (exprs_alike args ss es h.0 p.0 x) (λ e. stays_all s g n e h.1.1) (λ e l. body_kept s ss g n e h.1.0 l))
    stmt_alike leave ss es h p x = record { signal = λ i l. refl; env = λ i l. refl; agree = x.agree }
    stmt_alike again ss es h p x = record { signal = λ i l. refl; env = λ i l. refl; agree = x.agree }

    pub all_alike : (s : Stmts) (ss : List Slot) (es : Envs) → GridAll s ss → PlainAll s → Exact c ss es → StmtAlike c (after_all s ss) ss (run_all s g n) es (grid_all s ss g n es)
    all_alike done ss es h p x = record { signal = λ i l. refl; env = λ i l. refl; agree = x }
    all_alike (first s rest) ss es h p x =
        let ss1 = after s ss in
        seq_alike c (after_all rest ss1) ss1 ss (run s g n) (run_all rest g n) (grid_all rest ss1 g n) es (grid s ss g n es).0 (grid s ss g n es).1 (extends_stmt s ss) (stmt_alike s ss es h.0 p.0 x)
        (λ e q. all_alike rest ss1 e h.1 p.1 q)

-- so a body means on a grid what it means at each of its points
pub body_alike : (c n : ℕ) (g : Around) (s : Stmts) (ss : List Slot) (es : Envs) → GridAll s ss → PlainAll s → Exact c ss es → (i : ℕ) → i < c → (inside_all (grid_all s ss g n) es).1 i ≡ (inside (run_all s g n) (es i)).1
body_alike c n g s ss es h p x i l =
    (inside_alike c (after_all s ss) ss (run_all s g n) (grid_all s ss g n) es (extends_all s ss) x (all_alike c n g (omega (arith, l)) s ss es h p x)).env i l
