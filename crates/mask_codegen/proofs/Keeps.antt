-- What statements under varying control keep: the uniform variables, the uniform predefined ones, and the uniform budget.
use Rattle.std.proofs.Common.{◌≡◌, ℕ, suc, false, List, [], ◌∷◌, ◌++◌, length, get_or, refl, sym, ap, ◌∙◌, arith, subst, length-append}
use Rattle.std.proofs.lemmas.List.{get_or_append_left, length-set, get_or-set_other}
use Rattle.sl_ast.specs.declared.typed.Value.{Value}
use Rattle.sl_ast.specs.declared.typed.Variable.{Variable}
use Rattle.sl_ast.specs.declared.typed.Variable.TheVariants as variables
use Rattle.builtins.specs.Values.{as_kind}
use Rattle.sl_meaning.specs.Core.{Slot, slot, no_slot, Expr, literal, read, apply, differ, sum, texture, call, Exprs, none, more, Arguments, no_arguments, argument, Stmt, declare, assign, block, test, repeat, lights, leave, again, Stmts, done, first, formals, after, after_all, class_in}
use Rattle.sl_meaning.specs.Environment.{Env, Around, Next, Break, Continue, zero_value, with_variable, declared}
use Rattle.sl_meaning.specs.Alone.{inside}
use Rattle.sl_meaning.specs.CoreAlone.{value, all_values, arg_values, run, run_all}
use Rattle.core_codegen.specs.Fine.{IsStep, FineExpr, FineExprs, FineArgs, FineStmt, FineAll}
use Rattle.core_codegen.proofs.Scopes.{extends_stmt, extends_all}
use Rattle.core_codegen.proofs.Varying.{stays_all}
use Rattle.mask_codegen.proofs.Kept.{Same, Kept, Keeps, same_self, same_on, kept_self, kept_of, kept_on, keeps_kept, kept_inside, kept_step, keeps_seq, name_kept, loop_kept, either_kept, lights_kept}

-- a new variable, and one that is set
declare_keeps : (ss : List Slot) (s : Slot) (v : Value) (env out : Env) → length env.values ≡ length ss → Same env out → Keeps (ss ++ s ∷ []) ss env (Next, declared v out)
declare_keeps ss s v env out l x =
    let z = ap length x.values in
    record {
      uniform = λ k a b. get_or_append_left out.values (v ∷ []) zero_value k (omega arith) ∙ ap (λ q. get_or q k zero_value) x.values;
      named = x.named;
      turns = x.turns;
      long = omega (arith, length-append out.values (v ∷ []));
      exact = λ q. omega (arith, length-append out.values (v ∷ []), length-append ss (s ∷ []));
    }

assign_kept : (x : Variable) (ss : List Slot) (v : Value) (out : Env) → class_in x ss ≡ false → length out.values ≡ length ss → Kept ss out (with_variable x v out)
assign_kept (variables.Predefined p) ss v out h l = name_kept ss p v out h l
assign_kept (variables.Level j) ss v out h l =
    record {
      uniform = λ k a b. get_or-set_other out.values j k v zero_value (λ q. let c = ap (λ i. (get_or ss i no_slot).uniform) q in cc);
      named = λ p q. refl;
      turns = refl;
      exact = length-set out.values j v ∙ l;
    }

mutual
  pub expr_same : (e : Expr) (ss : List Slot) (a : Around) (n : ℕ) (env : Env) → FineExpr e ss → length env.values ≡ length ss → Same env (value e a n env).1
  expr_same (literal v) ss a n env h l = same_self env
  expr_same (read x) ss a n env h l = same_self env
  expr_same (apply op args) ss a n env h l = exprs_same args ss a n env h l
  expr_same (differ d e) ss a n env h l = absurd h
  expr_same (texture k args) ss a n env h l = absurd h
  expr_same (sum s args) ss a n env h l = exprs_same args ss a n env h l
  expr_same (call args body kind e) ss a n env h l =
      let fs = formals args in
      let x = arg_values args a n env in
      let s = args_same args ss a n env h.0 l in
      let c0 : Env = record x.1 { values = x.0 } in
      let y = all_keeps body fs a n c0 h.1.0 s.1 in
      let z = expr_same e (after_all body fs) a n (run_all body a n c0).1 h.1.1.1 (y.exact (stays_all body a n c0 h.1.1.0)) in
      record { values = s.0.values; named = λ p q. z.named p q ∙ y.named p q ∙ s.0.named p q; turns = z.turns ∙ y.turns ∙ s.0.turns }

  pub exprs_same : (es : Exprs) (ss : List Slot) (a : Around) (n : ℕ) (env : Env) → FineExprs es ss → length env.values ≡ length ss → Same env (all_values es a n env).1
  exprs_same none ss a n env h l = same_self env
  exprs_same (more e rest) ss a n env h l =
      let x = expr_same e ss a n env h.0 l in
      same_on env (value e a n env).1 _ x (exprs_same rest ss a n (value e a n env).1 h.1 (ap length x.values ∙ l))

  pub args_same : (es : Arguments) (ss : List Slot) (a : Around) (n : ℕ) (env : Env) → FineArgs es ss → length env.values ≡ length ss → Same env (arg_values es a n env).1 × (length (arg_values es a n env).0 ≡ length (formals es))
  args_same no_arguments ss a n env h l = (same_self env, refl)
  args_same (argument u kind e rest) ss a n env h l =
      let x = expr_same e ss a n env h.0 l in
      let y = args_same rest ss a n (value e a n env).1 h.1.1 (ap length x.values ∙ l) in
      (same_on env (value e a n env).1 _ x y.0, ap suc y.1)

  pub stmt_keeps : (s : Stmt) (ss : List Slot) (a : Around) (n : ℕ) (env : Env) → FineStmt s ss → length env.values ≡ length ss → Keeps (after s ss) ss env (run s a n env)
  stmt_keeps (declare u kind e) ss a n env h l = declare_keeps ss (slot u kind) (as_kind kind (value e a n env).0) env (value e a n env).1 l (expr_same e ss a n env h.0 l)
  stmt_keeps (assign x kind e) ss a n env h l =
      let k = kept_of ss env (value e a n env).1 l (expr_same e ss a n env h.0 l) in
      keeps_kept ss env Next _ (kept_on ss env (value e a n env).1 _ k (assign_kept x ss (as_kind kind (value e a n env).0) (value e a n env).1 h.1.1 k.exact))
  stmt_keeps (block s) ss a n env h l = keeps_kept ss env _ _ (kept_inside (after_all s ss) ss env (run_all s a n env).0 (run_all s a n env).1 (extends_all s ss) l (all_keeps s ss a n env h l))
  stmt_keeps (test t x y) ss a n env h l =
      keeps_kept ss env _ _
      (either_kept ss env (value t a n) (inside (run_all x a n)) (inside (run_all y a n)) (expr_same t ss a n env h.0 l) l
      (λ m q. kept_inside (after_all x ss) ss m (run_all x a n m).0 (run_all x a n m).1 (extends_all x ss) q (all_keeps x ss a n m h.1.0 q))
      (λ m q. kept_inside (after_all y ss) ss m (run_all y a n m).0 (run_all y a n m).1 (extends_all y ss) q (all_keeps y ss a n m h.1.1 q)))
  stmt_keeps (repeat u t e s) ss a n env h l =
      subst (λ v. Keeps ss ss env (run (repeat v t e s) a n env)) (sym h.0)
      (keeps_kept ss env _ _
      (loop_kept ss (value t a n) (run_all e a n) (inside (run_all s a n)) (λ m q. expr_same t ss a n m h.1.0 q)
      (λ m q. kept_step (after_all e ss) ss m (run_all e a n m) h.1.1.0.1.1 (stays_all e a n m h.1.1.0.1.0) (all_keeps e ss a n m h.1.1.0.0 q))
      (λ m q. kept_inside (after_all s ss) ss m (run_all s a n m).0 (run_all s a n m).1 (extends_all s ss) q (all_keeps s ss a n m h.1.1.1 q)) n env l))
  stmt_keeps (lights w args s) ss a n env h l =
      let x = exprs_same args ss a n env h.0 l in
      let k = kept_of ss env (all_values args a n env).1 l x in
      keeps_kept ss env _ _ (kept_on ss env (all_values args a n env).1 _ k
      (lights_kept ss (inside (run_all s a n)) (λ m q. kept_inside (after_all s ss) ss m (run_all s a n m).0 (run_all s a n m).1 (extends_all s ss) q (all_keeps s ss a n m h.1 q))
      w a (all_values args a n env).0 (all_values args a n env).1 k.exact))
  stmt_keeps leave ss a n env h l = keeps_kept ss env Break env (kept_self ss env l)
  stmt_keeps again ss a n env h l = keeps_kept ss env Continue env (kept_self ss env l)

  pub all_keeps : (s : Stmts) (ss : List Slot) (a : Around) (n : ℕ) (env : Env) → FineAll s ss → length env.values ≡ length ss → Keeps (after_all s ss) ss env (run_all s a n env)
  all_keeps done ss a n env h l = keeps_kept ss env Next env (kept_self ss env l)
  all_keeps (first s rest) ss a n env h l =
      keeps_seq (after_all rest (after s ss)) (after s ss) ss env (run s a n env).0 (run s a n env).1 (run_all rest a n) (extends_stmt s ss) (stmt_keeps s ss a n env h.0 l)
      (λ m q. all_keeps rest (after s ss) a n m h.1 q)

-- a block under varying control
pub body_kept : (s : Stmts) (ss : List Slot) (a : Around) (n : ℕ) (env : Env) → FineAll s ss → length env.values ≡ length ss → Kept ss env (inside (run_all s a n) env).1
body_kept s ss a n env h l = kept_inside (after_all s ss) ss env (run_all s a n env).0 (run_all s a n env).1 (extends_all s ss) l (all_keeps s ss a n env h l)

-- and a loop of its own
pub repeat_kept : (t : Expr) (e s : Stmts) (ss : List Slot) (a : Around) (n : ℕ) (env : Env) → FineExpr t ss × ((FineAll e ss × IsStep e ss) × FineAll s ss) → length env.values ≡ length ss → Kept ss env (run (repeat false t e s) a n env).1
repeat_kept t e s ss a n env h l =
    loop_kept ss (value t a n) (run_all e a n) (inside (run_all s a n)) (λ m q. expr_same t ss a n m h.0 q)
    (λ m q. kept_step (after_all e ss) ss m (run_all e a n m) h.1.0.1.1 (stays_all e a n m h.1.0.1.0) (all_keeps e ss a n m h.1.0.0 q))
    (λ m q. body_kept s ss a n m h.1.1 q) n env l
