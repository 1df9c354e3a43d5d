-- The meaning of each form at a point, by the meanings of its parts.
use Rattle.std.specs.Prelude.{nat_lt}
use Rattle.std.proofs.Common.{◌≡◌, ◌+◌, ◌-◌, ◌<◌, ℕ, suc, Bool, true, false, cond, List, ◌++◌, length, take, drop, refl, sym, ap, ◌∙◌, arith}
use Rattle.sl_ast.specs.declared.kinds.SlType.{SlType}
use Rattle.sl_ast.specs.declared.typed.Variable.{Variable}
use Rattle.sl_ast.specs.declared.typed.Value.{Value}
use Rattle.builtins.specs.Values.{as_kind, is_true}
use Rattle.sl_meaning.specs.Core as C
use Rattle.sl_meaning.specs.Core.{Expr, Exprs, Arguments, Stmts}
use Rattle.sl_meaning.specs.Environment.{Env, Around, Signal, Next, Break, Continue, budget, spend, scope_of, with_variable, declared, cut_to}
use Rattle.sl_evaluation.specs.Signals.{is_break}
use Rattle.sl_meaning.specs.Alone.{Gives, Runs, on_value, inside, loop, round}
use Rattle.sl_meaning.specs.CoreAlone.{value, all_values, arg_values, run, run_all}
use Rattle.sl_meaning.specs.CoreView.{expr_of, exprs_of, args_of, stmts_of}
use Rattle.sl_meaning.specs.declared.core_tree.CoreExpr.{CoreExpr}
use Rattle.sl_meaning.specs.declared.core_tree.Argument.{Argument}
use Rattle.sl_meaning.specs.declared.core_tree.CoreLoop.{CoreLoop}
use Rattle.sl_meaning.specs.declared.core_tree.CoreStmt.{CoreStmt}

pub pair : {A B : Type 0} → {a b : A} → {x y : B} → a ≡ b → x ≡ y → ◌≡◌ {A = A × B} (a, x) (b, y)
pair p q = λ i. (p i, q i)

-- expressions

abbrev ended : Env → Value × Env → Value × Env
ended a r = (r.0, scope_of a r.1)

pub call_means : (args : Arguments) (body : Stmts) (kind : SlType) (r : Expr) (g : Around) (n : ℕ) (e a b c d z : Env) (vs : List Value) (s : Signal) (v w : Value) →
    arg_values args g n e ≡ (vs, a) → b ≡ record a { values = vs } → run_all body g n b ≡ (s, c) → value r g n c ≡ (v, d) →
    z ≡ record d { values = a.values } → w ≡ as_kind kind v → value (C.call args body kind r) g n e ≡ (w, z)
call_means args body kind r g n e a b c d z vs s v w h1 hb h2 h3 hz hw =
    let after = on_value (as_kind kind) (value r g n) in
    ap (λ x. ended x.1 (after (run_all body g n record x.1 { values = x.0 }).1)) h1 ∙
    ap (λ y. ended a (after (run_all body g n y).1)) (sym hb) ∙
    ap (λ y. ended a (after y.1)) h2 ∙
    ap (λ x. ended a (as_kind kind x.0, x.1)) h3 ∙
    pair (sym hw) (sym hz)

-- lists of expressions: what was evaluated, before what is left

abbrev pub behind : List Value → List Value × Env → List Value × Env
behind vs r = (vs ++ r.0, r.1)

abbrev pub Evaluating : List CoreExpr → ℕ → Around → ℕ → List Value → Env → Env → Type 0
Evaluating all i g n vs e0 e = all_values (exprs_of all) g n e0 ≡ behind vs (all_values (exprs_of (drop i all)) g n e)

-- arguments, each in its formal's type

abbrev pub Passing : List Argument → ℕ → Around → ℕ → List Value → Env → Env → Type 0
Passing all i g n vs e0 e = arg_values (args_of all) g n e0 ≡ behind vs (arg_values (args_of (drop i all)) g n e)

-- lists of statements

abbrev pub Running : List CoreStmt → ℕ → Around → ℕ → Env → Env → Type 0
Running all i g n e0 e = run_all (stmts_of all) g n e0 ≡ run_all (stmts_of (drop i all)) g n e

-- bodies, branches and loops

pub inside_means : (body : Runs) (e e1 z : Env) (s : Signal) → body e ≡ (s, e1) → z ≡ cut_to e e1 → inside body e ≡ (s, z)
inside_means body e e1 z s h k = ap (λ r. (r.0, cut_to e r.1)) h ∙ ap (λ q. (s, q)) (sym k)

module _ (n : ℕ) (u : Bool) (t : Gives Value) (step body : Runs) (e e1 : Env) (v : Value) (h : t e ≡ (v, e1)) where
  begun : loop (suc n) u t step body e ≡ cond (is_true v) (cond (nat_lt 0 (budget u e1)) (round (body (spend u e1)) step (loop n u t step body)) (Next, e1)) (Next, e1)
  begun = ap (λ x. cond (is_true x.0) (cond (nat_lt 0 (budget u x.1)) (round (body (spend u x.1)) step (loop n u t step body)) (Next, x.1)) (Next, x.1)) h

  pub loop_stops : is_true v ≡ false → loop (suc n) u t step body e ≡ (Next, e1)
  loop_stops k = begun ∙ ap (λ b. cond b (cond (nat_lt 0 (budget u e1)) (round (body (spend u e1)) step (loop n u t step body)) (Next, e1)) (Next, e1)) k

  pub loop_spent : is_true v ≡ true → nat_lt 0 (budget u e1) ≡ false → loop (suc n) u t step body e ≡ (Next, e1)
  loop_spent k b =
      begun ∙ ap (λ c. cond c (cond (nat_lt 0 (budget u e1)) (round (body (spend u e1)) step (loop n u t step body)) (Next, e1)) (Next, e1)) k
      ∙ ap (λ c. cond c (round (body (spend u e1)) step (loop n u t step body)) (Next, e1)) b

  pub loop_turns : is_true v ≡ true → nat_lt 0 (budget u e1) ≡ true → loop (suc n) u t step body e ≡ round (body (spend u e1)) step (loop n u t step body)
  loop_turns k b =
      begun ∙ ap (λ c. cond c (cond (nat_lt 0 (budget u e1)) (round (body (spend u e1)) step (loop n u t step body)) (Next, e1)) (Next, e1)) k
      ∙ ap (λ c. cond c (round (body (spend u e1)) step (loop n u t step body)) (Next, e1)) b

-- the turns behind, before those that are left
abbrev pub turns : CoreLoop → Around → ℕ → ℕ → Runs
turns l g n k e = loop k l.uniform (value (expr_of l.test) g n) (run_all (stmts_of l.step) g n) (inside (run_all (stmts_of l.body) g n)) e

abbrev pub Looping : CoreLoop → ℕ → Around → ℕ → Env → Env → Type 0
Looping l i g n e0 e = turns l g n n e0 ≡ turns l g n (n - i) e

round_is : (s : Signal) (e : Env) (step go : Runs) → round (s, e) step go ≡ cond (is_break s) (Next, e) (go (step e).1)
round_is Next e step go = refl
round_is Break e step go = refl
round_is Continue e step go = refl

round_by : (s : Signal) (e : Env) (step go : Runs) (b : Bool) → is_break s ≡ b → round (s, e) step go ≡ cond b (Next, e) (go (step e).1)
round_by s e step go b h = round_is s e step go ∙ ap (λ c. cond c (Next, e) (go (step e).1)) h

pub cut_is : (e1 e2 z : Env) (k : ℕ) → z ≡ record e2 { values = take k e2.values } → k ≡ length e1.values → z ≡ cut_to e1 e2
cut_is e1 e2 z k h is = h ∙ ap (λ j. record e2 { values = take j e2.values }) is

module _ (l : CoreLoop) (i : ℕ) (g : Around) (n : ℕ) (e0 e e1 : Env) (v : Value) (so_far : Looping l i g n e0 e) (more : i < n) (h : value (expr_of l.test) g n e ≡ (v, e1)) where
  one_more : turns l g n n e0 ≡ turns l g n (suc (n - (i + 1))) e
  one_more = let k : n - i ≡ suc (n - (i + 1)) = omega arith in so_far ∙ ap (λ k. turns l g n k e) k

  abbrev turn_test : Gives Value
  turn_test = value (expr_of l.test) g n

  abbrev turn_step : Runs
  turn_step = run_all (stmts_of l.step) g n

  abbrev turn_body : Runs
  turn_body = inside (run_all (stmts_of l.body) g n)

  pub looping_stop : is_true v ≡ false → turns l g n n e0 ≡ (Next, e1)
  looping_stop k = one_more ∙ loop_stops (n - (i + 1)) l.uniform turn_test turn_step turn_body e e1 v h k

  module _ (r : Bool) (b : Env) (holds : is_true v ≡ true) (left : r ≡ nat_lt 0 (budget l.uniform e1)) (spent : b ≡ cond r (spend l.uniform e1) e1) where
    pub looping_spent : r ≡ false → turns l g n n e0 ≡ (Next, b)
    looping_spent k =
        one_more ∙ loop_spent (n - (i + 1)) l.uniform turn_test turn_step turn_body e e1 v h holds (sym left ∙ k) ∙
        ap (λ q. (Next, q)) (sym (spent ∙ ap (λ q. cond q (spend l.uniform e1) e1) k))

    module _ (e2 z : Env) (s : Signal) (k : r ≡ true) (ran : run_all (stmts_of l.body) g n b ≡ (s, e2)) (cut : z ≡ cut_to b e2) where
      turned : turns l g n n e0 ≡ round (s, z) turn_step (turns l g n (n - (i + 1)))
      turned =
          one_more ∙ loop_turns (n - (i + 1)) l.uniform turn_test turn_step turn_body e e1 v h holds (sym left ∙ k) ∙
          ap (λ q. round (turn_body q) turn_step (turns l g n (n - (i + 1)))) (sym (spent ∙ ap (λ q. cond q (spend l.uniform e1) e1) k)) ∙
          ap (λ q. round q turn_step (turns l g n (n - (i + 1)))) (inside_means (run_all (stmts_of l.body) g n) b e2 z s ran cut)

      pub looping_left : is_break s ≡ true → turns l g n n e0 ≡ (Next, z)
      looping_left q = turned ∙ round_by s z turn_step (turns l g n (n - (i + 1))) true q

      pub looping_on : (s' : Signal) (e3 : Env) → is_break s ≡ false → run_all (stmts_of l.step) g n z ≡ (s', e3) → Looping l (i + 1) g n e0 e3
      looping_on s' e3 q hs = turned ∙ round_by s z turn_step (turns l g n (n - (i + 1))) false q ∙ ap (λ y. turns l g n (n - (i + 1)) y.1) hs

-- statements

module _ (g : Around) (n : ℕ) (e e1 : Env) (v : Value) where
  pub declare_means : (u : Bool) (kind : SlType) (a : Expr) (w : Value) (z : Env) → value a g n e ≡ (v, e1) → w ≡ as_kind kind v → z ≡ declared w e1 → run (C.declare u kind a) g n e ≡ (Next, z)
  declare_means u kind a w z h hw hz =
      ap (λ x. (Next, declared (as_kind kind x.0) x.1)) h ∙ ap (λ q. (Next, declared q e1)) (sym hw) ∙ ap (λ q. (Next, q)) (sym hz)

  pub assign_means : (x : Variable) (kind : SlType) (a : Expr) (w : Value) (z : Env) → value a g n e ≡ (v, e1) → w ≡ as_kind kind v → z ≡ with_variable x w e1 → run (C.assign x kind a) g n e ≡ (Next, z)
  assign_means x kind a w z h hw hz =
      ap (λ y. (Next, with_variable x (as_kind kind y.0) y.1)) h ∙ ap (λ q. (Next, with_variable x q e1)) (sym hw) ∙ ap (λ q. (Next, q)) (sym hz)

  either_by : (t : Expr) (a b : Stmts) (holds : Bool) → value t g n e ≡ (v, e1) → is_true v ≡ holds →
      run (C.test t a b) g n e ≡ cond holds (inside (run_all a g n) e1) (inside (run_all b g n) e1)
  either_by t a b holds h k =
      ap (λ x. cond (is_true x.0) (inside (run_all a g n) x.1) (inside (run_all b g n) x.1)) h ∙
      ap (λ q. cond q (inside (run_all a g n) e1) (inside (run_all b g n) e1)) k

  pub then_means : (t : Expr) (a b : Stmts) (e2 z : Env) (s : Signal) → value t g n e ≡ (v, e1) → is_true v ≡ true →
      run_all a g n e1 ≡ (s, e2) → z ≡ cut_to e1 e2 → run (C.test t a b) g n e ≡ (s, z)
  then_means t a b e2 z s h k hr hz = either_by t a b true h k ∙ inside_means (run_all a g n) e1 e2 z s hr hz

  pub else_means : (t : Expr) (a b : Stmts) (e2 z : Env) (s : Signal) → value t g n e ≡ (v, e1) → is_true v ≡ false →
      run_all b g n e1 ≡ (s, e2) → z ≡ cut_to e1 e2 → run (C.test t a b) g n e ≡ (s, z)
  else_means t a b e2 z s h k hr hz = either_by t a b false h k ∙ inside_means (run_all b g n) e1 e2 z s hr hz
