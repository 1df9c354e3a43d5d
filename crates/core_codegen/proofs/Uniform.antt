-- In uniform control the code gives the grid what the tree means there.
use Rattle.std.proofs.Common.{◌≡◌, ℕ, zero, suc, ◌+◌, ◌*◌, ◌<◌, ◌≤◌, Bool, true, false, cond, List, [], ◌∷◌, ◌++◌, length, refl, sym, ◌∙◌, arith, subst}
use Rattle.std.proofs.lemmas.Bool.{cond_both, and_right, not_from_true}
use Rattle.std.specs.Prelude.{not, nat_lt}
use Rattle.sl_ast.specs.declared.typed.Value.{Value}
use Rattle.builtins.specs.declared.shape.Shape.{Shape}
use Rattle.builtins.specs.Values.{is_true, shape_of}
use Rattle.builtins.specs.Shapes.{shape}
use Rattle.grid_code.specs.Names.{reg, first_free}
use Rattle.grid_code.specs.Code as k
use Rattle.grid_code.specs.Masked.{Ground, State, masked}
use Rattle.sl_meaning.specs.Core.{Slot, slot, Expr, literal, read, apply, differ, sum, texture, call, Exprs, none, more, Arguments, no_arguments, argument, Stmt, declare, assign, block, test, repeat, lights, leave, again, Stmts, done, first, formals, after, after_all, is_uniform}
use Rattle.sl_meaning.specs.Environment.{Around, Signal, Next, Break, Continue, spend}
use Rattle.sl_meaning.specs.Alone.{Runs, inside}
use Rattle.sl_meaning.specs.CoreAlone.{value, run, run_all}
use Rattle.sl_meaning.specs.Grid.{Envs, GivesAll, RunsAll, next_all, inside_all, choice_all, round_all, loop_all, loops_all}
use Rattle.sl_meaning.specs.CoreGrid.{values, all_of, args_of, grid, grid_all}
use Rattle.core_codegen.specs.Compile.{at, place, operand_at, operand_code, all_at, shape_in, into, expr_code, exprs_code, args_code, locals, all_locals, behind, stmt_code, all_code}
use Rattle.core_codegen.specs.Variables.{variable}
use Rattle.core_codegen.specs.Correct.{IsGround}
use Rattle.core_codegen.specs.Fine.{Stays, StaysAll, FineAll, When, GridExpr, GridExprs, GridArgs, GridStmt, GridAll}
use Rattle.grid_code.proofs.Dead.{dead}
use Rattle.grid_code.proofs.Asleep.{AllDead, Asleep, asleep, asleep_self}
use Rattle.grid_code.proofs.Then.{then_runs}
use Rattle.core_codegen.proofs.Relation.{rel_masks}
use Rattle.core_codegen.proofs.Scopes.{after_long, extends_stmt, extends_all, StmtStep, BodyStep, inside_step}
use Rattle.core_codegen.proofs.Loops.{loop_step}
use Rattle.core_codegen.proofs.Varying.{loop_next, over_next, stays_all, call_uniform, expr_ok, all_ok}
use Rattle.core_codegen.proofs.Operands.{of_operand, place_free, grid_place}
use Rattle.core_codegen.proofs.Everywhere.{AllExpr, AllExprs, all_low_self, all_literal, all_read, all_held, all_none, all_more, all_apply, all_sum, all_differ, all_texture}
use Rattle.core_codegen.proofs.Lands.{AllStmt, AllBody, AllArgs, all_seq, all_inside, all_block, all_no_args, all_arg, all_call, all_declare}
use Rattle.core_codegen.proofs.Everyone.{all_assign, all_one, all_parts, all_lights, all_each}
use Rattle.core_codegen.proofs.Rounds.{all_loop}

round_all_next : (x : Signal) (es : Envs) (step go : RunsAll) → ((es : Envs) → (go es).0 ≡ Next) → (round_all (x, es) step go).0 ≡ Next
round_all_next Next es step go h = h (step es).1
round_all_next Break es step go h = refl
round_all_next Continue es step go h = h (step es).1

loop_all_next : (n : ℕ) (t : GivesAll Value) (step body : RunsAll) (es : Envs) → (loop_all n t step body es).0 ≡ Next
loop_all_next zero t step body es = refl
loop_all_next (suc n) t step body es =
    let x = t es in
    let y = body (λ i. spend true (x.1 i)) in
    cond_both (is_true (x.0 0)) (cond (nat_lt 0 (x.1 0).turns) (round_all y step (loop_all n t step body)) (Next, x.1)) (Next, x.1) (λ r. r.0 ≡ Next)
    (λ h. cond_both (nat_lt 0 (x.1 0).turns) (round_all y step (loop_all n t step body)) (Next, x.1) (λ r. r.0 ≡ Next) (λ h. round_all_next y.0 y.1 step (loop_all n t step body) (loop_all_next n t step body)) (λ h. refl))
    (λ h. refl)

next_all_next : (x : Signal) (es : Envs) (go : RunsAll) → x ≡ Next → ((es : Envs) → (go es).0 ≡ Next) → (next_all (x, es) go).0 ≡ Next
next_all_next Next es go h k = k es
next_all_next Break es go h k = cc
next_all_next Continue es go h k = cc

choice_next : (u : Bool) (t : GivesAll Value) (ga gb : RunsAll) (sa sb : Runs) (es : Envs) → ((es : Envs) → (ga es).0 ≡ Next) → ((es : Envs) → (gb es).0 ≡ Next) → (choice_all u t ga gb sa sb es).0 ≡ Next
choice_next true t ga gb sa sb es ha hb = let x = t es in cond_both (is_true (x.0 0)) (ga x.1) (gb x.1) (λ r. r.0 ≡ Next) (λ q. ha x.1) (λ q. hb x.1)
choice_next false t ga gb sa sb es ha hb = refl

loops_next : (u : Bool) (n : ℕ) (t : GivesAll Value) (step body : RunsAll) (s : Runs) (es : Envs) → (loops_all u n t step body s es).0 ≡ Next
loops_next true n t step body s es = loop_all_next n t step body es
loops_next false n t step body s es = refl

mutual
  pub all_stays : (s : Stmt) (ss : List Slot) (a : Around) (n : ℕ) (es : Envs) → Stays s → (grid s ss a n es).0 ≡ Next
  all_stays (declare u kind x) ss a n es h = refl
  all_stays (assign x kind y) ss a n es h = refl
  all_stays (block s) ss a n es h = all_stay s ss a n es h
  all_stays (test t x y) ss a n es h =
      choice_next (is_uniform t ss) (values t a n) (inside_all (grid_all x ss a n)) (inside_all (grid_all y ss a n)) (inside (run_all x a n)) (inside (run_all y a n)) es (λ e. all_stay x ss a n e h.0) (λ e. all_stay y ss a n e h.1)
  all_stays (repeat u t step s) ss a n es h =
      loops_next u n (values t a n) (grid_all step ss a n) (inside_all (grid_all s ss a n)) (run (repeat false t step s) a n) es
  all_stays (lights w args s) ss a n es h = refl
  all_stays leave ss a n es h = absurd h
  all_stays again ss a n es h = absurd h

  pub all_stay : (s : Stmts) (ss : List Slot) (a : Around) (n : ℕ) (es : Envs) → StaysAll s → (grid_all s ss a n es).0 ≡ Next
  all_stay done ss a n es h = refl
  all_stay (first s rest) ss a n es h = next_all_next (grid s ss a n es).0 (grid s ss a n es).1 (grid_all rest (after s ss) a n) (all_stays s ss a n es h.0) (λ e2. all_stay rest (after s ss) a n e2 h.1)

module _ (c n : ℕ) (g0 : Ground) (a : Around) (ground : IsGround c g0 a) (size : c ≡ a.lines.columns * a.lines.rows) (wide : 2 ≤ a.lines.columns) (tall : 2 ≤ a.lines.rows) (pos : 0 < c) where
  leave_all : (ss : List Slot) (b top : ℕ) (g : State) → first_free ≤ b → AllStmt c ss ss b (grid leave ss a n) g (masked (stmt_code leave ss b top) g0 c n g)
  leave_all ss b top g free =
      record {
        low = record { shared = λ t k f h. refl; rows = λ t k i h f l. refl };
        asleep = λ h. asleep (k.breaks k.end) g0 c n g h;
        runs = λ es y. record {
          out = record { live = λ i l. refl; rel = λ i l. rel_masks i ss b (es i) g _ _ free (y.rel i l); long = λ i l. let e = y.exact i l in omega arith };
          staying = λ i l. and_right (g.staying i) (not (g.live i)) (not_from_true (g.live i) (y.live i l));
        };
      }

  again_all : (ss : List Slot) (b top : ℕ) (g : State) → first_free ≤ b → AllStmt c ss ss b (grid again ss a n) g (masked (stmt_code again ss b top) g0 c n g)
  again_all ss b top g free =
      record {
        low = record { shared = λ t k f h. refl; rows = λ t k i h f l. refl };
        asleep = λ h. asleep (k.continues k.end) g0 c n g h;
        runs = λ es y. record {
          out = record { live = λ i l. refl; rel = λ i l. rel_masks i ss b (es i) g _ _ free (y.rel i l); long = λ i l. let e = y.exact i l in omega arith };
          staying = λ i l. refl;
        };
      }

  done_all : (ss : List Slot) (b : ℕ) (g : State) → AllStmt c ss ss b (grid_all done ss a n) g g
  done_all ss b g = record { low = all_low_self c b g; asleep = λ h. asleep_self c g h; runs = λ es y. record { ready = y; staying = λ i l. refl } }

  -- a block in varying control, at one place
  body_at : (i : ℕ) → i < c → (s : Stmts) (ss : List Slot) (b top : ℕ) → first_free ≤ b → b + length ss + all_locals s ≤ top → FineAll s ss → (x : State) → BodyStep i ss b (inside (run_all s a n)) x (masked (all_code s ss b top) g0 c n x)
  body_at i l s ss b top free room h x = inside_step i (after_all s ss) ss b (run_all s a n) x _ (extends_all s ss) (all_ok c n i l g0 a ground s ss b top x h free room)

  choice_all_ok : (u : Bool) (sh : Shape) (t : Expr) (x y : Stmts) (ss : List Slot) (b top : ℕ) (g g1 : State) → first_free ≤ b → b + length ss + (all_locals x + all_locals y) ≤ top → AllExpr c ss b (b + length ss) (reg u sh (b + length ss)) (values t a n) g g1 → (AllDead c g.live → Asleep c g g1) → (AllDead c g.live → Asleep c g (masked (k.branch (reg u sh (b + length ss)) (all_code x ss b top) (all_code y ss b top) k.end) g0 c n g1)) → (GridAll x ss → (s : State) → AllBody c ss b (inside_all (grid_all x ss a n)) s (masked (all_code x ss b top) g0 c n s)) → (GridAll y ss → (s : State) → AllBody c ss b (inside_all (grid_all y ss a n)) s (masked (all_code y ss b top) g0 c n s)) → When u (GridAll x ss × GridAll y ss) ((FineAll x ss × StaysAll x) × (FineAll y ss × StaysAll y)) → AllStmt c ss ss b (choice_all u (values t a n) (inside_all (grid_all x ss a n)) (inside_all (grid_all y ss a n)) (inside (run_all x a n)) (inside (run_all y a n))) g (masked (k.branch (reg u sh (b + length ss)) (all_code x ss b top) (all_code y ss b top) k.end) g0 c n g1)
  choice_all_ok true sh t x y ss b top g g1 free room st sl sleeps ha hb h =
      all_one c pos ss b free (b + length ss) sh (values t a n) (inside_all (grid_all x ss a n)) (inside_all (grid_all y ss a n)) (inside (run_all x a n)) (inside (run_all y a n)) (masked (all_code x ss b top) g0 c n) (masked (all_code y ss b top) g0 c n) g g1 (omega arith) st sl (ha h.0) (hb h.1)
  choice_all_ok false sh t x y ss b top g g1 free room st sl sleeps ha hb h =
      all_parts c pos ss b free (b + length ss) sh (values t a n) (inside_all (grid_all x ss a n)) (inside_all (grid_all y ss a n)) (inside (run_all x a n)) (inside (run_all y a n)) (masked (all_code x ss b top) g0 c n) (masked (all_code y ss b top) g0 c n) g g1 (omega arith) st sleeps
      (λ e. stays_all x a n e h.0.1) (λ e. stays_all y a n e h.1.1) (λ i l s. body_at i l x ss b top free (omega arith) h.0.0 s) (λ i l s. body_at i l y ss b top free (omega arith) h.1.0 s)

  repeat_all_ok : (u : Bool) (t : Expr) (e s : Stmts) (ss : List Slot) (b top : ℕ) (g : State) → first_free ≤ b → b + length ss + (all_locals e + all_locals s) ≤ top → (GridExpr t ss → (x : State) → AllExpr c ss b (b + length ss) (at t ss (b + length ss)) (values t a n) x (masked (expr_code t ss b (b + length ss)) g0 c n x)) → (GridAll e ss → (x : State) → AllStmt c (after_all e ss) ss b (grid_all e ss a n) x (masked (all_code e ss b top) g0 c n x)) → (GridAll s ss → (x : State) → AllBody c ss b (inside_all (grid_all s ss a n)) x (masked (all_code s ss b top) g0 c n x)) → GridStmt (repeat u t e s) ss → AllStmt c ss ss b (grid (repeat u t e s) ss a n) g (masked (stmt_code (repeat u t e s) ss b top) g0 c n g)
  repeat_all_ok true t e s ss b top g free room ht he hb h =
      let m = b + length ss in
      let sh = shape_in t ss in
      let step : (x : State) → AllExpr c ss b m (reg true sh m) (values t a n) x (masked (expr_code t ss b m) g0 c n x) = λ x. subst (λ u. AllExpr c ss b m (reg u sh m) (values t a n) x (masked (expr_code t ss b m) g0 c n x)) h.0 (ht h.1.0 x) in
      subst (λ u. AllStmt c ss ss b (grid (repeat true t e s) ss a n) g (masked (k.loops true (expr_code t ss b m) (reg u sh m) (all_code e ss b top) (all_code s ss b top) k.end) g0 c n g)) (sym h.0)
      (all_loop c pos ss b free m sh (values t a n) (grid_all e ss a n) (inside_all (grid_all s ss a n)) (masked (expr_code t ss b m) g0 c n) (masked (all_code e ss b top) g0 c n) (masked (all_code s ss b top) g0 c n) (omega arith) step (λ x d. asleep (expr_code t ss b m) g0 c n x d) (λ x. subst (λ z. AllStmt c z ss b (grid_all e ss a n) x (masked (all_code e ss b top) g0 c n x)) h.1.1.0.1.1 (he h.1.1.0.0 x)) (λ es. all_stay e ss a n es h.1.1.0.1.0) (hb h.1.1.1) n (run (repeat false t e s) a n) g)
  repeat_all_ok false t e s ss b top g free room ht he hb h =
      let m = b + length ss in
      all_each c pos ss b free (run (repeat false t e s) a n) n (values t a n) (grid_all e ss a n) (inside_all (grid_all s ss a n)) g _ (λ d. asleep (stmt_code (repeat false t e s) ss b top) g0 c n g d) (λ e2. loop_next n false (value t a n) (run_all e a n) (inside (run_all s a n)) e2)
      (λ i l. loop_step c i l ss b free (at t ss m) (value t a n) (run_all e a n) (inside (run_all s a n)) (masked (expr_code t ss b m) g0 c n) (masked (all_code e ss b top) g0 c n) (masked (all_code s ss b top) g0 c n)
      (λ x. expr_ok c n i l g0 a ground t ss b m x h.0 free (omega arith)) (λ x d. dead (expr_code t ss b m) g0 c n i x d) (λ x. subst (λ z. StmtStep i z ss b (run_all e a n) x (masked (all_code e ss b top) g0 c n x)) h.1.0.1.1 (all_ok c n i l g0 a ground e ss b top x h.1.0.0 free (omega arith))) (λ e2. stays_all e a n e2 h.1.0.1.0) (λ x. body_at i l s ss b top free (omega arith) h.1.1 x) n g)

  operand_all : (e : Expr) (ss : List Slot) (b r : ℕ) (g : State) → GridExpr e ss → first_free ≤ b → AllExpr c ss b r (at e ss r) (values e a n) g (masked (expr_code e ss b r) g0 c n g) → AllExpr c ss b r (operand_at e ss b r) (values e a n) g (masked (operand_code e (expr_code e ss b r)) g0 c n g)
  operand_all e ss b r g h free made =
      of_operand (λ z q y. GridExpr z ss → AllExpr c ss b r (reg (is_uniform z ss) (shape_in z ss) q) (values z a n) g (masked y g0 c n g)) e b r (expr_code e ss b r) (λ k in_scope. all_held c ss b free r k g in_scope) (λ fine. made) h

  mutual
    pub expr_all : (e : Expr) (ss : List Slot) (b r : ℕ) (g : State) → GridExpr e ss → first_free ≤ b → b + length ss ≤ r → AllExpr c ss b r (at e ss r) (values e a n) g (masked (expr_code e ss b r) g0 c n g)
    expr_all (literal v) ss b r g h free fit = all_literal c ss b free r v (shape v) g0 g fit
    expr_all (read x) ss b r g h free fit = all_read c ss b free r x (shape_in (read x) ss) g0 g fit h
    expr_all (apply op args) ss b r g h free fit =
        subst (λ s. AllExpr c ss b r (at (apply op args) ss r) (values (apply op args) a n) g s) (sym (then_runs (exprs_code args ss b r) _ g0 c n g))
        (all_apply c ss b free g0 a ground op args r (shape_in (apply op args) ss) (all_of args a n) g _ fit (exprs_all args ss b r g h free fit))
    expr_all (differ d e) ss b r g h free fit =
        subst (λ s. AllExpr c ss b r (at (differ d e) ss r) (values (differ d e) a n) g s) (sym (then_runs (expr_code e ss b r) _ g0 c n g))
        (all_differ c ss b free g0 a ground size wide tall d (is_uniform e ss) (shape_in (differ d e) ss) (shape_in e ss) r (values e a n) g _ fit (expr_all e ss b r g h free fit))
    expr_all (sum w args) ss b r g h free fit =
        subst (λ s. AllExpr c ss b r (at (sum w args) ss r) (values (sum w args) a n) g s) (sym (then_runs (exprs_code args ss b r) _ g0 c n g))
        (all_sum c ss b free g0 a ground w (all_at args ss b r) r (shape_in (sum w args) ss) (all_of args a n) g _ fit (exprs_all args ss b r g h free fit))
    expr_all (texture m args) ss b r g h free fit =
        subst (λ s. AllExpr c ss b r (at (texture m args) ss r) (values (texture m args) a n) g s) (sym (then_runs (exprs_code args ss b r) _ g0 c n g))
        (all_texture c ss b free g0 a ground size wide tall m args r (shape_in (texture m args) ss) (all_of args a n) g _ fit (exprs_all args ss b r g h free fit))
    expr_all (call args body kind e) ss b r g h free fit =
        let fs = formals args in
        let ss2 = after_all body fs in
        let g1 = masked (args_code args ss b r) g0 c n g in
        let g2 = masked (all_code body fs r (behind fs r body)) g0 c n g1 in
        subst (λ s. AllExpr c ss b r (at (call args body kind e) ss r) (values (call args body kind e) a n) g s) (sym (then_runs (args_code args ss b r) _ g0 c n g ∙ then_runs (all_code body fs r (behind fs r body)) _ g0 c n g1 ∙ then_runs (expr_code e ss2 r (r + length ss2)) _ g0 c n g2))
        (all_call c g0 ss b free r fs ss2 (is_uniform (call args body kind e) ss) (is_uniform e ss2) (shape_of kind) (shape_in e ss2) kind (args_of args a n) (grid_all body fs a n) (values e a n) g g1 g2 _ fit (call_uniform args body e ss) (λ es. all_stay body fs a n es h.1.1.0)
        (args_all args ss b r g h.0 free fit) (all_all body fs r (behind fs r body) g1 h.1.0 (omega arith) (omega arith)) (expr_all e ss2 r (r + length ss2) g2 h.1.1.1 (omega arith) (omega arith)))

    pub exprs_all : (es : Exprs) (ss : List Slot) (b r : ℕ) (g : State) → GridExprs es ss → first_free ≤ b → b + length ss ≤ r → AllExprs c ss b r (all_at es ss b r) (all_of es a n) g (masked (exprs_code es ss b r) g0 c n g)
    exprs_all none ss b r g h free fit = all_none c ss b free r g
    exprs_all (more e rest) ss b r g h free fit =
        let code = operand_code e (expr_code e ss b r) in
        let g1 = masked code g0 c n g in
        let q = place e b r in
        subst (λ s. AllExprs c ss b r (all_at (more e rest) ss b r) (all_of (more e rest) a n) g s) (sym (then_runs code (exprs_code rest ss b (r + 1)) g0 c n g))
        (all_more c ss b free r q (is_uniform e ss) (shape_in e ss) (all_at rest ss b (r + 1)) (values e a n) (all_of rest a n) g g1 _ (place_free e b r free (omega arith)) (grid_place e ss b r fit h.0) (operand_all e ss b r g h.0 free (expr_all e ss b r g h.0 free fit)) (exprs_all rest ss b (r + 1) g1 h.1 free (omega arith)))

    pub args_all : (xs : Arguments) (ss : List Slot) (b r : ℕ) (g : State) → GridArgs xs ss → first_free ≤ b → b + length ss ≤ r → AllArgs c ss b r (formals xs) (args_of xs a n) g (masked (args_code xs ss b r) g0 c n g)
    args_all no_arguments ss b r g h free fit = all_no_args c ss b r g
    args_all (argument u kind e rest) ss b r g h free fit =
        let g1 = masked (expr_code e ss b r) g0 c n g in
        let g2 = masked (into (reg u (shape_of kind) r) kind (at e ss r)) g0 c n g1 in
        subst (λ s. AllArgs c ss b r (formals (argument u kind e rest)) (args_of (argument u kind e rest) a n) g s) (sym (then_runs (expr_code e ss b r) _ g0 c n g ∙ then_runs (into (reg u (shape_of kind) r) kind (at e ss r)) (args_code rest ss b (r + 1)) g0 c n g1))
        (all_arg c g0 ss b free r (is_uniform e ss) u (shape_in e ss) kind (formals rest) (values e a n) (args_of rest a n) g g1 _ fit h.1.0 (expr_all e ss b r g h.0 free fit) (args_all rest ss b (r + 1) g2 h.1.1 free (omega arith)))

    pub stmt_all : (s : Stmt) (ss : List Slot) (b top : ℕ) (g : State) → GridStmt s ss → first_free ≤ b → b + length ss + locals s ≤ top → AllStmt c (after s ss) ss b (grid s ss a n) g (masked (stmt_code s ss b top) g0 c n g)
    stmt_all (declare u kind e) ss b top g h free room =
        let m = b + length ss in
        let g1 = masked (expr_code e ss b m) g0 c n g in
        let q = then_runs (expr_code e ss b m) (into (reg u (shape_of kind) m) kind (at e ss m)) g0 c n g in
        subst (λ s. AllStmt c (ss ++ (slot u kind ∷ [])) ss b (grid (declare u kind e) ss a n) g s) (sym q)
        (all_declare c g0 ss b free (is_uniform e ss) u (shape_in e ss) kind (values e a n) g g1 h.1 (λ l. subst (λ s. Asleep c g s) q (asleep (stmt_code (declare u kind e) ss b top) g0 c n g l)) (expr_all e ss b m g h.0 free (omega arith)))
    stmt_all (assign x kind e) ss b top g h free room =
        let fit : b + length ss ≤ top = (let r : b + length ss + 0 ≤ top = room in omega arith) in
        let g1 = masked (expr_code e ss b top) g0 c n g in
        let q = then_runs (expr_code e ss b top) (into (variable ss b x) kind (at e ss top)) g0 c n g in
        subst (λ s. AllStmt c ss ss b (grid (assign x kind e) ss a n) g s) (sym q)
        (all_assign c pos ss b free g0 top fit x (is_uniform e ss) (shape_in e ss) kind (values e a n) g g1 h.1.0 h.1.1 (λ l. subst (λ s. Asleep c g s) q (asleep (stmt_code (assign x kind e) ss b top) g0 c n g l)) (expr_all e ss b top g h.0 free fit))
    stmt_all (block s) ss b top g h free room = all_block c ss b (inside_all (grid_all s ss a n)) g _ (all_inside c (after_all s ss) ss b (grid_all s ss a n) g _ (extends_all s ss) (all_all s ss b top g h free room))
    stmt_all (test t x y) ss b top g h free room =
        let m = b + length ss in
        let g1 = masked (expr_code t ss b m) g0 c n g in
        let q = then_runs (expr_code t ss b m) (k.branch (at t ss m) (all_code x ss b top) (all_code y ss b top) k.end) g0 c n g in
        subst (λ s. AllStmt c ss ss b (grid (test t x y) ss a n) g s) (sym q)
        (choice_all_ok (is_uniform t ss) (shape_in t ss) t x y ss b top g g1 free room (expr_all t ss b m g h.0 free (omega arith)) (λ l. asleep (expr_code t ss b m) g0 c n g l) (λ l. subst (λ s. Asleep c g s) q (asleep (stmt_code (test t x y) ss b top) g0 c n g l))
        (λ f s. all_inside c (after_all x ss) ss b (grid_all x ss a n) s _ (extends_all x ss) (all_all x ss b top s f free (let r : b + length ss + (all_locals x + all_locals y) ≤ top = room in omega arith))) (λ f s. all_inside c (after_all y ss) ss b (grid_all y ss a n) s _ (extends_all y ss) (all_all y ss b top s f free (let r : b + length ss + (all_locals x + all_locals y) ≤ top = room in omega arith))) h.1)
    stmt_all (repeat u t e s) ss b top g h free room =
        repeat_all_ok u t e s ss b top g free room (λ f x. expr_all t ss b (b + length ss) x f free (omega arith)) (λ f x. all_all e ss b top x f free (let r : b + length ss + (all_locals e + all_locals s) ≤ top = room in omega arith))
        (λ f x. all_inside c (after_all s ss) ss b (grid_all s ss a n) x _ (extends_all s ss) (all_all s ss b top x f free (let r : b + length ss + (all_locals e + all_locals s) ≤ top = room in omega arith))) h
    stmt_all (lights w args s) ss b top g h free room =
        let m = b + length ss in
        let g1 = masked (exprs_code args ss b m) g0 c n g in
        let q = then_runs (exprs_code args ss b m) (k.lights w (all_at args ss b m) (all_code s ss b top) k.end) g0 c n g in
        subst (λ v. AllStmt c ss ss b (grid (lights w args s) ss a n) g v) (sym q)
        (all_lights c pos ss b free w g0 a ground m (all_at args ss b m) (all_of args a n) (inside (run_all s a n)) (masked (all_code s ss b top) g0 c n) g g1 (omega arith) (exprs_all args ss b m g h.0 free (omega arith)) (λ l. subst (λ v. Asleep c g v) q (asleep (stmt_code (lights w args s) ss b top) g0 c n g l))
        (λ vs e. over_next w a vs (inside (run_all s a n)) e (λ e2. stays_all s a n e2 h.1.1)) (λ i l x. body_at i l s ss b top free room h.1.0 x))
    stmt_all leave ss b top g h free room = leave_all ss b top g free
    stmt_all again ss b top g h free room = again_all ss b top g free

    pub all_all : (s : Stmts) (ss : List Slot) (b top : ℕ) (g : State) → GridAll s ss → first_free ≤ b → b + length ss + all_locals s ≤ top → AllStmt c (after_all s ss) ss b (grid_all s ss a n) g (masked (all_code s ss b top) g0 c n g)
    all_all done ss b top g h free room = done_all ss b g
    all_all (first s rest) ss b top g h free room =
        let g1 = masked (stmt_code s ss b top) g0 c n g in
        let ss1 = after s ss in
        subst (λ v. AllStmt c (after_all (first s rest) ss) ss b (grid_all (first s rest) ss a n) g v) (sym (then_runs (stmt_code s ss b top) (all_code rest ss1 b top) g0 c n g))
        (all_seq c (after_all rest ss1) ss1 ss b (grid s ss a n) (grid_all rest ss1 a n) g g1 _ (extends_stmt s ss) (stmt_all s ss b top g h.0 free (let r : b + length ss + (locals s + all_locals rest) ≤ top = room in omega arith)) (all_all rest ss1 b top g1 h.1 free (let r : b + length ss + (locals s + all_locals rest) ≤ top = room in let a = after_long s ss in omega arith)))
