-- Under varying control the code gives each live place what the tree means there.
use Rattle.std.proofs.Common.{◌≡◌, ℕ, zero, suc, ◌+◌, ◌<◌, ◌≤◌, Bool, true, false, cond, List, [], ◌∷◌, ◌++◌, length, refl, sym, ◌∙◌, arith, subst}
use Rattle.std.proofs.lemmas.Bool.{cond_both, and_right, and_parts, not_from_true}
use Rattle.std.specs.Prelude.{not, ◌&&◌, nat_lt}
use Rattle.fixed_math.specs.Fixed.{sub}
use Rattle.fixed_math.specs.declared.vec3.Vec3.{Vec3}
use Rattle.sl_ast.specs.declared.kinds.LightStmt.{LightStmt}
use Rattle.sl_ast.specs.declared.kinds.LightStmt.TheVariants.{Illuminance, Illuminate, Solar}
use Rattle.sl_ast.specs.declared.kinds.Predefined.TheVariants as names
use Rattle.sl_ast.specs.declared.typed.Value.{Value}
use Rattle.builtins.specs.declared.shape.Shape.{Shape}
use Rattle.builtins.specs.Triples.{each_two}
use Rattle.builtins.specs.Values.{is_true, shape_of, triple_of}
use Rattle.builtins.specs.Lights.{is_in_cone}
use Rattle.builtins.specs.Shapes.{shape}
use Rattle.grid_code.specs.Names.{reg, first_free}
use Rattle.grid_code.specs.Code as k
use Rattle.grid_code.specs.Masked.{Ground, State, masked}
use Rattle.sl_meaning.specs.Core.{Slot, slot, Expr, literal, read, apply, differ, sum, texture, call, Exprs, none, more, Arguments, no_arguments, argument, Stmt, declare, assign, block, test, repeat, lights, leave, again, Stmts, done, first, formals, after, after_all, all_uniform, is_uniform, args_uniform, stmts_uniform}
use Rattle.sl_meaning.specs.Environment.{Env, Around, Signal, Next, Break, Continue, budget, spend}
use Rattle.sl_meaning.specs.Alone.{Gives, Runs, on_next, inside, round, loop, under_light, each_light, seen_from, lighting, over_lights}
use Rattle.sl_meaning.specs.CoreAlone.{value, all_values, arg_values, run, run_all}
use Rattle.core_codegen.specs.Compile.{at, place, operand_at, operand_code, all_at, shape_in, into, expr_code, exprs_code, args_code, locals, all_locals, behind, stmt_code, all_code}
use Rattle.core_codegen.specs.Variables.{variable}
use Rattle.core_codegen.specs.Correct.{IsGround}
use Rattle.core_codegen.specs.Fine.{Stays, StaysAll, FineExpr, FineExprs, FineArgs, FineStmt, FineAll}
use Rattle.grid_code.proofs.Dead.{Still, dead}
use Rattle.grid_code.proofs.Then.{then_runs}
use Rattle.core_codegen.proofs.Relation.{rel_masks}
use Rattle.core_codegen.proofs.Operands.{of_operand, place_free, fine_place}
use Rattle.core_codegen.proofs.Steps.{ExprStep, ExprsStep, literal_step, read_step, held_step, none_step, more_step, apply_step, sum_step}
use Rattle.core_codegen.proofs.Scopes.{after_long, extends_stmt, extends_all, StmtStep, BodyStep, inside_step, body_step, seq_step}
use Rattle.core_codegen.proofs.Stmts.{ArgsStep, no_args_step, arg_step, call_step, declare_step, assign_step}
use Rattle.core_codegen.proofs.Control.{parts_step, one_step}
use Rattle.core_codegen.proofs.Loops.{loop_step}
use Rattle.core_codegen.proofs.Lights.{lights_step}

round_next : (x : Signal) (e : Env) (step go : Runs) → ((e : Env) → (go e).0 ≡ Next) → (round (x, e) step go).0 ≡ Next
round_next Next e step go h = h (step e).1
round_next Break e step go h = refl
round_next Continue e step go h = h (step e).1

-- a statement that no break or continue leaves goes on
pub loop_next : (n : ℕ) (u : Bool) (t : Gives Value) (step body : Runs) (e : Env) → (loop n u t step body e).0 ≡ Next
loop_next zero u t step body e = refl
loop_next (suc n) u t step body e =
    let x = t e in
    cond_both (is_true x.0) (cond (nat_lt 0 (budget u x.1)) (round (body (spend u x.1)) step (loop n u t step body)) (Next, x.1)) (Next, x.1) (λ r. r.0 ≡ Next)
    (λ h. cond_both (nat_lt 0 (budget u x.1)) (round (body (spend u x.1)) step (loop n u t step body)) (Next, x.1) (λ r. r.0 ≡ Next)
    (λ h. round_next (body (spend u x.1)).0 (body (spend u x.1)).1 step (loop n u t step body) (loop_next n u t step body))
    (λ h. refl))
    (λ h. refl)

on_next_next : (x : Signal) (e : Env) (go : Runs) → x ≡ Next → ((e : Env) → (go e).0 ≡ Next) → (on_next (x, e) go).0 ≡ Next
on_next_next Next e go h k = k e
on_next_next Break e go h k = cc
on_next_next Continue e go h k = cc

each_next : (ls : List (Vec3 × Vec3)) (body : Runs) (e : Env) → ((e : Env) → (body e).0 ≡ Next) → (each_light ls body e).0 ≡ Next
each_next [] body e h = refl
each_next (l ∷ ls) body e h = on_next_next (body (under_light l e)).0 (body (under_light l e)).1 (each_light ls body) (h (under_light l e)) (λ e2. each_next ls body e2 h)

pub over_next : (w : LightStmt) (a : Around) (vs : List Value) (body : Runs) (e : Env) → ((e : Env) → (body e).0 ≡ Next) → (over_lights w a vs body e).0 ≡ Next
over_next Illuminance a vs body e h = each_next (seen_from a vs) body e h
over_next Illuminate a [] body e h = refl
over_next Illuminate a (place ∷ cone) body e h =
    let l = each_two sub (triple_of (e.named names.Ps)) (triple_of place) in
    cond_both (is_in_cone cone l) (lighting l body e) (Next, e) (λ r. r.0 ≡ Next) (λ q. h _) (λ q. refl)
over_next Solar a [] body e h = refl
over_next Solar a (axis ∷ angle) body e h = h _

mutual
  pub stays : (s : Stmt) (a : Around) (n : ℕ) (e : Env) → Stays s → (run s a n e).0 ≡ Next
  stays (declare u kind x) a n e h = refl
  stays (assign x kind y) a n e h = refl
  stays (block s) a n e h = stays_all s a n e h
  stays (test t s r) a n e h =
      cond_both (is_true (value t a n e).0) (inside (run_all s a n) (value t a n e).1) (inside (run_all r a n) (value t a n e).1) (λ r. r.0 ≡ Next) (λ q. stays_all s a n (value t a n e).1 h.0) (λ q. stays_all r a n (value t a n e).1 h.1)
  stays (repeat u t step s) a n e h = loop_next n u (value t a n) (run_all step a n) (inside (run_all s a n)) e
  stays (lights w args s) a n e h = over_next w a (all_values args a n e).0 (inside (run_all s a n)) (all_values args a n e).1 (λ e2. stays_all s a n e2 h)
  stays leave a n e h = absurd h
  stays again a n e h = absurd h

  pub stays_all : (s : Stmts) (a : Around) (n : ℕ) (e : Env) → StaysAll s → (run_all s a n e).0 ≡ Next
  stays_all done a n e h = refl
  stays_all (first s rest) a n e h = on_next_next (run s a n e).0 (run s a n e).1 (run_all rest a n) (stays s a n e h.0) (λ e2. stays_all rest a n e2 h.1)

-- a uniform call has a uniform result
pub call_uniform : (args : Arguments) (body : Stmts) (e : Expr) (ss : List Slot) → (args_uniform args ss && (all_uniform (formals args) && (stmts_uniform body (formals args) && is_uniform e (after_all body (formals args))))) ≡ true → is_uniform e (after_all body (formals args)) ≡ true
call_uniform args body e ss h = (and_parts (stmts_uniform body (formals args)) _ (and_parts (all_uniform (formals args)) _ (and_parts (args_uniform args ss) _ h).1).1).1

module _ (c n i : ℕ) (lt : i < c) (g0 : Ground) (a : Around) (ground : IsGround c g0 a) where
  choice_ok : (u : Bool) (sh : Shape) (t : Expr) (x y : Stmts) (ss : List Slot) (b top : ℕ) (g g1 : State) → first_free ≤ b → ExprStep i ss b (b + length ss) (reg u sh (b + length ss)) (value t a n) g g1 → (g.live i ≡ false → Still i g g1) → ((s : State) → BodyStep i ss b (inside (run_all x a n)) s (masked (all_code x ss b top) g0 c n s)) → ((s : State) → BodyStep i ss b (inside (run_all y a n)) s (masked (all_code y ss b top) g0 c n s)) → StmtStep i ss ss b (run (test t x y) a n) g (masked (k.branch (reg u sh (b + length ss)) (all_code x ss b top) (all_code y ss b top) k.end) g0 c n g1)
  choice_ok true sh t x y ss b top g g1 free st sl ha hb =
      one_step c i lt ss b free (b + length ss) sh (value t a n) (inside (run_all x a n)) (inside (run_all y a n)) (masked (all_code x ss b top) g0 c n) (masked (all_code y ss b top) g0 c n) g g1 (omega arith) st sl ha hb
  choice_ok false sh t x y ss b top g g1 free st sl ha hb =
      parts_step c i lt ss b free (b + length ss) sh (value t a n) (inside (run_all x a n)) (inside (run_all y a n)) (masked (all_code x ss b top) g0 c n) (masked (all_code y ss b top) g0 c n) g g1 (omega arith) st sl ha hb

  leave_ok : (ss : List Slot) (b top : ℕ) (g : State) → first_free ≤ b → StmtStep i ss ss b (run leave a n) g (masked (stmt_code leave ss b top) g0 c n g)
  leave_ok ss b top g free =
      record {
        low = record { shared = λ t r h. refl; rows = λ t r f h. refl; turns = refl };
        still = λ h. dead (k.breaks k.end) g0 c n i g h;
        runs = λ e live rel exact. record { live = refl; staying = and_right (g.staying i) (not (g.live i)) (not_from_true (g.live i) live); rel = rel_masks i ss b e g _ _ free rel; long = omega arith };
      }

  again_ok : (ss : List Slot) (b top : ℕ) (g : State) → first_free ≤ b → StmtStep i ss ss b (run again a n) g (masked (stmt_code again ss b top) g0 c n g)
  again_ok ss b top g free =
      record {
        low = record { shared = λ t r h. refl; rows = λ t r f h. refl; turns = refl };
        still = λ h. dead (k.continues k.end) g0 c n i g h;
        runs = λ e live rel exact. record { live = refl; staying = refl; rel = rel_masks i ss b e g _ _ free rel; long = omega arith };
      }

  done_ok : (ss : List Slot) (b : ℕ) (g : State) → StmtStep i ss ss b (run_all done a n) g g
  done_ok ss b g =
      record {
        low = record { shared = λ t r h. refl; rows = λ t r f h. refl; turns = refl };
        still = λ h. dead k.end g0 c n i g h;
        runs = λ e live rel exact. record { live = live; staying = refl; rel = rel; exact = exact };
      }

  operand_ok : (e : Expr) (ss : List Slot) (b r : ℕ) (g : State) → FineExpr e ss → first_free ≤ b → ExprStep i ss b r (at e ss r) (value e a n) g (masked (expr_code e ss b r) g0 c n g) → ExprStep i ss b r (operand_at e ss b r) (value e a n) g (masked (operand_code e (expr_code e ss b r)) g0 c n g)
  operand_ok e ss b r g h free made =
      of_operand (λ z q y. FineExpr z ss → ExprStep i ss b r (reg (is_uniform z ss) (shape_in z ss) q) (value z a n) g (masked y g0 c n g)) e b r (expr_code e ss b r) (λ k in_scope. held_step c i lt ss b free r k g in_scope) (λ fine. made) h

  mutual
    pub expr_ok : (e : Expr) (ss : List Slot) (b r : ℕ) (g : State) → FineExpr e ss → first_free ≤ b → b + length ss ≤ r → ExprStep i ss b r (at e ss r) (value e a n) g (masked (expr_code e ss b r) g0 c n g)
    expr_ok (literal v) ss b r g h free fit = literal_step c i lt ss b free r v (shape v) g0 g fit
    expr_ok (read x) ss b r g h free fit = read_step c i lt ss b free r x (shape_in (read x) ss) g0 g fit h
    expr_ok (apply op args) ss b r g h free fit =
        subst (λ s. ExprStep i ss b r (at (apply op args) ss r) (value (apply op args) a n) g s) (sym (then_runs (exprs_code args ss b r) _ g0 c n g))
        (apply_step c i lt ss b free g0 a ground op args r (shape_in (apply op args) ss) (all_values args a n) g _ fit (exprs_ok args ss b r g h free fit))
    expr_ok (differ d e) ss b r g h free fit = absurd h
    expr_ok (texture k args) ss b r g h free fit = absurd h
    expr_ok (sum w args) ss b r g h free fit =
        subst (λ s. ExprStep i ss b r (at (sum w args) ss r) (value (sum w args) a n) g s) (sym (then_runs (exprs_code args ss b r) _ g0 c n g))
        (sum_step c i lt ss b free g0 a ground w (all_at args ss b r) r (shape_in (sum w args) ss) (all_values args a n) g _ fit (exprs_ok args ss b r g h free fit))
    expr_ok (call args body kind e) ss b r g h free fit =
        let fs = formals args in
        let ss2 = after_all body fs in
        let g1 = masked (args_code args ss b r) g0 c n g in
        let g2 = masked (all_code body fs r (behind fs r body)) g0 c n g1 in
        let long = (extends_all body fs).long in
        subst (λ s. ExprStep i ss b r (at (call args body kind e) ss r) (value (call args body kind e) a n) g s) (sym (then_runs (args_code args ss b r) _ g0 c n g ∙ then_runs (all_code body fs r (behind fs r body)) _ g0 c n g1 ∙ then_runs (expr_code e ss2 r (r + length ss2)) _ g0 c n g2))
        (call_step c i lt g0 ss b r fs ss2 (is_uniform (call args body kind e) ss) (is_uniform e ss2) (shape_of kind) (shape_in e ss2) kind (arg_values args a n) (run_all body a n) (value e a n) g g1 g2 _ free fit long (call_uniform args body e ss) (λ e2. stays_all body a n e2 h.1.1.0)
        (args_ok args ss b r g h.0 free fit) (all_ok body fs r (behind fs r body) g1 h.1.0 (omega arith) (omega arith)) (expr_ok e ss2 r (r + length ss2) g2 h.1.1.1 (omega arith) (omega arith)))

    pub exprs_ok : (es : Exprs) (ss : List Slot) (b r : ℕ) (g : State) → FineExprs es ss → first_free ≤ b → b + length ss ≤ r → ExprsStep i ss b r (all_at es ss b r) (all_values es a n) g (masked (exprs_code es ss b r) g0 c n g)
    exprs_ok none ss b r g h free fit = none_step c i lt ss b free r g
    exprs_ok (more e rest) ss b r g h free fit =
        let code = operand_code e (expr_code e ss b r) in
        let g1 = masked code g0 c n g in
        let q = place e b r in
        subst (λ s. ExprsStep i ss b r (all_at (more e rest) ss b r) (all_values (more e rest) a n) g s) (sym (then_runs code _ g0 c n g))
        (more_step c i lt ss b free r q (is_uniform e ss) (shape_in e ss) (all_at rest ss b (r + 1)) (value e a n) (all_values rest a n) g g1 _ (place_free e b r free (omega arith)) (fine_place e ss b r fit h.0) (operand_ok e ss b r g h.0 free (expr_ok e ss b r g h.0 free fit)) (exprs_ok rest ss b (r + 1) g1 h.1 free (omega arith)))

    pub args_ok : (xs : Arguments) (ss : List Slot) (b r : ℕ) (g : State) → FineArgs xs ss → first_free ≤ b → b + length ss ≤ r → ArgsStep c i lt g0 ss b r (formals xs) (arg_values xs a n) g (masked (args_code xs ss b r) g0 c n g)
    args_ok no_arguments ss b r g h free fit = no_args_step c i lt g0 ss b r g
    args_ok (argument u kind e rest) ss b r g h free fit =
        let g1 = masked (expr_code e ss b r) g0 c n g in
        let g2 = masked (into (reg u (shape_of kind) r) kind (at e ss r)) g0 c n g1 in
        subst (λ s. ArgsStep c i lt g0 ss b r (formals (argument u kind e rest)) (arg_values (argument u kind e rest) a n) g s) (sym (then_runs (expr_code e ss b r) _ g0 c n g ∙ then_runs (into (reg u (shape_of kind) r) kind (at e ss r)) (args_code rest ss b (r + 1)) g0 c n g1))
        (arg_step c i lt g0 ss b r (is_uniform e ss) u (shape_in e ss) kind (formals rest) (value e a n) (arg_values rest a n) g g1 _ free fit h.1.0 (expr_ok e ss b r g h.0 free fit) (args_ok rest ss b (r + 1) g2 h.1.1 free (omega arith)))

    pub stmt_ok : (s : Stmt) (ss : List Slot) (b top : ℕ) (g : State) → FineStmt s ss → first_free ≤ b → b + length ss + locals s ≤ top → StmtStep i (after s ss) ss b (run s a n) g (masked (stmt_code s ss b top) g0 c n g)
    stmt_ok (declare u kind e) ss b top g h free room =
        let m = b + length ss in
        let g1 = masked (expr_code e ss b m) g0 c n g in
        let q = then_runs (expr_code e ss b m) (into (reg u (shape_of kind) m) kind (at e ss m)) g0 c n g in
        subst (λ s. StmtStep i (ss ++ (slot u kind ∷ [])) ss b (run (declare u kind e) a n) g s) (sym q)
        (declare_step c i lt g0 ss b (is_uniform e ss) u (shape_in e ss) kind (value e a n) g g1 free h.1 (λ l. subst (λ s. Still i g s) q (dead (stmt_code (declare u kind e) ss b top) g0 c n i g l)) (expr_ok e ss b m g h.0 free (omega arith)))
    stmt_ok (assign x kind e) ss b top g h free room =
        let fit : b + length ss ≤ top = (let r : b + length ss + 0 ≤ top = room in omega arith) in
        let g1 = masked (expr_code e ss b top) g0 c n g in
        let q = then_runs (expr_code e ss b top) (into (variable ss b x) kind (at e ss top)) g0 c n g in
        subst (λ s. StmtStep i ss ss b (run (assign x kind e) a n) g s) (sym q)
        (assign_step c i lt g0 ss b top x (is_uniform e ss) (shape_in e ss) kind (value e a n) g g1 free fit h.1.0 h.1.1 (λ l. subst (λ s. Still i g s) q (dead (stmt_code (assign x kind e) ss b top) g0 c n i g l)) (expr_ok e ss b top g h.0 free fit))
    stmt_ok (block s) ss b top g h free room = body_step i ss b (inside (run_all s a n)) g _ (inside_step i (after_all s ss) ss b (run_all s a n) g _ (extends_all s ss) (all_ok s ss b top g h free room))
    stmt_ok (test t x y) ss b top g h free room =
        let m = b + length ss in
        let g1 = masked (expr_code t ss b m) g0 c n g in
        let q = then_runs (expr_code t ss b m) (k.branch (at t ss m) (all_code x ss b top) (all_code y ss b top) k.end) g0 c n g in
        subst (λ s. StmtStep i ss ss b (run (test t x y) a n) g s) (sym q)
        (choice_ok (is_uniform t ss) (shape_in t ss) t x y ss b top g g1 free (expr_ok t ss b m g h.0 free (omega arith)) (λ l. dead (expr_code t ss b m) g0 c n i g l)
        (λ s. inside_step i (after_all x ss) ss b (run_all x a n) s _ (extends_all x ss) (all_ok x ss b top s h.1.0 free (let r : b + length ss + (all_locals x + all_locals y) ≤ top = room in omega arith))) (λ s. inside_step i (after_all y ss) ss b (run_all y a n) s _ (extends_all y ss) (all_ok y ss b top s h.1.1 free (let r : b + length ss + (all_locals x + all_locals y) ≤ top = room in omega arith))))
    stmt_ok (repeat u t e s) ss b top g h free room =
        let m = b + length ss in
        subst (λ v. StmtStep i ss ss b (run (repeat v t e s) a n) g (masked (stmt_code (repeat v t e s) ss b top) g0 c n g)) (sym h.0)
        (loop_step c i lt ss b free (at t ss m) (value t a n) (run_all e a n) (inside (run_all s a n)) (masked (expr_code t ss b m) g0 c n) (masked (all_code e ss b top) g0 c n) (masked (all_code s ss b top) g0 c n)
        (λ x. expr_ok t ss b m x h.1.0 free (omega arith)) (λ x l. dead (expr_code t ss b m) g0 c n i x l)
        (λ x. subst (λ z. StmtStep i z ss b (run_all e a n) x (masked (all_code e ss b top) g0 c n x)) h.1.1.0.1.1 (all_ok e ss b top x h.1.1.0.0 free (let r : b + length ss + (all_locals e + all_locals s) ≤ top = room in omega arith))) (λ e2. stays_all e a n e2 h.1.1.0.1.0)
        (λ x. inside_step i (after_all s ss) ss b (run_all s a n) x _ (extends_all s ss) (all_ok s ss b top x h.1.1.1 free (let r : b + length ss + (all_locals e + all_locals s) ≤ top = room in omega arith))) n g)
    stmt_ok (lights w args s) ss b top g h free room =
        let m = b + length ss in
        let g1 = masked (exprs_code args ss b m) g0 c n g in
        let q = then_runs (exprs_code args ss b m) (k.lights w (all_at args ss b m) (all_code s ss b top) k.end) g0 c n g in
        subst (λ v. StmtStep i ss ss b (run (lights w args s) a n) g v) (sym q)
        (lights_step c i lt ss b free (inside (run_all s a n)) (masked (all_code s ss b top) g0 c n) (λ x. inside_step i (after_all s ss) ss b (run_all s a n) x _ (extends_all s ss) (all_ok s ss b top x h.1 free room))
        w g0 a ground m (all_at args ss b m) (all_values args a n) g g1 (omega arith) (exprs_ok args ss b m g h.0 free (omega arith)) (λ l. dead (exprs_code args ss b m) g0 c n i g l))
    stmt_ok leave ss b top g h free room = leave_ok ss b top g free
    stmt_ok again ss b top g h free room = again_ok ss b top g free

    pub all_ok : (s : Stmts) (ss : List Slot) (b top : ℕ) (g : State) → FineAll s ss → first_free ≤ b → b + length ss + all_locals s ≤ top → StmtStep i (after_all s ss) ss b (run_all s a n) g (masked (all_code s ss b top) g0 c n g)
    all_ok done ss b top g h free room = done_ok ss b g
    all_ok (first s rest) ss b top g h free room =
        let g1 = masked (stmt_code s ss b top) g0 c n g in
        let ss1 = after s ss in
        subst (λ v. StmtStep i (after_all (first s rest) ss) ss b (run_all (first s rest) a n) g v) (sym (then_runs (stmt_code s ss b top) (all_code rest ss1 b top) g0 c n g))
        (seq_step i (after_all rest ss1) ss1 ss b free (run s a n) (run_all rest a n) g g1 _ (extends_stmt s ss) (stmt_ok s ss b top g h.0 free (let r : b + length ss + (locals s + all_locals rest) ≤ top = room in omega arith)) (all_ok rest ss1 b top g1 h.1 free (let r : b + length ss + (locals s + all_locals rest) ≤ top = room in let a = after_long s ss in omega arith)))
