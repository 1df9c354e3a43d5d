-- Assignments, choices and lights in uniform control.
use Rattle.std.proofs.Common.{◌≡◌, ℕ, ◌+◌, ◌<◌, ◌≤◌, Bool, true, false, cond, List, length, refl, ap, ◌∙◌, arith, subst}
use Rattle.std.proofs.lemmas.Bool.{cond_both}
use Rattle.sl_ast.specs.declared.kinds.SlType.{SlType}
use Rattle.sl_ast.specs.declared.kinds.LightStmt.{LightStmt}
use Rattle.sl_ast.specs.declared.typed.Variable.{Variable}
use Rattle.sl_ast.specs.declared.typed.Value.{Value}
use Rattle.builtins.specs.declared.shape.Shape.{Shape}
use Rattle.builtins.specs.Values.{shape_of, as_kind, is_true}
use Rattle.grid_code.specs.declared.code.Register.{Register}
use Rattle.grid_code.specs.declared.code.Source.TheVariants.{Into}
use Rattle.grid_code.specs.Names.{reg, first_free}
use Rattle.grid_code.specs.Masked.{Ground, State, reads, result_of, write, both_parts, over_lights}
use Rattle.sl_meaning.specs.Core.{Slot, class_in}
use Rattle.sl_meaning.specs.Environment.{Env, Around, Signal, Next, Break, Continue, with_variable}
use Rattle.sl_meaning.specs.Alone as alone
use Rattle.sl_meaning.specs.Alone.{Gives, Runs, either, with_args}
use Rattle.sl_meaning.specs.Grid.{Envs, GivesAll, RunsAll, choice_all, loops_all, with_args_all}
use Rattle.core_codegen.specs.Variables.{variable}
use Rattle.core_codegen.specs.Correct.{IsGround}
use Rattle.core_codegen.specs.Fine.{InScope}
use Rattle.grid_code.proofs.Dead.{kept_self}
use Rattle.grid_code.proofs.Asleep.{AllDead, Asleep, asleep_on}
use Rattle.core_codegen.proofs.Relation.{low_self, Wrote, index}
use Rattle.core_codegen.proofs.Steps.{ExprStep, ExprsStep}
use Rattle.core_codegen.proofs.Scopes.{Went, Lands, StmtStep, BodyStep}
use Rattle.core_codegen.proofs.Stmts.{wrote_variable, variable_value, rel_assigned, length_assigned, index_apart}
use Rattle.core_codegen.proofs.Control.{parts_step}
use Rattle.core_codegen.proofs.Lights.{lights_step}
use Rattle.core_codegen.proofs.Everywhere.{AllLow, AllExpr, AllExprs, all_low_on}
use Rattle.core_codegen.proofs.Lands.{AllWent, AllLands, AllStmt, AllBody, into_steady}

module _ (c : ℕ) (pos : 0 < c) (ss : List Slot) (b : ℕ) (free : first_free ≤ b) where
  -- a variable of either class takes a value
  pub all_assign : (g0 : Ground) (m : ℕ) → b + length ss ≤ m → (x : Variable) (v : Bool) (t : Shape) (kind : SlType) (va : GivesAll Value) (g g1 : State) → InScope x ss → (class_in x ss ≡ true → v ≡ true) → (AllDead c g.live → Asleep c g (write c (variable ss b x) (result_of (Into (shape_of kind) (reg v t m)) g0 g1) g1)) → AllExpr c ss b m (reg v t m) va g g1 → AllStmt c ss ss b (λ es. let y = va es in (Next, λ i. with_variable x (as_kind kind (y.0 i)) (y.1 i))) g (write c (variable ss b x) (result_of (Into (shape_of kind) (reg v t m)) g0 g1) g1)
  all_assign g0 m fit x v t kind va g g1 in_scope takes sleeps sa =
      let f = result_of (Into (shape_of kind) (reg v t m)) g0 g1 in
      let h = write c (variable ss b x) f g1 in
      let wr : (i : ℕ) → Wrote i (index b x) g1 h = λ i. wrote_variable c i ss b x f g1 in
      record {
        low = record {
          shared = λ s k a l. (wr 0).shared s k (index_apart b x k a l) ∙ sa.low.shared s k a (omega arith);
          rows = λ s k i l a q. (wr i).rows s k (index_apart b x k a q) ∙ sa.low.rows s k i l a (omega arith);
        };
        asleep = sleeps;
        runs = λ es ready.
            let y = sa.runs es ready in
            record {
              ready = record {
                live = λ i l. (wr i).live ∙ y.ready.live i l;
                rel = λ i l. rel_assigned i ss b x ((va es).1 i) (as_kind kind ((va es).0 i)) g1 h free in_scope (y.ready.exact i l) (wr i)
                    (variable_value c i ss b x f g1 l (y.ready.live i l) (λ u. into_steady c g0 ss b free i (class_in x ss) v (shape_of kind) t m g1 takes u) ∙ ap (as_kind kind) (y.value i l)) (y.ready.rel i l);
                exact = λ i l. length_assigned x (as_kind kind ((va es).0 i)) ((va es).1 i) ∙ y.ready.exact i l;
              };
              staying = λ i l. (wr i).staying ∙ y.staying i l;
            };
      }

  all_lands_on : (x : Signal) (es : Envs) (g g1 h : State) → ((i : ℕ) → i < c → g1.staying i ≡ g.staying i) → AllLands c ss ss b x es g1 h → AllLands c ss ss b x es g h
  all_lands_on Next es g g1 h s l = record { ready = l.ready; staying = λ i q. l.staying i q ∙ s i q }
  all_lands_on Break es g g1 h s l = record { out = l.out; staying = l.staying }
  all_lands_on Continue es g g1 h s l = record { out = l.out; staying = λ i q. l.staying i q ∙ s i q }

  one_all : (t : Bool) (oa ob : Signal × Envs) (g g1 ga gb : State) → ((i : ℕ) → i < c → g1.staying i ≡ g.staying i) → AllLands c ss ss b oa.0 oa.1 g1 ga → AllLands c ss ss b ob.0 ob.1 g1 gb → AllLands c ss ss b (cond t oa ob).0 (cond t oa ob).1 g (cond t ga gb)
  one_all true oa ob g g1 ga gb s la lb = all_lands_on oa.0 oa.1 g g1 ga s la
  one_all false oa ob g g1 ga gb s la lb = all_lands_on ob.0 ob.1 g g1 gb s lb

  -- a choice by a uniform test
  pub all_one : (r : ℕ) (t : Shape) (vt : GivesAll Value) (sa sb : RunsAll) (one other : Runs) (fa fb : State → State) (g g1 : State) → b + length ss ≤ r → AllExpr c ss b r (reg true t r) vt g g1 → (AllDead c g.live → Asleep c g g1) → ((s : State) → AllBody c ss b sa s (fa s)) → ((s : State) → AllBody c ss b sb s (fb s)) → AllStmt c ss ss b (choice_all true vt sa sb one other) g (cond (is_true (g1.shared t r)) (fa g1) (fb g1))
  all_one r t vt sa sb one other fa fb g g1 fit st sleeps ha hb =
      record {
        low = cond_both (is_true (g1.shared t r)) (fa g1) (fb g1) (λ s. AllLow c b g s)
            (λ q. all_low_on c b r b g g1 _ (omega arith) (omega arith) st.low (ha g1).low)
            (λ q. all_low_on c b r b g g1 _ (omega arith) (omega arith) st.low (hb g1).low);
        asleep = λ h. let z = sleeps h in
            cond_both (is_true (g1.shared t r)) (fa g1) (fb g1) (λ s. Asleep c g s) (λ q. asleep_on c g g1 _ z ((ha g1).asleep z.live)) (λ q. asleep_on c g g1 _ z ((hb g1).asleep z.live));
        runs = λ es ready.
            let v = st.runs es ready in
            let e1 = (vt es).1 in
            subst (λ z. AllLands c ss ss b (cond z (sa e1) (sb e1)).0 (cond z (sa e1) (sb e1)).1 g (cond (is_true (g1.shared t r)) (fa g1) (fb g1))) (ap is_true (v.value 0 pos))
            (one_all (is_true (g1.shared t r)) (sa e1) (sb e1) g g1 (fa g1) (fb g1) v.staying ((ha g1).runs e1 v.ready).0 ((hb g1).runs e1 v.ready).0);
      }

  -- places that each go on by themselves
  went_all : (out : ℕ → Signal × Env) (g g1 h : State) → ((i : ℕ) → i < c → g1.staying i ≡ g.staying i) → ((i : ℕ) → i < c → (out i).0 ≡ Next) → ((i : ℕ) → i < c → Lands i ss ss b (out i).0 (out i).1 g1 h) → AllWent c ss b (λ i. (out i).1) g h
  went_all out g g1 h stay next lands =
      let went : (i : ℕ) → i < c → Went i ss b (out i).1 g1 h = λ i l. subst (λ s. Lands i ss ss b s (out i).1 g1 h) (next i l) (lands i l) in
      record { ready = record { live = λ i l. (went i l).live; rel = λ i l. (went i l).rel; exact = λ i l. (went i l).exact }; staying = λ i l. (went i l).staying ∙ stay i l }

  each_low : (s : ℕ → Runs) (g h : State) → ((i : ℕ) → i < c → StmtStep i ss ss b (s i) g h) → AllLow c b g h
  each_low s g h step = record { shared = λ t k f q. (step 0 pos).low.shared t k (omega arith); rows = λ t k i l f q. (step i l).low.rows t k f q }

  pub all_parts : (r : ℕ) (t : Shape) (vt : GivesAll Value) (ga gb : RunsAll) (sa sb : Runs) (fa fb : State → State) (g g1 : State) → b + length ss ≤ r → AllExpr c ss b r (reg false t r) vt g g1 → (AllDead c g.live → Asleep c g (both_parts (λ j. is_true (g1.rows t r j)) fa fb g1)) → ((e : Env) → (sa e).0 ≡ Next) → ((e : Env) → (sb e).0 ≡ Next) → ((i : ℕ) → i < c → (s : State) → BodyStep i ss b sa s (fa s)) → ((i : ℕ) → i < c → (s : State) → BodyStep i ss b sb s (fb s)) → AllStmt c ss ss b (choice_all false vt ga gb sa sb) g (both_parts (λ j. is_true (g1.rows t r j)) fa fb g1)
  all_parts r t vt ga gb sa sb fa fb g g1 fit st sleeps na nb ha hb =
      let h = both_parts (λ j. is_true (g1.rows t r j)) fa fb g1 in
      let known : ℕ → Gives Value = λ i e. (g1.rows t r i, e) in
      let test : (i : ℕ) → ExprStep i ss b r (reg false t r) (known i) g1 g1 = λ i. record { low = low_self i r r g1; runs = λ e live rel exact. record { live = live; staying = refl; value = refl; rel = rel; exact = exact } } in
      let step : (i : ℕ) → i < c → StmtStep i ss ss b (either (known i) sa sb) g1 h = λ i l. parts_step c i l ss b free r t (known i) sa sb fa fb g1 g1 fit (test i) (λ d. record { live = d; staying = refl; kept = kept_self i g1 }) (ha i l) (hb i l) in
      record {
        low = all_low_on c b r b g g1 h (omega arith) (omega arith) st.low (each_low (λ i. either (known i) sa sb) g1 h step);
        asleep = sleeps;
        runs = λ es ready.
            let v = st.runs es ready in
            let e1 = (vt es).1 in
            let out : ℕ → Signal × Env = λ i. cond (is_true ((vt es).0 i)) (sa (e1 i)) (sb (e1 i)) in
            went_all out g g1 h v.staying
            (λ i l. cond_both (is_true ((vt es).0 i)) (sa (e1 i)) (sb (e1 i)) (λ o. o.0 ≡ Next) (λ q. na (e1 i)) (λ q. nb (e1 i)))
            (λ i l. subst (λ z. Lands i ss ss b (cond z (sa (e1 i)) (sb (e1 i))).0 (cond z (sa (e1 i)) (sb (e1 i))).1 g1 h) (ap is_true (v.value i l)) ((step i l).runs (e1 i) (v.ready.live i l) (v.ready.rel i l) (v.ready.exact i l)));
      }

  pub all_lights : (which : LightStmt) (k0 : Ground) (a : Around) → IsGround c k0 a → (m : ℕ) (qs : List Register) (va : GivesAll (List Value)) (vb : Runs) (bf : State → State) (g g1 : State) → b + length ss ≤ m → AllExprs c ss b m qs va g g1 → (AllDead c g.live → Asleep c g (over_lights c which k0 qs bf g1)) → ((vs : List Value) (e : Env) → (alone.over_lights which a vs vb e).0 ≡ Next) → ((i : ℕ) → i < c → (s : State) → BodyStep i ss b vb s (bf s)) → AllStmt c ss ss b (with_args_all va (λ vs. alone.over_lights which a vs vb)) g (over_lights c which k0 qs bf g1)
  all_lights which k0 a ground m qs va vb bf g g1 fit st sleeps next hb =
      let h = over_lights c which k0 qs bf g1 in
      let go : List Value → Runs = λ vs. alone.over_lights which a vs vb in
      let known : ℕ → Gives (List Value) = λ i e. (reads g1 qs i, e) in
      let args : (i : ℕ) → ExprsStep i ss b m qs (known i) g1 g1 = λ i. record { low = low_self i m m g1; runs = λ e live rel exact. record { live = live; staying = refl; values = refl; rel = rel; exact = exact } } in
      let step : (i : ℕ) → i < c → StmtStep i ss ss b (with_args (known i) go) g1 h = λ i l. lights_step c i l ss b free vb bf (hb i l) which k0 a ground m qs (known i) g1 g1 fit (args i) (λ d. record { live = d; staying = refl; kept = kept_self i g1 }) in
      record {
        low = all_low_on c b m b g g1 h (omega arith) (omega arith) st.low (each_low (λ i. with_args (known i) go) g1 h step);
        asleep = sleeps;
        runs = λ es ready.
            let v = st.runs es ready in
            let e1 = (va es).1 in
            went_all (λ i. go ((va es).0 i) (e1 i)) g g1 h v.staying (λ i l. next ((va es).0 i) (e1 i))
            (λ i l. subst (λ vs. Lands i ss ss b (go vs (e1 i)).0 (go vs (e1 i)).1 g1 h) (v.values i l) ((step i l).runs (e1 i) (v.ready.live i l) (v.ready.rel i l) (v.ready.exact i l)));
      }

  -- a loop that each place goes round by itself
  pub all_each : (s : Runs) (n : ℕ) (vt : GivesAll Value) (step body : RunsAll) (g h : State) → (AllDead c g.live → Asleep c g h) → ((e : Env) → (s e).0 ≡ Next) → ((i : ℕ) → i < c → StmtStep i ss ss b s g h) → AllStmt c ss ss b (loops_all false n vt step body s) g h
  all_each s n vt step body g h sleeps next each =
      record {
        low = each_low (λ i. s) g h each;
        asleep = sleeps;
        runs = λ es ready. went_all (λ i. s (es i)) g g h (λ i l. refl) (λ i l. next (es i)) (λ i l. (each i l).runs (es i) (ready.live i l) (ready.rel i l) (ready.exact i l));
      }
