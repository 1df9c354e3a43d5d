-- A uniform loop in uniform control.
use Rattle.std.proofs.Common.{◌≡◌, ℕ, zero, suc, ◌+◌, ◌-◌, ◌<◌, ◌≤◌, Bool, true, false, cond, List, length, get_or, refl, sym, ap, ◌∙◌, arith, subst}
use Rattle.std.specs.Prelude.{nat_lt}
use Rattle.std.proofs.lemmas.Bool.{cond_both, cond-false, cond-true, and_left, and_right, and_from}
use Rattle.sl_ast.specs.declared.typed.Value.{Value}
use Rattle.sl_ast.specs.Names.{name_type}
use Rattle.sl_ast.specs.Classes.{is_uniform_name}
use Rattle.builtins.specs.declared.shape.Shape.{Shape}
use Rattle.builtins.specs.Names.{place_of}
use Rattle.builtins.specs.Values.{shape_of, is_true}
use Rattle.grid_code.specs.declared.code.Register.TheVariants.{Uniform}
use Rattle.grid_code.specs.Names.{reg, first_free}
use Rattle.grid_code.specs.Masked.{State, any, read, take_turn, going, turn, turns_of, looped}
use Rattle.sl_meaning.specs.Core.{Slot, no_slot}
use Rattle.sl_meaning.specs.Environment.{Env, Signal, Next, Break, Continue, spend}
use Rattle.sl_meaning.specs.Alone.{Runs}
use Rattle.sl_meaning.specs.Grid.{Envs, GivesAll, RunsAll, round_all, loop_all, loops_all}
use Rattle.core_codegen.specs.Correct.{Holds}
use Rattle.grid_code.proofs.Asleep.{AllDead, Asleep, turns_asleep, any_false}
use Rattle.core_codegen.proofs.Relation.{any_true, rel_masks}
use Rattle.core_codegen.proofs.Everywhere.{AllLow, AllExpr, all_low_on}
use Rattle.core_codegen.specs.UniformRegisters.{AllHold}
use Rattle.core_codegen.proofs.Lands.{AllWent, AllLands, AllStmt, AllBody, rel_asleep}

abbrev AllLive : ℕ → (ℕ → Bool) → Type 0
AllLive c p = (i : ℕ) → i < c → p i ≡ true

-- where a uniform loop leaves the grid
pub record AllEnded (c : ℕ) (ss : List Slot) (b : ℕ) (r : Signal × Envs) (h : State) : Type 0 where
  pub next : r.0 ≡ Next
  pub rel : (i : ℕ) → i < c → Holds i ss b (r.1 i) h
  pub exact : (i : ℕ) → i < c → length (r.1 i).values ≡ length ss

shared_turn : (i : ℕ) (ss : List Slot) (b : ℕ) (e : Env) (x : State) → Holds i ss b e x → Holds i ss b (spend true e) (take_turn true x)
shared_turn i ss b e x r =
    let same : (u : Bool) (s : Shape) (k : ℕ) → read (take_turn true x) (reg u s k) i ≡ read x (reg u s k) i = elim [ true ↦ λ s k. refl | false ↦ λ s k. refl ] in
    record {
      named = λ p. same (is_uniform_name p) (shape_of (name_type p)) (place_of p) ∙ r.named p;
      lit = r.lit;
      values = λ k l. same (get_or ss k no_slot).uniform (shape_of (get_or ss k no_slot).kind) (b + k) ∙ r.values k l;
      turns = ap (λ v. v - 1) r.turns;
      own = r.own;
    }

module _ (c : ℕ) (pos : 0 < c) (ss : List Slot) (b : ℕ) (free : first_free ≤ b) (m : ℕ) (t : Shape) (vt : GivesAll Value) (vs vb : RunsAll) (tf sf bf : State → State) (fit : b + length ss ≤ m) (ts : (s : State) → AllExpr c ss b m (reg true t m) vt s (tf s)) (sleeps : (s : State) → AllDead c s.live → Asleep c s (tf s)) (st : (s : State) → AllStmt c ss ss b vs s (sf s)) (goes_on : (es : Envs) → (vs es).0 ≡ Next) (bs : (s : State) → AllBody c ss b vb s (bf s)) where
  abbrev start : (ℕ → Bool) → State → State
  start p x = take_turn true record x { live = p; staying = p }

  abbrev resumed : State → State
  resumed x = record x { live = x.staying }

  abbrev Turns : ℕ → State → State
  Turns k g = turns_of k c true tf (Uniform t m) sf bf g

  turn_low : (p : ℕ → Bool) (x : State) → AllLow c b x (turn true p sf bf x)
  turn_low p x =
      let l = (bs (start p x)).low in
      let k = (st (resumed (bf (start p x)))).low in
      record { shared = λ s r f q. k.shared s r f q ∙ l.shared s r f q; rows = λ s r i h f q. k.rows s r i h f q ∙ l.rows s r i h f q }

  test_low : (g : State) → AllLow c b g (tf g)
  test_low g = let l = (ts g).low in record { shared = λ s k f q. l.shared s k f (omega arith); rows = λ s k i h f q. l.rows s k i h f (omega arith) }

  turns_low : (k : ℕ) (g : State) → AllLow c b g (Turns k g)
  turns_low zero g = test_low g
  turns_low (suc k) g =
      let p = going true (Uniform t m) (tf g) in
      cond_both (any c p) (Turns k (turn true p sf bf (tf g))) (tf g) (λ s. AllLow c b g s)
      (λ e. all_low_on c b b b g (tf g) _ (omega arith) (omega arith) (test_low g) (all_low_on c b b b (tf g) (turn true p sf bf (tf g)) _ (omega arith) (omega arith) (turn_low p (tf g)) (turns_low k (turn true p sf bf (tf g)))))
      (λ e. test_low g)

  abbrev GoesRound : ℕ → Type 0
  GoesRound k = (es : Envs) (g : State) → AllHold c ss b es g → AllEnded c ss b (loop_all k vt vs vb es) (Turns k g)

  stepped : (k : ℕ) → GoesRound k → (es : Envs) (h : State) → AllLive c h.staying → ((i : ℕ) → i < c → Holds i ss b (es i) h) → ((i : ℕ) → i < c → length (es i).values ≡ length ss) → AllEnded c ss b (loop_all k vt vs vb (vs es).1) (Turns k (sf (resumed h)))
  stepped k ih es h stay rel exact =
      let ready : AllHold c ss b es (resumed h) = record { live = stay; rel = λ i l. rel_masks i ss b (es i) h h.staying h.staying free (rel i l); exact = exact } in
      let w : AllWent c ss b (vs es).1 (resumed h) (sf (resumed h)) = subst (λ z. AllLands c ss ss b z (vs es).1 (resumed h) (sf (resumed h))) (goes_on es) ((st (resumed h)).runs es ready) in
      ih (vs es).1 (sf (resumed h)) w.ready

  after_turn : (k : ℕ) → GoesRound k → (x : Signal) (es : Envs) (g h : State) → AllLive c g.staying → AllLands c ss ss b x es g h → ((i : ℕ) → i < c → length (es i).values ≡ length ss) → AllEnded c ss b (round_all (x, es) vs (loop_all k vt vs vb)) (Turns k (sf (resumed h)))
  after_turn k ih Next es g h s l exact = stepped k ih es h (λ i q. l.staying i q ∙ s i q) l.ready.rel exact
  after_turn k ih Continue es g h s l exact = stepped k ih es h (λ i q. l.staying i q ∙ s i q) l.out.rel exact
  after_turn k ih Break es g h s l exact =
      let x = (st (resumed h)).asleep l.staying in
      let g1 = sf (resumed h) in
      let z = turns_asleep k c true tf (Uniform t m) sf bf g1 (sleeps g1 x.live) in
      record { next = refl; rel = λ i q. rel_asleep c i ss b (es i) g1 _ q z (rel_asleep c i ss b (es i) (resumed h) g1 q x (rel_masks i ss b (es i) h h.staying h.staying free (l.out.rel i q))); exact = exact }

  stops : (k : ℕ) (es : Envs) (x : State) → AllHold c ss b es x → AllDead c (going true (Uniform t m) x) → AllEnded c ss b (Next, es) (cond (any c (going true (Uniform t m) x)) (Turns k (turn true (going true (Uniform t m) x) sf bf x)) x)
  stops k es x ready out =
      subst (λ s. AllEnded c ss b (Next, es) s) (sym (cond-false (any c (going true (Uniform t m) x)) _ x (any_false c (going true (Uniform t m) x) out)))
      record { next = refl; rel = ready.rel; exact = ready.exact }

  pub all_loop_runs : (k : ℕ) → GoesRound k
  all_loop_runs zero es g ready = let v = (ts g).runs es ready in record { next = refl; rel = v.ready.rel; exact = v.ready.exact }
  all_loop_runs (suc k) es g ready =
      let v = (ts g).runs es ready in
      let x = tf g in
      let e1 = (vt es).1 in
      let p = going true (Uniform t m) x in
      let h : State = cond (any c p) (Turns k (turn true p sf bf x)) x in
      let at_test : is_true (x.shared t m) ≡ is_true ((vt es).0 0) = ap is_true (v.value 0 pos) in
      let at_turns : nat_lt 0 x.turns ≡ nat_lt 0 (e1 0).turns = ap (nat_lt 0) (v.ready.rel 0 pos).turns in
      cond_both (is_true ((vt es).0 0)) (cond (nat_lt 0 (e1 0).turns) (round_all (vb (λ i. spend true (e1 i))) vs (loop_all k vt vs vb)) (Next, e1)) (Next, e1) (λ r. AllEnded c ss b r h)
      (λ on. cond_both (nat_lt 0 (e1 0).turns) (round_all (vb (λ i. spend true (e1 i))) vs (loop_all k vt vs vb)) (Next, e1) (λ r. AllEnded c ss b r h)
      (λ some.
      let live : AllLive c p = λ i l. and_from (x.live i) _ (v.ready.live i l) (and_from (is_true (x.shared t m)) (nat_lt 0 x.turns) (at_test ∙ on) (at_turns ∙ some)) in
      let s0 = start p x in
      let es1 : Envs = λ i. spend true (e1 i) in
      let begun : AllHold c ss b es1 s0 = record { live = live; rel = λ i l. shared_turn i ss b (e1 i) record x { live = p; staying = p } (rel_masks i ss b (e1 i) x p p free (v.ready.rel i l)); exact = v.ready.exact } in
      let l = (bs s0).runs es1 begun in
      let o = after_turn k (all_loop_runs k) (vb es1).0 (vb es1).1 s0 (bf s0) live l.0 l.1 in
      subst (λ s. AllEnded c ss b (round_all (vb es1) vs (loop_all k vt vs vb)) s) (sym (cond-true (any c p) _ x (any_true c 0 p pos (live 0 pos)))) o)
      (λ none. stops k e1 x v.ready (λ i l. and_right (x.live i) _ (and_right (is_true (x.shared t m)) (nat_lt 0 x.turns) (at_turns ∙ none)))))
      (λ off. stops k e1 x v.ready (λ i l. and_right (x.live i) _ (and_left (is_true (x.shared t m)) _ (at_test ∙ off))))

  pub all_loop : (k : ℕ) (own_loop : Runs) (g : State) → AllStmt c ss ss b (loops_all true k vt vs vb own_loop) g (looped k c true tf (Uniform t m) sf bf g)
  all_loop k own_loop g =
      let low = turns_low k g in
      record {
        low = record { shared = low.shared; rows = low.rows };
        asleep = λ d. let s = turns_asleep k c true tf (Uniform t m) sf bf g (sleeps g d) in record { live = d; staying = λ i l. refl; rows = s.rows; own = s.own; shared = s.shared; turns = s.turns };
        runs = λ es ready.
            let o = all_loop_runs k es g ready in
            subst (λ s. AllLands c ss ss b s (loop_all k vt vs vb es).1 g (looped k c true tf (Uniform t m) sf bf g)) (sym o.next)
            record {
              ready = record { live = ready.live; rel = λ i l. rel_masks i ss b _ (Turns k g) g.live g.staying free (o.rel i l); exact = o.exact };
              staying = λ i l. refl;
            };
      }
