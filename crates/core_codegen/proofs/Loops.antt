-- A loop with budgets of the places, at one place.
use Rattle.std.proofs.Common.{◌≡◌, ℕ, zero, suc, ◌+◌, ◌-◌, ◌<◌, ◌≤◌, Bool, true, false, cond, List, length, get_or, refl, sym, ap, ◌∙◌, arith, subst}
use Rattle.std.specs.Prelude.{nat_lt}
use Rattle.std.proofs.lemmas.Bool.{and_left, and_right, and_from, cond-true, cond_both}
use Rattle.sl_ast.specs.declared.typed.Value.{Value}
use Rattle.builtins.specs.declared.shape.Shape.{Shape}
use Rattle.builtins.specs.Values.{is_true, shape_of}
use Rattle.grid_code.specs.declared.code.Register.{Register}
use Rattle.grid_code.specs.Names.{reg, first_free}
use Rattle.grid_code.specs.Masked.{State, any, read, take_turn, going, turn, turns_of, looped}
use Rattle.sl_ast.specs.Names.{name_type}
use Rattle.sl_ast.specs.Classes.{is_uniform_name}
use Rattle.builtins.specs.Names.{place_of}
use Rattle.sl_meaning.specs.Core.{Slot, no_slot}
use Rattle.sl_meaning.specs.Environment.{Env, Signal, Next, Break, Continue, budget, spend}
use Rattle.sl_meaning.specs.Alone.{Runs, Gives, round, loop}
use Rattle.core_codegen.specs.Correct.{Holds}
use Rattle.grid_code.proofs.Dead.{Sleeps, turn_still, turns_still}
use Rattle.core_codegen.proofs.Relation.{Low, rel_still, rel_masks, any_true}
use Rattle.core_codegen.proofs.Steps.{ExprStep}
use Rattle.core_codegen.proofs.Scopes.{Went, Lands, StmtStep, BodyStep}

-- where a loop leaves the place
pub record Ended (i : ℕ) (ss : List Slot) (b : ℕ) (r : Signal × Env) (h : State) : Type 0 where
  pub next : r.0 ≡ Next
  pub rel : Holds i ss b r.1 h
  pub exact : length r.1.values ≡ length ss

pub turn_taken : (i : ℕ) (ss : List Slot) (b : ℕ) (e : Env) (x : State) → first_free ≤ b → x.live i ≡ true → Holds i ss b e x → Holds i ss b (spend false e) (take_turn false x)
turn_taken i ss b e x free h r =
    let same : (u : Bool) (s : Shape) (k : ℕ) → read (take_turn false x) (reg u s k) i ≡ read x (reg u s k) i = elim [ true ↦ λ s k. refl | false ↦ λ s k. refl ] in
    record {
      named = λ p. same (is_uniform_name p) (shape_of (name_type p)) (place_of p) ∙ r.named p;
      lit = r.lit;
      values = λ k l. same (get_or ss k no_slot).uniform (shape_of (get_or ss k no_slot).kind) (b + k) ∙ r.values k l;
      turns = r.turns;
      own = cond-true _ _ _ h ∙ ap (λ v. v - 1) r.own;
    }

module _ (c i : ℕ) (lt : i < c) (ss : List Slot) (b : ℕ) (free : first_free ≤ b) (q : Register) (vt : Gives Value) (vs vb : Runs) (tf sf bf : State → State) (ts : (s : State) → ExprStep i ss b (b + length ss) q vt s (tf s)) (sleeps : Sleeps i tf) (st : (s : State) → StmtStep i ss ss b vs s (sf s)) (goes_on : (e : Env) → (vs e).0 ≡ Next) (bs : (s : State) → BodyStep i ss b vb s (bf s)) where
  -- the states in which the body of a turn and its step begin
  abbrev start : (ℕ → Bool) → State → State
  start p x = take_turn false record x { live = p; staying = p }

  abbrev resumed : State → State
  resumed x = record x { live = x.staying }

  abbrev Lower : State → State → Type 0
  Lower g h = Low i (b + length ss) b g h

  on_low : (g h k : State) → Lower g h → Lower h k → Lower g k
  on_low g h k x y = record { shared = λ t r l. y.shared t r l ∙ x.shared t r l; rows = λ t r f l. y.rows t r f l ∙ x.rows t r f l; turns = y.turns ∙ x.turns }

  turn_low : (p : ℕ → Bool) (x : State) → Lower x (turn false p sf bf x)
  turn_low p x =
      let l = (bs (start p x)).low in
      let k = (st (resumed (bf (start p x)))).low in
      record { shared = λ t r a. k.shared t r a ∙ l.shared t r a; rows = λ t r f a. k.rows t r f a ∙ l.rows t r f a; turns = k.turns ∙ l.turns }

  test_low : (g : State) → Lower g (tf g)
  test_low g = let l = (ts g).low in record { shared = l.shared; rows = λ t k f h. l.rows t k f (omega arith); turns = l.turns }

  turns_low : (k : ℕ) (g : State) → Lower g (turns_of k c false tf q sf bf g)
  turns_low zero g = test_low g
  turns_low (suc k) g =
      let p = going false q (tf g) in
      cond_both (any c p) (turns_of k c false tf q sf bf (turn false p sf bf (tf g))) (tf g) (λ s. Lower g s)
      (λ e. on_low g (tf g) _ (test_low g) (on_low (tf g) (turn false p sf bf (tf g)) _ (turn_low p (tf g)) (turns_low k (turn false p sf bf (tf g)))))
      (λ e. test_low g)

  -- the place has left the loop, and the others may go on
  ended_out : (k : ℕ) (e : Env) (g : State) → Holds i ss b e g → g.live i ≡ false → length e.values ≡ length ss → Ended i ss b (Next, e) (turns_of k c false tf q sf bf g)
  ended_out k e g rel out exact =
      record { next = refl; rel = rel_still i (b + length ss) b ss b e g _ free (omega arith) (turns_low k g) (turns_still k c i false tf q sf bf sleeps (λ s. (st s).still) (λ s. (bs s).still) g out) rel; exact = exact }

  abbrev GoesRound : ℕ → Type 0
  GoesRound k = (e : Env) (g : State) → g.live i ≡ true → Holds i ss b e g → length e.values ≡ length ss → Ended i ss b (loop k false vt vs vb e) (turns_of k c false tf q sf bf g)

  -- the step, and what follows it
  stepped : (k : ℕ) → GoesRound k → (e : Env) (h : State) → h.staying i ≡ true → Holds i ss b e h → length e.values ≡ length ss → Ended i ss b (loop k false vt vs vb (vs e).1) (turns_of k c false tf q sf bf (sf (resumed h)))
  stepped k ih e h stay rel exact =
      let l = (st (resumed h)).runs e stay (rel_masks i ss b e h h.staying h.staying free rel) exact in
      let w : Went i ss b (vs e).1 (resumed h) (sf (resumed h)) = subst (λ z. Lands i ss ss b z (vs e).1 (resumed h) (sf (resumed h))) (goes_on e) l in
      ih (vs e).1 (sf (resumed h)) w.live w.rel w.exact

  -- the end of a turn
  after_turn : (k : ℕ) → GoesRound k → (x : Signal) (e : Env) (g h : State) → g.staying i ≡ true → Lands i ss ss b x e g h → length e.values ≡ length ss → Ended i ss b (round (x, e) vs (loop k false vt vs vb)) (turns_of k c false tf q sf bf (sf (resumed h)))
  after_turn k ih Next e g h s l exact = stepped k ih e h (l.staying ∙ s) l.rel exact
  after_turn k ih Continue e g h s l exact = stepped k ih e h (l.staying ∙ s) l.rel exact
  after_turn k ih Break e g h s l exact =
      let z = (st (resumed h)).still l.staying in
      ended_out k e (sf (resumed h)) (rel_still i (b + length ss) b ss b e (resumed h) _ free (omega arith) (st (resumed h)).low z.kept (rel_masks i ss b e h h.staying h.staying free l.rel)) z.live exact

  -- the place takes no turn
  stops : (k : ℕ) (e : Env) (x : State) → Holds i ss b e x → length e.values ≡ length ss → going false q x i ≡ false → Ended i ss b (Next, e) (cond (any c (going false q x)) (turns_of k c false tf q sf bf (turn false (going false q x) sf bf x)) x)
  stops k e x rel exact out =
      let p = going false q x in
      cond_both (any c p) (turns_of k c false tf q sf bf (turn false p sf bf x)) x (λ s. Ended i ss b (Next, e) s)
      (λ h. let t = turn_still i false p sf bf (λ s. (st s).still) (λ s. (bs s).still) x out in
      ended_out k e (turn false p sf bf x) (rel_still i (b + length ss) b ss b e x _ free (omega arith) (turn_low p x) t.1 rel) t.0 exact)
      (λ h. record { next = refl; rel = rel; exact = exact })

  pub loop_runs : (k : ℕ) → GoesRound k
  loop_runs zero e g live rel exact = let v = (ts g).runs e live rel exact in record { next = refl; rel = v.rel; exact = v.exact }
  loop_runs (suc k) e g live rel exact =
      let v = (ts g).runs e live rel exact in
      let x = tf g in
      let e1 = (vt e).1 in
      let p = going false q x in
      let h : State = cond (any c p) (turns_of k c false tf q sf bf (turn false p sf bf x)) x in
      let at_test : is_true (read x q i) ≡ is_true (vt e).0 = ap is_true v.value in
      let at_own : nat_lt 0 (x.own i) ≡ nat_lt 0 e1.own = ap (nat_lt 0) v.rel.own in
      cond_both (is_true (vt e).0) (cond (nat_lt 0 (budget false e1)) (round (vb (spend false e1)) vs (loop k false vt vs vb)) (Next, e1)) (Next, e1) (λ r. Ended i ss b r h)
      (λ yes. cond_both (nat_lt 0 (budget false e1)) (round (vb (spend false e1)) vs (loop k false vt vs vb)) (Next, e1) (λ r. Ended i ss b r h)
      (λ some.
      let pi = and_from (x.live i) _ v.live (and_from (is_true (read x q i)) (nat_lt 0 (x.own i)) (at_test ∙ yes) (at_own ∙ some)) in
      let s0 = start p x in
      let l = (bs s0).runs (spend false e1) pi (turn_taken i ss b e1 record x { live = p; staying = p } free pi (rel_masks i ss b e1 x p p free v.rel)) v.exact in
      let o = after_turn k (loop_runs k) (vb (spend false e1)).0 (vb (spend false e1)).1 s0 (bf s0) pi l.0 l.1 in
      subst (λ s. Ended i ss b (round (vb (spend false e1)) vs (loop k false vt vs vb)) s) (sym (cond-true (any c p) _ x (any_true c i p lt pi))) o)
      (λ none. stops k e1 x v.rel v.exact (and_right (x.live i) _ (and_right (is_true (read x q i)) (nat_lt 0 (x.own i)) (at_own ∙ none)))))
      (λ no. stops k e1 x v.rel v.exact (and_right (x.live i) _ (and_left (is_true (read x q i)) _ (at_test ∙ no))))

  pub loop_step : (k : ℕ) (g : State) → StmtStep i ss ss b (loop k false vt vs vb) g (looped k c false tf q sf bf g)
  loop_step k g =
      let low = turns_low k g in
      record {
        low = record { shared = low.shared; rows = low.rows; turns = low.turns };
        still = λ h. let s = turns_still k c i false tf q sf bf sleeps (λ s. (st s).still) (λ s. (bs s).still) g h in record { live = h; staying = refl; kept = record { rows = s.rows; own = s.own } };
        runs = λ e live rel exact.
            let o = loop_runs k e g live rel exact in
            subst (λ s. Lands i ss ss b s (loop k false vt vs vb e).1 g (looped k c false tf q sf bf g)) (sym o.next)
            record { live = live; staying = refl; rel = rel_masks i ss b _ (turns_of k c false tf q sf bf g) g.live g.staying free o.rel; exact = o.exact };
      }
