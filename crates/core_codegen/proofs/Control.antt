-- Choices at one place, under varying control.
use Rattle.std.proofs.Common.{◌≡◌, ℕ, ◌+◌, ◌<◌, ◌≤◌, Bool, true, false, cond, List, length, refl, ap, ◌∙◌, arith, subst}
use Rattle.std.specs.Prelude.{not, ◌&&◌, ◌||◌}
use Rattle.std.proofs.lemmas.Bool.{and_right, and_from, cond_both, not_from_true, not_from_false}
use Rattle.sl_ast.specs.declared.typed.Value.{Value}
use Rattle.builtins.specs.declared.shape.Shape.{Shape}
use Rattle.builtins.specs.Values.{is_true}
use Rattle.grid_code.specs.Names.{reg, first_free}
use Rattle.grid_code.specs.Masked.{State, under, both_parts}
use Rattle.sl_meaning.specs.Core.{Slot}
use Rattle.sl_meaning.specs.Environment.{Env, Signal, Next, Break, Continue}
use Rattle.sl_meaning.specs.Alone.{Runs, Gives, either}
use Rattle.core_codegen.specs.Correct.{Holds}
use Rattle.grid_code.proofs.Dead.{Still, still_on, parts_still}
use Rattle.core_codegen.proofs.Relation.{Low, low_on, rel_still, rel_masks}
use Rattle.core_codegen.proofs.Steps.{ExprStep}
use Rattle.core_codegen.proofs.Scopes.{Lands, StmtStep, BodyStep}

-- the same landing, seen between other states
pub lands_moved : (i : ℕ) (ss : List Slot) (b : ℕ) (x : Signal) (e : Env) (g h g' h' : State) → h'.live i ≡ h.live i → h'.staying i ≡ h.staying i → g.staying i ≡ g'.staying i → (Holds i ss b e h → Holds i ss b e h') → Lands i ss ss b x e g h → Lands i ss ss b x e g' h'
lands_moved i ss b Next e g h g' h' l s s' m x = record { live = l ∙ x.live; staying = s ∙ x.staying ∙ s'; rel = m x.rel; exact = x.exact }
lands_moved i ss b Break e g h g' h' l s s' m x = record { live = l ∙ x.live; staying = s ∙ x.staying; rel = m x.rel; long = x.long }
lands_moved i ss b Continue e g h g' h' l s s' m x = record { live = l ∙ x.live; staying = s ∙ x.staying ∙ s'; rel = m x.rel; long = x.long }

pub or_false : (x : Bool) → (x || false) ≡ x
or_false true = refl
or_false false = refl

module _ (c i : ℕ) (lt : i < c) (ss : List Slot) (b : ℕ) (free : first_free ≤ b) where
  -- both parts under a varying test
  pub parts_step : (r : ℕ) (t : Shape) (vt : Gives Value) (sa sb : Runs) (fa fb : State → State) (g g1 : State) → b + length ss ≤ r → ExprStep i ss b r (reg false t r) vt g g1 → (g.live i ≡ false → Still i g g1) → ((s : State) → BodyStep i ss b sa s (fa s)) → ((s : State) → BodyStep i ss b sb s (fb s)) → StmtStep i ss ss b (either vt sa sb) g (both_parts (λ j. is_true (g1.rows t r j)) fa fb g1)
  parts_step r t vt sa sb fa fb g g1 fit st sleeps ha hb =
      let p : ℕ → Bool = λ j. is_true (g1.rows t r j) in
      let x = fa (under p g1) in
      let y0 : State = record x { live = λ j. g1.live j && not (p j) } in
      let m = b + length ss in
      let a_low = (ha (under p g1)).low in
      let b_low = (hb y0).low in
      record {
        low =
            record {
              shared = λ t k h. b_low.shared t k h ∙ a_low.shared t k h ∙ st.low.shared t k (omega arith);
              rows = λ t k f h. b_low.rows t k f h ∙ a_low.rows t k f h ∙ st.low.rows t k f (omega arith);
              turns = b_low.turns ∙ a_low.turns ∙ st.low.turns;
            };
        still = λ h.
            let z = sleeps h in
            let w = parts_still i p fa fb (λ s. (ha s).still) (λ s. (hb s).still) g1 z.live in
            still_on i g g1 _ z w;
        runs = λ e live rel exact.
            let v = st.runs e live rel exact in
            let e1 = (vt e).1 in
            let at_p : p i ≡ is_true (vt e).0 = ap is_true v.value in
            cond_both (is_true (vt e).0) (sa e1) (sb e1) (λ o. Lands i ss ss b o.0 o.1 g (both_parts p fa fb g1))
            (λ yes.
            let pi = at_p ∙ yes in
            let rel_a : Holds i ss b e1 (under p g1) = rel_masks i ss b e1 g1 (under p g1).live g1.staying free v.rel in
            let l = (ha (under p g1)).runs e1 (and_from (g1.live i) (p i) v.live pi) rel_a v.exact in
            let s = (hb y0).still (and_right (g1.live i) (not (p i)) (not_from_true (p i) pi)) in
            lands_moved i ss b (sa e1).0 (sa e1).1 (under p g1) x g (both_parts p fa fb g1) (ap (λ q. x.live i || q) s.live ∙ or_false (x.live i)) s.staying v.staying
            (λ q. rel_still i m b ss b (sa e1).1 x (both_parts p fa fb g1) free (omega arith) record { shared = b_low.shared; rows = b_low.rows; turns = b_low.turns } record { rows = s.kept.rows; own = s.kept.own } q) l.0)
            (λ no.
            let pi = at_p ∙ no in
            let s = (ha (under p g1)).still (and_right (g1.live i) (p i) pi) in
            let rel_x : Holds i ss b e1 y0 = rel_still i m b ss b e1 g1 y0 free (omega arith) record { shared = a_low.shared; rows = a_low.rows; turns = a_low.turns } record { rows = s.kept.rows; own = s.kept.own } v.rel in
            let l = (hb y0).runs e1 (and_from (g1.live i) (not (p i)) v.live (not_from_false (p i) pi)) rel_x v.exact in
            lands_moved i ss b (sb e1).0 (sb e1).1 y0 (fb y0) g (both_parts p fa fb g1) (ap (λ q. q || (fb y0).live i) s.live) refl (s.staying ∙ v.staying)
            (λ q. rel_masks i ss b (sb e1).1 (fb y0) (both_parts p fa fb g1).live (fb y0).staying free q) l.0);
      }

  one_lands : (t : Bool) (oa ob : Signal × Env) (g g1 ga gb : State) → g1.staying i ≡ g.staying i → Lands i ss ss b oa.0 oa.1 g1 ga → Lands i ss ss b ob.0 ob.1 g1 gb → Lands i ss ss b (cond t oa ob).0 (cond t oa ob).1 g (cond t ga gb)
  one_lands true oa ob g g1 ga gb s la lb = lands_moved i ss b oa.0 oa.1 g1 ga g ga refl refl s (λ q. q) la
  one_lands false oa ob g g1 ga gb s la lb = lands_moved i ss b ob.0 ob.1 g1 gb g gb refl refl s (λ q. q) lb

  -- one of two blocks under a uniform test
  pub one_step : (r : ℕ) (t : Shape) (vt : Gives Value) (sa sb : Runs) (fa fb : State → State) (g g1 : State) → b + length ss ≤ r → ExprStep i ss b r (reg true t r) vt g g1 → (g.live i ≡ false → Still i g g1) → ((s : State) → BodyStep i ss b sa s (fa s)) → ((s : State) → BodyStep i ss b sb s (fb s)) → StmtStep i ss ss b (either vt sa sb) g (cond (is_true (g1.shared t r)) (fa g1) (fb g1))
  one_step r t vt sa sb fa fb g g1 fit st sleeps ha hb =
      record {
        low = cond_both (is_true (g1.shared t r)) (fa g1) (fb g1) (λ s. Low i (b + length ss) b g s)
            (λ q. low_on i (b + length ss) b r r (b + length ss) b g g1 _ (omega arith) (omega arith) (omega arith) (omega arith) st.low (ha g1).low)
            (λ q. low_on i (b + length ss) b r r (b + length ss) b g g1 _ (omega arith) (omega arith) (omega arith) (omega arith) st.low (hb g1).low);
        still = λ h. let z = sleeps h in
            cond_both (is_true (g1.shared t r)) (fa g1) (fb g1) (λ s. Still i g s) (λ q. still_on i g g1 _ z ((ha g1).still z.live)) (λ q. still_on i g g1 _ z ((hb g1).still z.live));
        runs = λ e live rel exact.
            let v = st.runs e live rel exact in
            let e1 = (vt e).1 in
            subst (λ t2. Lands i ss ss b (cond t2 (sa e1) (sb e1)).0 (cond t2 (sa e1) (sb e1)).1 g (cond (is_true (g1.shared t r)) (fa g1) (fb g1))) (ap is_true v.value)
            (one_lands (is_true (g1.shared t r)) (sa e1) (sb e1) g g1 (fa g1) (fb g1) v.staying ((ha g1).runs e1 v.live v.rel v.exact).0 ((hb g1).runs e1 v.live v.rel v.exact).0);
      }
