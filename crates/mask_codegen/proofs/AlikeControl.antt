-- Conditions, loops and statements over lights, at all points and at each.
use Rattle.std.proofs.Common.{◌≡◌, ℕ, zero, suc, ◌-◌, ◌<◌, Bool, true, false, cond, List, length, refl, sym, ap, ◌∙◌}
use Rattle.std.specs.Prelude.{nat_lt}
use Rattle.std.proofs.lemmas.Bool.{cond_both}
use Rattle.sl_ast.specs.declared.kinds.LightStmt.{LightStmt}
use Rattle.sl_ast.specs.declared.typed.Value.{Value}
use Rattle.builtins.specs.Values.{is_true}
use Rattle.sl_meaning.specs.Core.{Slot}
use Rattle.sl_meaning.specs.Environment.{Env, Around, Signal, Next, Break, Continue, spend}
use Rattle.sl_meaning.specs.Alone.{Gives, Runs, either, round, loop, over_lights, with_args}
use Rattle.sl_meaning.specs.Grid.{Envs, GivesAll, RunsAll, each, choice_all, round_all, loop_all, with_args_all}
use Rattle.core_codegen.proofs.Varying.{over_next}
use Rattle.mask_codegen.proofs.Kept.{Kept, lights_kept}
use Rattle.mask_codegen.proofs.Alike.{Exact, Alike, BodyAlike, each_exact}

-- one condition for all points
pub one_alike : (c : ℕ) (ss : List Slot) (v : Bool) (sa sb : Runs) (es e1 : Envs) (oa ob : Signal × Envs) (t : Gives Value) → ((i : ℕ) → i < c → is_true (t (es i)).0 ≡ v) → ((i : ℕ) → i < c → e1 i ≡ (t (es i)).1)
    → BodyAlike c ss sa e1 oa → BodyAlike c ss sb e1 ob → BodyAlike c ss (either t sa sb) es (cond v oa ob)
one_alike c ss true sa sb es e1 oa ob t ht he ha hb =
    let at : (i : ℕ) → i < c → either t sa sb (es i) ≡ sa (e1 i) = λ i l. ap (λ b. cond b (sa (t (es i)).1) (sb (t (es i)).1)) (ht i l) ∙ ap sa (sym (he i l)) in
    record { signal = λ i l. ap (λ q. q.0) (at i l) ∙ ha.signal i l; env = λ i l. ha.env i l ∙ sym (ap (λ q. q.1) (at i l)); agree = ha.agree }
one_alike c ss false sa sb es e1 oa ob t ht he ha hb =
    let at : (i : ℕ) → i < c → either t sa sb (es i) ≡ sb (e1 i) = λ i l. ap (λ b. cond b (sa (t (es i)).1) (sb (t (es i)).1)) (ht i l) ∙ ap sb (sym (he i l)) in
    record { signal = λ i l. ap (λ q. q.0) (at i l) ∙ hb.signal i l; env = λ i l. hb.env i l ∙ sym (ap (λ q. q.1) (at i l)); agree = hb.agree }

-- each point its own way
pub parts_alike : (c : ℕ) (ss : List Slot) (u : Bool) (t : Gives Value) (sa sb : Runs) (gt : GivesAll Value) (ga gb : RunsAll) (es : Envs) → Alike Value c ss u t es (gt es)
    → ((e : Env) → (sa e).0 ≡ Next) → ((e : Env) → (sb e).0 ≡ Next) → ((e : Env) → length e.values ≡ length ss → Kept ss e (sa e).1) → ((e : Env) → length e.values ≡ length ss → Kept ss e (sb e).1)
    → BodyAlike c ss (either t sa sb) es (choice_all false gt ga gb sa sb es)
parts_alike c ss u t sa sb gt ga gb es h na nb ka kb =
    let v = (gt es).0 in
    let e1 = (gt es).1 in
    let out : ℕ → Signal × Env = λ i. cond (is_true (v i)) (sa (e1 i)) (sb (e1 i)) in
    let at : (i : ℕ) → i < c → either t sa sb (es i) ≡ out i = λ i l.
    ap (λ b. cond b (sa (t (es i)).1) (sb (t (es i)).1)) (ap is_true (sym (h.value i l))) ∙ ap (λ e. cond (is_true (v i)) (sa e) (sb e)) (sym (h.env i l)) in
    let next : (i : ℕ) → (out i).0 ≡ Next = λ i. cond_both (is_true (v i)) (sa (e1 i)) (sb (e1 i)) (λ r. r.0 ≡ Next) (λ q. na (e1 i)) (λ q. nb (e1 i)) in
    let keep : (i : ℕ) → i < c → Kept ss (e1 i) (out i).1 = λ i l. cond_both (is_true (v i)) (sa (e1 i)) (sb (e1 i)) (λ r. Kept ss (e1 i) r.1) (λ q. ka (e1 i) (h.agree.exact i l)) (λ q. kb (e1 i) (h.agree.exact i l)) in
    record {
      signal = λ i l. ap (λ q. q.0) (at i l) ∙ next i;
      env = λ i l. sym (ap (λ q. q.1) (at i l));
      agree = each_exact c ss e1 (λ i. (out i).1) h.agree keep;
    }

-- a statement that each point goes through by itself
pub each_alike : (c : ℕ) (ss : List Slot) (s : Runs) (es : Envs) → Exact c ss es → ((e : Env) → (s e).0 ≡ Next) → ((e : Env) → length e.values ≡ length ss → Kept ss e (s e).1) → BodyAlike c ss s es (each (λ i. s) es)
each_alike c ss s es x next keep =
    record { signal = λ i l. next (es i); env = λ i l. refl; agree = each_exact c ss es (λ i. (s (es i)).1) x (λ i l. keep (es i) (x.exact i l)) }

pub lights_alike : (c : ℕ) (ss : List Slot) (u : Bool) (w : LightStmt) (g : Around) (args : Gives (List Value)) (body : Runs) (gargs : GivesAll (List Value)) (es : Envs) → Alike (List Value) c ss u args es (gargs es)
    → ((e : Env) → (body e).0 ≡ Next) → ((e : Env) → length e.values ≡ length ss → Kept ss e (body e).1)
    → BodyAlike c ss (with_args args (λ vs. over_lights w g vs body)) es (with_args_all gargs (λ vs. over_lights w g vs body) es)
lights_alike c ss u w g args body gargs es h next keep =
    let e1 = (gargs es).1 in
    let vs = (gargs es).0 in
    let at : (i : ℕ) → i < c → over_lights w g (args (es i)).0 body (args (es i)).1 ≡ over_lights w g (vs i) body (e1 i) = λ i l.
    ap (λ v. over_lights w g v body (args (es i)).1) (sym (h.value i l)) ∙ ap (λ e. over_lights w g (vs i) body e) (sym (h.env i l)) in
    record {
      signal = λ i l. ap (λ q. q.0) (at i l) ∙ over_next w g (vs i) body (e1 i) next;
      env = λ i l. sym (ap (λ q. q.1) (at i l));
      agree = each_exact c ss e1 (λ i. (over_lights w g (vs i) body (e1 i)).1) h.agree (λ i l. lights_kept ss body keep w g (vs i) (e1 i) (h.agree.exact i l));
    }

-- a uniform loop
module _ (c : ℕ) (pos : 0 < c) (ss : List Slot) (t : Gives Value) (step body : Runs) (gt : GivesAll Value) (gstep gbody : RunsAll) (ht : (es : Envs) → Exact c ss es → Alike Value c ss true t es (gt es)) (hs : (es : Envs) → Exact c ss es → BodyAlike c ss step es (gstep es)) (hb : (es : Envs) → Exact c ss es → BodyAlike c ss body es (gbody es)) where
  spend_exact : (es : Envs) → Exact c ss es → Exact c ss (λ i. spend true (es i))
  spend_exact es x =
      record { agree = record { uniform = x.agree.uniform; named = x.agree.named; turns = λ i j l m. ap (λ v. v - 1) (x.agree.turns i j l m); long = x.agree.long }; exact = x.exact }

  abbrev Loops : ℕ → Type 0
  Loops n = (es : Envs) → Exact c ss es → BodyAlike c ss (loop n true t step body) es (loop_all n gt gstep gbody es)

  -- behind the body of a turn: the step and the other turns, unless it left the loop
  turned : (n : ℕ) → Loops n → (e1 es : Envs) → ((i : ℕ) → i < c → e1 i ≡ (body (es i)).1) → Exact c ss e1
      → ((i : ℕ) → i < c → round (body (es i)) step (loop n true t step body) ≡ loop n true t step body (step (body (es i)).1).1)
      → BodyAlike c ss (λ e. round (body e) step (loop n true t step body)) es (loop_all n gt gstep gbody (gstep e1).1)
  turned n ih e1 es he exact at =
      let go = loop n true t step body in
      let q = hs e1 exact in
      let y = ih (gstep e1).1 q.agree in
      let there : (i : ℕ) → i < c → round (body (es i)) step go ≡ go ((gstep e1).1 i) = λ i l. at i l ∙ ap (λ e. go (step e).1) (sym (he i l)) ∙ ap go (sym (q.env i l)) in
      record { signal = λ i l. ap (λ r. r.0) (there i l) ∙ y.signal i l; env = λ i l. y.env i l ∙ sym (ap (λ r. r.1) (there i l)); agree = y.agree }

  round_alike : (n : ℕ) → Loops n → (x : Signal) (e1 es : Envs) → BodyAlike c ss body es (x, e1) → BodyAlike c ss (λ e. round (body e) step (loop n true t step body)) es (round_all (x, e1) gstep (loop_all n gt gstep gbody))
  round_alike n ih Next e1 es h = turned n ih e1 es h.env h.agree (λ i l. ap (λ q. round (q, (body (es i)).1) step (loop n true t step body)) (h.signal i l))
  round_alike n ih Continue e1 es h = turned n ih e1 es h.env h.agree (λ i l. ap (λ q. round (q, (body (es i)).1) step (loop n true t step body)) (h.signal i l))
  round_alike n ih Break e1 es h =
      let at : (i : ℕ) → i < c → round (body (es i)) step (loop n true t step body) ≡ (Next, (body (es i)).1) = λ i l. ap (λ q. round (q, (body (es i)).1) step (loop n true t step body)) (h.signal i l) in
      record { signal = λ i l. ap (λ q. q.0) (at i l); env = λ i l. h.env i l ∙ sym (ap (λ q. q.1) (at i l)); agree = h.agree }

  -- a turn from e on, on condition v and with turns left by w
  abbrev turn : ℕ → Bool → Bool → Env → Signal × Env
  turn n v w e = cond v (cond w (round (body (spend true e)) step (loop n true t step body)) (Next, e)) (Next, e)

  loop_cases : (n : ℕ) → Loops n → (v w : Bool) (e1 es : Envs) → Exact c ss e1 → ((i : ℕ) → i < c → is_true (t (es i)).0 ≡ v) → ((i : ℕ) → i < c → nat_lt 0 (e1 i).turns ≡ w) → ((i : ℕ) → i < c → e1 i ≡ (t (es i)).1)
      → BodyAlike c ss (loop (suc n) true t step body) es (cond v (cond w (round_all (gbody (λ i. spend true (e1 i))) gstep (loop_all n gt gstep gbody)) (Next, e1)) (Next, e1))
  loop_cases n ih false w e1 es x hv hw he =
      let at : (i : ℕ) → i < c → loop (suc n) true t step body (es i) ≡ (Next, (t (es i)).1) = λ i l. ap (λ b. turn n b (nat_lt 0 (t (es i)).1.turns) (t (es i)).1) (hv i l) in
      record { signal = λ i l. ap (λ q. q.0) (at i l); env = λ i l. he i l ∙ sym (ap (λ q. q.1) (at i l)); agree = x }
  loop_cases n ih true false e1 es x hv hw he =
      let at : (i : ℕ) → i < c → loop (suc n) true t step body (es i) ≡ (Next, (t (es i)).1) = λ i l.
      ap (λ b. turn n b (nat_lt 0 (t (es i)).1.turns) (t (es i)).1) (hv i l) ∙ ap (λ b. turn n true b (t (es i)).1) (sym (ap (λ e. nat_lt 0 e.turns) (he i l)) ∙ hw i l) in
      record { signal = λ i l. ap (λ q. q.0) (at i l); env = λ i l. he i l ∙ sym (ap (λ q. q.1) (at i l)); agree = x }
  loop_cases n ih true true e1 es x hv hw he =
      let s : Envs = λ i. spend true (e1 i) in
      let y = round_alike n ih (gbody s).0 (gbody s).1 s (hb s (spend_exact e1 x)) in
      let at : (i : ℕ) → i < c → loop (suc n) true t step body (es i) ≡ round (body (s i)) step (loop n true t step body) = λ i l.
      ap (λ b. turn n b (nat_lt 0 (t (es i)).1.turns) (t (es i)).1) (hv i l) ∙ ap (λ b. turn n true b (t (es i)).1) (sym (ap (λ e. nat_lt 0 e.turns) (he i l)) ∙ hw i l) ∙
      ap (λ e. round (body (spend true e)) step (loop n true t step body)) (sym (he i l)) in
      record { signal = λ i l. ap (λ q. q.0) (at i l) ∙ y.signal i l; env = λ i l. y.env i l ∙ sym (ap (λ q. q.1) (at i l)); agree = y.agree }

  pub loop_alike : (n : ℕ) (es : Envs) → Exact c ss es → BodyAlike c ss (loop n true t step body) es (loop_all n gt gstep gbody es)
  loop_alike zero es x = let h = ht es x in record { signal = λ i l. refl; env = h.env; agree = h.agree }
  loop_alike (suc n) es x =
      let h = ht es x in
      loop_cases n (loop_alike n) (is_true ((gt es).0 0)) (nat_lt 0 ((gt es).1 0).turns) (gt es).1 es h.agree
      (λ i l. ap is_true (sym (h.value i l) ∙ h.same refl i 0 l pos)) (λ i l. ap (λ z. nat_lt 0 z) (h.agree.agree.turns i 0 l pos)) h.env
