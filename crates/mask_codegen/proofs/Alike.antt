-- Points that agree on what is uniform, and what each node does to all of them as it does to each.
use Rattle.std.proofs.Common.{◌≡◌, ℕ, zero, suc, ◌<◌, ◌≤◌, Bool, true, false, List, [], ◌∷◌, length, get_or, take, refl, sym, ap, ◌∙◌, arith, subst}
use Rattle.std.specs.Prelude.{◌&&◌}
use Rattle.std.proofs.lemmas.Bool.{and_parts}
use Rattle.std.proofs.lemmas.List.{get_or-take, length-take-le}
use Rattle.sl_ast.specs.declared.kinds.Predefined.{Predefined}
use Rattle.sl_ast.specs.declared.kinds.Predefined.TheVariants as names
use Rattle.sl_ast.specs.declared.typed.Value.{Value}
use Rattle.sl_ast.specs.declared.typed.Variable.{Variable}
use Rattle.sl_ast.specs.declared.typed.Variable.TheVariants as variables
use Rattle.sl_ast.specs.Classes.{is_uniform_name}
use Rattle.builtins.specs.Lights.{Light}
use Rattle.sl_meaning.specs.Core.{Slot, no_slot, class_in}
use Rattle.sl_meaning.specs.Environment.{Env, Around, Signal, Next, Break, Continue, zero_value, read_of, scope_of, cut_to}
use Rattle.sl_meaning.specs.Alone.{Gives, Runs, on_value, then_more, inlined, on_next, inside, answers_at, summed}
use Rattle.sl_meaning.specs.Grid.{Envs, GivesAll, RunsAll, on_all, more_all, summed_all, inlined_all, next_all, inside_all}
use Rattle.core_codegen.specs.Fine.{InScope}
use Rattle.core_codegen.proofs.Scopes.{Extends}
use Rattle.mask_codegen.proofs.Kept.{Kept}

-- all points have the same uniform variables and the same uniform budget
pub record Agree (c : ℕ) (ss : List Slot) (es : Envs) : Type 0 where
  pub uniform : (i j k : ℕ) → i < c → j < c → k < length ss → (get_or ss k no_slot).uniform ≡ true → get_or (es i).values k zero_value ≡ get_or (es j).values k zero_value
  pub named : (i j : ℕ) (p : Predefined) → i < c → j < c → is_uniform_name p ≡ true → (es i).named p ≡ (es j).named p
  pub turns : (i j : ℕ) → i < c → j < c → (es i).turns ≡ (es j).turns
  pub long : (i : ℕ) → i < c → length ss ≤ length (es i).values

-- and have just these variables in scope
pub record Exact (c : ℕ) (ss : List Slot) (es : Envs) : Type 0 where
  pub agree : Agree c ss es
  pub exact : (i : ℕ) → i < c → length (es i).values ≡ length ss

-- a value at all points is the value at each, and is one value where it is uniform
pub record Alike (A : Type 0) (c : ℕ) (ss : List Slot) (u : Bool) (a : Gives A) (es : Envs) (r : (ℕ → A) × Envs) : Type 0 where
  pub value : (i : ℕ) → i < c → r.0 i ≡ (a (es i)).0
  pub env : (i : ℕ) → i < c → r.1 i ≡ (a (es i)).1
  pub agree : Exact c ss r.1
  pub same : u ≡ true → (i j : ℕ) → i < c → j < c → r.0 i ≡ r.0 j

-- where the points stand behind a statement
abbrev pub AgreeAfter : Signal → ℕ → List Slot → List Slot → Envs → Type 0
AgreeAfter Next c ss' ss es = Exact c ss' es
AgreeAfter Break c ss' ss es = Agree c ss es
AgreeAfter Continue c ss' ss es = Agree c ss es

pub record StmtAlike (c : ℕ) (ss' ss : List Slot) (s : Runs) (es : Envs) (r : Signal × Envs) : Type 0 where
  pub signal : (i : ℕ) → i < c → (s (es i)).0 ≡ r.0
  pub env : (i : ℕ) → i < c → r.1 i ≡ (s (es i)).1
  pub agree : AgreeAfter r.0 c ss' ss r.1

-- a block gives back its scope, whatever its signal
pub record BodyAlike (c : ℕ) (ss : List Slot) (s : Runs) (es : Envs) (r : Signal × Envs) : Type 0 where
  pub signal : (i : ℕ) → i < c → (s (es i)).0 ≡ r.0
  pub env : (i : ℕ) → i < c → r.1 i ≡ (s (es i)).1
  pub agree : Exact c ss r.1

pub read_alike : (c : ℕ) (ss : List Slot) (x : Variable) (es : Envs) → InScope x ss → Exact c ss es → Alike Value c ss (class_in x ss) (λ e. (read_of x e, e)) es (λ i. read_of x (es i), es)
read_alike c ss (variables.Predefined p) es h x = record { value = λ i l. refl; env = λ i l. refl; agree = x; same = λ u i j l m. x.agree.named i j p l m u }
read_alike c ss (variables.Level k) es h x = record { value = λ i l. refl; env = λ i l. refl; agree = x; same = λ u i j l m. x.agree.uniform i j k l m h u }

pub on_alike : (A B : Type 0) (c : ℕ) (ss : List Slot) (u : Bool) (f : A → B) (a : Gives A) (ga : GivesAll A) (es : Envs) → Alike A c ss u a es (ga es) → Alike B c ss u (on_value f a) es (on_all f ga es)
on_alike A B c ss u f a ga es x = record { value = λ i l. ap f (x.value i l); env = x.env; agree = x.agree; same = λ s i j l m. ap f (x.same s i j l m) }

pub more_alike : (A : Type 0) (c : ℕ) (ss : List Slot) (u w : Bool) (a : Gives A) (rest : Gives (List A)) (ga : GivesAll A) (grest : GivesAll (List A)) (es : Envs)
    → Alike A c ss u a es (ga es) → Alike (List A) c ss w rest (ga es).1 (grest (ga es).1) → Alike (List A) c ss (u && w) (then_more a rest) es (more_all ga grest es)
more_alike A c ss u w a rest ga grest es x y =
    record {
      value = λ i l. let p = x.value i l in let q = y.value i l in let d = ap (λ e. (rest e).0) (x.env i l) in cc;
      env = λ i l. y.env i l ∙ ap (λ e. (rest e).1) (x.env i l);
      agree = y.agree;
      same = λ s i j l m. let parts = and_parts u w s in let p = x.same parts.0 i j l m in let q = y.same parts.1 i j l m in cc;
    }

pub summed_alike : (c : ℕ) (ss : List Slot) (u : Bool) (g : Around) (f : List Value → List Light → Value) (a : Gives (List Value)) (ga : GivesAll (List Value)) (es : Envs)
    → Alike (List Value) c ss u a es (ga es) → Alike Value c ss false (summed g f a) es (summed_all g f ga es)
summed_alike c ss u g f a ga es x =
    record {
      value = λ i l. ap (λ v. f v (answers_at g (((ga es).1 i).named names.P))) (x.value i l) ∙ ap (λ e. f (a (es i)).0 (answers_at g (e.named names.P))) (x.env i l);
      env = x.env;
      agree = x.agree;
      same = λ s i j l m. absurd (cc s);
    }

-- the environments of a call's body
abbrev pub callees : (ℕ → List Value) × Envs → Envs
callees r = λ i. record (r.1 i) { values = r.0 i }

pub record ArgsAlike (c : ℕ) (ss fs : List Slot) (a : Gives (List Value)) (es : Envs) (r : (ℕ → List Value) × Envs) : Type 0 where
  pub value : (i : ℕ) → i < c → r.0 i ≡ (a (es i)).0
  pub env : (i : ℕ) → i < c → r.1 i ≡ (a (es i)).1
  pub agree : Exact c ss r.1
  pub callee : Exact c fs (callees r)

pub no_args_alike : (c : ℕ) (ss : List Slot) (es : Envs) → Exact c ss es → ArgsAlike c ss [] (λ e. ([], e)) es (λ i. [], es)
no_args_alike c ss es x =
    record {
      value = λ i l. refl;
      env = λ i l. refl;
      agree = x;
      callee = record { agree = record { uniform = λ i j k l m a b. absurd (omega arith); named = x.agree.named; turns = x.agree.turns; long = λ i l. omega arith }; exact = λ i l. refl };
    }

pub arg_alike : (c : ℕ) (ss fs : List Slot) (s : Slot) (w : Bool) (a : Gives Value) (rest : Gives (List Value)) (ga : GivesAll Value) (grest : GivesAll (List Value)) (es : Envs)
    → (s.uniform ≡ true → w ≡ true) → Alike Value c ss w a es (ga es) → ArgsAlike c ss fs rest (ga es).1 (grest (ga es).1) → ArgsAlike c ss (s ∷ fs) (then_more a rest) es (more_all ga grest es)
arg_alike c ss fs s w a rest ga grest es takes x y =
    let pick : (i j k : ℕ) → i < c → j < c → k < length (s ∷ fs) → (get_or (s ∷ fs) k no_slot).uniform ≡ true → get_or ((more_all ga grest es).0 i) k zero_value ≡ get_or ((more_all ga grest es).0 j) k zero_value =
    λ i j. elim [ zero ↦ λ l m p q. x.same (takes q) i j l m | suc k ↦ λ l m p q. y.callee.agree.uniform i j k l m (omega arith) q ] in
    record {
      value = λ i l. let p = x.value i l in let q = y.value i l in let d = ap (λ e. (rest e).0) (x.env i l) in cc;
      env = λ i l. y.env i l ∙ ap (λ e. (rest e).1) (x.env i l);
      agree = y.agree;
      callee = record {
        agree = record { uniform = pick; named = y.callee.agree.named; turns = y.callee.agree.turns; long = λ i l. let q = y.callee.exact i l in omega arith };
        exact = λ i l. ap suc (y.callee.exact i l);
      };
    }

pub call_alike : (c : ℕ) (ss fs ss2 : List Slot) (w : Bool) (a : Gives (List Value)) (body : Runs) (r : Gives Value) (ga : GivesAll (List Value)) (gbody : RunsAll) (gr : GivesAll Value) (es : Envs)
    → ((es : Envs) → (gbody es).0 ≡ Next) → ArgsAlike c ss fs a es (ga es) → StmtAlike c ss2 fs body (callees (ga es)) (gbody (callees (ga es)))
    → (Exact c ss2 (gbody (callees (ga es))).1 → Alike Value c ss2 w r (gbody (callees (ga es))).1 (gr (gbody (callees (ga es))).1)) → Alike Value c ss w (inlined a body r) es (inlined_all ga gbody gr es)
call_alike c ss fs ss2 w a body r ga gbody gr es next x y hz =
    let q = ga es in
    let b = (gbody (callees q)).1 in
    let z = hz (subst (λ s. AgreeAfter s c ss2 fs b) (next (callees q)) y.agree) in
    let callee_is : (i : ℕ) → i < c → callees q i ≡ record (a (es i)).1 { values = (a (es i)).0 } = λ i l.
    let onto : List Value → Env = λ v. record (q.1 i) { values = v } in
    let into : Env → Env = λ e. record e { values = (a (es i)).0 } in
    ap onto (x.value i l) ∙ ap into (x.env i l) in
    let body_is : (i : ℕ) → i < c → b i ≡ (body record (a (es i)).1 { values = (a (es i)).0 }).1 = λ i l. y.env i l ∙ ap (λ e. (body e).1) (callee_is i l) in
    record {
      value = λ i l. z.value i l ∙ ap (λ e. (r e).0) (body_is i l);
      env = λ i l. ap (λ e. scope_of e ((gr b).1 i)) (x.env i l) ∙ ap (λ e. scope_of (a (es i)).1 e) (z.env i l ∙ ap (λ e. (r e).1) (body_is i l));
      agree = record {
        agree = record { uniform = x.agree.agree.uniform; named = z.agree.agree.named; turns = z.agree.agree.turns; long = x.agree.agree.long };
        exact = x.agree.exact;
      };
      same = z.same;
    }

agree_any : (c : ℕ) (ss' ss : List Slot) (x : Signal) (es : Envs) → Extends ss ss' → AgreeAfter x c ss' ss es → Agree c ss es
agree_any c ss' ss Next es e h =
    let long = e.long in
    record {
      uniform = λ i j k l m a b. h.agree.uniform i j k l m (omega arith) (ap (λ s. s.uniform) (e.same k a) ∙ b);
      named = h.agree.named;
      turns = h.agree.turns;
      long = λ i l. let q = h.exact i l in omega arith;
    }
agree_any c ss' ss Break es e h = h
agree_any c ss' ss Continue es e h = h

agree_of : (c : ℕ) (ss : List Slot) (x : Signal) (es : Envs) → Exact c ss es → AgreeAfter x c ss ss es
agree_of c ss Next es h = h
agree_of c ss Break es h = h.agree
agree_of c ss Continue es h = h.agree

pub block_alike : (c : ℕ) (ss : List Slot) (s : Runs) (es : Envs) (r : Signal × Envs) → BodyAlike c ss s es r → StmtAlike c ss ss s es r
block_alike c ss s es r h = record { signal = h.signal; env = h.env; agree = agree_of c ss r.0 r.1 h.agree }

-- a step declares nothing and goes on
pub step_alike : (c : ℕ) (ss' ss : List Slot) (s : Runs) (es : Envs) (r : Signal × Envs) → ss' ≡ ss → r.0 ≡ Next → StmtAlike c ss' ss s es r → BodyAlike c ss s es r
step_alike c ss' ss s es r q n h =
    record { signal = h.signal; env = h.env; agree = subst (λ z. Exact c z r.1) q (subst (λ x. AgreeAfter x c ss' ss r.1) n h.agree) }

pub inside_alike : (c : ℕ) (ss' ss : List Slot) (s : Runs) (gs : RunsAll) (es : Envs) → Extends ss ss' → Exact c ss es → StmtAlike c ss' ss s es (gs es) → BodyAlike c ss (inside s) es (inside_all gs es)
inside_alike c ss' ss s gs es e x h =
    let a = agree_any c ss' ss (gs es).0 (gs es).1 e h.agree in
    let len : (i : ℕ) → i < c → length (take (length (es i).values) ((gs es).1 i).values) ≡ length ss = λ i l.
    let xi = x.exact i l in let q = a.long i l in length-take-le (length (es i).values) ((gs es).1 i).values (omega arith) ∙ xi in
    record {
      signal = h.signal;
      env = λ i l. ap (cut_to (es i)) (h.env i l);
      agree = record {
        agree = record {
          uniform = λ i j k l m p q. let xi = x.exact i l in let xj = x.exact j m in
              get_or-take (length (es i).values) ((gs es).1 i).values k zero_value (omega arith) ∙ a.uniform i j k l m p q ∙ sym (get_or-take (length (es j).values) ((gs es).1 j).values k zero_value (omega arith));
          named = a.named;
          turns = a.turns;
          long = λ i l. let q = len i l in omega arith;
        };
        exact = len;
      };
    }

shorter : (c : ℕ) (ss1 ss : List Slot) (es : Envs) → Extends ss ss1 → Agree c ss1 es → Agree c ss es
shorter c ss1 ss es e h =
    let long = e.long in
    record {
      uniform = λ i j k l m a b. h.uniform i j k l m (omega arith) (ap (λ s. s.uniform) (e.same k a) ∙ b);
      named = h.named;
      turns = h.turns;
      long = λ i l. let q = h.long i l in omega arith;
    }

after_first : (c : ℕ) (ss2 ss1 ss : List Slot) (x : Signal) (es : Envs) → Extends ss ss1 → AgreeAfter x c ss2 ss1 es → AgreeAfter x c ss2 ss es
after_first c ss2 ss1 ss Next es e h = h
after_first c ss2 ss1 ss Break es e h = shorter c ss1 ss es e h
after_first c ss2 ss1 ss Continue es e h = shorter c ss1 ss es e h

pub seq_alike : (c : ℕ) (ss2 ss1 ss : List Slot) (s go : Runs) (ggo : RunsAll) (es : Envs) (x : Signal) (e1 : Envs) → Extends ss ss1 → StmtAlike c ss1 ss s es (x, e1)
    → ((e : Envs) → Exact c ss1 e → StmtAlike c ss2 ss1 go e (ggo e)) → StmtAlike c ss2 ss (λ e. on_next (s e) go) es (next_all (x, e1) ggo)
seq_alike c ss2 ss1 ss s go ggo es Next e1 e h hg =
    let y = hg e1 h.agree in
    let at : (i : ℕ) → i < c → on_next (s (es i)) go ≡ go (e1 i) = λ i l. ap (λ q. on_next (q, (s (es i)).1) go) (h.signal i l) ∙ ap go (sym (h.env i l)) in
    record {
      signal = λ i l. ap (λ q. q.0) (at i l) ∙ y.signal i l;
      env = λ i l. y.env i l ∙ sym (ap (λ q. q.1) (at i l));
      agree = after_first c ss2 ss1 ss (ggo e1).0 (ggo e1).1 e y.agree;
    }
seq_alike c ss2 ss1 ss s go ggo es Break e1 e h hg =
    let at : (i : ℕ) → i < c → on_next (s (es i)) go ≡ (Break, (s (es i)).1) = λ i l. ap (λ q. on_next (q, (s (es i)).1) go) (h.signal i l) in
    record { signal = λ i l. ap (λ q. q.0) (at i l); env = λ i l. h.env i l ∙ sym (ap (λ q. q.1) (at i l)); agree = h.agree }
seq_alike c ss2 ss1 ss s go ggo es Continue e1 e h hg =
    let at : (i : ℕ) → i < c → on_next (s (es i)) go ≡ (Continue, (s (es i)).1) = λ i l. ap (λ q. on_next (q, (s (es i)).1) go) (h.signal i l) in
    record { signal = λ i l. ap (λ q. q.0) (at i l); env = λ i l. h.env i l ∙ sym (ap (λ q. q.1) (at i l)); agree = h.agree }

-- points that each go on by themselves, and keep what is uniform
pub each_exact : (c : ℕ) (ss : List Slot) (es out : Envs) → Exact c ss es → ((i : ℕ) → i < c → Kept ss (es i) (out i)) → Exact c ss out
each_exact c ss es out x k =
    record {
      agree = record {
        uniform = λ i j n l m a b. (k i l).uniform n a b ∙ x.agree.uniform i j n l m a b ∙ sym ((k j m).uniform n a b);
        named = λ i j p l m a. (k i l).named p a ∙ x.agree.named i j p l m a ∙ sym ((k j m).named p a);
        turns = λ i j l m. (k i l).turns ∙ x.agree.turns i j l m ∙ sym ((k j m).turns);
        long = λ i l. let q = (k i l).exact in omega arith;
      };
      exact = λ i l. (k i l).exact;
    }
