-- Scopes, and where a statement's code leaves a place.
use Rattle.std.proofs.Common.{◌≡◌, ℕ, ◌+◌, ◌<◌, ◌≤◌, true, false, List, [], ◌∷◌, length, get_or, take, refl, sym, ap, ◌∙◌, arith, length-append}
use Rattle.std.proofs.lemmas.List.{get_or_append_left, get_or-take, length-take-le}
use Rattle.grid_code.specs.Names.{first_free}
use Rattle.grid_code.specs.Masked.{State, read}
use Rattle.sl_meaning.specs.Core.{Slot, slot, no_slot, Stmt, declare, assign, block, test, repeat, lights, leave, again, Stmts, done, first, after, after_all}
use Rattle.sl_meaning.specs.Environment.{Env, Signal, Next, Break, Continue, zero_value}
use Rattle.sl_meaning.specs.Alone.{Runs, inside, on_next}
use Rattle.core_codegen.specs.Compile.{locals}
use Rattle.core_codegen.specs.Variables.{slot_at}
use Rattle.core_codegen.specs.Correct.{Holds}
use Rattle.grid_code.proofs.Dead.{Still, still_on}
use Rattle.core_codegen.proofs.Relation.{Low, low_on, rel_still}

pub record Extends (ss ss' : List Slot) : Type 0 where
  pub long : length ss ≤ length ss'
  pub same : (k : ℕ) → k < length ss → get_or ss' k no_slot ≡ get_or ss k no_slot

pub extends_self : (ss : List Slot) → Extends ss ss
extends_self ss = record { long = omega arith; same = λ k h. refl }

pub extends_on : (a b d : List Slot) → Extends a b → Extends b d → Extends a d
extends_on a b d x y = record { long = omega arith; same = λ k h. let x_long = x.long in y.same k (omega arith) ∙ x.same k h }

pub extends_stmt : (s : Stmt) (ss : List Slot) → Extends ss (after s ss)
extends_stmt (declare u kind e) ss = record { long = omega (arith, length-append ss (slot u kind ∷ [])); same = λ k h. get_or_append_left ss (slot u kind ∷ []) no_slot k h }
extends_stmt (assign x kind e) ss = extends_self ss
extends_stmt (block s) ss = extends_self ss
extends_stmt (test e s t) ss = extends_self ss
extends_stmt (repeat u e t s) ss = extends_self ss
extends_stmt (lights w args s) ss = extends_self ss
extends_stmt leave ss = extends_self ss
extends_stmt again ss = extends_self ss

pub extends_all : (s : Stmts) (ss : List Slot) → Extends ss (after_all s ss)
extends_all done ss = extends_self ss
extends_all (first s rest) ss = extends_on ss (after s ss) _ (extends_stmt s ss) (extends_all rest (after s ss))

-- how long the scope is behind a statement
pub after_long : (s : Stmt) (ss : List Slot) → length (after s ss) ≤ length ss + locals s
after_long (declare u kind e) ss = omega (arith, length-append ss (slot u kind ∷ []))
after_long (assign x kind e) ss = omega arith
after_long (block s) ss = omega arith
after_long (test e s t) ss = omega arith
after_long (repeat u e t s) ss = omega arith
after_long (lights w args s) ss = omega arith
after_long leave ss = omega arith
after_long again ss = omega arith

pub rel_prefix : (i : ℕ) (ss ss' : List Slot) (b : ℕ) (e : Env) (g : State) → Extends ss ss' → Holds i ss' b e g → Holds i ss b e g
rel_prefix i ss ss' b e g x r =
    record {
      named = r.named;
      lit = r.lit;
      values = λ k h. let long = x.long in ap (λ s. read g (slot_at s (b + k)) i) (sym (x.same k h)) ∙ r.values k (omega arith);
      turns = r.turns;
      own = r.own;
    }

pub record Went (i : ℕ) (ss : List Slot) (b : ℕ) (e : Env) (g h : State) : Type 0 where
  pub live : h.live i ≡ true
  pub staying : h.staying i ≡ g.staying i
  pub rel : Holds i ss b e h
  pub exact : length e.values ≡ length ss

pub record Left (i : ℕ) (ss : List Slot) (b : ℕ) (e : Env) (g h : State) : Type 0 where
  pub live : h.live i ≡ false
  pub staying : h.staying i ≡ false
  pub rel : Holds i ss b e h
  pub long : length ss ≤ length e.values

pub record Skipped (i : ℕ) (ss : List Slot) (b : ℕ) (e : Env) (g h : State) : Type 0 where
  pub live : h.live i ≡ false
  pub staying : h.staying i ≡ g.staying i
  pub rel : Holds i ss b e h
  pub long : length ss ≤ length e.values

-- where a statement that begins in the scope ss leaves the place, by its signal
abbrev pub Lands : ℕ → List Slot → List Slot → ℕ → Signal → Env → State → State → Type 0
Lands i ss' ss b Next e g h = Went i ss' b e g h
Lands i ss' ss b Break e g h = Left i ss b e g h
Lands i ss' ss b Continue e g h = Skipped i ss b e g h

pub record StmtStep (i : ℕ) (ss' ss : List Slot) (b : ℕ) (s : Runs) (g h : State) : Type 0 where
  pub low : Low i (b + length ss) b g h
  pub still : g.live i ≡ false → Still i g h
  pub runs : (e : Env) → g.live i ≡ true → Holds i ss b e g → length e.values ≡ length ss → Lands i ss' ss b (s e).0 (s e).1 g h

-- the same of a block: its scope ends with it
pub record BodyStep (i : ℕ) (ss : List Slot) (b : ℕ) (s : Runs) (g h : State) : Type 0 where
  pub low : Low i (b + length ss) b g h
  pub still : g.live i ≡ false → Still i g h
  pub runs : (e : Env) → g.live i ≡ true → Holds i ss b e g → length e.values ≡ length ss → Lands i ss ss b (s e).0 (s e).1 g h × (length (s e).1.values ≡ length ss)

abbrev pub cut : ℕ → Env → Env
cut m e = record e { values = take m e.values }

pub rel_cut : (i m : ℕ) (ss : List Slot) (b : ℕ) (e : Env) (g : State) → m ≡ length ss → Holds i ss b e g → Holds i ss b (cut m e) g
rel_cut i m ss b e g h r =
    record { named = r.named; lit = r.lit; values = λ k lt. r.values k lt ∙ sym (get_or-take m e.values k zero_value (omega arith)); turns = r.turns; own = r.own }

cut_lands : (i : ℕ) (ss' ss : List Slot) (b m : ℕ) (x : Signal) (e : Env) (g h : State) → Extends ss ss' → m ≡ length ss → Lands i ss' ss b x e g h → Lands i ss ss b x (cut m e) g h × (length (take m e.values) ≡ length ss)
cut_lands i ss' ss b m Next e g h x is l =
    let long = x.long in let exact = l.exact in
    let len : length (take m e.values) ≡ length ss = length-take-le m e.values (omega arith) ∙ is in
    (record { live = l.live; staying = l.staying; rel = rel_cut i m ss b e h is (rel_prefix i ss ss' b e h x l.rel); exact = len }, len)
cut_lands i ss' ss b m Break e g h x is l =
    let long = l.long in
    let len : length (take m e.values) ≡ length ss = length-take-le m e.values (omega arith) ∙ is in
    (record { live = l.live; staying = l.staying; rel = rel_cut i m ss b e h is l.rel; long = omega arith }, len)
cut_lands i ss' ss b m Continue e g h x is l =
    let long = l.long in
    let len : length (take m e.values) ≡ length ss = length-take-le m e.values (omega arith) ∙ is in
    (record { live = l.live; staying = l.staying; rel = rel_cut i m ss b e h is l.rel; long = omega arith }, len)

pub inside_step : (i : ℕ) (ss' ss : List Slot) (b : ℕ) (s : Runs) (g h : State) → Extends ss ss' → StmtStep i ss' ss b s g h → BodyStep i ss b (inside s) g h
inside_step i ss' ss b s g h x st =
    record {
      low = st.low;
      still = st.still;
      runs = λ e live rel exact. cut_lands i ss' ss b (length e.values) (s e).0 (s e).1 g h x exact (st.runs e live rel exact);
    }

pub body_step : (i : ℕ) (ss : List Slot) (b : ℕ) (s : Runs) (g h : State) → BodyStep i ss b s g h → StmtStep i ss ss b s g h
body_step i ss b s g h st = record { low = st.low; still = st.still; runs = λ e live rel exact. (st.runs e live rel exact).0 }

lands_back : (i : ℕ) (ss2 ss1 ss : List Slot) (b : ℕ) (x : Signal) (e : Env) (g g1 g2 : State) → Extends ss ss1 → g1.staying i ≡ g.staying i → Lands i ss2 ss1 b x e g1 g2 → Lands i ss2 ss b x e g g2
lands_back i ss2 ss1 ss b Next e g g1 g2 x s l = record { live = l.live; staying = l.staying ∙ s; rel = l.rel; exact = l.exact }
lands_back i ss2 ss1 ss b Break e g g1 g2 x s l = let long = x.long in record { live = l.live; staying = l.staying; rel = rel_prefix i ss ss1 b e g2 x l.rel; long = omega (arith, l.long) }
lands_back i ss2 ss1 ss b Continue e g g1 g2 x s l = let long = x.long in record { live = l.live; staying = l.staying ∙ s; rel = rel_prefix i ss ss1 b e g2 x l.rel; long = omega (arith, l.long) }

-- one statement and then the rest
seq_lands : (i : ℕ) (ss2 ss1 ss : List Slot) (b : ℕ) → first_free ≤ b → (x : Signal) (e : Env) (go : Runs) (g g1 g2 : State) → Extends ss ss1 → StmtStep i ss2 ss1 b go g1 g2 → Lands i ss1 ss b x e g g1 → Lands i ss2 ss b (on_next (x, e) go).0 (on_next (x, e) go).1 g g2
seq_lands i ss2 ss1 ss b free Next e go g g1 g2 x st l = lands_back i ss2 ss1 ss b (go e).0 (go e).1 g g1 g2 x l.staying (st.runs e l.live l.rel l.exact)
seq_lands i ss2 ss1 ss b free Break e go g g1 g2 x st l =
    let s = st.still l.live in let long = x.long in
    record { live = s.live; staying = s.staying ∙ l.staying; rel = rel_still i (b + length ss1) b ss b e g1 g2 free (omega arith) st.low s.kept l.rel; long = l.long }
seq_lands i ss2 ss1 ss b free Continue e go g g1 g2 x st l =
    let s = st.still l.live in let long = x.long in
    record { live = s.live; staying = s.staying ∙ l.staying; rel = rel_still i (b + length ss1) b ss b e g1 g2 free (omega arith) st.low s.kept l.rel; long = l.long }

pub seq_step : (i : ℕ) (ss2 ss1 ss : List Slot) (b : ℕ) → first_free ≤ b → (s go : Runs) (g g1 g2 : State) → Extends ss ss1 → StmtStep i ss1 ss b s g g1 → StmtStep i ss2 ss1 b go g1 g2 → StmtStep i ss2 ss b (λ e. on_next (s e) go) g g2
seq_step i ss2 ss1 ss b free s go g g1 g2 x ss_ st =
    let long = x.long in
    record {
      low = low_on i (b + length ss) b (b + length ss) b (b + length ss1) b g g1 g2 (omega arith) (omega arith) (omega arith) (omega arith) ss_.low st.low;
      still = λ h. let a = ss_.still h in still_on i g g1 g2 a (st.still a.live);
      runs = λ e live rel exact. seq_lands i ss2 ss1 ss b free (s e).0 (s e).1 go g g1 g2 x st (ss_.runs e live rel exact);
    }
