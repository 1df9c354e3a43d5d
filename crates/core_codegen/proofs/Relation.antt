-- What holds at a place between its environment and the grid's state, and what a write keeps of it.
use Rattle.std.proofs.Common.{◌≡◌, ℕ, zero, suc, ◌+◌, ◌<◌, ◌≤◌, Bool, true, false, List, [], ◌∷◌, length, get_or, refl, sym, ap, ◌∙◌, arith, ⊎_elim}
use Rattle.std.specs.Prelude.{◌==◌}
use Rattle.std.proofs.lemmas.Bool.{and_left, and_right, and_from, or_left, or_right, cond-false, cond-true, ne_eqb, eq-eqb, cases_lt}
use Rattle.sl_ast.specs.declared.kinds.Predefined.{Predefined}
use Rattle.sl_ast.specs.declared.kinds.Predefined.TheVariants as names
use Rattle.sl_ast.specs.declared.typed.Variable.{Variable}
use Rattle.sl_ast.specs.declared.typed.Variable.TheVariants as variables
use Rattle.sl_ast.specs.declared.typed.Value.{Value}
use Rattle.sl_ast.specs.Names.{name_type}
use Rattle.sl_ast.specs.Classes.{is_uniform_name}
use Rattle.builtins.specs.declared.shape.Shape.{Shape}
use Rattle.builtins.specs.declared.shape.Shape.TheVariants as shapes
use Rattle.builtins.specs.Names.{place_of}
use Rattle.builtins.specs.Values.{shape_of}
use Rattle.grid_code.specs.Names.{reg, first_free}
use Rattle.grid_code.specs.Masked.{State, any, same_shape, read, write}
use Rattle.sl_meaning.specs.Core.{Slot, no_slot, class_in, kind_in}
use Rattle.sl_meaning.specs.Environment.{Env, read_of}
use Rattle.core_codegen.specs.Variables.{variable}
use Rattle.core_codegen.specs.Correct.{Holds}
use Rattle.core_codegen.specs.Fine.{InScope}
use Rattle.grid_code.specs.Turns.{Unchanged}

pub place_small : (p : Predefined) → place_of p < 21
place_small names.P = omega arith
place_small names.N = omega arith
place_small names.Ng = omega arith
place_small names.I = omega arith
place_small names.E = omega arith
place_small names.U = omega arith
place_small names.V = omega arith
place_small names.Du = omega arith
place_small names.Dv = omega arith
place_small names.S = omega arith
place_small names.T = omega arith
place_small names.Cs = omega arith
place_small names.Os = omega arith
place_small names.DPdu = omega arith
place_small names.DPdv = omega arith
place_small names.L = omega arith
place_small names.Cl = omega arith
place_small names.Ci = omega arith
place_small names.Oi = omega arith
place_small names.Ps = omega arith
place_small names.Pi = omega arith

-- the predefined variable at a place
abbrev pub name_with : ℕ → Predefined
name_with k = get_or (names.P ∷ names.N ∷ names.Ng ∷ names.I ∷ names.E ∷ names.U ∷ names.V ∷ names.Du ∷ names.Dv ∷ names.S ∷ names.T ∷ names.Cs ∷ names.Os ∷ names.DPdu ∷ names.DPdv ∷ names.L ∷ names.Cl ∷ names.Ci ∷ names.Oi ∷ names.Ps ∷ names.Pi ∷ []) k names.P

pub name_back : (p : Predefined) → name_with (place_of p) ≡ p
name_back names.P = refl
name_back names.N = refl
name_back names.Ng = refl
name_back names.I = refl
name_back names.E = refl
name_back names.U = refl
name_back names.V = refl
name_back names.Du = refl
name_back names.Dv = refl
name_back names.S = refl
name_back names.T = refl
name_back names.Cs = refl
name_back names.Os = refl
name_back names.DPdu = refl
name_back names.DPdv = refl
name_back names.L = refl
name_back names.Cl = refl
name_back names.Ci = refl
name_back names.Oi = refl
name_back names.Ps = refl
name_back names.Pi = refl

pub name_same : (p q : Predefined) → place_of p ≡ place_of q → p ≡ q
name_same p q h = sym (name_back p) ∙ ap name_with h ∙ name_back q

same_self : (t : Shape) → same_shape t t ≡ true
same_self shapes.Number = refl
same_self shapes.Triple = refl
same_self shapes.Word = refl

pub any_true : (c i : ℕ) (p : ℕ → Bool) → i < c → p i ≡ true → any c p ≡ true
any_true zero i p h e = absurd (omega arith)
any_true (suc c) i p h e =
    ⊎_elim (λ lt. or_right (p c) (any c p) (any_true c i p lt e)) (λ ge. let same : i ≡ c = omega arith in or_left (p c) (any c p) (ap p (sym same) ∙ e)) (cases_lt i c)

-- what lies below is as it was: uniform registers below m, varying ones below l but for those of predefined variables, and the uniform budget
pub record Low (i m l : ℕ) (g h : State) : Type 0 where
  pub shared : (t : Shape) (k : ℕ) → k < m → h.shared t k ≡ g.shared t k
  pub rows : (t : Shape) (k : ℕ) → first_free ≤ k → k < l → h.rows t k i ≡ g.rows t k i
  pub turns : h.turns ≡ g.turns

pub low_self : (i m l : ℕ) (g : State) → Low i m l g g
low_self i m l g = record { shared = λ t k h. refl; rows = λ t k a h. refl; turns = refl }

pub low_on : (i m l m1 l1 m2 l2 : ℕ) (g h k : State) → m ≤ m1 → l ≤ l1 → m ≤ m2 → l ≤ l2 → Low i m1 l1 g h → Low i m2 l2 h k → Low i m l g k
low_on i m l m1 l1 m2 l2 g h k a b a' b' x y =
    record {
      shared = λ t r lt. y.shared t r (omega arith) ∙ x.shared t r (omega arith);
      rows = λ t r f lt. y.rows t r f (omega arith) ∙ x.rows t r f (omega arith);
      turns = y.turns ∙ x.turns;
    }

-- a register below both bounds reads as it did
pub read_low : (i m l : ℕ) (g h : State) (u : Bool) (t : Shape) (r : ℕ) → first_free ≤ r → r < m → r < l → Low i m l g h → read h (reg u t r) i ≡ read g (reg u t r) i
read_low i m l g h true t r f a b x = x.shared t r a
read_low i m l g h false t r f a b x = x.rows t r f b

-- a uniform register below its bound, and a varying one where the place sleeps
pub read_still : (i m l : ℕ) (g h : State) (u : Bool) (t : Shape) (r : ℕ) → r < m → Low i m l g h → Unchanged i g h → read h (reg u t r) i ≡ read g (reg u t r) i
read_still i m l g h true t r a x s = x.shared t r a
read_still i m l g h false t r a x s = s.rows t r

pub rel_still : (i m l : ℕ) (ss : List Slot) (b : ℕ) (e : Env) (g h : State) → first_free ≤ b → b + length ss ≤ m → Low i m l g h → Unchanged i g h → Holds i ss b e g → Holds i ss b e h
rel_still i m l ss b e g h free a x s r =
    record {
      named = λ p. let q = place_small p in read_still i m l g h (is_uniform_name p) (shape_of (name_type p)) (place_of p) (omega arith) x s ∙ r.named p;
      lit = s.rows shapes.Number 21 ∙ r.lit;
      values = λ k lt. read_still i m l g h (get_or ss k no_slot).uniform (shape_of (get_or ss k no_slot).kind) (b + k) (omega arith) x s ∙ r.values k lt;
      turns = x.turns ∙ r.turns;
      own = s.own ∙ r.own;
    }

-- what holds looks at no mask
pub rel_masks : (i : ℕ) (ss : List Slot) (b : ℕ) (e : Env) (g : State) (p q : ℕ → Bool) → first_free ≤ b → Holds i ss b e g → Holds i ss b e record g { live = p; staying = q }
rel_masks i ss b e g p q free r =
    rel_still i (b + length ss) b ss b e g _ free (omega arith) record { shared = λ t k l. refl; rows = λ t k f l. refl; turns = refl } record { rows = λ t k. refl; own = refl } r

-- what a write of register r leaves
pub record Wrote (i r : ℕ) (g h : State) : Type 0 where
  pub live : h.live i ≡ g.live i
  pub staying : h.staying i ≡ g.staying i
  pub own : h.own i ≡ g.own i
  pub turns : h.turns ≡ g.turns
  pub shared : (t : Shape) (k : ℕ) → (k ≡ r → ⊥) → h.shared t k ≡ g.shared t k
  pub rows : (t : Shape) (k : ℕ) → (k ≡ r → ⊥) → h.rows t k i ≡ g.rows t k i

pub wrote : (c i r : ℕ) (u : Bool) (s : Shape) (f : ℕ → Value) (g : State) → Wrote i r g (write c (reg u s r) f g)
wrote c i r true s f g =
    record { live = refl; staying = refl; own = refl; turns = refl; shared = λ t k h. cond-false _ _ _ (and_right (same_shape t s) _ (and_left (k == r) (any c g.live) (ne_eqb k r h))); rows = λ t k h. refl }
wrote c i r false s f g =
    record { live = refl; staying = refl; own = refl; turns = refl; shared = λ t k h. refl; rows = λ t k h. cond-false _ _ _ (and_right (same_shape t s) _ (and_left (k == r) (g.live i) (ne_eqb k r h))) }

pub wrote_low : (i r : ℕ) (g h : State) → Wrote i r g h → Low i r r g h
wrote_low i r g h w = record { shared = λ t k l. w.shared t k (λ e. omega arith); rows = λ t k f l. w.rows t k (λ e. omega arith); turns = w.turns }

pub read_wrote : (i r : ℕ) (g h : State) (u : Bool) (t : Shape) (q : ℕ) → (q ≡ r → ⊥) → Wrote i r g h → read h (reg u t q) i ≡ read g (reg u t q) i
read_wrote i r g h true t q ne w = w.shared t q ne
read_wrote i r g h false t q ne w = w.rows t q ne

pub rel_wrote : (i r : ℕ) (ss : List Slot) (b : ℕ) (e : Env) (g h : State) → first_free ≤ b → b + length ss ≤ r → Wrote i r g h → Holds i ss b e g → Holds i ss b e h
rel_wrote i r ss b e g h free fit w y =
    record {
      named = λ p. let q = place_small p in read_wrote i r g h (is_uniform_name p) (shape_of (name_type p)) (place_of p) (λ e2. omega arith) w ∙ y.named p;
      lit = w.rows shapes.Number 21 (λ e2. omega arith) ∙ y.lit;
      values = λ k lt. read_wrote i r g h (get_or ss k no_slot).uniform (shape_of (get_or ss k no_slot).kind) (b + k) (λ e2. omega arith) w ∙ y.values k lt;
      turns = w.turns ∙ y.turns;
      own = w.own ∙ y.own;
    }

pub write_value : (c i r : ℕ) (u : Bool) (s : Shape) (f : ℕ → Value) (g : State) → i < c → g.live i ≡ true → (u ≡ true → f 0 ≡ f i) → read (write c (reg u s r) f g) (reg u s r) i ≡ f i
write_value c i r true s f g lt h steady =
    cond-true _ _ _ (and_from (same_shape s s) _ (same_self s) (and_from (r == r) (any c g.live) (eq-eqb r r refl) (any_true c i g.live lt h))) ∙ steady refl
write_value c i r false s f g lt h steady = cond-true _ _ _ (and_from (same_shape s s) _ (same_self s) (and_from (r == r) (g.live i) (eq-eqb r r refl) h))

-- the register of a variable, and its value
abbrev pub index : ℕ → Variable → ℕ
index b (variables.Predefined p) = place_of p
index b (variables.Level k) = b + k

pub variable_at : (ss : List Slot) (b : ℕ) (x : Variable) → variable ss b x ≡ reg (class_in x ss) (shape_of (kind_in x ss)) (index b x)
variable_at ss b (variables.Predefined p) = refl
variable_at ss b (variables.Level k) = refl

pub rel_reads : (i : ℕ) (ss : List Slot) (b : ℕ) (e : Env) (g : State) (x : Variable) → InScope x ss → Holds i ss b e g → read g (variable ss b x) i ≡ read_of x e
rel_reads i ss b e g (variables.Predefined p) h r = r.named p
rel_reads i ss b e g (variables.Level k) h r = r.values k h
