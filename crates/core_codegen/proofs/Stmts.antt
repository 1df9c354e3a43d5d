-- Steps of calls, declarations and assignments at one place, under varying control.
use Rattle.std.proofs.Common.{◌≡◌, ℕ, zero, suc, ◌+◌, ◌<◌, ◌≤◌, Bool, true, false, cond, List, [], ◌∷◌, ◌++◌, length, get_or, set, refl, sym, ap, ◌∙◌, arith, ⊎_elim, subst, length-append}
use Rattle.std.specs.Prelude.{◌==◌}
use Rattle.std.proofs.lemmas.Bool.{cond-false, cond-true, cases_lt, cases_eq, ne_eqb, eq-eqb}
use Rattle.std.proofs.lemmas.List.{get_or_append_left, get_or-set_same, get_or-set_other, length-set}
use Rattle.std.proofs.Math.Seq.{get_or-append_seam}
use Rattle.sl_ast.specs.declared.kinds.SlType.{SlType}
use Rattle.sl_ast.specs.declared.kinds.Predefined.{Predefined}
use Rattle.sl_ast.specs.declared.typed.Variable.{Variable}
use Rattle.sl_ast.specs.declared.typed.Variable.TheVariants as variables
use Rattle.sl_ast.specs.declared.typed.Value.{Value}
use Rattle.sl_ast.specs.Names.{name_type}
use Rattle.sl_ast.specs.Classes.{is_uniform_name}
use Rattle.builtins.specs.declared.shape.Shape.{Shape}
use Rattle.builtins.specs.declared.shape.Shape.TheVariants as shapes
use Rattle.builtins.specs.Names.{place_of}
use Rattle.builtins.specs.Values.{shape_of, as_shape, as_kind}
use Rattle.grid_code.specs.declared.code.Source.TheVariants.{Into}
use Rattle.grid_code.specs.Names.{reg, name_at, first_free}
use Rattle.grid_code.specs.Masked.{Ground, State, read, result_of, write}
use Rattle.sl_meaning.specs.Core.{Slot, slot, no_slot, class_in, kind_in}
use Rattle.sl_meaning.specs.Environment.{Env, Next, zero_value, with_name, with_variable, declared}
use Rattle.sl_meaning.specs.Alone.{Runs, Gives, on_value, then_more, inlined}
use Rattle.core_codegen.specs.Variables.{slot_at, variable}
use Rattle.core_codegen.specs.Correct.{Holds}
use Rattle.core_codegen.specs.Fine.{InScope}
use Rattle.grid_code.proofs.Dead.{Still}
use Rattle.core_codegen.proofs.Relation.{place_small, name_same, Low, low_self, low_on, read_low, rel_wrote, Wrote, wrote, wrote_low, read_wrote, write_value, index, variable_at}
use Rattle.core_codegen.proofs.Steps.{ExprStep, read_steady}
use Rattle.core_codegen.proofs.Scopes.{Went, Lands, StmtStep}

abbrev pub callee : List Value × Env → Env
callee r = record r.1 { values = r.0 }

-- nothing of a frame
pub rel_bare : (i : ℕ) (ss : List Slot) (b m : ℕ) (e : Env) (vs : List Value) (g : State) → Holds i ss b e g → Holds i [] m record e { values = vs } g
rel_bare i ss b m e vs g r = record { named = r.named; lit = r.lit; values = λ k h. absurd (omega arith); turns = r.turns; own = r.own }

pub formals_more : (i : ℕ) (s : Slot) (fs : List Slot) (m : ℕ) (v : Value) (r : List Value × Env) (h : State) → read h (slot_at s m) i ≡ v → Holds i fs (m + 1) (callee r) h → Holds i (s ∷ fs) m (callee (v ∷ r.0, r.1)) h
formals_more i s fs m v r h e rel =
    let at : (k : ℕ) → k < length (s ∷ fs) → read h (variable (s ∷ fs) m (variables.Level k)) i ≡ get_or (v ∷ r.0) k zero_value =
    elim [
      | zero ↦ λ l. let z : m + 0 ≡ m = omega arith in ap (λ q. read h (slot_at s q) i) z ∙ e
      | suc k ↦ λ l. let z : m + suc k ≡ m + 1 + k = omega arith in ap (λ q. read h (slot_at (get_or fs k no_slot) q) i) z ∙ rel.values k (omega arith)
    ] in
    record { named = rel.named; lit = rel.lit; values = at; turns = rel.turns; own = rel.own }

pub declare_values : (i : ℕ) (ss : List Slot) (b : ℕ) (s : Slot) (e : Env) (v : Value) (h : State) → Holds i ss b e h → length e.values ≡ length ss → read h (slot_at s (b + length ss)) i ≡ v → (k : ℕ) → k < length (ss ++ (s ∷ [])) → read h (variable (ss ++ (s ∷ [])) b (variables.Level k)) i ≡ get_or (e.values ++ (v ∷ [])) k zero_value
declare_values i ss b s e v h rel exact is k l =
    ⊎_elim
    (λ lt. ap (λ w. read h (slot_at w (b + k)) i) (get_or_append_left ss (s ∷ []) no_slot k lt) ∙ rel.values k lt ∙ sym (get_or_append_left e.values (v ∷ []) zero_value k (omega arith)))
    (λ ge. let last : k ≡ length ss = omega (arith, length-append ss (s ∷ [])) in
    ap (λ j. read h (variable (ss ++ (s ∷ [])) b (variables.Level j)) i) last ∙ ap (λ w. read h (slot_at w (b + length ss)) i) (get_or-append_seam ss s [] no_slot) ∙ is
    ∙ sym (get_or-append_seam e.values v [] zero_value) ∙ ap (λ j. get_or (e.values ++ (v ∷ [])) j zero_value) (exact ∙ sym last))
    (cases_lt k (length ss))

pub rel_declared : (i : ℕ) (ss : List Slot) (b : ℕ) (s : Slot) (e : Env) (v : Value) (h : State) → Holds i ss b e h → length e.values ≡ length ss → read h (slot_at s (b + length ss)) i ≡ v → Holds i (ss ++ (s ∷ [])) b (declared v e) h
rel_declared i ss b s e v h rel exact is = record { named = rel.named; lit = rel.lit; values = declare_values i ss b s e v h rel exact is; turns = rel.turns; own = rel.own }

-- a write of a variable, of either class
pub wrote_variable : (c i : ℕ) (ss : List Slot) (b : ℕ) (x : Variable) (f : ℕ → Value) (g : State) → Wrote i (index b x) g (write c (variable ss b x) f g)
wrote_variable c i ss b x f g =
    subst (λ q. Wrote i (index b x) g (write c q f g)) (sym (variable_at ss b x)) (wrote c i (index b x) (class_in x ss) (shape_of (kind_in x ss)) f g)

pub variable_value : (c i : ℕ) (ss : List Slot) (b : ℕ) (x : Variable) (f : ℕ → Value) (g : State) → i < c → g.live i ≡ true → (class_in x ss ≡ true → f 0 ≡ f i) → read (write c (variable ss b x) f g) (variable ss b x) i ≡ f i
variable_value c i ss b x f g lt live steady =
    subst (λ q. read (write c q f g) q i ≡ f i) (sym (variable_at ss b x)) (write_value c i (index b x) (class_in x ss) (shape_of (kind_in x ss)) f g lt live steady)

pub rel_named : (i : ℕ) (ss : List Slot) (b : ℕ) (p : Predefined) (e : Env) (v : Value) (g h : State) → first_free ≤ b → Wrote i (place_of p) g h → read h (name_at p) i ≡ v → Holds i ss b e g → Holds i ss b (with_name p v e) h
rel_named i ss b p e v g h free w is rel =
    let low = place_small p in
    let at : (q : Predefined) → read h (name_at q) i ≡ cond (place_of p == place_of q) v (e.named q) = λ q.
    ⊎_elim
    (λ same. ap (λ z. read h (name_at z) i) (sym (name_same p q same)) ∙ is ∙ sym (cond-true _ _ _ (eq-eqb (place_of p) (place_of q) same)))
    (λ other. read_wrote i (place_of p) g h (is_uniform_name q) (shape_of (name_type q)) (place_of q) (λ z. other (sym z)) w ∙ rel.named q ∙ sym (cond-false _ _ _ (ne_eqb (place_of p) (place_of q) other)))
    (cases_eq (place_of p) (place_of q)) in
    record {
      named = at;
      lit = w.rows shapes.Number 21 (λ z. omega arith) ∙ rel.lit;
      values = λ k lt. read_wrote i (place_of p) g h (get_or ss k no_slot).uniform (shape_of (get_or ss k no_slot).kind) (b + k) (λ z. omega arith) w ∙ rel.values k lt;
      turns = w.turns ∙ rel.turns;
      own = w.own ∙ rel.own;
    }

-- a variable takes a value
pub rel_assigned : (i : ℕ) (ss : List Slot) (b : ℕ) (x : Variable) (e : Env) (v : Value) (g h : State) → first_free ≤ b → InScope x ss → length e.values ≡ length ss → Wrote i (index b x) g h → read h (variable ss b x) i ≡ v → Holds i ss b e g → Holds i ss b (with_variable x v e) h
rel_assigned i ss b (variables.Predefined p) e v g h free in_scope exact w is rel = rel_named i ss b p e v g h free w is rel
rel_assigned i ss b (variables.Level k) e v g h free in_scope exact w is rel =
    let at : (j : ℕ) → j < length ss → read h (variable ss b (variables.Level j)) i ≡ get_or (set e.values k v) j zero_value = λ j l.
    ⊎_elim
    (λ same. ap (λ q. read h (variable ss b (variables.Level q)) i) same ∙ is ∙ sym (get_or-set_same e.values k v zero_value (omega arith)) ∙ ap (λ q. get_or (set e.values k v) q zero_value) (sym same))
    (λ other. read_wrote i (b + k) g h (get_or ss j no_slot).uniform (shape_of (get_or ss j no_slot).kind) (b + j) (λ z. other (omega arith)) w ∙ rel.values j l ∙ sym (get_or-set_other e.values k j v zero_value other))
    (cases_eq j k) in
    record {
      named = λ p. let q = place_small p in read_wrote i (b + k) g h (is_uniform_name p) (shape_of (name_type p)) (place_of p) (λ z. omega arith) w ∙ rel.named p;
      lit = w.rows shapes.Number 21 (λ z. omega arith) ∙ rel.lit;
      values = at;
      turns = w.turns ∙ rel.turns;
      own = w.own ∙ rel.own;
    }

pub length_assigned : (x : Variable) (v : Value) (e : Env) → length (with_variable x v e).values ≡ length e.values
length_assigned (variables.Predefined p) v e = refl
length_assigned (variables.Level k) v e = length-set e.values k v

-- the index of a variable is none of those that a block keeps
pub index_apart : (b : ℕ) (x : Variable) (k : ℕ) → first_free ≤ k → k < b → k ≡ index b x → ⊥
index_apart b (variables.Predefined p) k f l e = let q = place_small p in omega arith
index_apart b (variables.Level j) k f l e = omega arith

module _ (c i : ℕ) (lt : i < c) (g0 : Ground) where
  pub record Passed (ss : List Slot) (b m : ℕ) (fs : List Slot) (r : List Value × Env) (g h : State) : Type 0 where
    pub live : h.live i ≡ true
    pub staying : h.staying i ≡ g.staying i
    pub rel : Holds i ss b r.1 h
    pub exact : length r.1.values ≡ length ss
    pub formals : Holds i fs m (callee r) h
    pub count : length r.0 ≡ length fs

  pub record ArgsStep (ss : List Slot) (b m : ℕ) (fs : List Slot) (a : Gives (List Value)) (g h : State) : Type 0 where
    pub low : Low i m m g h
    pub runs : (e : Env) → g.live i ≡ true → Holds i ss b e g → length e.values ≡ length ss → Passed ss b m fs (a e) g h

  pub no_args_step : (ss : List Slot) (b m : ℕ) (g : State) → ArgsStep ss b m [] (λ e. ([], e)) g g
  no_args_step ss b m g =
      record { low = low_self i m m g; runs = λ e live rel exact. record { live = live; staying = refl; rel = rel; exact = exact; formals = rel_bare i ss b m e [] g rel; count = refl } }

  -- the value in a register put into one of a class, where that is uniform only where the value is
  into_steady : (u w : Bool) (s t : Shape) (k : ℕ) (g : State) → (u ≡ true → w ≡ true) → u ≡ true → result_of (Into s (reg w t k)) g0 g 0 ≡ result_of (Into s (reg w t k)) g0 g i
  into_steady u w s t k g takes h = ap (as_shape s) (read_steady w t k i g (takes h))

  pub arg_step : (ss : List Slot) (b m : ℕ) (w u : Bool) (t : Shape) (kind : SlType) (fs : List Slot) (va : Gives Value) (vs : Gives (List Value)) (g g1 g3 : State) → first_free ≤ b → b + length ss ≤ m → (u ≡ true → w ≡ true) → ExprStep i ss b m (reg w t m) va g g1 → ArgsStep ss b (m + 1) fs vs (write c (reg u (shape_of kind) m) (result_of (Into (shape_of kind) (reg w t m)) g0 g1) g1) g3 → ArgsStep ss b m (slot u kind ∷ fs) (then_more (on_value (as_kind kind) va) vs) g g3
  arg_step ss b m w u t kind fs va vs g g1 g3 free fit takes sa rest =
      let f = result_of (Into (shape_of kind) (reg w t m)) g0 g1 in
      let g2 = write c (reg u (shape_of kind) m) f g1 in
      let wr = wrote c i m u (shape_of kind) f g1 in
      record {
        low = low_on i m m m m m m g g1 g3 (omega arith) (omega arith) (omega arith) (omega arith) sa.low (low_on i m m m m (m + 1) (m + 1) g1 g2 g3 (omega arith) (omega arith) (omega arith) (omega arith) (wrote_low i m g1 g2 wr) rest.low);
        runs = λ e live rel exact.
            let x = sa.runs e live rel exact in
            let y = rest.runs (va e).1 (wr.live ∙ x.live) (rel_wrote i m ss b (va e).1 g1 g2 free fit wr x.rel) x.exact in
            let value : read g2 (reg u (shape_of kind) m) i ≡ as_kind kind (va e).0 = write_value c i m u (shape_of kind) f g1 lt x.live (into_steady u w (shape_of kind) t m g1 takes) ∙ ap (as_kind kind) x.value in
            record {
              live = y.live;
              staying = y.staying ∙ wr.staying ∙ x.staying;
              rel = y.rel;
              exact = y.exact;
              formals = formals_more i (slot u kind) fs m (as_kind kind (va e).0) (vs (va e).1) g3 (read_low i (m + 1) (m + 1) g2 g3 u (shape_of kind) m (omega arith) (omega arith) (omega arith) rest.low ∙ value) y.formals;
              count = ap suc y.count;
            };
      }

  -- the last write of a call
  pub call_step : (ss : List Slot) (b m : ℕ) (fs ss2 : List Slot) (v w : Bool) (s t : Shape) (kind : SlType) (va : Gives (List Value)) (body : Runs) (vr : Gives Value) (g g1 g2 g3 : State) → first_free ≤ b → b + length ss ≤ m → length fs ≤ length ss2 → (v ≡ true → w ≡ true) → ((e : Env) → (body e).0 ≡ Next) → ArgsStep ss b m fs va g g1 → StmtStep i ss2 fs m body g1 g2 → ExprStep i ss2 m (m + length ss2) (reg w t (m + length ss2)) vr g2 g3 → ExprStep i ss b m (reg v s m) (inlined va body (on_value (as_kind kind) vr)) g (write c (reg v s m) (result_of (Into (shape_of kind) (reg w t (m + length ss2))) g0 g3) g3)
  call_step ss b m fs ss2 v w s t kind va body vr g g1 g2 g3 free fit long takes next sa sb sr =
      let f = result_of (Into (shape_of kind) (reg w t (m + length ss2))) g0 g3 in
      let h = write c (reg v s m) f g3 in
      let wr = wrote c i m v s f g3 in
      let low13 : Low i m m g1 g3 = low_on i m m (m + length fs) m (m + length ss2) (m + length ss2) g1 g2 g3 (omega arith) (omega arith) (omega arith) (omega arith) sb.low sr.low in
      let low14 : Low i m m g1 h = low_on i m m m m m m g1 g3 h (omega arith) (omega arith) (omega arith) (omega arith) low13 (wrote_low i m g3 h wr) in
      record {
        low = low_on i m m m m m m g g1 h (omega arith) (omega arith) (omega arith) (omega arith) sa.low low14;
        runs = λ e live rel exact.
            let x = sa.runs e live rel exact in
            let y : Went i ss2 m (body (callee (va e))).1 g1 g2 = subst (λ z. Lands i ss2 fs m z (body (callee (va e))).1 g1 g2) (next (callee (va e))) (sb.runs (callee (va e)) x.live x.formals x.count) in
            let z = sr.runs (body (callee (va e))).1 y.live y.rel y.exact in
            let bare = rel_wrote i m [] b _ g3 h free (omega arith) wr (rel_bare i ss2 m b _ (va e).1.values g3 z.rel) in
            record {
              live = wr.live ∙ z.live;
              staying = wr.staying ∙ z.staying ∙ y.staying ∙ x.staying;
              value = write_value c i m v s f g3 lt z.live (into_steady v w (shape_of kind) t (m + length ss2) g3 takes) ∙ ap (as_kind kind) z.value;
              rel = record {
                named = bare.named;
                lit = bare.lit;
                values = λ k l. read_low i m m g1 h (get_or ss k no_slot).uniform (shape_of (get_or ss k no_slot).kind) (b + k) (omega arith) (omega arith) (omega arith) low14 ∙ x.rel.values k l;
                turns = bare.turns;
                own = bare.own;
              };
              exact = x.exact;
            };
      }

  pub declare_step : (ss : List Slot) (b : ℕ) (w u : Bool) (t : Shape) (kind : SlType) (va : Gives Value) (g g1 : State) → first_free ≤ b → (u ≡ true → w ≡ true) → (g.live i ≡ false → Still i g (write c (reg u (shape_of kind) (b + length ss)) (result_of (Into (shape_of kind) (reg w t (b + length ss))) g0 g1) g1)) → ExprStep i ss b (b + length ss) (reg w t (b + length ss)) va g g1 → StmtStep i (ss ++ (slot u kind ∷ [])) ss b (λ e. (Next, declared (as_kind kind (va e).0) (va e).1)) g (write c (reg u (shape_of kind) (b + length ss)) (result_of (Into (shape_of kind) (reg w t (b + length ss))) g0 g1) g1)
  declare_step ss b w u t kind va g g1 free takes still sa =
      let m = b + length ss in
      let f = result_of (Into (shape_of kind) (reg w t m)) g0 g1 in
      let g2 = write c (reg u (shape_of kind) m) f g1 in
      let wr = wrote c i m u (shape_of kind) f g1 in
      record {
        low = low_on i m b m m m m g g1 g2 (omega arith) (omega arith) (omega arith) (omega arith) sa.low (wrote_low i m g1 g2 wr);
        still = still;
        runs = λ e live rel exact.
            let x = sa.runs e live rel exact in
            let len = x.exact in
            let value : read g2 (reg u (shape_of kind) m) i ≡ as_kind kind (va e).0 = write_value c i m u (shape_of kind) f g1 lt x.live (into_steady u w (shape_of kind) t m g1 takes) ∙ ap (as_kind kind) x.value in
            record {
              live = wr.live ∙ x.live;
              staying = wr.staying ∙ x.staying;
              rel = rel_declared i ss b (slot u kind) (va e).1 (as_kind kind (va e).0) g2 (rel_wrote i m ss b (va e).1 g1 g2 free (omega arith) wr x.rel) x.exact value;
              exact = omega (arith, length-append ss (slot u kind ∷ []), length-append (va e).1.values (as_kind kind (va e).0 ∷ []));
            };
      }

  varying_shared : (ss : List Slot) (b : ℕ) (x : Variable) (f : ℕ → Value) (g : State) → class_in x ss ≡ false → (s : Shape) (k : ℕ) → (write c (variable ss b x) f g).shared s k ≡ g.shared s k
  varying_shared ss b x f g kind s k =
      ap (λ q. (write c q f g).shared s k) (variable_at ss b x ∙ ap (λ u. reg u (shape_of (kind_in x ss)) (index b x)) kind)

  pub assign_step : (ss : List Slot) (b m : ℕ) (x : Variable) (w : Bool) (t : Shape) (kind : SlType) (va : Gives Value) (g g1 : State) → first_free ≤ b → b + length ss ≤ m → InScope x ss → class_in x ss ≡ false → (g.live i ≡ false → Still i g (write c (variable ss b x) (result_of (Into (shape_of kind) (reg w t m)) g0 g1) g1)) → ExprStep i ss b m (reg w t m) va g g1 → StmtStep i ss ss b (λ e. (Next, with_variable x (as_kind kind (va e).0) (va e).1)) g (write c (variable ss b x) (result_of (Into (shape_of kind) (reg w t m)) g0 g1) g1)
  assign_step ss b m x w t kind va g g1 free fit in_scope class still sa =
      let f = result_of (Into (shape_of kind) (reg w t m)) g0 g1 in
      let g2 = write c (variable ss b x) f g1 in
      let wr = wrote_variable c i ss b x f g1 in
      record {
        low = record {
          shared = λ s k l. varying_shared ss b x f g1 class s k ∙ sa.low.shared s k (omega arith);
          rows = λ s k a l. wr.rows s k (index_apart b x k a l) ∙ sa.low.rows s k a (omega arith);
          turns = wr.turns ∙ sa.low.turns;
        };
        still = still;
        runs = λ e live rel exact.
            let y = sa.runs e live rel exact in
            record {
              live = wr.live ∙ y.live;
              staying = wr.staying ∙ y.staying;
              rel = rel_assigned i ss b x (va e).1 (as_kind kind (va e).0) g1 g2 free in_scope y.exact wr (variable_value c i ss b x f g1 lt y.live (λ h. cc) ∙ ap (as_kind kind) y.value) y.rel;
              exact = length_assigned x (as_kind kind (va e).0) (va e).1 ∙ y.exact;
            };
      }
