-- Steps of an expression's code at one place.
use Rattle.std.proofs.Common.{◌≡◌, ℕ, ◌+◌, ◌<◌, ◌≤◌, Bool, true, false, List, [], ◌∷◌, length, map, refl, sym, ap, ◌∙◌, arith}
use Rattle.std.proofs.lemmas.Bool.{and_parts}
use Rattle.fixed_math.specs.declared.vec3.Vec3.{Vec3}
use Rattle.sl_ast.specs.declared.kinds.Predefined.TheVariants as names
use Rattle.sl_ast.specs.declared.operations.ValueOperation.{ValueOperation}
use Rattle.sl_ast.specs.declared.operations.LightSum.{LightSum}
use Rattle.sl_ast.specs.declared.typed.Variable.{Variable}
use Rattle.sl_ast.specs.declared.typed.Variable.TheVariants as variables
use Rattle.sl_ast.specs.declared.typed.Value.{Value}
use Rattle.builtins.specs.declared.shape.Shape.{Shape}
use Rattle.builtins.specs.Values.{shape_of, triple_of}
use Rattle.builtins.specs.Table.{applied}
use Rattle.builtins.specs.Lights.{Light, sum_of}
use Rattle.grid_code.specs.declared.code.Register.{Register}
use Rattle.grid_code.specs.declared.code.Source.TheVariants.{Constant, Copy, Apply}
use Rattle.grid_code.specs.Names.{reg, name_at, first_free}
use Rattle.grid_code.specs.Masked.{Asked, Ground, State, read, reads, result_of, write, answers, all_answers}
use Rattle.sl_meaning.specs.Core.{Slot, Exprs, none, more, class_in, kind_in, is_uniform, are_uniform}
use Rattle.sl_meaning.specs.Environment.{Env, Around, read_of}
use Rattle.sl_meaning.specs.Alone.{then_more, on_value, summed, answers_at}
use Rattle.core_codegen.specs.Compile.{place, operand_at, all_at, shape_in}
use Rattle.core_codegen.specs.Variables.{variable}
use Rattle.core_codegen.specs.Correct.{Holds, Answers, IsGround}
use Rattle.core_codegen.specs.Fine.{InScope}
use Rattle.core_codegen.proofs.Relation.{Low, low_self, low_on, read_low, rel_wrote, wrote, wrote_low, write_value, index, variable_at, rel_reads}

-- what an expression's code leaves at a live place
pub record Valued (i : ℕ) (ss : List Slot) (b : ℕ) (q : Register) (r : Value × Env) (g h : State) : Type 0 where
  pub live : h.live i ≡ true
  pub staying : h.staying i ≡ g.staying i
  pub value : read h q i ≡ r.0
  pub rel : Holds i ss b r.1 h
  pub exact : length r.1.values ≡ length ss

-- an expression's code takes g to h, with its temporary registers from m on
pub record ExprStep (i : ℕ) (ss : List Slot) (b m : ℕ) (q : Register) (a : Env → Value × Env) (g h : State) : Type 0 where
  pub low : Low i m m g h
  pub runs : (e : Env) → g.live i ≡ true → Holds i ss b e g → length e.values ≡ length ss → Valued i ss b q (a e) g h

-- the same of several expressions
pub record Listed (i : ℕ) (ss : List Slot) (b : ℕ) (qs : List Register) (r : List Value × Env) (g h : State) : Type 0 where
  pub live : h.live i ≡ true
  pub staying : h.staying i ≡ g.staying i
  pub values : reads h qs i ≡ r.0
  pub rel : Holds i ss b r.1 h
  pub exact : length r.1.values ≡ length ss

pub record ExprsStep (i : ℕ) (ss : List Slot) (b m : ℕ) (qs : List Register) (a : Env → List Value × Env) (g h : State) : Type 0 where
  pub low : Low i m m g h
  pub runs : (e : Env) → g.live i ≡ true → Holds i ss b e g → length e.values ≡ length ss → Listed i ss b qs (a e) g h

-- a uniform register reads the same everywhere
pub read_steady : (u : Bool) (s : Shape) (k i : ℕ) (g : State) → u ≡ true → read g (reg u s k) 0 ≡ read g (reg u s k) i
read_steady true s k i g h = refl
read_steady false s k i g h = cc

pub reads_steady : (args : Exprs) (ss : List Slot) (b r i : ℕ) (g : State) → are_uniform args ss ≡ true → reads g (all_at args ss b r) 0 ≡ reads g (all_at args ss b r) i
reads_steady none ss b r i g h = refl
reads_steady (more e rest) ss b r i g h =
    let p = and_parts (is_uniform e ss) (are_uniform rest ss) h in
    ap (λ v. v ∷ reads g (all_at rest ss b (r + 1)) 0) (read_steady (is_uniform e ss) (shape_in e ss) (place e b r) i g p.0) ∙ ap (λ vs. read g (operand_at e ss b r) i ∷ vs) (reads_steady rest ss b (r + 1) i g p.1)

pub variable_steady : (ss : List Slot) (b : ℕ) (x : Variable) (i : ℕ) (g : State) → class_in x ss ≡ true → read g (variable ss b x) 0 ≡ read g (variable ss b x) i
variable_steady ss b x i g h =
    ap (λ q. read g q 0) (variable_at ss b x) ∙ read_steady (class_in x ss) (shape_of (kind_in x ss)) (index b x) i g h ∙ ap (λ q. read g q i) (sym (variable_at ss b x))

-- the lights' answers at a place
pub same_answers : (c i : ℕ) → i < c → (fs : List Asked) (ls : List (Vec3 → Light)) → Answers c fs ls → (g : State) (q : Register) (p : Value) → read g q i ≡ p → all_answers fs g q i ≡ map (λ l. l (triple_of p)) ls
same_answers c i lt [] [] h g q p e = refl
same_answers c i lt [] (l ∷ ls) h g q p e = absurd h
same_answers c i lt (f ∷ fs) [] h g q p e = absurd h
same_answers c i lt (f ∷ fs) (l ∷ ls) h g q p e =
    let one : answers f g q i ≡ l (triple_of p) = h.0 (λ j. triple_of (read g q j)) i lt ∙ ap (λ v. l (triple_of v)) e in
    ap (λ v. v ∷ all_answers fs g q i) one ∙ ap (λ vs. l (triple_of p) ∷ vs) (same_answers c i lt fs ls h.1 g q p e)

module _ (c i : ℕ) (lt : i < c) (ss : List Slot) (b : ℕ) (free : first_free ≤ b) where
  -- one more write
  pub valued_write : (r : ℕ) (u : Bool) (s : Shape) (f : ℕ → Value) (e : Env) (v : Value) (g0 g : State) → b + length ss ≤ r → g.live i ≡ true → g.staying i ≡ g0.staying i → Holds i ss b e g → length e.values ≡ length ss → (u ≡ true → f 0 ≡ f i) → f i ≡ v → Valued i ss b (reg u s r) (v, e) g0 (write c (reg u s r) f g)
  valued_write r u s f e v g0 g fit live stay rel exact steady is =
      let w = wrote c i r u s f g in
      record {
        live = w.live ∙ live;
        staying = w.staying ∙ stay;
        value = write_value c i r u s f g lt live steady ∙ is;
        rel = rel_wrote i r ss b e g _ free fit w rel;
        exact = exact;
      }

  pub literal_step : (r : ℕ) (v : Value) (s : Shape) (g0 : Ground) (g : State) → b + length ss ≤ r → ExprStep i ss b r (reg true s r) (λ e. (v, e)) g (write c (reg true s r) (result_of (Constant v) g0 g) g)
  literal_step r v s g0 g fit =
      record {
        low = wrote_low i r g _ (wrote c i r true s (result_of (Constant v) g0 g) g);
        runs = λ e live rel exact. valued_write r true s (result_of (Constant v) g0 g) e v g g fit live refl rel exact (λ s. refl) refl;
      }

  pub read_step : (r : ℕ) (x : Variable) (s : Shape) (g0 : Ground) (g : State) → b + length ss ≤ r → InScope x ss → ExprStep i ss b r (reg (class_in x ss) s r) (λ e. (read_of x e, e)) g (write c (reg (class_in x ss) s r) (result_of (Copy (variable ss b x)) g0 g) g)
  read_step r x s g0 g fit in_scope =
      record {
        low = wrote_low i r g _ (wrote c i r (class_in x ss) s (result_of (Copy (variable ss b x)) g0 g) g);
        runs = λ e live rel exact. valued_write r (class_in x ss) s (result_of (Copy (variable ss b x)) g0 g) e (read_of x e) g g fit live refl rel exact (λ h. variable_steady ss b x i g h) (rel_reads i ss b e g x in_scope rel);
      }

  -- a variable of the frame is read where it stands
  pub held_step : (r k : ℕ) (g : State) → InScope (variables.Level k) ss → ExprStep i ss b r (variable ss b (variables.Level k)) (λ e. (read_of (variables.Level k) e, e)) g g
  held_step r k g in_scope =
      record { low = low_self i r r g; runs = λ e live rel exact. record { live = live; staying = refl; value = rel_reads i ss b e g (variables.Level k) in_scope rel; rel = rel; exact = exact } }

  pub none_step : (m : ℕ) (g : State) → ExprsStep i ss b m [] (λ e. ([], e)) g g
  none_step m g = record { low = low_self i m m g; runs = λ e live rel exact. record { live = live; staying = refl; values = refl; rel = rel; exact = exact } }

  pub more_step : (m q : ℕ) (u : Bool) (s : Shape) (qs : List Register) (va : Env → Value × Env) (vs : Env → List Value × Env) (g g1 g2 : State) → first_free ≤ q → q ≤ m → ExprStep i ss b m (reg u s q) va g g1 → ExprsStep i ss b (m + 1) qs vs g1 g2 → ExprsStep i ss b m (reg u s q ∷ qs) (then_more va vs) g g2
  more_step m q u s qs va vs g g1 g2 high low sa rest =
      record {
        low = low_on i m m m m (m + 1) (m + 1) g g1 g2 (omega arith) (omega arith) (omega arith) (omega arith) sa.low rest.low;
        runs = λ e live rel exact.
            let x = sa.runs e live rel exact in
            let y = rest.runs (va e).1 x.live x.rel x.exact in
            let one : read g2 (reg u s q) i ≡ (va e).0 = read_low i (m + 1) (m + 1) g1 g2 u s q high (omega arith) (omega arith) rest.low ∙ x.value in
            record {
              live = y.live;
              staying = y.staying ∙ x.staying;
              values = ap (λ v. v ∷ reads g2 qs i) one ∙ ap (λ w. (va e).0 ∷ w) y.values;
              rel = y.rel;
              exact = y.exact;
            };
      }

  -- the write of a value made of the values of several expressions
  pub node_step : (r : ℕ) (u : Bool) (s : Shape) (qs : List Register) (va : Env → List Value × Env) (v : Env → Value) (f : ℕ → Value) (g g1 : State) → b + length ss ≤ r → ExprsStep i ss b r qs va g g1 → (u ≡ true → f 0 ≡ f i) → ((e : Env) → reads g1 qs i ≡ (va e).0 → Holds i ss b (va e).1 g1 → f i ≡ v e) → ExprStep i ss b r (reg u s r) (λ e. (v e, (va e).1)) g (write c (reg u s r) f g1)
  node_step r u s qs va v f g g1 fit sa steady is =
      let w = wrote c i r u s f g1 in
      record {
        low = low_on i r r r r r r g g1 _ (omega arith) (omega arith) (omega arith) (omega arith) sa.low (wrote_low i r g1 _ w);
        runs = λ e live rel exact.
            let x = sa.runs e live rel exact in
            valued_write r u s f (va e).1 (v e) g g1 fit x.live x.staying x.rel x.exact steady (is e x.values x.rel);
      }

  pub apply_step : (g0 : Ground) (a : Around) → IsGround c g0 a → (op : ValueOperation) (args : Exprs) (r : ℕ) (s : Shape) (va : Env → List Value × Env) (g g1 : State) → b + length ss ≤ r → ExprsStep i ss b r (all_at args ss b r) va g g1 → ExprStep i ss b r (reg (are_uniform args ss) s r) (on_value (applied op a.spaces) va) g (write c (reg (are_uniform args ss) s r) (result_of (Apply op (all_at args ss b r)) g0 g1) g1)
  apply_step g0 a ground op args r s va g g1 fit sa =
      node_step r (are_uniform args ss) s (all_at args ss b r) va (λ e. applied op a.spaces (va e).0) (result_of (Apply op (all_at args ss b r)) g0 g1) g g1 fit sa
      (λ h. ap (applied op g0.spaces) (reads_steady args ss b r i g1 h))
      (λ e same rel. ap (λ sp. applied op sp (reads g1 (all_at args ss b r) i)) ground.spaces ∙ ap (applied op a.spaces) same)

  pub sum_step : (g0 : Ground) (a : Around) → IsGround c g0 a → (which : LightSum) (qs : List Register) (r : ℕ) (s : Shape) (va : Env → List Value × Env) (g g1 : State) → b + length ss ≤ r → ExprsStep i ss b r qs va g g1 → ExprStep i ss b r (reg false s r) (summed a (sum_of which) va) g (write c (reg false s r) (λ j. sum_of which (reads g1 qs j) (all_answers g0.lights g1 (name_at names.P) j)) g1)
  sum_step g0 a ground which qs r s va g g1 fit sa =
      node_step r false s qs va (λ e. sum_of which (va e).0 (answers_at a ((va e).1.named names.P))) (λ j. sum_of which (reads g1 qs j) (all_answers g0.lights g1 (name_at names.P) j)) g g1 fit sa
      (λ h. cc)
      (λ e same rel. ap (λ vs. sum_of which vs (all_answers g0.lights g1 (name_at names.P) i)) same ∙ ap (sum_of which (va e).0) (same_answers c i lt g0.lights a.lights ground.lights g1 (name_at names.P) _ (rel.named names.P)))
