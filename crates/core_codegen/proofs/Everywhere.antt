-- Steps of an expression's code in uniform control, at all places.
use Rattle.std.proofs.Common.{◌≡◌, ℕ, ◌+◌, ◌*◌, ◌<◌, ◌≤◌, Bool, true, false, List, [], ◌∷◌, length, refl, sym, ap, ◌∙◌, arith, subst}
use Rattle.sl_ast.specs.declared.kinds.Predefined.TheVariants as names
use Rattle.sl_ast.specs.declared.operations.ValueOperation.{ValueOperation}
use Rattle.sl_ast.specs.declared.operations.Difference.{Difference}
use Rattle.sl_ast.specs.declared.operations.LightSum.{LightSum}
use Rattle.sl_ast.specs.declared.typed.Variable.{Variable}
use Rattle.sl_ast.specs.declared.typed.Variable.TheVariants as variables
use Rattle.sl_ast.specs.declared.typed.Value.{Value}
use Rattle.builtins.specs.declared.shape.Shape.{Shape}
use Rattle.builtins.specs.Table.{applied}
use Rattle.builtins.specs.Lights.{sum_of}
use Rattle.builtins.specs.Differences.{difference}
use Rattle.builtins.specs.Textures.{textured}
use Rattle.builtins.proofs.Places.{same_textured, textured_steady}
use Rattle.grid_code.specs.declared.code.Register.{Register}
use Rattle.grid_code.specs.declared.code.Source.TheVariants.{Constant, Copy, Apply}
use Rattle.grid_code.specs.Names.{reg, name_at, first_free}
use Rattle.grid_code.specs.Masked.{Ground, State, read, reads, result_of, write, all_answers}
use Rattle.sl_meaning.specs.Core.{Slot, Exprs, class_in, are_uniform}
use Rattle.sl_meaning.specs.Environment.{Around, read_of}
use Rattle.sl_meaning.specs.Alone.{answers_at}
use Rattle.sl_meaning.specs.Grid.{Envs, GivesAll, on_all, more_all, summed_all}
use Rattle.core_codegen.specs.Compile.{all_at}
use Rattle.core_codegen.specs.Variables.{variable}
use Rattle.core_codegen.specs.Correct.{Holds, IsGround}
use Rattle.core_codegen.specs.Fine.{InScope}
use Rattle.core_codegen.specs.UniformRegisters.{AllHold}
use Rattle.core_codegen.proofs.Relation.{rel_wrote, rel_reads, Wrote, wrote, write_value}
use Rattle.core_codegen.proofs.Steps.{reads_steady, variable_steady, same_answers}
use Rattle.core_codegen.proofs.Differences.{same_difference}

-- what lies below is as it was, but for the predefined variables
pub record AllLow (c m : ℕ) (g h : State) : Type 0 where
  pub shared : (t : Shape) (k : ℕ) → first_free ≤ k → k < m → h.shared t k ≡ g.shared t k
  pub rows : (t : Shape) (k i : ℕ) → i < c → first_free ≤ k → k < m → h.rows t k i ≡ g.rows t k i

pub record AllValued (c : ℕ) (ss : List Slot) (b : ℕ) (q : Register) (r : (ℕ → Value) × Envs) (g h : State) : Type 0 where
  pub ready : AllHold c ss b r.1 h
  pub staying : (i : ℕ) → i < c → h.staying i ≡ g.staying i
  pub value : (i : ℕ) → i < c → read h q i ≡ r.0 i

pub record AllExpr (c : ℕ) (ss : List Slot) (b m : ℕ) (q : Register) (a : GivesAll Value) (g h : State) : Type 0 where
  pub low : AllLow c m g h
  pub runs : (es : Envs) → AllHold c ss b es g → AllValued c ss b q (a es) g h

pub record AllListed (c : ℕ) (ss : List Slot) (b : ℕ) (qs : List Register) (r : (ℕ → List Value) × Envs) (g h : State) : Type 0 where
  pub ready : AllHold c ss b r.1 h
  pub staying : (i : ℕ) → i < c → h.staying i ≡ g.staying i
  pub values : (i : ℕ) → i < c → reads h qs i ≡ r.0 i

pub record AllExprs (c : ℕ) (ss : List Slot) (b m : ℕ) (qs : List Register) (a : GivesAll (List Value)) (g h : State) : Type 0 where
  pub low : AllLow c m g h
  pub runs : (es : Envs) → AllHold c ss b es g → AllListed c ss b qs (a es) g h

pub all_low_self : (c m : ℕ) (g : State) → AllLow c m g g
all_low_self c m g = record { shared = λ t k f h. refl; rows = λ t k i h f l. refl }

pub all_low_on : (c m m1 m2 : ℕ) (g h k : State) → m ≤ m1 → m ≤ m2 → AllLow c m1 g h → AllLow c m2 h k → AllLow c m g k
all_low_on c m m1 m2 g h k a b x y =
    record {
      shared = λ t r f lt. y.shared t r f (omega arith) ∙ x.shared t r f (omega arith);
      rows = λ t r i h f lt. y.rows t r i h f (omega arith) ∙ x.rows t r i h f (omega arith);
    }

pub read_all_low : (c m : ℕ) (g h : State) (u : Bool) (t : Shape) (r i : ℕ) → i < c → first_free ≤ r → r < m → AllLow c m g h → read h (reg u t r) i ≡ read g (reg u t r) i
read_all_low c m g h true t r i lt f a x = x.shared t r f a
read_all_low c m g h false t r i lt f a x = x.rows t r i lt f a

pub all_wrote_low : (c r : ℕ) (g h : State) → ((i : ℕ) → Wrote i r g h) → AllLow c r g h
all_wrote_low c r g h w = record { shared = λ t k f l. (w 0).shared t k (λ e. omega arith); rows = λ t k i q f l. (w i).rows t k (λ e. omega arith) }

module _ (c : ℕ) (ss : List Slot) (b : ℕ) (free : first_free ≤ b) where
  pub ready_wrote : (r : ℕ) (es : Envs) (g h : State) → b + length ss ≤ r → ((i : ℕ) → Wrote i r g h) → AllHold c ss b es g → AllHold c ss b es h
  ready_wrote r es g h fit w y = record { live = λ i l. (w i).live ∙ y.live i l; rel = λ i l. rel_wrote i r ss b (es i) g h free fit (w i) (y.rel i l); exact = y.exact }

  pub all_write : (r : ℕ) (u : Bool) (s : Shape) (f : ℕ → Value) (es : Envs) (v : ℕ → Value) (g0 g : State) → b + length ss ≤ r → AllHold c ss b es g → ((i : ℕ) → i < c → g.staying i ≡ g0.staying i) → ((i : ℕ) → i < c → u ≡ true → f 0 ≡ f i) → ((i : ℕ) → i < c → f i ≡ v i) → AllValued c ss b (reg u s r) (v, es) g0 (write c (reg u s r) f g)
  all_write r u s f es v g0 g fit y stay steady is =
      record {
        ready = ready_wrote r es g _ fit (λ i. wrote c i r u s f g) y;
        staying = λ i l. (wrote c i r u s f g).staying ∙ stay i l;
        value = λ i l. write_value c i r u s f g l (y.live i l) (steady i l) ∙ is i l;
      }

  pub all_literal : (r : ℕ) (v : Value) (s : Shape) (g0 : Ground) (g : State) → b + length ss ≤ r → AllExpr c ss b r (reg true s r) (λ es. (λ i. v, es)) g (write c (reg true s r) (result_of (Constant v) g0 g) g)
  all_literal r v s g0 g fit =
      record {
        low = all_wrote_low c r g _ (λ i. wrote c i r true s (result_of (Constant v) g0 g) g);
        runs = λ es y. all_write r true s (result_of (Constant v) g0 g) es (λ i. v) g g fit y (λ i l. refl) (λ i l s. refl) (λ i l. refl);
      }

  pub all_read : (r : ℕ) (x : Variable) (s : Shape) (g0 : Ground) (g : State) → b + length ss ≤ r → InScope x ss → AllExpr c ss b r (reg (class_in x ss) s r) (λ es. (λ i. read_of x (es i), es)) g (write c (reg (class_in x ss) s r) (result_of (Copy (variable ss b x)) g0 g) g)
  all_read r x s g0 g fit in_scope =
      let f = result_of (Copy (variable ss b x)) g0 g in
      record {
        low = all_wrote_low c r g _ (λ i. wrote c i r (class_in x ss) s f g);
        runs = λ es y. all_write r (class_in x ss) s f es (λ i. read_of x (es i)) g g fit y (λ i l. refl) (λ i l h. variable_steady ss b x i g h) (λ i l. rel_reads i ss b (es i) g x in_scope (y.rel i l));
      }

  -- a variable of the frame is read where it stands
  pub all_held : (r k : ℕ) (g : State) → InScope (variables.Level k) ss → AllExpr c ss b r (variable ss b (variables.Level k)) (λ es. (λ i. read_of (variables.Level k) (es i), es)) g g
  all_held r k g in_scope =
      record { low = all_low_self c r g; runs = λ es y. record { ready = y; staying = λ i l. refl; value = λ i l. rel_reads i ss b (es i) g (variables.Level k) in_scope (y.rel i l) } }

  pub all_none : (m : ℕ) (g : State) → AllExprs c ss b m [] (λ es. (λ i. [], es)) g g
  all_none m g = record { low = all_low_self c m g; runs = λ es y. record { ready = y; staying = λ i l. refl; values = λ i l. refl } }

  pub all_more : (m q : ℕ) (u : Bool) (s : Shape) (qs : List Register) (va : GivesAll Value) (vs : GivesAll (List Value)) (g g1 g2 : State) → first_free ≤ q → q ≤ m → AllExpr c ss b m (reg u s q) va g g1 → AllExprs c ss b (m + 1) qs vs g1 g2 → AllExprs c ss b m (reg u s q ∷ qs) (more_all va vs) g g2
  all_more m q u s qs va vs g g1 g2 high low sa rest =
      record {
        low = all_low_on c m m (m + 1) g g1 g2 (omega arith) (omega arith) sa.low rest.low;
        runs = λ es ready.
            let x = sa.runs es ready in
            let y = rest.runs (va es).1 x.ready in
            record {
              ready = y.ready;
              staying = λ i l. y.staying i l ∙ x.staying i l;
              values = λ i l.
                  ap (λ v. v ∷ reads g2 qs i) (read_all_low c (m + 1) g1 g2 u s q i l high (omega arith) rest.low ∙ x.value i l) ∙ ap (λ w. (va es).0 i ∷ w) (y.values i l);
            };
      }

  pub all_node : (r : ℕ) (u : Bool) (s : Shape) (qs : List Register) (va : GivesAll (List Value)) (v : Envs → ℕ → Value) (f : ℕ → Value) (g g1 : State) → b + length ss ≤ r → AllExprs c ss b r qs va g g1 → ((i : ℕ) → i < c → u ≡ true → f 0 ≡ f i) → ((es : Envs) (i : ℕ) → i < c → reads g1 qs i ≡ (va es).0 i → Holds i ss b ((va es).1 i) g1 → f i ≡ v es i) → AllExpr c ss b r (reg u s r) (λ es. (v es, (va es).1)) g (write c (reg u s r) f g1)
  all_node r u s qs va v f g g1 fit sa steady is =
      record {
        low = all_low_on c r r r g g1 _ (omega arith) (omega arith) sa.low (all_wrote_low c r g1 _ (λ i. wrote c i r u s f g1));
        runs = λ es ready.
            let x = sa.runs es ready in
            all_write r u s f (va es).1 (v es) g g1 fit x.ready x.staying steady (λ i l. is es i l (x.values i l) (x.ready.rel i l));
      }

  module _ (g0 : Ground) (a : Around) (ground : IsGround c g0 a) where
    pub all_apply : (op : ValueOperation) (args : Exprs) (r : ℕ) (s : Shape) (va : GivesAll (List Value)) (g g1 : State) → b + length ss ≤ r → AllExprs c ss b r (all_at args ss b r) va g g1 → AllExpr c ss b r (reg (are_uniform args ss) s r) (on_all (applied op a.spaces) va) g (write c (reg (are_uniform args ss) s r) (result_of (Apply op (all_at args ss b r)) g0 g1) g1)
    all_apply op args r s va g g1 fit sa =
        all_node r (are_uniform args ss) s (all_at args ss b r) va (λ es i. applied op a.spaces ((va es).0 i)) (result_of (Apply op (all_at args ss b r)) g0 g1) g g1 fit sa
        (λ i l h. ap (applied op g0.spaces) (reads_steady args ss b r i g1 h))
        (λ es i l same rel. ap (λ sp. applied op sp (reads g1 (all_at args ss b r) i)) ground.spaces ∙ ap (applied op a.spaces) same)

    pub all_sum : (which : LightSum) (qs : List Register) (r : ℕ) (s : Shape) (va : GivesAll (List Value)) (g g1 : State) → b + length ss ≤ r → AllExprs c ss b r qs va g g1 → AllExpr c ss b r (reg false s r) (summed_all a (sum_of which) va) g (write c (reg false s r) (λ j. sum_of which (reads g1 qs j) (all_answers g0.lights g1 (name_at names.P) j)) g1)
    all_sum which qs r s va g g1 fit sa =
        all_node r false s qs va (λ es i. sum_of which ((va es).0 i) (answers_at a (((va es).1 i).named names.P))) (λ j. sum_of which (reads g1 qs j) (all_answers g0.lights g1 (name_at names.P) j)) g g1 fit sa
        (λ i l h. cc)
        (λ es i l same rel. ap (λ vs. sum_of which vs (all_answers g0.lights g1 (name_at names.P) i)) same ∙ ap (sum_of which ((va es).0 i)) (same_answers c i l g0.lights a.lights ground.lights g1 (name_at names.P) _ (rel.named names.P)))

    pub all_differ : (size : c ≡ a.lines.columns * a.lines.rows) → 2 ≤ a.lines.columns → 2 ≤ a.lines.rows → (d : Difference) (u : Bool) (s t : Shape) (r : ℕ) (va : GivesAll Value) (g g1 : State) → b + length ss ≤ r → AllExpr c ss b r (reg u t r) va g g1 → AllExpr c ss b r (reg false s r) (λ es. let x = va es in (difference d a.lines a.spaces.flip x.0, x.1)) g (write c (reg false s r) (difference d g0.lines g0.spaces.flip (read g1 (reg u t r))) g1)
    all_differ size wide tall d u s t r va g g1 fit sa =
        let f = difference d g0.lines g0.spaces.flip (read g1 (reg u t r)) in
        record {
          low = all_low_on c r r r g g1 _ (omega arith) (omega arith) sa.low (all_wrote_low c r g1 _ (λ i. wrote c i r false s f g1));
          runs = λ es ready.
              let x = sa.runs es ready in
              let agree : (i : ℕ) → i < a.lines.columns * a.lines.rows → read g1 (reg u t r) i ≡ (va es).0 i = λ i l. x.value i (subst (λ n. i < n) (sym size) l) in
              all_write r false s f (va es).1 (difference d a.lines a.spaces.flip (va es).0) g g1 fit x.ready x.staying (λ i l h. cc)
              (λ i l. ap (λ n. difference d n g0.spaces.flip (read g1 (reg u t r)) i) ground.lines ∙ ap (λ sp. difference d a.lines sp.flip (read g1 (reg u t r)) i) ground.spaces
              ∙ same_difference a.lines wide tall d a.spaces.flip (read g1 (reg u t r)) (va es).0 agree i (subst (λ n. i < n) size l));
        }

    pub all_texture : (size : c ≡ a.lines.columns * a.lines.rows) → 2 ≤ a.lines.columns → 2 ≤ a.lines.rows → (k : ℕ) (args : Exprs) (r : ℕ) (s : Shape) (va : GivesAll (List Value)) (g g1 : State) → b + length ss ≤ r → AllExprs c ss b r (all_at args ss b r) va g g1 → AllExpr c ss b r (reg (are_uniform args ss) s r) (λ es. let x = va es in (textured a.lines (a.images k) x.0, x.1)) g (write c (reg (are_uniform args ss) s r) (textured g0.lines (g0.images k) (reads g1 (all_at args ss b r))) g1)
    all_texture size wide tall k args r s va g g1 fit sa =
        let u = are_uniform args ss in
        let vs = reads g1 (all_at args ss b r) in
        let f = textured g0.lines (g0.images k) vs in
        record {
          low = all_low_on c r r r g g1 _ (omega arith) (omega arith) sa.low (all_wrote_low c r g1 _ (λ i. wrote c i r u s f g1));
          runs = λ es ready.
              let x = sa.runs es ready in
              let agree : (i : ℕ) → i < a.lines.columns * a.lines.rows → vs i ≡ (va es).0 i = λ i l. x.values i (subst (λ n. i < n) (sym size) l) in
              all_write r u s f (va es).1 (textured a.lines (a.images k) (va es).0) g g1 fit x.ready x.staying
              (λ i l h. textured_steady g0.lines (g0.images k) vs (λ j. reads_steady args ss b r j g1 h) i)
              (λ i l. ap (λ n. textured n (g0.images k) vs i) ground.lines ∙ ap (λ p. textured a.lines p vs i) (ground.images k)
              ∙ same_textured a.lines wide tall (a.images k) vs (va es).0 agree i (subst (λ n. i < n) size l));
        }
