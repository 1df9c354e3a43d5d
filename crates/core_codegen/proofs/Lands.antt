-- Where a statement's code leaves a grid, in uniform control.
use Rattle.std.proofs.Common.{◌≡◌, ℕ, suc, ◌+◌, ◌<◌, ◌≤◌, Bool, true, false, List, [], ◌∷◌, ◌++◌, length, get_or, take, refl, ap, ◌∙◌, arith, subst, length-append}
use Rattle.std.proofs.lemmas.List.{length-take-le}
use Rattle.sl_ast.specs.declared.kinds.SlType.{SlType}
use Rattle.sl_ast.specs.declared.typed.Value.{Value}
use Rattle.sl_ast.specs.Names.{name_type}
use Rattle.sl_ast.specs.Classes.{is_uniform_name}
use Rattle.builtins.specs.declared.shape.Shape.{Shape}
use Rattle.builtins.specs.declared.shape.Shape.TheVariants as shapes
use Rattle.builtins.specs.Names.{place_of}
use Rattle.builtins.specs.Values.{shape_of, as_shape, as_kind}
use Rattle.grid_code.specs.declared.code.Source.TheVariants.{Into}
use Rattle.grid_code.specs.Names.{reg, first_free}
use Rattle.grid_code.specs.Masked.{Ground, State, read, result_of, write}
use Rattle.sl_meaning.specs.Core.{Slot, slot, no_slot}
use Rattle.sl_meaning.specs.Environment.{Env, Signal, Next, Break, Continue, declared}
use Rattle.sl_meaning.specs.Grid.{Envs, GivesAll, RunsAll, on_all, more_all, inlined_all, next_all, inside_all}
use Rattle.core_codegen.specs.Correct.{Holds}
use Rattle.grid_code.proofs.Asleep.{AllDead, Asleep, asleep_on}
use Rattle.core_codegen.proofs.Relation.{rel_wrote, Wrote, wrote, write_value}
use Rattle.core_codegen.proofs.Steps.{read_steady}
use Rattle.core_codegen.proofs.Scopes.{Extends, rel_prefix, rel_cut, cut}
use Rattle.core_codegen.proofs.Stmts.{callee, rel_bare, formals_more, rel_declared}
use Rattle.core_codegen.proofs.Everywhere.{AllLow, AllExpr, all_low_self, all_low_on, read_all_low, all_wrote_low, ready_wrote}
use Rattle.core_codegen.specs.UniformRegisters.{AllHold}

pub record AllWent (c : ℕ) (ss : List Slot) (b : ℕ) (es : Envs) (g h : State) : Type 0 where
  pub ready : AllHold c ss b es h
  pub staying : (i : ℕ) → i < c → h.staying i ≡ g.staying i

-- all places are out, at a break for good
pub record AllOut (c : ℕ) (ss : List Slot) (b : ℕ) (es : Envs) (h : State) : Type 0 where
  pub live : AllDead c h.live
  pub rel : (i : ℕ) → i < c → Holds i ss b (es i) h
  pub long : (i : ℕ) → i < c → length ss ≤ length (es i).values

pub record AllLeft (c : ℕ) (ss : List Slot) (b : ℕ) (es : Envs) (g h : State) : Type 0 where
  pub out : AllOut c ss b es h
  pub staying : AllDead c h.staying

pub record AllSkipped (c : ℕ) (ss : List Slot) (b : ℕ) (es : Envs) (g h : State) : Type 0 where
  pub out : AllOut c ss b es h
  pub staying : (i : ℕ) → i < c → h.staying i ≡ g.staying i

abbrev pub AllLands : ℕ → List Slot → List Slot → ℕ → Signal → Envs → State → State → Type 0
AllLands c ss' ss b Next es g h = AllWent c ss' b es g h
AllLands c ss' ss b Break es g h = AllLeft c ss b es g h
AllLands c ss' ss b Continue es g h = AllSkipped c ss b es g h

pub record AllStmt (c : ℕ) (ss' ss : List Slot) (b : ℕ) (s : RunsAll) (g h : State) : Type 0 where
  pub low : AllLow c b g h
  pub asleep : AllDead c g.live → Asleep c g h
  pub runs : (es : Envs) → AllHold c ss b es g → AllLands c ss' ss b (s es).0 (s es).1 g h

pub record AllBody (c : ℕ) (ss : List Slot) (b : ℕ) (s : RunsAll) (g h : State) : Type 0 where
  pub low : AllLow c b g h
  pub asleep : AllDead c g.live → Asleep c g h
  pub runs : (es : Envs) → AllHold c ss b es g → AllLands c ss ss b (s es).0 (s es).1 g h × ((i : ℕ) → i < c → length ((s es).1 i).values ≡ length ss)

read_asleep : (c : ℕ) (g h : State) (u : Bool) (t : Shape) (r i : ℕ) → i < c → Asleep c g h → read h (reg u t r) i ≡ read g (reg u t r) i
read_asleep c g h true t r i l x = x.shared t r
read_asleep c g h false t r i l x = x.rows t r i l

pub rel_asleep : (c i : ℕ) (ss : List Slot) (b : ℕ) (e : Env) (g h : State) → i < c → Asleep c g h → Holds i ss b e g → Holds i ss b e h
rel_asleep c i ss b e g h l x r =
    record {
      named = λ p. read_asleep c g h (is_uniform_name p) (shape_of (name_type p)) (place_of p) i l x ∙ r.named p;
      lit = x.rows shapes.Number 21 i l ∙ r.lit;
      values = λ k q. read_asleep c g h (get_or ss k no_slot).uniform (shape_of (get_or ss k no_slot).kind) (b + k) i l x ∙ r.values k q;
      turns = x.turns ∙ r.turns;
      own = x.own i l ∙ r.own;
    }

out_asleep : (c : ℕ) (ss : List Slot) (b : ℕ) (es : Envs) (g h : State) → Asleep c g h → AllOut c ss b es g → AllOut c ss b es h
out_asleep c ss b es g h x o = record { live = x.live; rel = λ i l. rel_asleep c i ss b (es i) g h l x (o.rel i l); long = o.long }

out_prefix : (c : ℕ) (ss ss' : List Slot) (b : ℕ) (es : Envs) (h : State) → Extends ss ss' → AllOut c ss' b es h → AllOut c ss b es h
out_prefix c ss ss' b es h x o =
    record { live = o.live; rel = λ i l. rel_prefix i ss ss' b (es i) h x (o.rel i l); long = λ i l. let a = x.long in let q = o.long i l in omega arith }

lands_from : (c : ℕ) (ss2 ss1 ss : List Slot) (b : ℕ) (x : Signal) (es : Envs) (g g1 g2 : State) → Extends ss ss1 → ((i : ℕ) → i < c → g1.staying i ≡ g.staying i) → AllLands c ss2 ss1 b x es g1 g2 → AllLands c ss2 ss b x es g g2
lands_from c ss2 ss1 ss b Next es g g1 g2 x s l = record { ready = l.ready; staying = λ i q. l.staying i q ∙ s i q }
lands_from c ss2 ss1 ss b Break es g g1 g2 x s l = record { out = out_prefix c ss ss1 b es g2 x l.out; staying = l.staying }
lands_from c ss2 ss1 ss b Continue es g g1 g2 x s l = record { out = out_prefix c ss ss1 b es g2 x l.out; staying = λ i q. l.staying i q ∙ s i q }

all_seq_lands : (c : ℕ) (ss2 ss1 ss : List Slot) (b : ℕ) (x : Signal) (es : Envs) (go : RunsAll) (g g1 g2 : State) → Extends ss ss1 → AllStmt c ss2 ss1 b go g1 g2 → AllLands c ss1 ss b x es g g1 → AllLands c ss2 ss b (next_all (x, es) go).0 (next_all (x, es) go).1 g g2
all_seq_lands c ss2 ss1 ss b Next es go g g1 g2 x st l = lands_from c ss2 ss1 ss b (go es).0 (go es).1 g g1 g2 x l.staying (st.runs es l.ready)
all_seq_lands c ss2 ss1 ss b Break es go g g1 g2 x st l =
    let s = st.asleep l.out.live in record { out = out_asleep c ss b es g1 g2 s l.out; staying = λ i q. s.staying i q ∙ l.staying i q }
all_seq_lands c ss2 ss1 ss b Continue es go g g1 g2 x st l =
    let s = st.asleep l.out.live in record { out = out_asleep c ss b es g1 g2 s l.out; staying = λ i q. s.staying i q ∙ l.staying i q }

pub all_seq : (c : ℕ) (ss2 ss1 ss : List Slot) (b : ℕ) (s go : RunsAll) (g g1 g2 : State) → Extends ss ss1 → AllStmt c ss1 ss b s g g1 → AllStmt c ss2 ss1 b go g1 g2 → AllStmt c ss2 ss b (λ es. next_all (s es) go) g g2
all_seq c ss2 ss1 ss b s go g g1 g2 x sa st =
    record {
      low = all_low_on c b b b g g1 g2 (omega arith) (omega arith) sa.low st.low;
      asleep = λ h. let a = sa.asleep h in asleep_on c g g1 g2 a (st.asleep a.live);
      runs = λ es ready. all_seq_lands c ss2 ss1 ss b (s es).0 (s es).1 go g g1 g2 x st (sa.runs es ready);
    }

abbrev cuts : (ℕ → ℕ) → Envs → Envs
cuts m es i = cut (m i) (es i)

out_cut : (c : ℕ) (ss : List Slot) (b : ℕ) (m : ℕ → ℕ) (es : Envs) (h : State) → ((i : ℕ) → i < c → m i ≡ length ss) → AllOut c ss b es h → AllOut c ss b (cuts m es) h
out_cut c ss b m es h is o =
    record {
      live = o.live;
      rel = λ i l. rel_cut i (m i) ss b (es i) h (is i l) (o.rel i l);
      long = λ i l. let e = is i l in let q = o.long i l in omega (arith, length-take-le (m i) (es i).values (omega arith));
    }

all_cut : (c : ℕ) (ss' ss : List Slot) (b : ℕ) (m : ℕ → ℕ) (x : Signal) (es : Envs) (g h : State) → Extends ss ss' → ((i : ℕ) → i < c → m i ≡ length ss) → AllLands c ss' ss b x es g h → AllLands c ss ss b x (cuts m es) g h × ((i : ℕ) → i < c → length (take (m i) (es i).values) ≡ length ss)
all_cut c ss' ss b m Next es g h x is l =
    let len : (i : ℕ) → i < c → length (take (m i) (es i).values) ≡ length ss = λ i q. let e = is i q in let a = x.long in let f = l.ready.exact i q in length-take-le (m i) (es i).values (omega arith) ∙ e in
    (record { ready = record { live = l.ready.live; rel = λ i q. rel_cut i (m i) ss b (es i) h (is i q) (rel_prefix i ss ss' b (es i) h x (l.ready.rel i q)); exact = len }; staying = l.staying }, len)
all_cut c ss' ss b m Break es g h x is l =
    (record { out = out_cut c ss b m es h is l.out; staying = l.staying }, λ i q. let e = is i q in let f = l.out.long i q in length-take-le (m i) (es i).values (omega arith) ∙ e)
all_cut c ss' ss b m Continue es g h x is l =
    (record { out = out_cut c ss b m es h is l.out; staying = l.staying }, λ i q. let e = is i q in let f = l.out.long i q in length-take-le (m i) (es i).values (omega arith) ∙ e)

pub all_inside : (c : ℕ) (ss' ss : List Slot) (b : ℕ) (s : RunsAll) (g h : State) → Extends ss ss' → AllStmt c ss' ss b s g h → AllBody c ss b (inside_all s) g h
all_inside c ss' ss b s g h x st =
    record { low = st.low; asleep = st.asleep; runs = λ es ready. all_cut c ss' ss b (λ i. length (es i).values) (s es).0 (s es).1 g h x ready.exact (st.runs es ready) }

pub all_block : (c : ℕ) (ss : List Slot) (b : ℕ) (s : RunsAll) (g h : State) → AllBody c ss b s g h → AllStmt c ss ss b s g h
all_block c ss b s g h st = record { low = st.low; asleep = st.asleep; runs = λ es ready. (st.runs es ready).0 }

-- the environments of a function on its arguments
abbrev pub callees : (ℕ → List Value) × Envs → Envs
callees r i = callee (r.0 i, r.1 i)

pub record AllPassed (c : ℕ) (ss : List Slot) (b m : ℕ) (fs : List Slot) (r : (ℕ → List Value) × Envs) (g h : State) : Type 0 where
  pub ready : AllHold c ss b r.1 h
  pub inner : AllHold c fs m (callees r) h
  pub staying : (i : ℕ) → i < c → h.staying i ≡ g.staying i

pub record AllArgs (c : ℕ) (ss : List Slot) (b m : ℕ) (fs : List Slot) (a : GivesAll (List Value)) (g h : State) : Type 0 where
  pub low : AllLow c m g h
  pub runs : (es : Envs) → AllHold c ss b es g → AllPassed c ss b m fs (a es) g h

pub all_no_args : (c : ℕ) (ss : List Slot) (b m : ℕ) (g : State) → AllArgs c ss b m [] (λ es. (λ i. [], es)) g g
all_no_args c ss b m g =
    record {
      low = all_low_self c m g;
      runs = λ es y. record { ready = y; inner = record { live = y.live; rel = λ i l. rel_bare i ss b m (es i) [] g (y.rel i l); exact = λ i l. refl }; staying = λ i l. refl };
    }

module _ (c : ℕ) (g0 : Ground) (ss : List Slot) (b : ℕ) (free : first_free ≤ b) where
  pub into_steady : (i : ℕ) (u v : Bool) (s t : Shape) (k : ℕ) (g : State) → (u ≡ true → v ≡ true) → u ≡ true → result_of (Into s (reg v t k)) g0 g 0 ≡ result_of (Into s (reg v t k)) g0 g i
  into_steady i u v s t k g takes h = ap (as_shape s) (read_steady v t k i g (takes h))

  pub all_arg : (m : ℕ) (v u : Bool) (t : Shape) (kind : SlType) (fs : List Slot) (va : GivesAll Value) (vs : GivesAll (List Value)) (g g1 g3 : State) → b + length ss ≤ m → (u ≡ true → v ≡ true) → AllExpr c ss b m (reg v t m) va g g1 → AllArgs c ss b (m + 1) fs vs (write c (reg u (shape_of kind) m) (result_of (Into (shape_of kind) (reg v t m)) g0 g1) g1) g3 → AllArgs c ss b m (slot u kind ∷ fs) (more_all (on_all (as_kind kind) va) vs) g g3
  all_arg m v u t kind fs va vs g g1 g3 fit takes sa rest =
      let f = result_of (Into (shape_of kind) (reg v t m)) g0 g1 in
      let g2 = write c (reg u (shape_of kind) m) f g1 in
      let wr : (i : ℕ) → Wrote i m g1 g2 = λ i. wrote c i m u (shape_of kind) f g1 in
      record {
        low = all_low_on c m m m g g1 g3 (omega arith) (omega arith) sa.low (all_low_on c m m (m + 1) g1 g2 g3 (omega arith) (omega arith) (all_wrote_low c m g1 g2 wr) rest.low);
        runs = λ es ready.
            let x = sa.runs es ready in
            let y = rest.runs (va es).1 (ready_wrote c ss b free m (va es).1 g1 g2 fit wr x.ready) in
            let value : (i : ℕ) → i < c → read g2 (reg u (shape_of kind) m) i ≡ as_kind kind ((va es).0 i) = λ i l. write_value c i m u (shape_of kind) f g1 l (x.ready.live i l) (into_steady i u v (shape_of kind) t m g1 takes) ∙ ap (as_kind kind) (x.value i l) in
            record {
              ready = y.ready;
              inner = record {
                live = y.ready.live;
                rel = λ i l. formals_more i (slot u kind) fs m (as_kind kind ((va es).0 i)) ((vs (va es).1).0 i, (vs (va es).1).1 i) g3 (read_all_low c (m + 1) g2 g3 u (shape_of kind) m i l (omega arith) (omega arith) rest.low ∙ value i l) (y.inner.rel i l);
                exact = λ i l. ap suc (y.inner.exact i l);
              };
              staying = λ i l. y.staying i l ∙ (wr i).staying ∙ x.staying i l;
            };
      }

  pub all_call : (m : ℕ) (fs ss2 : List Slot) (v w : Bool) (s t : Shape) (kind : SlType) (va : GivesAll (List Value)) (body : RunsAll) (vr : GivesAll Value) (g g1 g2 g3 : State) → b + length ss ≤ m → (v ≡ true → w ≡ true) → ((es : Envs) → (body es).0 ≡ Next) → AllArgs c ss b m fs va g g1 → AllStmt c ss2 fs m body g1 g2 → AllExpr c ss2 m (m + length ss2) (reg w t (m + length ss2)) vr g2 g3 → AllExpr c ss b m (reg v s m) (inlined_all va body (on_all (as_kind kind) vr)) g (write c (reg v s m) (result_of (Into (shape_of kind) (reg w t (m + length ss2))) g0 g3) g3)
  all_call m fs ss2 v w s t kind va body vr g g1 g2 g3 fit takes next sa sb sr =
      let f = result_of (Into (shape_of kind) (reg w t (m + length ss2))) g0 g3 in
      let h = write c (reg v s m) f g3 in
      let wr : (i : ℕ) → Wrote i m g3 h = λ i. wrote c i m v s f g3 in
      let low13 : AllLow c m g1 g3 = all_low_on c m m (m + length ss2) g1 g2 g3 (omega arith) (omega arith) sb.low sr.low in
      let low14 : AllLow c m g1 h = all_low_on c m m m g1 g3 h (omega arith) (omega arith) low13 (all_wrote_low c m g3 h wr) in
      record {
        low = all_low_on c m m m g g1 h (omega arith) (omega arith) sa.low low14;
        runs = λ es ready.
            let x = sa.runs es ready in
            let y : AllWent c ss2 m (body (callees (va es))).1 g1 g2 = subst (λ z. AllLands c ss2 fs m z (body (callees (va es))).1 g1 g2) (next (callees (va es))) (sb.runs (callees (va es)) x.inner) in
            let z = sr.runs (body (callees (va es))).1 y.ready in
            record {
              ready = record {
                live = λ i l. (wr i).live ∙ z.ready.live i l;
                rel = λ i l.
                    let bare = rel_wrote i m [] b _ g3 h free (omega arith) (wr i) (rel_bare i ss2 m b _ ((va es).1 i).values g3 (z.ready.rel i l)) in
                    record {
                      named = bare.named;
                      lit = bare.lit;
                      values = λ k q. read_all_low c m g1 h (get_or ss k no_slot).uniform (shape_of (get_or ss k no_slot).kind) (b + k) i l (omega arith) (omega arith) low14 ∙ (x.ready.rel i l).values k q;
                      turns = bare.turns;
                      own = bare.own;
                    };
                exact = x.ready.exact;
              };
              staying = λ i l. (wr i).staying ∙ z.staying i l ∙ y.staying i l ∙ x.staying i l;
              value = λ i l. write_value c i m v s f g3 l (z.ready.live i l) (into_steady i v w (shape_of kind) t (m + length ss2) g3 takes) ∙ ap (as_kind kind) (z.value i l);
            };
      }

  pub all_declare : (v u : Bool) (t : Shape) (kind : SlType) (va : GivesAll Value) (g g1 : State) → (u ≡ true → v ≡ true) → (AllDead c g.live → Asleep c g (write c (reg u (shape_of kind) (b + length ss)) (result_of (Into (shape_of kind) (reg v t (b + length ss))) g0 g1) g1)) → AllExpr c ss b (b + length ss) (reg v t (b + length ss)) va g g1 → AllStmt c (ss ++ (slot u kind ∷ [])) ss b (λ es. let x = va es in (Next, λ i. declared (as_kind kind (x.0 i)) (x.1 i))) g (write c (reg u (shape_of kind) (b + length ss)) (result_of (Into (shape_of kind) (reg v t (b + length ss))) g0 g1) g1)
  all_declare v u t kind va g g1 takes sleeps sa =
      let m = b + length ss in
      let f = result_of (Into (shape_of kind) (reg v t m)) g0 g1 in
      let g2 = write c (reg u (shape_of kind) m) f g1 in
      let wr : (i : ℕ) → Wrote i m g1 g2 = λ i. wrote c i m u (shape_of kind) f g1 in
      record {
        low = all_low_on c b m m g g1 g2 (omega arith) (omega arith) sa.low (all_wrote_low c m g1 g2 wr);
        asleep = sleeps;
        runs = λ es ready.
            let x = sa.runs es ready in
            let y = ready_wrote c ss b free m (va es).1 g1 g2 (omega arith) wr x.ready in
            let value : (i : ℕ) → i < c → read g2 (reg u (shape_of kind) m) i ≡ as_kind kind ((va es).0 i) = λ i l. write_value c i m u (shape_of kind) f g1 l (x.ready.live i l) (into_steady i u v (shape_of kind) t m g1 takes) ∙ ap (as_kind kind) (x.value i l) in
            record {
              ready = record {
                live = y.live;
                rel = λ i l. rel_declared i ss b (slot u kind) ((va es).1 i) (as_kind kind ((va es).0 i)) g2 (y.rel i l) (y.exact i l) (value i l);
                exact = λ i l. let e = y.exact i l in omega (arith, length-append ss (slot u kind ∷ []), length-append ((va es).1 i).values (as_kind kind ((va es).0 i) ∷ []));
              };
              staying = λ i l. (wr i).staying ∙ x.staying i l;
            };
      }
