-- States that are the same on a grid.
use Rattle.std.proofs.Common.{◌≡◌, ℕ, zero, suc, ◌+◌, ◌-◌, ◌*◌, ◌/◌, ◌%◌, ◌<◌, ◌≤◌, Bool, true, cond, List, [], ◌∷◌, refl, sym, ap, ◌∙◌, arith, ⊎_elim}
use Rattle.std.specs.Prelude.{◌||◌, nat_lt}
use Rattle.std.specs.List.{list_all}
use Rattle.std.proofs.lemmas.Bool.{cond-true, cond-false, cases_Bool, ltb-true, and_parts}
use Rattle.sl_ast.specs.declared.typed.Value.{Value}
use Rattle.sl_ast.specs.declared.operations.Difference.{Difference}
use Rattle.sl_ast.specs.declared.operations.Difference.TheVariants.{Du, Dv, CalculateNormal}
use Rattle.builtins.specs.Values.{triple_of, as_shape}
use Rattle.builtins.specs.Triples.{cross, normalize, negated}
use Rattle.builtins.specs.Differences.{Lines, slope, along_u, along_v, normal_at, difference}
use Rattle.builtins.specs.Table.{applied}
use Rattle.sl_ast.specs.declared.typed.Value.TheVariants.{Triple}
use Rattle.grid_code.specs.declared.code.Register.{Register}
use Rattle.grid_code.specs.declared.code.Register.TheVariants.{Uniform, Varying}
use Rattle.grid_code.specs.declared.code.Source.{Source}
use Rattle.grid_code.specs.declared.code.Source.TheVariants.{Constant, Copy, Into, Apply}
use Rattle.grid_code.specs.declared.register_set.RegisterSet.{RegisterSet}
use Rattle.grid_code.specs.Uses.{has, source_within}
use Rattle.grid_code.specs.Masked.{State, Ground, any, read, reads, result_of, write}
use Rattle.grid_machine.specs.State.{Near}
use Rattle.place_rows.proofs.Rows.{next_in, under_in}

pub near_on : (c : ℕ) (v u : RegisterSet) (g h k : State) → Near c v u g h → Near c v u h k → Near c v u g k
near_on c v u g h k a b =
    record {
      rows = λ s r i x y. a.rows s r i x y ∙ b.rows s r i x y;
      shared = λ s r x. a.shared s r x ∙ b.shared s r x;
      turns = a.turns ∙ b.turns;
      own = λ i x. a.own i x ∙ b.own i x;
      live = λ i x. a.live i x ∙ b.live i x;
      staying = λ i x. a.staying i x ∙ b.staying i x;
    }

pub any_same : (c : ℕ) (p q : ℕ → Bool) → ((i : ℕ) → i < c → p i ≡ q i) → any c p ≡ any c q
any_same zero p q h = refl
any_same (suc c) p q h = ap (λ b. b || any c p) (h c (omega arith)) ∙ ap (λ b. q c || b) (any_same c p q (λ i l. h i (omega arith)))

pub read_near : (c : ℕ) (v u : RegisterSet) (g h : State) (r : Register) (i : ℕ) → Near c v u g h → has v u r ≡ true → i < c → read g r i ≡ read h r i
read_near c v u g h (Uniform s k) i n x l = n.shared s k x
read_near c v u g h (Varying s k) i n x l = n.rows s k i x l

pub reads_near : (c : ℕ) (v u : RegisterSet) (g h : State) (rs : List Register) (i : ℕ) → Near c v u g h → list_all (has v u) rs ≡ true → i < c → reads g rs i ≡ reads h rs i
reads_near c v u g h [] i n x l = refl
reads_near c v u g h (r ∷ rs) i n x l =
    let y = and_parts (has v u r) (list_all (has v u) rs) x in
    ap (λ w. w ∷ reads g rs i) (read_near c v u g h r i n y.0 l) ∙ ap (λ ws. read h r i ∷ ws) (reads_near c v u g h rs i n y.1 l)

pub result_near : (c : ℕ) (v u : RegisterSet) (w : Ground) (g h : State) (o : Source) (i : ℕ) → Near c v u g h → source_within (has v u) o ≡ true → i < c → result_of o w g i ≡ result_of o w h i
result_near c v u w g h (Constant x) i n y l = refl
result_near c v u w g h (Copy q) i n y l = read_near c v u g h q i n y l
result_near c v u w g h (Into s q) i n y l = ap (as_shape s) (read_near c v u g h q i n y l)
result_near c v u w g h (Apply op qs) i n y l = ap (applied op w.spaces) (reads_near c v u g h qs i n y l)

module _ (w : Lines) (c : ℕ) (f g : ℕ → Value) (shape : c ≡ w.columns * w.rows) (wide : 2 ≤ w.columns) (tall : 2 ≤ w.rows) (same : (i : ℕ) → i < c → f i ≡ g i) (i : ℕ) (l : i < c) where
  pub along_u_near : along_u w f i ≡ along_u w g i
  unfolding along_u
  along_u_near =
      ⊎_elim
      (λ e. let next = next_in c w.columns w.rows i shape wide l (ltb-true (i % w.columns + 1) w.columns e) in
      cond-true _ _ _ e ∙ ap (λ x. slope w.du x (f i)) (same (i + 1) next) ∙ ap (λ x. slope w.du (g (i + 1)) x) (same i l) ∙ sym (cond-true _ _ _ e))
      (λ e. cond-false _ _ _ e ∙ ap (λ x. slope w.du x (f (i - 1))) (same i l) ∙ ap (λ x. slope w.du (g i) x) (same (i - 1) (omega arith)) ∙ sym (cond-false _ _ _ e))
      (cases_Bool (nat_lt (i % w.columns + 1) w.columns))

  pub along_v_near : along_v w f i ≡ along_v w g i
  unfolding along_v
  along_v_near =
      ⊎_elim
      (λ e. let under = under_in c w.columns w.rows i shape wide l (ltb-true (i / w.columns + 1) w.rows e) in
      cond-true _ _ _ e ∙ ap (λ x. slope w.dv x (f i)) (same (i + w.columns) under) ∙ ap (λ x. slope w.dv (g (i + w.columns)) x) (same i l) ∙ sym (cond-true _ _ _ e))
      (λ e. cond-false _ _ _ e ∙ ap (λ x. slope w.dv x (f (i - w.columns))) (same i l) ∙ ap (λ x. slope w.dv (g i) x) (same (i - w.columns) (omega arith)) ∙ sym (cond-false _ _ _ e))
      (cases_Bool (nat_lt (i / w.columns + 1) w.rows))

  pub normal_near : (flip : Bool) → normal_at w flip f i ≡ normal_at w flip g i
  unfolding normal_at
  normal_near flip =
      ap (λ x. let n = normalize (cross (triple_of x) (triple_of (along_v w f i))) in Triple (cond flip (negated n) n)) along_u_near
      ∙ ap (λ x. let n = normalize (cross (triple_of (along_u w g i)) (triple_of x)) in Triple (cond flip (negated n) n)) along_v_near

  pub difference_near : (d : Difference) (flip : Bool) → difference d w flip f i ≡ difference d w flip g i
  difference_near Du flip = along_u_near
  difference_near Dv flip = along_v_near
  difference_near CalculateNormal flip = normal_near flip

pub write_near : (c : ℕ) (v u : RegisterSet) (t : Register) (f f' : ℕ → Value) (g h : State) → 0 < c → Near c v u g h → ((i : ℕ) → i < c → f i ≡ f' i) → Near c v u (write c t f g) (write c t f' h)
write_near c v u (Uniform s r) f f' g h pos n e =
    record {
      rows = n.rows;
      shared = λ t k x. let a = any_same c g.live h.live n.live in let b = e 0 pos in let d = n.shared t k x in cc;
      turns = n.turns;
      own = n.own;
      live = n.live;
      staying = n.staying;
    }
write_near c v u (Varying s r) f f' g h pos n e =
    record {
      rows = λ t k i x l. let a = n.live i l in let b = e i l in let d = n.rows t k i x l in cc;
      shared = n.shared;
      turns = n.turns;
      own = n.own;
      live = n.live;
      staying = n.staying;
    }
