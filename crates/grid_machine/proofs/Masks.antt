-- Choices and loops of the machine, over states that are the same on the grid.
use Rattle.std.proofs.Common.{◌≡◌, ℕ, suc, ◌<◌, Bool, true, false, cond, refl, sym, ap, ◌∙◌, subst}
use Rattle.std.specs.Prelude.{not, ◌&&◌, ◌||◌}
use Rattle.std.proofs.lemmas.Bool.{cond-true, cond-false}
use Rattle.builtins.specs.declared.shape.Shape.{Shape}
use Rattle.builtins.specs.Values.{is_true}
use Rattle.grid_code.specs.declared.code.Register.{Register}
use Rattle.grid_code.specs.declared.code.Register.TheVariants.{Uniform, Varying}
use Rattle.grid_code.specs.declared.register_set.RegisterSet.{RegisterSet}
use Rattle.grid_code.specs.Code.{Block, end, branch, loops, breaks, continues}
use Rattle.grid_code.specs.Uses.{has}
use Rattle.grid_code.specs.Masked.{State, Ground, read, any, under, take_turn, going, turn, turns_of, masked}
use Rattle.grid_machine.specs.State.{Near, Performs, PerformsTurns}
use Rattle.grid_machine.proofs.Near.{any_same, read_near}

-- a state with other masks
pub near_live : (c : ℕ) (v z : RegisterSet) (g h : State) (p q : ℕ → Bool) → Near c v z g h → ((i : ℕ) → i < c → p i ≡ q i) → Near c v z record g { live = p } record h { live = q }
near_live c v z g h p q n e = record { rows = n.rows; shared = n.shared; turns = n.turns; own = n.own; live = e; staying = n.staying }

pub near_masks : (c : ℕ) (v z : RegisterSet) (g h : State) (p q p' q' : ℕ → Bool) → Near c v z g h → ((i : ℕ) → i < c → p i ≡ q i) → ((i : ℕ) → i < c → p' i ≡ q' i) → Near c v z record g { live = p; staying = p' } record h { live = q; staying = q' }
near_masks c v z g h p q p' q' n e e' = record { rows = n.rows; shared = n.shared; turns = n.turns; own = n.own; live = e; staying = e' }

module _ (w : Ground) (c : ℕ) (v z : RegisterSet) (n : ℕ) where
  parts_steps : (s : Shape) (r : ℕ) (a b : Block) (s0 s2 s4 : State) (l1 l3 l5 : ℕ → Bool) → has v z (Varying s r) ≡ true → ((i : ℕ) → i < c → l1 i ≡ (s0.live i && is_true (s0.rows s r i))) → Performs w c v z n a record s0 { live = l1 } s2 → ((i : ℕ) → i < c → l3 i ≡ (s0.live i && not (is_true (s0.rows s r i)))) → Performs w c v z n b record s2 { live = l3 } s4 → ((i : ℕ) → i < c → l5 i ≡ (s2.live i || s4.live i)) → Performs w c v z n (branch (Varying s r) a b end) s0 record s4 { live = l5 }
  parts_steps s r a b s0 s2 s4 l1 l3 l5 is e1 ha e3 hb e5 g near =
      let p : ℕ → Bool = λ j. is_true (g.rows s r j) in
      let test : (i : ℕ) → i < c → p i ≡ is_true (s0.rows s r i) = λ i l. ap is_true (near.rows s r i is l) in
      let x = masked a w c n (under p g) in
      let nx = ha (under p g) (near_live c v z g s0 (λ i. g.live i && p i) l1 near (λ i l. ap (λ k. k && p i) (near.live i l) ∙ ap (λ k. s0.live i && k) (test i l) ∙ sym (e1 i l))) in
      let y0 : State = record x { live = λ i. g.live i && not (p i) } in
      let ny = hb y0 (near_live c v z x s2 (λ i. g.live i && not (p i)) l3 nx (λ i l. ap (λ k. k && not (p i)) (near.live i l) ∙ ap (λ k. s0.live i && not k) (test i l) ∙ sym (e3 i l))) in
      near_live c v z (masked b w c n y0) s4 (λ i. x.live i || (masked b w c n y0).live i) l5 ny (λ i l. ap (λ k. k || (masked b w c n y0).live i) (nx.live i l) ∙ ap (λ k. s2.live i || k) (ny.live i l) ∙ sym (e5 i l))

  one_steps : (s : Shape) (r : ℕ) (t : Bool) (a b : Block) (s0 s1 : State) → has v z (Uniform s r) ≡ true → is_true (s0.shared s r) ≡ t → Performs w c v z n (cond t a b) s0 s1 → Performs w c v z n (branch (Uniform s r) a b end) s0 s1
  one_steps s r true a b s0 s1 is e st g near =
      subst (λ k. Near c v z (cond k (masked a w c n g) (masked b w c n g)) s1) (sym (ap is_true (near.shared s r is) ∙ e)) (st g near)
  one_steps s r false a b s0 s1 is e st g near =
      subst (λ k. Near c v z (cond k (masked a w c n g) (masked b w c n g)) s1) (sym (ap is_true (near.shared s r is) ∙ e)) (st g near)

  -- the same of a register that is known to be uniform or varying
  pub one_at : (x : Register) (s : Shape) (r : ℕ) (t : Bool) (a b : Block) (s0 s1 : State) → x ≡ Uniform s r → has v z x ≡ true → is_true (read s0 x 0) ≡ t → Performs w c v z n (cond t a b) s0 s1 → Performs w c v z n (branch x a b end) s0 s1
  one_at x s r t a b s0 s1 is h e st = subst (λ y. Performs w c v z n (branch y a b end) s0 s1) (sym is) (one_steps s r t a b s0 s1 (subst (λ y. has v z y ≡ true) is h) (subst (λ y. is_true (read s0 y 0) ≡ t) is e) st)

  pub parts_at : (x : Register) (s : Shape) (r : ℕ) (a b : Block) (s0 s2 s4 : State) (set l1 l3 l5 : ℕ → Bool) → x ≡ Varying s r → has v z x ≡ true → ((i : ℕ) → i < c → set i ≡ is_true (read s0 x i)) → ((i : ℕ) → i < c → l1 i ≡ (s0.live i && set i)) → Performs w c v z n a record s0 { live = l1 } s2 → ((i : ℕ) → i < c → l3 i ≡ (s0.live i && not (set i))) → Performs w c v z n b record s2 { live = l3 } s4 → ((i : ℕ) → i < c → l5 i ≡ (s2.live i || s4.live i)) → Performs w c v z n (branch x a b end) s0 record s4 { live = l5 }
  parts_at x s r a b s0 s2 s4 set l1 l3 l5 is h test e1 ha e3 hb e5 =
      let at : (i : ℕ) → i < c → set i ≡ is_true (s0.rows s r i) = λ i l. test i l ∙ ap (λ y. is_true (read s0 y i)) is in
      subst (λ y. Performs w c v z n (branch y a b end) s0 record s4 { live = l5 }) (sym is)
      (parts_steps s r a b s0 s2 s4 l1 l3 l5 (subst (λ y. has v z y ≡ true) is h) (λ i l. e1 i l ∙ ap (λ k. s0.live i && k) (at i l)) ha (λ i l. e3 i l ∙ ap (λ k. s0.live i && not k) (at i l)) hb e5)

  pub breaks_steps : (s0 : State) (l k : ℕ → Bool) → ((i : ℕ) → i < c → l i ≡ false) → ((i : ℕ) → i < c → k i ≡ (s0.staying i && not (s0.live i))) → Performs w c v z n (breaks end) s0 record s0 { live = l; staying = k }
  breaks_steps s0 l k el ek g near =
      near_masks c v z g s0 (λ i. false) l (λ i. g.staying i && not (g.live i)) k near (λ i q. sym (el i q)) (λ i q. ap (λ x. x && not (g.live i)) (near.staying i q) ∙ ap (λ x. s0.staying i && not x) (near.live i q) ∙ sym (ek i q))

  pub continues_steps : (s0 : State) (l : ℕ → Bool) → ((i : ℕ) → i < c → l i ≡ false) → Performs w c v z n (continues end) s0 record s0 { live = l }
  continues_steps s0 l el g near = near_live c v z g s0 (λ i. false) l near (λ i q. sym (el i q))

going_near : (c : ℕ) (v z : RegisterSet) (u : Bool) (t : Register) (g h : State) → has v z t ≡ true → Near c v z g h → (i : ℕ) → i < c → going u t g i ≡ going u t h i
going_near c v z u t g h x n i l =
    let a = n.live i l in let b = read_near c v z g h t i n x l in let d = n.turns in let e = n.own i l in cc

module _ (w : Ground) (u : Bool) (d : Block) (t : Register) (e a : Block) (c : ℕ) (v z : RegisterSet) (n : ℕ) where
  -- what the turns of a loop have still to do
  pub record Turning (k : ℕ) (m0 m : State) : Type 0 where
    pub ahead : (g : State) → Near c v z g m0 → (h : State) × (Near c v z h m × (turns_of k c u (masked d w c n) t (masked e w c n) (masked a w c n) h ≡ turns_of n c u (masked d w c n) t (masked e w c n) (masked a w c n) g))

  pub turning_init : (m : State) → Turning n m m
  turning_init m = record { ahead = λ g near. (g, (near, refl)) }

  -- a turn: after the question s1, at the start of the body s2, after the body s3, after the step s4
  pub turning_step : (k : ℕ) (m0 m s1 s2 s3 s4 : State) → has v z t ≡ true → Turning (suc k) m0 m → Performs w c v z n d m s1 → any c (going u t s1) ≡ true → ((g : State) (p : ℕ → Bool) → Near c v z g s1 → ((i : ℕ) → i < c → p i ≡ going u t s1 i) → Near c v z (take_turn u record g { live = p; staying = p }) s2) → Performs w c v z n a s2 s3 → (l : ℕ → Bool) → ((i : ℕ) → i < c → l i ≡ s3.staying i) → Performs w c v z n e record s3 { live = l } s4 → Turning k m0 s4
  turning_step k m0 m s1 s2 s3 s4 x tr hd some ht ha l el he =
      record {
        ahead = λ g near.
            let y = tr.ahead g near in
            let h = y.0 in
            let g1 = masked d w c n h in
            let n1 = hd h y.1.0 in
            let p = going u t g1 in
            let same = going_near c v z u t g1 s1 x n1 in
            let n2 = ht g1 p n1 same in
            let g3 = masked a w c n (take_turn u record g1 { live = p; staying = p }) in
            let n3 = ha (take_turn u record g1 { live = p; staying = p }) n2 in
            let n4 = near_live c v z g3 s3 g3.staying l n3 (λ i q. n3.staying i q ∙ sym (el i q)) in
            let g4 = masked e w c n record g3 { live = g3.staying } in (
              g4,
              (
                he record g3 { live = g3.staying } n4,
                sym (cond-true (any c p) (turns_of k c u (masked d w c n) t (masked e w c n) (masked a w c n) g4) g1 (any_same c p (going u t s1) same ∙ some)) ∙ y.1.1,
              ),
            );
      }

  pub turning_stop : (k : ℕ) (m0 m s1 : State) → has v z t ≡ true → Turning (suc k) m0 m → Performs w c v z n d m s1 → any c (going u t s1) ≡ false → PerformsTurns w c v z n u d t e a m0 s1
  turning_stop k m0 m s1 x tr hd none g near =
      let y = tr.ahead g near in
      let h = y.0 in
      let g1 = masked d w c n h in
      let n1 = hd h y.1.0 in
      let p = going u t g1 in
      subst (λ s. Near c v z s s1) (sym (cond-false (any c p) (turns_of k c u (masked d w c n) t (masked e w c n) (masked a w c n) (turn u p (masked e w c n) (masked a w c n) g1)) g1 (any_same c p (going u t s1) (going_near c v z u t g1 s1 x n1) ∙ none)) ∙ y.1.1) n1

  pub turning_end : (m0 m s1 : State) → Turning 0 m0 m → Performs w c v z n d m s1 → PerformsTurns w c v z n u d t e a m0 s1
  turning_end m0 m s1 tr hd g near = let y = tr.ahead g near in subst (λ s. Near c v z s s1) y.1.1 (hd y.0 y.1.0)

  -- the masks are as they were when the loop is over
  pub looped_steps : (m0 m : State) (l k : ℕ → Bool) → PerformsTurns w c v z n u d t e a m0 m → ((i : ℕ) → i < c → l i ≡ m0.live i) → ((i : ℕ) → i < c → k i ≡ m0.staying i) → Performs w c v z n (loops u d t e a end) m0 record m { live = l; staying = k }
  looped_steps m0 m l k h el ek g near =
      near_masks c v z _ m g.live l g.staying k (h g near) (λ i q. near.live i q ∙ sym (el i q)) (λ i q. near.staying i q ∙ sym (ek i q))
