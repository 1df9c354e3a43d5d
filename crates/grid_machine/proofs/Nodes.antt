-- Nodes and blocks over states that are the same on the grid.
use Rattle.std.proofs.Common.{◌≡◌, ℕ, ◌+◌, ◌*◌, ◌<◌, ◌≤◌, Bool, true, false, List, length, get_or, drop, refl, sym, ap, ◌∙◌, arith, subst, ⊎_elim, true≢false}
use Rattle.std.specs.Borrow.{Bor}
use Rattle.std.specs.List.{list_all}
use Rattle.builtins.specs.Differences.{difference}
use Rattle.builtins.specs.Textures.{textured}
use Rattle.builtins.proofs.Places.{same_textured}
use Rattle.sl_ast.specs.declared.operations.Difference.{Difference}
use Rattle.grid_code.specs.declared.code.Register.{Register}
use Rattle.grid_code.specs.declared.code.Source.{Source}
use Rattle.grid_code.specs.declared.code.Source.TheVariants.{Constant, Copy, Into, Apply}
use Rattle.builtins.specs.Table.{applied}
use Rattle.grid_code.specs.declared.register_set.RegisterSet.{RegisterSet}
use Rattle.grid_code.specs.declared.code.Node.{Node, Put, Differ, Sum, Texture, If', Loop', Lights', Break, Continue}
use Rattle.grid_code.specs.Code.{Block, end, put, differ, texture, ◌then◌}
use Rattle.grid_code.specs.View.{with_node, block_of}
use Rattle.grid_code.specs.Uses.{has}
use Rattle.grid_code.specs.Masked.{State, Ground, any, read, reads, result_of, write, masked}
use Rattle.grid_code.proofs.Asleep.{asleep}
use Rattle.grid_code.proofs.Then.{then_runs}
use Rattle.grid_code.proofs.Blocks.{block_size, node_size, next_node, none_left}
use Rattle.std.proofs.lemmas.Bool.{cases_Bool}
use Rattle.place_rows.proofs.Sets.{any_true}
use Rattle.grid_machine.specs.State.{Near, Performs, Ready, SourceReady}
use Rattle.grid_machine.proofs.Near.{near_on, read_near, reads_near, result_near, difference_near, write_near}

node_then : (x : Node) (y : Block) → with_node x end then y ≡ with_node x y
node_then (Put to source) y = refl
node_then (Differ to d q) y = refl
node_then (Sum to s qs) y = refl
node_then (Texture to k qs) y = refl
node_then (If' t k a m b) y = refl
node_then (Loop' u k a t m s p b) y = refl
node_then (Lights' w qs k b) y = refl
node_then Break y = refl
node_then Continue y = refl

node_runs : (x : Node) (rest : Block) (w : Ground) (c n : ℕ) (g : State) → masked (with_node x rest) w c n g ≡ masked rest w c n (masked (with_node x end) w c n g)
node_runs x rest w c n g = ap (λ b. masked b w c n g) (sym (node_then x rest)) ∙ then_runs (with_node x end) rest w c n g

module _ (v z : RegisterSet) (ts : List (Bor (List ℕ))) where
  node_ready : (x : Node) (rest : Block) → Ready v z ts (with_node x rest) → Ready v z ts (with_node x end) × Ready v z ts rest
  node_ready (Put to source) rest h = ((h.0, (h.1.0, (h.1.1.0, tt))), h.1.1.1)
  node_ready (Differ to d q) rest h = ((h.0, (h.1.0, (h.1.1.0, tt))), h.1.1.1)
  node_ready (Sum to s qs) rest h = ((h.0, (h.1.0, (h.1.1.0, (h.1.1.1.0, tt)))), h.1.1.1.1)
  node_ready (Texture to k qs) rest h = ((h.0, (h.1.0, (h.1.1.0, (h.1.1.1.0, tt)))), h.1.1.1.1)
  node_ready (If' t k a m b) rest h = ((h.0, (h.1.0, (h.1.1.0, tt))), h.1.1.1)
  node_ready (Loop' u k a t m s p b) rest h = ((h.0, (h.1.0, (h.1.1.0, (h.1.1.1.0, tt)))), h.1.1.1.1)
  node_ready (Lights' w qs k b) rest h = ((h.0, (h.1.0, (h.1.1.0, tt))), h.1.1.1)
  node_ready Break rest h = (tt, h)
  node_ready Continue rest h = (tt, h)

module _ (w : Ground) (c : ℕ) (v z : RegisterSet) (ts : List (Bor (List ℕ))) (n : ℕ) (block : List Node) where
  -- what a run of a block has still to run, from any state that is the same on the grid
  pub record Running (i : ℕ) (m0 m : State) : Type 0 where
    pub ahead : (g : State) → Near c v z g m0 → (h : State) × (Near c v z h m × (masked (block_of (drop i block)) w c n h ≡ masked (block_of block) w c n g))
    pub ready : Ready v z ts (block_of (drop i block))
    pub small : block_size (block_of (drop i block)) ≤ block_size (block_of block)

  pub running_init : (m : State) → Ready v z ts (block_of block) → Running 0 m m
  running_init m h = record { ahead = λ g near. (g, (near, refl)); ready = h; small = omega arith }

  pub running_end : (i : ℕ) (m0 m : State) → Running i m0 m → i ≡ length block → Performs w c v z n (block_of block) m0 m
  running_end i m0 m e h g near =
      let a = e.ahead g near in
      let q = ap block_of (none_left block i h) in
      subst (λ s. Near c v z s m) (ap (λ b. masked b w c n a.0) (sym q) ∙ a.1.1) a.1.0

  module _ (i : ℕ) (m0 m : State) (x : Node) (e : Running i m0 m) (h : i < length block) (is : x ≡ get_or block i x) where
    pub running_ready : Ready v z ts (with_node x end)
    running_ready = (node_ready v z ts x _ (subst (Ready v z ts) (next_node block i x h is) e.ready)).0

    pub running_small : block_size (with_node x end) ≤ block_size (block_of block)
    running_small = let q = ap block_size (next_node block i x h is) in let f = e.small in omega (arith, node_size x (block_of (drop (i + 1) block)))

    pub running_next : (m' : State) → Performs w c v z n (with_node x end) m m' → Running (i + 1) m0 m'
    running_next m' st =
        let q = next_node block i x h is in
        let rest = block_of (drop (i + 1) block) in
        record {
          ahead = λ g near. let a = e.ahead g near in
              (masked (with_node x end) w c n a.0, (st a.0 a.1.0, sym (node_runs x rest w c n a.0) ∙ ap (λ b. masked b w c n a.0) (sym q) ∙ a.1.1));
          ready = (node_ready v z ts x _ (subst (Ready v z ts) q e.ready)).1;
          small = let s = ap block_size q in let f = e.small in omega (arith, node_size x rest);
        }

result_dark : (w w0 : Ground) (o : Source) (s : State) (i : ℕ) → w.spaces ≡ w0.spaces → result_of o w s i ≡ result_of o w0 s i
result_dark w w0 (Constant x) s i e = refl
result_dark w w0 (Copy q) s i e = refl
result_dark w w0 (Into sh q) s i e = refl
result_dark w w0 (Apply op qs) s i e = ap (λ sp. applied op sp (reads s qs i)) e

-- an instruction doesn't hang on lights
pub put_steps : (w w0 : Ground) (c : ℕ) (v z : RegisterSet) (n : ℕ) (ts : List (Bor (List ℕ))) (t : Register) (o : Source) (s s' : State) → w.spaces ≡ w0.spaces → 0 < c → SourceReady v z ts o → Near c v z (write c t (result_of o w0 s) s) s' → Performs w c v z n (put t o end) s s'
put_steps w w0 c v z n ts t o s s' e pos x near g ng =
    near_on c v z _ _ _ (write_near c v z t (result_of o w g) (result_of o w0 s) g s pos ng (λ i l. result_near c v z w g s o i ng x.within l ∙ result_dark w w0 o s i e)) near

pub differ_steps : (w : Ground) (c : ℕ) (v z : RegisterSet) (n : ℕ) (t : Register) (d : Difference) (q : Register) (s s' : State) → 0 < c → c ≡ w.lines.columns * w.lines.rows → 2 ≤ w.lines.columns → 2 ≤ w.lines.rows → has v z q ≡ true → Near c v z (write c t (difference d w.lines w.spaces.flip (read s q)) s) s' → Performs w c v z n (differ t d q end) s s'
differ_steps w c v z n t d q s s' pos shape wide tall x near g ng =
    near_on c v z _ _ _ (write_near c v z t _ _ g s pos ng (λ i l. difference_near w.lines c (read g q) (read s q) shape wide tall (λ j b. read_near c v z g s q j ng x b) i l d w.spaces.flip)) near

pub texture_steps : (w : Ground) (c : ℕ) (v z : RegisterSet) (n : ℕ) (t : Register) (k : ℕ) (qs : List Register) (s s' : State) → 0 < c → c ≡ w.lines.columns * w.lines.rows → 2 ≤ w.lines.columns → 2 ≤ w.lines.rows → list_all (has v z) qs ≡ true → Near c v z (write c t (textured w.lines (w.images k) (reads s qs)) s) s' → Performs w c v z n (texture t k qs end) s s'
texture_steps w c v z n t k qs s s' pos shape wide tall x near g ng =
    near_on c v z _ _ _ (write_near c v z t _ _ g s pos ng (λ i l. same_textured w.lines wide tall (w.images k) (reads g qs) (reads s qs)
    (λ j b. reads_near c v z g s qs j ng x (subst (λ m. j < m) (sym shape) b)) i (subst (λ m. i < m) shape l))) near

-- where no place is live, a block leaves all as it is
dead_at : (c : ℕ) (p : ℕ → Bool) → any c p ≡ false → (i : ℕ) → i < c → p i ≡ false
dead_at c p h i l = ⊎_elim (λ e. absurd (true≢false (sym (any_true c i p l e) ∙ h))) (λ e. e) (cases_Bool (p i))

pub asleep_runs : (w : Ground) (c : ℕ) (v z : RegisterSet) (n : ℕ) (x : Block) (m : State) → any c m.live ≡ false → Performs w c v z n x m m
asleep_runs w c v z n x m h g near =
    let a = asleep x w c n g (λ i l. near.live i l ∙ dead_at c m.live h i l) in
    record {
      rows = λ s k i hk l. a.rows s k i l ∙ near.rows s k i hk l;
      shared = λ s k hk. a.shared s k ∙ near.shared s k hk;
      turns = a.turns ∙ near.turns;
      own = λ i l. a.own i l ∙ near.own i l;
      live = λ i l. a.live i l ∙ sym (dead_at c m.live h i l);
      staying = λ i l. a.staying i l ∙ near.staying i l;
    }
