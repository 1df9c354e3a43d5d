-- Writes where places are live.
use Rattle.std.proofs.Common.{◌≡◌, ℕ, ◌<◌, true, sym, ◌∙◌, ⊎_elim}
use Rattle.std.specs.Prelude.{◌==◌}
use Rattle.std.proofs.lemmas.Bool.{cond-false, and_right, cases_Bool}
use Rattle.sl_ast.specs.declared.typed.Value.{Value}
use Rattle.builtins.specs.declared.shape.Shape.{Shape}
use Rattle.grid_code.specs.declared.code.Register.TheVariants.{Varying}
use Rattle.grid_code.specs.declared.register_set.RegisterSet.{RegisterSet}
use Rattle.grid_code.specs.Masked.{State, same_shape, write}
use Rattle.grid_machine.specs.State.{Near}

pub write_live : (c : ℕ) (v u : RegisterSet) (s : Shape) (r : ℕ) (f f' : ℕ → Value) (g h : State) → Near c v u g h → ((i : ℕ) → i < c → h.live i ≡ true → f i ≡ f' i) → Near c v u (write c (Varying s r) f g) (write c (Varying s r) f' h)
write_live c v u s r f f' g h n e =
    record {
      rows = λ t k i x l.
          ⊎_elim
          (λ on. let a = n.live i l in let b = e i l on in let d = n.rows t k i x l in cc)
          (λ off. cond-false _ _ _ (and_right (same_shape t s) _ (and_right (k == r) (g.live i) (n.live i l ∙ off))) ∙ n.rows t k i x l ∙ sym (cond-false _ _ _ (and_right (same_shape t s) _ (and_right (k == r) (h.live i) off))))
          (cases_Bool (h.live i));
      shared = n.shared;
      turns = n.turns;
      own = n.own;
      live = n.live;
      staying = n.staying;
    }
