-- Each uniform register holds the value that each place which has set its variable has for it.
use Rattle.std.proofs.Common.{◌≡◌, ℕ, ◌+◌, ◌*◌, ◌<◌, ◌≤◌, Bool, true, false, List, length, get_or, refl, sym, ◌∙◌, arith, true≢false}
use Rattle.std.proofs.Math.Nat.{mul-pos}
use Rattle.sl_ast.specs.declared.typed.Value.{Value}
use Rattle.sl_ast.specs.Names.{name_type}
use Rattle.sl_ast.specs.Classes.{is_uniform_name}
use Rattle.builtins.specs.declared.shape.Shape.{Shape}
use Rattle.builtins.specs.Names.{place_of}
use Rattle.builtins.specs.Values.{shape_of}
use Rattle.grid_code.specs.Names.{reg, first_free}
use Rattle.grid_code.specs.Masked.{State, read, masked}
use Rattle.sl_meaning.specs.Core.{Slot, no_slot, Stmts, after_all}
use Rattle.sl_meaning.specs.Environment.{Env, Signal, Next, Break, Continue}
use Rattle.sl_meaning.specs.CoreAlone.{run_all}
use Rattle.sl_meaning.specs.Grid.{Envs}
use Rattle.sl_meaning.specs.CoreGrid.{grid_all}
use Rattle.core_codegen.specs.Compile.{all_code}
use Rattle.core_codegen.specs.Correct.{Holds}
use Rattle.core_codegen.specs.UniformRegisters.{SharedHold, scope_behind, UniformRegisterLaw}
use Rattle.core_codegen.proofs.Relation.{Low, place_small}
use Rattle.core_codegen.proofs.Scopes.{Lands}
use Rattle.core_codegen.proofs.Lands.{AllLands}
use Rattle.core_codegen.proofs.Varying.{all_ok}
use Rattle.core_codegen.proofs.Uniform.{all_all}

shared_read : (s : State) (u : Bool) (t : Shape) (r i : ℕ) (v : Value) → read s (reg u t r) i ≡ v → u ≡ true → s.shared t r ≡ v
shared_read s true t r i v h u = h
shared_read s false t r i v h u = absurd (true≢false (sym u))

-- what holds at a place is there of the uniform registers
shared_held : (i : ℕ) (ss : List Slot) (b : ℕ) (e : Env) (s : State) → Holds i ss b e s → SharedHold ss b e s
shared_held i ss b e s h =
    record {
      named = λ p u. shared_read s (is_uniform_name p) (shape_of (name_type p)) (place_of p) i (e.named p) (h.named p) u;
      values = λ k l m u. shared_read s (get_or ss k no_slot).uniform (shape_of (get_or ss k no_slot).kind) (b + k) i _ (h.values k l) u;
    }

landed : (i : ℕ) (s : Stmts) (ss : List Slot) (b : ℕ) (x : Signal) (e : Env) (g h : State) → Lands i (after_all s ss) ss b x e g h → SharedHold (scope_behind x s ss) b e h
landed i s ss b Next e g h l = shared_held i (after_all s ss) b e h l.rel
landed i s ss b Break e g h l = shared_held i ss b e h l.rel
landed i s ss b Continue e g h l = shared_held i ss b e h l.rel

all_landed : (c i : ℕ) (s : Stmts) (ss : List Slot) (b : ℕ) (x : Signal) (es : Envs) (g h : State) → i < c → AllLands c (after_all s ss) ss b x es g h → SharedHold (scope_behind x s ss) b (es i) h
all_landed c i s ss b Next es g h q l = shared_held i (after_all s ss) b (es i) h (l.ready.rel i q)
all_landed c i s ss b Break es g h q l = shared_held i ss b (es i) h (l.out.rel i q)
all_landed c i s ss b Continue es g h q l = shared_held i ss b (es i) h (l.out.rel i q)

-- what lies below is as it was
shared_low : (i : ℕ) (ss : List Slot) (b : ℕ) (e : Env) (g h : State) → first_free ≤ b → Low i (b + length ss) b g h → SharedHold ss b e g → SharedHold ss b e h
shared_low i ss b e g h free low s =
    record {
      named = λ p u. let q = place_small p in low.shared (shape_of (name_type p)) (place_of p) (omega arith) ∙ s.named p u;
      values = λ k l m u. low.shared (shape_of (get_or ss k no_slot).kind) (b + k) (omega arith) ∙ s.values k l m u;
    }

pub uniform_registers : UniformRegisterLaw
uniform_registers =
    record {
      varying = λ c n i g a s ss b top x lt ground fine free room.
          let step = all_ok c n i lt g a ground s ss b top x fine free room in
          record {
            runs = λ e live holds exact. landed i s ss b (run_all s a n e).0 (run_all s a n e).1 x (masked (all_code s ss b top) g c n x) (step.runs e live holds exact);
            waits = λ e out held. shared_low i ss b e x (masked (all_code s ss b top) g c n x) free step.low held;
          };
      uniform = λ n g a s ss b top x wide tall ground fine free room es holds i lt.
          let c = a.lines.columns * a.lines.rows in
          let pos : 0 < a.lines.columns * a.lines.rows = mul-pos (omega arith) (omega arith) in
          all_landed c i s ss b (grid_all s ss a n es).0 (grid_all s ss a n es).1 x (masked (all_code s ss b top) g c n x) lt ((all_all c n g a ground refl wide tall pos s ss b top x fine free room).runs es holds);
    }
