-- What a run leaves, by its machine.
use Rattle.std.proofs.Common.{◌≡◌, ℕ, ◌+◌, ◌*◌, ◌<◌, ℤ, true, List, [], ◌∷◌, sym, ap, ◌∙◌, subst}
use Rattle.std.specs.Prelude.{◌&&◌}
use Rattle.std.specs.List.{list_all}
use Rattle.texture.specs.Images.{Image}
use Rattle.sl_ast.specs.declared.kinds.SlKind.{SlKind}
use Rattle.sl_ast.specs.declared.typed.Value.{Value}
use Rattle.builtins.specs.declared.shape.Shape.TheVariants as shapes
use Rattle.grid_code.specs.declared.code.Register.{Register}
use Rattle.grid_code.specs.declared.register_set.RegisterSet.{RegisterSet}
use Rattle.grid_code.specs.declared.slot.Slot.{Slot}
use Rattle.grid_code.specs.Code.{Block}
use Rattle.grid_code.specs.Shapes.{register_shape}
use Rattle.grid_code.specs.Uses.{has}
use Rattle.grid_code.specs.Masked.{Asked, State, Ground, read, masked}
use Rattle.grid_code.proofs.Both.{left, right}
use Rattle.grid_code.specs.declared.shader_code.Code.{Code}
use Rattle.grid_registers.specs.declared.frame.Frame.{Frame}
use Rattle.grid_machine.specs.declared.inputs.Inputs.{Inputs}
use Rattle.grid_machine.specs.declared.machine.Machine.{Machine}
use Rattle.grid_machine.specs.Ended.{ended_under}
use Rattle.place_rows.specs.Layout.{row_length, height}
use Rattle.grid_machine.specs.Run.{value_in, written_names, begun, HoldRows, Leaves}
use Rattle.grid_machine.specs.State.{Beside, state_of, lit_ground, Near, NearIn, Kept}
use Rattle.grid_machine.proofs.Near.{read_near}

module _ (ls : Beside) (f0 : Frame) (m k : Machine) (kind : SlKind) (params : List Slot) (vs : List Value) (rows : List ℤ) (x : Block) (w0 : Ground) (c : ℕ)
    (me : m.registers.frame.now ≡ f0) (kept : Kept m k) (ground_is : lit_ground ls f0 ≡ w0) (places_are : f0.places ≡ c) where
  abbrev pub AtEnd : State
  AtEnd = masked x w0 c 65536 (begun kind params c vs rows)

  pub near_end : NearIn m (masked x (lit_ground ls m.registers.frame.now) m.registers.frame.now.places 65536 (begun kind params m.registers.frame.now.places vs rows)) (state_of k) → NearIn k AtEnd (state_of k)
  near_end near =
      subst (λ f. Near f.now.places f.now.varying.now f.now.uniform.now AtEnd (state_of k)) (sym kept.frame)
      (subst (λ w. NearIn m (masked x w c 65536 (begun kind params c vs rows)) (state_of k)) ground_is
      (subst (λ p. NearIn m (masked x (lit_ground ls f0) p 65536 (begun kind params p vs rows)) (state_of k)) places_are
      (subst (λ f. NearIn m (masked x (lit_ground ls f) f.places 65536 (begun kind params f.places vs rows)) (state_of k)) me near)))

  pub same_places : k.registers.frame.now.places ≡ c
  same_places = ap (λ f. f.now.places) kept.frame ∙ ap (λ f. f.places) me ∙ places_are

-- the two registers that a kind writes
pub two_registers : (v u : RegisterSet) (p q : Register) (rs : List Register) → rs ≡ p ∷ q ∷ [] → list_all (has v u) rs ≡ true → (has v u p ≡ true) × (has v u q ≡ true)
two_registers v u p q rs is h =
    let all = subst (λ xs. list_all (has v u) xs ≡ true) is h in
    (left (has v u p) (has v u q && true) all, left (has v u q) true (right (has v u p) (has v u q && true) all))

pub left_rows : (k : Machine) (kind : SlKind) (g : State) (c : ℕ) (out : List ℤ) (p q : Register) (w : ℕ) → k.registers.frame.now.places ≡ c → NearIn k g (state_of k) → written_names kind ≡ p ∷ q ∷ [] → (register_shape p ≡ shapes.Triple) × (register_shape q ≡ shapes.Triple) → list_all (has k.registers.frame.now.varying.now k.registers.frame.now.uniform.now) (written_names kind) ≡ true → w ≡ row_length c → ((i : ℕ) → i < k.registers.frame.now.places → value_in shapes.Triple out w (0 + i) ≡ read (state_of k) p i) → ((i : ℕ) → i < k.registers.frame.now.places → value_in shapes.Triple out w (0 + 3 * w + i) ≡ read (state_of k) q i) → Leaves kind c out g
left_rows k kind g c out p q w same near names triples all width first second i l =
    let f = k.registers.frame.now in
    let two = two_registers f.varying.now f.uniform.now p q (written_names kind) names all in
    let lk = subst (λ n. i < n) (sym same) l in
    let one : value_in (register_shape p) out w (0 + i) ≡ read g p i = subst (λ s. value_in s out w (0 + i) ≡ read g p i) (sym triples.0) (first i lk ∙ sym (read_near f.places f.varying.now f.uniform.now g (state_of k) p i near two.0 lk)) in
    let other : value_in (register_shape q) out w (0 + 3 * w + i) ≡ read g q i = subst (λ s. value_in s out w (0 + 3 * w + i) ≡ read g q i) (sym triples.1) (second i lk ∙ sym (read_near f.places f.varying.now f.uniform.now g (state_of k) q i near two.1 lk)) in
    subst (λ n. HoldRows n out i (written_names kind) 0 g) width
    (subst (λ rs. HoldRows w out i rs 0 g) (sym names)
    (one, (subst (λ s. value_in (register_shape q) out w (0 + height s * w + i) ≡ read g q i) (sym triples.0) other, tt)))

-- the same for an equal number of places, and for equal lights
pub leaves_by : (kind : SlKind) (out : List ℤ) (code : Code) (inputs : Inputs) (p c : ℕ) (ls ms : List Asked) (ps : List Image) → p ≡ c → ls ≡ ms → Leaves kind p out (ended_under ls ps code inputs) → Leaves kind c out (ended_under ms ps code inputs)
leaves_by kind out code inputs p c ls ms ps places lights h =
    subst (λ n. Leaves kind n out (ended_under ms ps code inputs)) places (subst (λ l. Leaves kind p out (ended_under l ps code inputs)) lights h)
