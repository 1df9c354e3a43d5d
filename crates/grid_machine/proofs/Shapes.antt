-- The shapes of what instructions and differences give.
use Rattle.std.proofs.Common.{◌≡◌, ℕ, ◌+◌, ◌-◌, ◌*◌, ◌/◌, ◌%◌, ◌≤◌, ℤ, Bool, List, [], ◌∷◌, map, refl, ap, ◌∙◌, arith}
use Rattle.std.specs.Prelude.{nat_lt}
use Rattle.std.proofs.lemmas.Bool.{cond_both}
use Rattle.sl_ast.specs.declared.typed.Value.{Value}
use Rattle.sl_ast.specs.declared.typed.Value.TheVariants as values
use Rattle.sl_ast.specs.declared.operations.Difference.{Difference}
use Rattle.sl_ast.specs.declared.operations.Difference.TheVariants.{Du, Dv, CalculateNormal}
use Rattle.builtins.specs.declared.shape.Shape.{Shape}
use Rattle.builtins.specs.declared.shape.Shape.TheVariants as shapes
use Rattle.builtins.specs.Values.{as_shape}
use Rattle.builtins.specs.Shapes.{shape, part_shape, shape_applied}
use Rattle.builtins.specs.Table.{applied}
use Rattle.builtins.specs.Differences.{Lines, slope, along_u, along_v, normal_at, difference}
use Rattle.builtins.proofs.Shaped.{as_shape_has, applied_has}
use Rattle.grid_code.specs.declared.code.Register.{Register}
use Rattle.grid_code.specs.declared.code.Register.TheVariants.{Uniform, Varying}
use Rattle.grid_code.specs.declared.code.Source.{Source}
use Rattle.grid_code.specs.declared.code.Source.TheVariants.{Constant, Copy, Into, Apply}
use Rattle.grid_code.specs.Masked.{Ground, read, reads, result_of}
use Rattle.grid_code.specs.Shapes.{register_shape, register_shapes, source_shape, difference_shape}
use Rattle.grid_machine.specs.declared.machine.Machine.{Machine}
use Rattle.grid_code.specs.Uses.{numbers_of}
use Rattle.place_rows.specs.Banks.{held}
use Rattle.grid_machine.specs.State.{rank, state_of, held_by, texts_of}
use Rattle.grid_registers.specs.Operands.{reach}
use Rattle.grid_registers.proofs.Filled.{shape_is}
use Rattle.grid_registers.proofs.Writes.{held_shape}

pub read_shape : (m : Machine) (r : Register) (i : ℕ) → shape (read (state_of m) r i) ≡ register_shape r
read_shape m (Uniform s k) i =
    let r = m.registers in
    let q = rank (numbers_of r.frame.now.uniform.now s) k in
    shape_is (texts_of r) (held r.shared s q) ∙ held_shape r.shared s q
read_shape m (Varying s k) i =
    let r = m.registers in
    let q = rank (numbers_of r.frame.now.varying.now s) k * r.frame.now.places + i in
    shape_is (texts_of r) (held r.rows s q) ∙ held_shape r.rows s q

reads_shapes : (m : Machine) (rs : List Register) (i : ℕ) → map shape (reads (state_of m) rs i) ≡ register_shapes rs
reads_shapes m [] i = refl
reads_shapes m (r ∷ rs) i = ap (λ s. s ∷ map shape (reads (state_of m) rs i)) (read_shape m r i) ∙ ap (λ ss. register_shape r ∷ ss) (reads_shapes m rs i)

pub result_shape : (m : Machine) (w : Ground) (o : Source) (i : ℕ) → shape (result_of o w (state_of m) i) ≡ source_shape o
result_shape m w (Constant v) i = refl
result_shape m w (Copy r) i = read_shape m r i
result_shape m w (Into s r) i = as_shape_has s _
result_shape m w (Apply op rs) i = applied_has op w.spaces (reads (state_of m) rs i) ∙ ap (shape_applied op) (reads_shapes m rs i)

-- budgets and masks aren't read
pub read_held : (m : Machine) (r : Register) (i : ℕ) → read (held_by m.registers) r i ≡ read (state_of m) r i
read_held m (Uniform s k) i = refl
read_held m (Varying s k) i = refl

reads_held : (m : Machine) (rs : List Register) (i : ℕ) → reads (held_by m.registers) rs i ≡ reads (state_of m) rs i
reads_held m [] i = refl
reads_held m (r ∷ rs) i = ap (λ v. v ∷ reads (held_by m.registers) rs i) (read_held m r i) ∙ ap (λ vs. read (state_of m) r i ∷ vs) (reads_held m rs i)

pub result_held : (m : Machine) (w : Ground) (o : Source) (i : ℕ) → result_of o w (held_by m.registers) i ≡ result_of o w (state_of m) i
result_held m w (Constant v) i = refl
result_held m w (Copy r) i = read_held m r i
result_held m w (Into s r) i = ap (as_shape s) (read_held m r i)
result_held m w (Apply op rs) i = ap (applied op w.spaces) (reads_held m rs i)

slope_shape : (step : ℤ) (v w : Value) (s : Shape) → shape v ≡ s → shape w ≡ s → shape (slope step v w) ≡ part_shape s
slope_shape step (values.Number x) (values.Number y) s a b = ap part_shape a
slope_shape step (values.Triple x) w s a b = ap part_shape a
slope_shape step (values.Word x) w s a b = ap part_shape a
slope_shape step (values.Number x) (values.Triple y) s a b = ap part_shape b
slope_shape step (values.Number x) (values.Word y) s a b = ap part_shape b

module _ (w : Lines) (f : ℕ → Value) (s : Shape) (same : (i : ℕ) → shape (f i) ≡ s) (i : ℕ) where
  along_u_shape : shape (along_u w f i) ≡ part_shape s
  unfolding along_u
  along_u_shape = cond_both (nat_lt (i % w.columns + 1) w.columns) (slope w.du (f (i + 1)) (f i)) (slope w.du (f i) (f (i - 1))) (λ v. shape v ≡ part_shape s) (λ e. slope_shape w.du _ _ s (same (i + 1)) (same i)) (λ e. slope_shape w.du _ _ s (same i) (same (i - 1)))

  along_v_shape : shape (along_v w f i) ≡ part_shape s
  unfolding along_v
  along_v_shape = cond_both (nat_lt (i / w.columns + 1) w.rows) (slope w.dv (f (i + w.columns)) (f i)) (slope w.dv (f i) (f (i - w.columns))) (λ v. shape v ≡ part_shape s) (λ e. slope_shape w.dv _ _ s (same (i + w.columns)) (same i)) (λ e. slope_shape w.dv _ _ s (same i) (same (i - w.columns)))

  normal_shape : (flip : Bool) → shape (normal_at w flip f i) ≡ shapes.Triple
  unfolding normal_at
  normal_shape flip = refl

  pub difference_has : (d : Difference) (flip : Bool) → shape (difference d w flip f i) ≡ difference_shape d s
  difference_has Du flip = along_u_shape
  difference_has Dv flip = along_v_shape
  difference_has CalculateNormal flip = normal_shape flip

pub reach_within : (r : Register) (c : ℕ) → 1 ≤ c → reach r c ≤ c
reach_within (Uniform s k) c h = h
reach_within (Varying s k) c h = omega arith
