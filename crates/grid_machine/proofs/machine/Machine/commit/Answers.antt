use Rattle.std.proofs.Common.{◌≡◌, ℕ, ◌<◌, sym, subst, arith}
use Rattle.sl_ast.specs.declared.typed.Value.{Value}
use Rattle.grid_code.specs.Masked.{write}
use Rattle.grid_code.specs.Shapes.{register_shape}
use Rattle.place_rows.specs.Banks.{held}
use Rattle.place_values.specs.Cells.{value_of}
use Rattle.grid_machine.specs.State.{state_of, texts_of, Near}
use Rattle.grid_registers.specs.Operands.{reach}
use Rattle.grid_machine.proofs.machine.Machine.commit.Goals as goal

pub returns-in-Uniform-clause-near : goal.returns-in-Uniform-clause-near
returns-in-Uniform-clause-near c =
    let m = c.args.self.now in
    let r = m.registers in
    let p = r.frame.now.places in
    subst (λ q. (f : ℕ → Value) → ((j : ℕ) → j < reach q p → value_of (texts_of r) (held m.scratch (register_shape q) j) ≡ f j) → Near p r.frame.now.varying.now r.frame.now.uniform.now (write p q f (state_of m)) (state_of c.commit_shared.new.self)) (sym c.in-Uniform.is)
    (λ f h. c.commit_shared.ensures.near f (h 0 (omega arith)))

pub returns-in-Varying-clause-near : goal.returns-in-Varying-clause-near
returns-in-Varying-clause-near c =
    let m = c.args.self.now in
    let r = m.registers in
    let p = r.frame.now.places in
    subst (λ q. (f : ℕ → Value) → ((j : ℕ) → j < reach q p → value_of (texts_of r) (held m.scratch (register_shape q) j) ≡ f j) → Near p r.frame.now.varying.now r.frame.now.uniform.now (write p q f (state_of m)) (state_of c.commit_row.new.self)) (sym c.in-Varying.is)
    (λ f h. c.commit_row.ensures.near f h)
