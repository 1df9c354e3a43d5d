use Rattle.std.proofs.Common.{ℕ, ◌<◌, ap, refl, subst, arith, true}
use Rattle.sl_ast.specs.declared.kinds.Predefined.TheVariants as names
use Rattle.sl_ast.specs.declared.typed.Value.{Value}
use Rattle.sl_ast.specs.declared.typed.Value.TheVariants.{Number, Triple}
use Rattle.builtins.specs.Values.{truth}
use Rattle.grid_code.specs.Masked.{write}
use Rattle.grid_code.specs.Names.{name_at, lit_at}
use Rattle.grid_machine.specs.State.{state_of}
use Rattle.grid_machine.specs.Writes.{aimed_at}
use Rattle.grid_machine.proofs.Kept.{NearBy, written_kept}
use Rattle.grid_machine.proofs.Near.{near_on, write_near}
use Rattle.grid_machine.proofs.Starts.{value_written}
use Rattle.grid_machine.proofs.machine.Machine.kindle.Goals as goal

pub returns-clause-near : goal.returns-clause-near
returns-clause-near c g f near h =
    let m0 = c.args.self.now in
    let m1 = c.commit.new.self in
    let m2 = c.assign.new.self in
    let r = m0.registers.frame.now in
    let some : 0 < r.places = let s = r.some in omega arith in
    let k1 = c.commit.ensures.kept in
    let row : ℕ → Value = λ i. Triple (aimed_at m0 i) in
    let n1 = near_on r.places r.varying.now r.uniform.now _ _ _ (write_near r.places r.varying.now r.uniform.now (name_at names.L) (λ i. Triple (f i)) row g (state_of m0) some near (λ i l. ap (λ v. Triple v) (h i l))) (c.commit.ensures.near row (λ j l. refl)) in
    let st = subst (λ x. NearBy m0.registers.frame (write r.places lit_at (λ i. Number x) (state_of m1)) (state_of m2)) c.sat.ensures (written_kept m0 m1 lit_at (λ i. Number c.sat.result) (state_of m2) k1 c.assign.ensures.near) in
    value_written r.places r.varying.now r.uniform.now lit_at (λ i. truth true) (write r.places (name_at names.L) (λ i. Triple (f i)) g) (state_of m1) (state_of m2) some n1 st
