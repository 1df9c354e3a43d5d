use Rattle.std.proofs.Common.{◌≡◌, ◌<◌, true, refl, sym, subst, arith, ⊎_elim}
use Rattle.std.specs.List.{list_all}
use Rattle.sl_ast.specs.Variables.{variables}
use Rattle.sl_ast.specs.declared.kinds.SlKind.{SlKind}
use Rattle.sl_ast.specs.declared.kinds.SlKind.TheVariants.{Surface, Displacement, Light, Volume}
use Rattle.sl_ast.specs.declared.kinds.Predefined.TheVariants as names
use Rattle.grid_code.specs.Masked.{read, write, State as Grid}
use Rattle.grid_code.specs.Names.{name_at}
use Rattle.grid_code.specs.Uses.{has, names_at}
use Rattle.grid_machine.specs.Run.{started}
use Rattle.grid_machine.specs.State.{state_of, NearIn}
use Rattle.grid_machine.proofs.Kept.{has_kept, written_kept}
use Rattle.grid_registers.proofs.Operands.{item_passes}
use Rattle.grid_machine.proofs.Starts.{copy_written}
use Rattle.grid_machine.proofs.machine.Machine.start.Goals as goal

pub copy-requires : goal.copy-requires
copy-requires c =
    let f = c.args.self.now.registers.frame.now in
    let p = has f.varying.now f.uniform.now in
    let h = subst (λ k. list_all p (names_at k) ≡ true) c.in-Surface.is c.requires.has in
    record { whole = c.requires.whole; to = item_passes p (names_at Surface) 18 (name_at names.Pi) (omega arith) h; from = item_passes p (names_at Surface) 12 (name_at names.Pi) (omega arith) h; shape = refl }

pub copy-requires-in-Surface : goal.copy-requires-in-Surface
copy-requires-in-Surface c =
    let m = c.args.self.now in
    let f = m.registers.frame.now in
    let p = has f.varying.now f.uniform.now in
    let h = subst (λ k. list_all p (names_at k) ≡ true) c.in-Surface.is c.requires.has in
    let k1 = c.copy.ensures.kept in
    record {
      whole = k1.whole;
      to = has_kept m c.copy.new.self (name_at names.Oi) k1 (item_passes p (names_at Surface) 19 (name_at names.Pi) (omega arith) h);
      from = has_kept m c.copy.new.self (name_at names.Os) k1 (item_passes p (names_at Surface) 13 (name_at names.Pi) (omega arith) h);
      shape = refl;
    }

pub returns-in-Surface-clause-near : goal.returns-in-Surface-clause-near
returns-in-Surface-clause-near c g near =
    let m0 = c.args.self.now in
    let m1 = c.copy.new.self in
    let m2 = c.copy-in-Surface.new.self in
    let f = m0.registers.frame.now in
    let p = f.places in
    let v = f.varying.now in
    let u = f.uniform.now in
    let some : 0 < p = let s = f.some in omega arith in
    let h = subst (λ k. list_all (has v u) (names_at k) ≡ true) c.in-Surface.is c.requires.has in
    let g1 : Grid = write p (name_at names.Ci) (λ i. read g (name_at names.Cs) i) g in
    let n1 = copy_written p v u (name_at names.Ci) (name_at names.Cs) g (state_of m0) (state_of m1) some (item_passes (has v u) (names_at Surface) 12 (name_at names.Pi) (omega arith) h) near c.copy.ensures.near in
    let k1 = c.copy.ensures.kept in
    let n2 = copy_written p v u (name_at names.Oi) (name_at names.Os) g1 (state_of m1) (state_of m2) some (item_passes (has v u) (names_at Surface) 13 (name_at names.Pi) (omega arith) h) n1
    (written_kept m0 m1 (name_at names.Oi) (λ i. read (state_of m1) (name_at names.Os) i) (state_of m2) k1 c.copy-in-Surface.ensures.near) in
    subst (λ k. NearIn m0 (started p (variables k) g) (state_of m2)) (sym c.in-Surface.is) n2

pub returns-in-Displacement-clause-near : goal.returns-in-Displacement-clause-near
returns-in-Displacement-clause-near c g near =
    let m0 = c.args.self.now in
    let p = m0.registers.frame.now.places in
    let at : (kind : SlKind) → c.args.kind ≡ kind → NearIn m0 (started p (variables kind) g) (state_of m0) → NearIn m0 (started p (variables c.args.kind) g) (state_of m0) = λ kind e n. subst (λ k. NearIn m0 (started p (variables k) g) (state_of m0)) (sym e) n in
    ⊎_elim (λ e. at Displacement e near) (λ o. ⊎_elim (λ e. at Light e near) (λ e. at Volume e near) o) c.in-Displacement.is
