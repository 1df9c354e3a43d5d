use Rattle.std.proofs.Common.{◌<◌, sym, subst}
use Rattle.grid_registers.specs.Operands.{work_at}
use Rattle.grid_registers.specs.Held.{texts_of, HoldsEach}
use Rattle.grid_registers.proofs.Parts.{constant_held}
use Rattle.grid_registers.proofs.registers.Registers.fill_row.Goals as goal

pub returns-in-Constant-clause-each : goal.returns-in-Constant-clause-each
returns-in-Constant-clause-each c =
    let r = c.args.self.now in
    subst (λ w. HoldsEach (texts_of r) c.fill.new.self r.frame.now.places (work_at r w)) (sym c.in-Constant.is)
    (constant_held (texts_of r) c.fill.new.self _ r.frame.now.places (λ k l. c.fill.ensures.value k (subst (λ n. k < n) (sym (c.requires.room _)) l)))
