use Rattle.std.proofs.Common.{refl}
use Rattle.grid_machine.proofs.Ends.{two_registers, left_rows}
use Rattle.grid_machine.proofs.call.leave.Goals as goal

pub unload_two-requires-clause-first : goal.unload_two-requires-clause-first
unload_two-requires-clause-first c = (two_registers c.args.machine.now.registers.frame.now.varying.now c.args.machine.now.registers.frame.now.uniform.now _ _ _ (c.written-first.ensures.names c.requires.kind) c.requires.has).0

pub unload_two-requires-clause-second : goal.unload_two-requires-clause-second
unload_two-requires-clause-second c = (two_registers c.args.machine.now.registers.frame.now.varying.now c.args.machine.now.registers.frame.now.uniform.now _ _ _ (c.written-first.ensures.names c.requires.kind) c.requires.has).1

pub returns-clause-values : goal.returns-clause-values
returns-clause-values c g near =
    left_rows c.args.machine.now c.args.kind g c.args.machine.now.registers.frame.now.places c.unload_two.new.rows c.written-first.result.0 c.written-first.result.1 c.row_of-width.result refl near
    (c.written-first.ensures.names c.requires.kind) c.written-first.ensures.triples c.requires.has c.row_of-width.ensures c.unload_two.ensures.first c.unload_two.ensures.second
