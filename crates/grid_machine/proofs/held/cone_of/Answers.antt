use Rattle.std.proofs.Common.{arith}
use Rattle.builtins.specs.declared.shape.Shape.TheVariants as shapes
use Rattle.grid_code.specs.declared.code.Register.TheVariants.{Uniform}
use Rattle.grid_code.specs.Uses.{has}
use Rattle.grid_machine.specs.State.{held_by}
use Rattle.grid_registers.proofs.Operands.{item_passes}
use Rattle.light_rows.proofs.Totals.{cone_is}
use Rattle.grid_machine.proofs.held.cone_of.Goals as goal

pub triples_of-requires-clause-has : goal.triples_of-requires-clause-has
triples_of-requires-clause-has c = let f = c.args.registers.now.frame.now in item_passes (has f.varying.now f.uniform.now) c.args.args.now 0 (Uniform shapes.Number 0) (let l = c.in-len2.len_at_least in omega arith) c.requires.has

pub numbers_of-requires-clause-has : goal.numbers_of-requires-clause-has
numbers_of-requires-clause-has c = let f = c.args.registers.now.frame.now in item_passes (has f.varying.now f.uniform.now) c.args.args.now 1 (Uniform shapes.Number 0) (let l = c.in-len2.len_at_least in omega arith) c.requires.has

pub returns-in-len2-clause-each : goal.returns-in-len2-clause-each
returns-in-len2-clause-each c i l b = cone_is (held_by c.args.registers.now) c.args.args.now i l _ _ (let a = c.in-len2.len_at_least in let b = c.in-len2.len_below in omega arith) (c.triples_of.ensures.each i b) (c.numbers_of.ensures.each i b)

pub returns-in_default-clause-cone : goal.returns-in_default-clause-cone
returns-in_default-clause-cone c = c.none.ensures.cone c.args.registers.now.frame.now.places
