use Rattle.std.proofs.Common.{sym, length, arith}
use Rattle.std.proofs.lemmas.Bool.{ltb-true, ltb-false}
use Rattle.builtins.specs.declared.shape.Shape.TheVariants as shapes
use Rattle.grid_code.specs.declared.code.Register.TheVariants.{Uniform}
use Rattle.grid_code.specs.Uses.{has}
use Rattle.grid_machine.specs.State.{held_by}
use Rattle.grid_registers.proofs.Operands.{item_passes}
use Rattle.light_rows.proofs.Totals.{specular_is, few_specular, many_specular}
use Rattle.grid_machine.proofs.sums.specular.Goals.{in_default-via-then-args-lt3, in_default-via-else-args-lt3+else-args-lt4}
use Rattle.grid_machine.proofs.sums.specular.Goals as goal

pub triples_of-requires-clause-has : goal.triples_of-requires-clause-has
triples_of-requires-clause-has c = let f = c.args.registers.now.frame.now in item_passes (has f.varying.now f.uniform.now) c.args.args.now 0 (Uniform shapes.Number 0) (let l = c.in-len3.len_at_least in omega arith) c.requires.has

pub triples_of-requires-in-len3-clause-has : goal.triples_of-requires-in-len3-clause-has
triples_of-requires-in-len3-clause-has c = let f = c.args.registers.now.frame.now in item_passes (has f.varying.now f.uniform.now) c.args.args.now 1 (Uniform shapes.Number 0) (let l = c.in-len3.len_at_least in omega arith) c.requires.has

pub numbers_of-requires-clause-has : goal.numbers_of-requires-clause-has
numbers_of-requires-clause-has c = let f = c.args.registers.now.frame.now in item_passes (has f.varying.now f.uniform.now) c.args.args.now 2 (Uniform shapes.Number 0) (let l = c.in-len3.len_at_least in omega arith) c.requires.has

pub returns-in-len3-clause-each : goal.returns-in-len3-clause-each
returns-in-len3-clause-each c i l b = specular_is (held_by c.args.registers.now) c.args.args.now i l _ _ _ (let a = c.in-len3.len_at_least in let b = c.in-len3.len_below in omega arith) (c.triples_of.ensures.each i b) (c.triples_of-in-len3.ensures.each i b) (c.numbers_of.ensures.each i b)

pub returns-in_default-clause-each : goal.returns-in_default-clause-each
returns-in_default-clause-each c =
    elim c.in_default.branch [
      | in_default-via-then-args-lt3 w ↦ (λ i l h. sym (few_specular (held_by c.args.registers.now) c.args.args.now i l (ltb-true (length c.args.args.now) 3 w.if-args-lt3-1.true)))
      | in_default-via-else-args-lt3+else-args-lt4 w ↦ (λ i l h. sym (many_specular (held_by c.args.registers.now) c.args.args.now i l (ltb-false (length c.args.args.now) 4 w.if-args-lt4-1.false)))
    ]
