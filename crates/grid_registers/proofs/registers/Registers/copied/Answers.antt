use Rattle.std.proofs.Common.{sym, ap, ◌∙◌}
use Rattle.sl_ast.specs.declared.typed.Value.TheVariants as values
use Rattle.builtins.specs.Values.{number_of, triple_of}
use Rattle.grid_registers.specs.Operands.{operand_at, is_number}
use Rattle.grid_registers.specs.Held.{texts_of}
use Rattle.grid_registers.proofs.Parts.{same_held, number_back, operand_shape}
use Rattle.grid_registers.proofs.Parts.{triple_back}
use Rattle.grid_registers.proofs.registers.Registers.copied.Goals as goal

pub returns-in-Number-clause-each : goal.returns-in-Number-clause-each
returns-in-Number-clause-each c =
    let r = c.args.self.now in
    let p = c.args.p in
    same_held (texts_of r) c.copy_numbers.new.row r.frame.now.places (λ i. values.Number (number_of (operand_at r p i))) (operand_at r p) (λ i. number_back r p i (ap is_number (sym c.in-Number.ensures))) c.copy_numbers.ensures.each

pub returns-in-Triple-clause-each : goal.returns-in-Triple-clause-each
returns-in-Triple-clause-each c =
    let r = c.args.self.now in
    let p = c.args.p in
    same_held (texts_of r) c.copy_triples.new.row r.frame.now.places (λ i. values.Triple (triple_of (operand_at r p i))) (operand_at r p) (λ i. sym (triple_back (operand_at r p i) (operand_shape r p i ∙ sym c.in-Triple.ensures))) c.copy_triples.ensures.each
