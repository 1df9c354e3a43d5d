use Rattle.std.proofs.Common.{sym, ◌∙◌}
use Rattle.sl_ast.specs.declared.typed.Value.TheVariants as values
use Rattle.builtins.specs.Noise.{noise}
use Rattle.builtins.specs.Table.{of_one}
use Rattle.builtins.specs.Values.{triple_of}
use Rattle.grid_registers.specs.Operands.{operand_at}
use Rattle.grid_registers.specs.Held.{texts_of}
use Rattle.grid_registers.proofs.Parts.{same_held, operand_shape, noise_of_triple}
use Rattle.grid_registers.proofs.registers.Registers.noise.Goals as goal

pub returns-in-Triple-clause-each : goal.returns-in-Triple-clause-each
unfolding of_one
returns-in-Triple-clause-each c =
    let r = c.args.self.now in
    let p = c.args.p in
    same_held (texts_of r) c.number_of_triple.new.row r.frame.now.places (λ i. values.Number (noise (triple_of (operand_at r p i)))) _ (λ i. noise_of_triple (operand_at r p i) (operand_shape r p i ∙ sym c.in-Triple.ensures)) c.number_of_triple.ensures.each
