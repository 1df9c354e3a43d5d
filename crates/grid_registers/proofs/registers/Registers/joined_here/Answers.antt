use Rattle.builtins.specs.Table.{of_three}
use Rattle.builtins.specs.Values.{number_of}
use Rattle.sl_ast.specs.declared.typed.Value.TheVariants as values
use Rattle.grid_registers.specs.Operands.{operand_at}
use Rattle.grid_registers.specs.Held.{texts_of}
use Rattle.grid_registers.proofs.Parts.{same_held, composed_here}
use Rattle.grid_registers.proofs.registers.Registers.joined_here.Goals as goal

pub returns-in-Triple-clause-each : goal.returns-in-Triple-clause-each
unfolding of_three
returns-in-Triple-clause-each c =
    let r = c.args.self.now in
    same_held (texts_of r) c.composed.new.row r.frame.now.places (λ i. values.Triple (record { x = number_of (operand_at r c.args.p i); y = number_of (operand_at r c.args.q i); z = number_of (operand_at r c.args.t i) })) _ (λ i. composed_here c.args.kind r.frame.now.setting.spaces.now _ c.in-Triple.ensures) c.composed.ensures.each
