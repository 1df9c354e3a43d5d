use Rattle.std.proofs.Common.{ap, ◌∙◌}
use Rattle.sl_ast.specs.declared.typed.Value.TheVariants as values
use Rattle.builtins.specs.Table.{image}
use Rattle.grid_registers.specs.Held.{texts_of}
use Rattle.grid_registers.proofs.registers.Registers.images.Goals as goal

pub returns-clause-each : goal.returns-clause-each
returns-clause-each c j l =
    c.image_row.ensures.each (texts_of c.args.self.now) j l ∙ ap (λ t. values.Triple (image c.args.kind c.args.map.now t)) (c.triples-x.ensures.each j l)
