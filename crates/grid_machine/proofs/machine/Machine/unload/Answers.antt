use Rattle.std.proofs.Common.{ap, ◌∙◌}
use Rattle.sl_ast.specs.declared.typed.Value.TheVariants as values
use Rattle.builtins.specs.Values.{triple_of}
use Rattle.grid_code.specs.Masked.{read}
use Rattle.grid_machine.specs.State.{state_of}
use Rattle.grid_machine.proofs.Shapes.{read_shape, read_held}
use Rattle.grid_registers.proofs.Parts.{triple_back}
use Rattle.grid_machine.proofs.machine.Machine.unload.Goals as goal

pub returns-clause-values : goal.returns-clause-values
returns-clause-values c i l =
    let m = c.args.self.now in
    let from = c.args.from in
    c.give.ensures.each i l ∙ ap values.Triple (c.triples_of-x.ensures.each i l ∙ ap triple_of (read_held m from i)) ∙ triple_back (read (state_of m) from i) (read_shape m from i ∙ c.requires.triple)
