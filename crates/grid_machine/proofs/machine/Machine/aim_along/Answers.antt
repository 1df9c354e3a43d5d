use Rattle.std.proofs.Common.{◌<◌, sym, ap, ◌∙◌, subst}
use Rattle.builtins.specs.Values.{triple_of}
use Rattle.builtins.specs.declared.shape.Shape.TheVariants as shapes
use Rattle.number_rows.specs.Planes.{ArePlanes}
use Rattle.grid_machine.proofs.Shapes.{read_held}
use Rattle.grid_machine.proofs.machine.Machine.aim_along.Goals as goal

pub take-requires : goal.take-requires
take-requires c = subst (λ n. ArePlanes n c.triples_of-x.result) (sym (c.requires.whole.scratch shapes.Triple)) c.triples_of-x.ensures.planes

pub returns-clause-aimed : goal.returns-clause-aimed
returns-clause-aimed c i l =
    c.take.ensures.each i (subst (λ n. i < n) (sym (c.requires.whole.scratch shapes.Triple)) l) ∙ c.triples_of-x.ensures.each i l ∙ ap triple_of (read_held c.args.self.now c.args.axis i)
