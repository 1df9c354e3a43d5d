use Rattle.std.proofs.Common.{◌<◌, sym, ap, ◌∙◌, subst}
use Rattle.fixed_math.specs.Fixed.{sub}
use Rattle.sl_ast.specs.declared.kinds.Predefined.TheVariants as names
use Rattle.builtins.specs.Triples.{each_two}
use Rattle.builtins.specs.Values.{triple_of}
use Rattle.builtins.specs.declared.shape.Shape.TheVariants as shapes
use Rattle.grid_code.specs.Masked.{read}
use Rattle.grid_code.specs.Names.{name_at}
use Rattle.number_rows.specs.Planes.{triple_at, ArePlanes}
use Rattle.grid_machine.specs.State.{state_of}
use Rattle.grid_machine.proofs.Shapes.{read_held}
use Rattle.grid_machine.proofs.machine.Machine.aim.Goals as goal

pub take_differences-requires-clause-triples : goal.take_differences-requires-clause-triples
take_differences-requires-clause-triples c = subst (λ n. ArePlanes n c.triples_of-points.result) (sym (c.requires.whole.scratch shapes.Triple)) c.triples_of-points.ensures.planes

pub take_differences-requires-clause-others : goal.take_differences-requires-clause-others
take_differences-requires-clause-others c = subst (λ n. ArePlanes n c.triples_of-x.result) (sym (c.requires.whole.scratch shapes.Triple)) c.triples_of-x.ensures.planes

pub returns-clause-aimed : goal.returns-clause-aimed
returns-clause-aimed c i l =
    let m = c.args.self.now in
    let p = c.triples_of-points.ensures.each i l ∙ ap triple_of (read_held m (name_at names.Ps) i) in
    let q = c.triples_of-x.ensures.each i l ∙ ap triple_of (read_held m c.args.place i) in
    c.take_differences.ensures.each i (subst (λ n. i < n) (sym (c.requires.whole.scratch shapes.Triple)) l) ∙ ap (λ a. each_two sub a (triple_at c.triples_of-x.result i)) p ∙ ap (each_two sub (triple_of (read (state_of m) (name_at names.Ps) i))) q
