use Rattle.std.proofs.Common.{◌<◌, sym, ap, ◌∙◌, arith, subst}
use Rattle.sl_ast.specs.declared.typed.Value.TheVariants.{Triple}
use Rattle.builtins.specs.declared.shape.Shape.TheVariants as shapes
use Rattle.number_rows.specs.Planes.{triple_at, ArePlanes}
use Rattle.place_rows.specs.Banks.{held}
use Rattle.place_values.specs.Cells.{value_of}
use Rattle.grid_machine.specs.State.{texts_of}
use Rattle.grid_registers.proofs.Operands.{reach_in}
use Rattle.grid_machine.proofs.machine.Machine.set_triples.Goals as goal

pub take-requires : goal.take-requires
take-requires c = subst (λ n. ArePlanes n c.args.triples.now) (sym (c.requires.whole.scratch shapes.Triple)) c.requires.planes

pub returns-clause-near : goal.returns-clause-near
returns-clause-near c =
    let m = c.args.self.now in
    let r = m.registers.frame.now in
    let some : 0 < r.places = let s = r.some in omega arith in
    c.commit.ensures.near (λ i. Triple (triple_at c.args.triples.now i)) (λ j l.
    ap (λ s. value_of (texts_of m.registers) (held c.take.new.row s j)) (sym c.requires.triple)
    ∙ ap (λ t. Triple t) (c.take.ensures.each j (subst (λ n. j < n) (sym (c.requires.whole.scratch shapes.Triple)) (reach_in c.args.to r.places j some l))))
