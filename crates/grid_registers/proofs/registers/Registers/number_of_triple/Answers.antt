use Rattle.std.proofs.Common.{◌<◌, length, refl, sym, ap, ◌∙◌, subst, pos, get_or}
use Rattle.std.proofs.lemmas.List.{with_items_is}
use Rattle.std.specs.Vec.{with_items}
use Rattle.builtins.specs.declared.shape.Shape.TheVariants as shapes
use Rattle.builtins.specs.Values.{triple_of}
use Rattle.sl_ast.specs.declared.typed.Value.TheVariants as values
use Rattle.grid_registers.specs.Operands.{operand_at}
use Rattle.grid_registers.specs.Held.{texts_of}
use Rattle.grid_registers.proofs.Parts.{all_many, holds_numbers}
use Rattle.grid_registers.proofs.registers.Registers.number_of_triple.Goals as goal

pub number_of_triple-requires : goal.number_of_triple-requires
number_of_triple-requires g c = all_many c.triples.result c.args.self.now.frame.now.places _ c.triples.ensures.planes (ap length c.deref_mut.ensures.value ∙ c.requires.room shapes.Number)

pub returns-clause-each : goal.returns-clause-each
returns-clause-each g c =
    let r = c.args.self.now in
    holds_numbers (texts_of r) (with_items c.args.row.now.numbers c.number_of_triple.new.out).items c.args.row.now.xs.items c.args.row.now.ys.items c.args.row.now.zs.items c.args.row.now.words.items r.frame.now.places (λ i. values.Number (g.K.OfTriple.formula (triple_of (operand_at r c.args.p i)))) (λ i. g.K.OfTriple.formula (triple_of (operand_at r c.args.p i)))
    (λ i l. ap (λ xs. get_or xs i (pos 0)) (with_items_is c.args.row.now.numbers c.number_of_triple.new.out (c.number_of_triple.ensures.long ∙ ap length c.deref_mut.ensures.value ∙ sym c.args.row.now.numbers.ok.0)) ∙ c.number_of_triple.ensures.each i (subst (λ n. i < n) (sym (ap length c.deref_mut.ensures.value ∙ c.requires.room shapes.Number)) l) ∙ ap g.K.OfTriple.formula (c.triples.ensures.each i l)) (λ i l. refl)
