use Rattle.std.proofs.Common.{◌<◌, ap, sym, ◌∙◌, subst}
use Rattle.sl_ast.specs.declared.kinds.Predefined.TheVariants as names
use Rattle.builtins.specs.Values.{is_nonzero, is_true, triple_of}
use Rattle.grid_code.specs.Masked.{read}
use Rattle.grid_code.specs.Names.{name_at, lit_at}
use Rattle.light_rows.specs.Seen.{answered_by, IsAnswer}
use Rattle.number_rows.specs.Planes.{triple_at}
use Rattle.grid_machine.specs.State.{state_of}
use Rattle.grid_machine.proofs.Answering.{answer_is}
use Rattle.grid_machine.proofs.machine.Machine.answer.Goals as goal

pub returns-clause-each : goal.returns-clause-each
returns-clause-each c i l =
    let s = state_of c.args.self.now in
    let a = c.args.answers.now.ambient in
    subst (IsAnswer c.take.new.self i)
    (ap (λ x. answered_by a (is_nonzero x) (triple_at c.triples_of-directions.result i) (triple_at c.triples_of-colours.result i)) (c.numbers_of-lit.ensures.each i l)
    ∙ ap (λ x. answered_by a (is_true (read s lit_at i)) x (triple_at c.triples_of-colours.result i)) (c.triples_of-directions.ensures.each i l)
    ∙ ap (λ x. answered_by a (is_true (read s lit_at i)) (triple_of (read s (name_at names.L) i)) x) (c.triples_of-colours.ensures.each i l) ∙ answer_is a s i)
    (c.take.ensures.each i (subst (λ n. i < n) (sym c.requires.places.colours) l))
