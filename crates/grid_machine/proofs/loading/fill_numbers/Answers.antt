use Rattle.std.proofs.Common.{◌≤◌, pos, length, get_or, sym, ap, ◌∙◌, subst}
use Rattle.std.proofs.lemmas.List.{with_items_is}
use Rattle.builtins.specs.declared.shape.Shape.TheVariants as shapes
use Rattle.place_values.specs.declared.cell.Cell.TheVariants as cells
use Rattle.grid_machine.proofs.loading.fill_numbers.Goals as goal

pub take_raws-requires-clause-room : goal.take_raws-requires-clause-room
take_raws-requires-clause-room c = subst (λ n. c.args.count ≤ n) (sym (ap length c.deref_mut.ensures.value)) (c.requires.places shapes.Number)

pub returns-clause-each : goal.returns-clause-each
returns-clause-each c j l =
    let t = c.take_raws in
    let x = c.args.row.now.numbers in
    ap (λ v. cells.Number v) (ap (λ xs. get_or xs j (pos 0)) (with_items_is x t.new.out (t.ensures.long ∙ ap length c.deref_mut.ensures.value ∙ sym x.ok.0)) ∙ t.ensures.each j l)
