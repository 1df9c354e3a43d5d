use Rattle.std.proofs.Common.{length, take, refl, sym, ap, ◌∙◌}
use Rattle.std.proofs.lemmas.List.{with_items_is}
use Rattle.place_rows.specs.Layout.{row_length}
use Rattle.grid_rows.specs.Rows.{row_of}
use Rattle.grid_variables.proofs.Results.{if_ok}
use Rattle.grid_rows.proofs.UnderWay.{row_pushed, appended}
use Rattle.grid_rows.proofs.rows.push_numbers.Goals as goal

pub returns : goal.returns
returns c =
    let row = c.write_numbers.new.row in
    let xs = c.args.numbers.now in
    let same = c.deref.ensures.value ∙ with_items_is c.rows.inside.x row (c.write_numbers.ensures.room.0 ∙ sym c.rows.invariant.2.0 ∙ sym c.rows.inside.x.ok.0) in
    let taken = ap (take (row_length (length c.args.numbers.now))) same ∙ row_pushed row xs (length c.args.numbers.now) refl c.requires c.write_numbers.ensures.room.0 c.write_numbers.ensures.row in
    if_ok c.append.result _ _ (λ x e. appended _ c.args.rows.now _ _ (row_of xs) c.rows.view_is taken e) c.append.ensures.value
