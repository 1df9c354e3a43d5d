use Rattle.std.proofs.Common.{◌∙◌, pos, replicate}
use Rattle.grid_rows.specs.Rows.{row_of}
use Rattle.grid_variables.proofs.Results.{if_ok}
use Rattle.grid_rows.proofs.UnderWay.{zeros_pushed, zeros_room, appended}
use Rattle.grid_rows.proofs.rows.push_zero_row.Goals as goal

pub append-requires-clause-row : goal.append-requires-clause-row
append-requires-clause-row c = zeros_room c.deref.result.now (c.deref.ensures.value ∙ c.rows.invariant.1)

pub returns : goal.returns
returns c =
    let taken = zeros_pushed c.deref.result.now c.args.points c.requires (c.deref.ensures.value ∙ c.rows.invariant.1) in
    if_ok c.append.result _ _ (λ x e. appended _ c.args.rows.now _ _ (row_of (replicate c.args.points (pos 0))) c.rows.view_is taken e) c.append.ensures.value
