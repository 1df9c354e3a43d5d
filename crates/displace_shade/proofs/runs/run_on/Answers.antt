use Rattle.std.proofs.Common.{◌*◌, length, refl, sym, ap, ◌∙◌}
use Rattle.place_rows.specs.Layout.{row_length}
use Rattle.grid_variables.specs.Places.{point_count}
use Rattle.displace_shade.specs.Shop.{bound_value}
use Rattle.displace_shade.proofs.runs.run_on.Goals as goal

pub run_into-requires-clause-spaces : goal.run_into-requires-clause-spaces
run_into-requires-clause-spaces c = c.in_ok-spaces.ensures ∙ c.spaces_of.ensures (bound_value c.args.bound.now) refl

pub run_into-requires-clause-out : goal.run_into-requires-clause-out
run_into-requires-clause-out c =
    ap (λ xs. length xs) c.into_bump_slice_mut-out.ensures ∙ c.in_ok-zeros.ensures ∙ ap (λ w. 6 * w) (c.length_of_row-width.ensures.value ∙ ap row_length c.point_count.ensures.value) ∙ ap (λ n. n * row_length (point_count c.args.leaf.now)) (sym c.requires.given.written)

pub returns-clause-long : goal.returns-clause-long
returns-clause-long c =
    c.run_into.auto.out ∙ ap (λ xs. length xs) c.into_bump_slice_mut-out.ensures ∙ c.in_ok-zeros.ensures
    ∙ ap (λ w. 6 * w) (c.length_of_row-width.ensures.value ∙ ap row_length c.point_count.ensures.value)

pub returns-clause-small : goal.returns-clause-small
returns-clause-small c = c.run_into.ensures.small
