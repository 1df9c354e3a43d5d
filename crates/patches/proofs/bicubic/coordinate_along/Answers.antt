use Rattle.std.proofs.Common.{◌∙◌, ap, arith, [], ◌∷◌, pos, ◌*ℤ◌}
use Rattle.fixed_math.specs.Blossom.{blossom}
use Rattle.patches.specs.Nets.{control}
use Rattle.patches.specs.Slopes.{steps_v}
use Rattle.patches.proofs.Curves.{place_by_columns, across_by_columns, up_by_columns}
use Rattle.patches.proofs.Fractions.{same_wide}
use Rattle.patches.proofs.bicubic.coordinate_along.Goals as goal

pub returns-clause-place : goal.returns-clause-place
returns-clause-place c u h =
    let P = control 4 c.args.points.now c.args.axis in
    let v = c.args.v in
    let one = same_wide c.column_of-a.result.place (omega (arith, c.column_of-a.ensures.place_small)) ∙ c.column_of-a.ensures.place in
    let two = same_wide c.column_of-b.result.place (omega (arith, c.column_of-b.ensures.place_small)) ∙ c.column_of-b.ensures.place in
    let three = same_wide c.column_of-c.result.place (omega (arith, c.column_of-c.ensures.place_small)) ∙ c.column_of-c.ensures.place in
    let four = same_wide c.column_of-d.result.place (omega (arith, c.column_of-d.ensures.place_small)) ∙ c.column_of-d.ensures.place in
    c.of_control.ensures.value (λ x. blossom (v ∷ v ∷ v ∷ []) (λ y. P x y) 0) one two three four u h ∙ place_by_columns u v P

pub returns-clause-across : goal.returns-clause-across
returns-clause-across c u h =
    let P = control 4 c.args.points.now c.args.axis in
    let v = c.args.v in
    let one = same_wide c.column_of-a.result.place (omega (arith, c.column_of-a.ensures.place_small)) ∙ c.column_of-a.ensures.place in
    let two = same_wide c.column_of-b.result.place (omega (arith, c.column_of-b.ensures.place_small)) ∙ c.column_of-b.ensures.place in
    let three = same_wide c.column_of-c.result.place (omega (arith, c.column_of-c.ensures.place_small)) ∙ c.column_of-c.ensures.place in
    let four = same_wide c.column_of-d.result.place (omega (arith, c.column_of-d.ensures.place_small)) ∙ c.column_of-d.ensures.place in
    c.of_control.ensures.slope (λ x. blossom (v ∷ v ∷ v ∷ []) (λ y. P x y) 0) one two three four u h ∙ ap (λ z. pos 3 *ℤ z) (across_by_columns u v P)

pub returns-clause-up : goal.returns-clause-up
returns-clause-up c u h =
    let P = control 4 c.args.points.now c.args.axis in
    let v = c.args.v in
    let one = same_wide c.column_of-a.result.rise (omega (arith, c.column_of-a.ensures.rise_small)) ∙ c.column_of-a.ensures.rise in
    let two = same_wide c.column_of-b.result.rise (omega (arith, c.column_of-b.ensures.rise_small)) ∙ c.column_of-b.ensures.rise in
    let three = same_wide c.column_of-c.result.rise (omega (arith, c.column_of-c.ensures.rise_small)) ∙ c.column_of-c.ensures.rise in
    let four = same_wide c.column_of-d.result.rise (omega (arith, c.column_of-d.ensures.rise_small)) ∙ c.column_of-d.ensures.rise in
    c.of_control-2.ensures.value (λ x. pos 3 *ℤ blossom (v ∷ v ∷ []) (λ y. steps_v P x y) 0) one two three four u h ∙ up_by_columns u v P
