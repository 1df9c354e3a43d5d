use Rattle.std.proofs.Common.{◌≡◌, ◌∙◌, ap, sym, refl, arith, pos, ◌*ℤ◌, ◌-ℤ◌, ◌-◌, ◌*◌, ◌^◌}
use Rattle.fixed_math.specs.Blossom.{denominator, mix}
use Rattle.patches.specs.Nets.{control}
use Rattle.patches.proofs.Curves.{minus_mix, mix_same, minus_same, corners_by_columns}
use Rattle.patches.proofs.Fractions.{same_wide, same_cast, short_step, cast_below, cast_minus, one_weight, one_column}
use Rattle.patches.proofs.bilinear.coordinate_along.Goals as goal

pub of_ends-requires-clause-small_a : goal.of_ends-requires-clause-small_a
of_ends-requires-clause-small_a c =
    let left = short_step c.args.v c.control_at-a.result c.control_at-c.result c.mix_short-left.result (2 ^ 31) (omega arith) c.control_at-a.ensures.bound c.control_at-c.ensures.bound c.mix_short-left.ensures.value c.mix_short-left.ensures.bound in
    cast_below c.mix_short-left.result (4096 * 2 ^ 31) _ (omega arith) (omega arith) left.1

pub of_ends-requires-clause-small_b : goal.of_ends-requires-clause-small_b
of_ends-requires-clause-small_b c =
    let right = short_step c.args.v c.control_at-b.result c.control_at-d.result c.mix_short-right.result (2 ^ 31) (omega arith) c.control_at-b.ensures.bound c.control_at-d.ensures.bound c.mix_short-right.ensures.value c.mix_short-right.ensures.bound in
    cast_below c.mix_short-right.result (4096 * 2 ^ 31) _ (omega arith) (omega arith) right.1

pub returns-clause-place : goal.returns-clause-place
returns-clause-place c u h =
    let P = control 2 c.args.points.now c.args.axis in
    let v = c.args.v in
    let left = short_step v c.control_at-a.result c.control_at-c.result c.mix_short-left.result (2 ^ 31) (omega arith) c.control_at-a.ensures.bound c.control_at-c.ensures.bound c.mix_short-left.ensures.value c.mix_short-left.ensures.bound in
    let right = short_step v c.control_at-b.result c.control_at-d.result c.mix_short-right.result (2 ^ 31) (omega arith) c.control_at-b.ensures.bound c.control_at-d.ensures.bound c.mix_short-right.ensures.value c.mix_short-right.ensures.bound in
    let left_is : _ ≡ mix v (P 0 0) (P 0 1) = same_cast c.mix_short-left.result (omega (arith, left.1)) ∙ left.0 ∙ rw (c.control_at-a.ensures.value, c.control_at-c.ensures.value) refl in
    let right_is : _ ≡ mix v (P 1 0) (P 1 1) = same_cast c.mix_short-right.result (omega (arith, right.1)) ∙ right.0 ∙ rw (c.control_at-b.ensures.value, c.control_at-d.ensures.value) refl in
    c.of_ends.ensures.value u h
    ∙ ap (λ z. pos (2 ^ 48) *ℤ z) (mix_same u _ _ (mix v (P 0 0) (P 0 1)) (mix v (P 1 0) (P 1 1)) left_is right_is ∙ corners_by_columns u v P)

pub returns-clause-across : goal.returns-clause-across
returns-clause-across c u =
    let P = control 2 c.args.points.now c.args.axis in
    let v = c.args.v in
    let left = short_step v c.control_at-a.result c.control_at-c.result c.mix_short-left.result (2 ^ 31) (omega arith) c.control_at-a.ensures.bound c.control_at-c.ensures.bound c.mix_short-left.ensures.value c.mix_short-left.ensures.bound in
    let right = short_step v c.control_at-b.result c.control_at-d.result c.mix_short-right.result (2 ^ 31) (omega arith) c.control_at-b.ensures.bound c.control_at-d.ensures.bound c.mix_short-right.ensures.value c.mix_short-right.ensures.bound in
    let left_is : _ ≡ mix v (P 0 0) (P 0 1) = same_cast c.mix_short-left.result (omega (arith, left.1)) ∙ left.0 ∙ rw (c.control_at-a.ensures.value, c.control_at-c.ensures.value) refl in
    let right_is : _ ≡ mix v (P 1 0) (P 1 1) = same_cast c.mix_short-right.result (omega (arith, right.1)) ∙ right.0 ∙ rw (c.control_at-b.ensures.value, c.control_at-d.ensures.value) refl in
    c.of_ends.ensures.slope u
    ∙ ap (λ z. pos (2 ^ 48) *ℤ z) (minus_same _ _ (mix v (P 0 0) (P 0 1)) (mix v (P 1 0) (P 1 1)) left_is right_is)
    ∙ ap (λ z. pos (2 ^ 48) *ℤ z) (sym (minus_mix v (P 1 0) (P 1 1) (P 0 0) (P 0 1)))
    ∙ ap (λ z. pos (2 ^ 48) *ℤ z) (sym (one_weight (denominator - v) v (P 1 0 -ℤ P 0 0) (P 1 1 -ℤ P 0 1)))

pub returns-clause-up : goal.returns-clause-up
returns-clause-up c u h =
    let P = control 2 c.args.points.now c.args.axis in
    let left = cast_minus c.control_at-c.result c.control_at-a.result c.minus-left_rise.result (2 ^ 31) (omega arith) c.control_at-c.ensures.bound c.control_at-a.ensures.bound c.minus-left_rise.ensures.value in
    let right = cast_minus c.control_at-d.result c.control_at-b.result c.minus-right_rise.result (2 ^ 31) (omega arith) c.control_at-d.ensures.bound c.control_at-b.ensures.bound c.minus-right_rise.ensures.value in
    let left_is : _ ≡ P 0 1 -ℤ P 0 0 = same_wide c.minus-left_rise.result (omega (arith, left.1)) ∙ left.0 ∙ rw (c.control_at-a.ensures.value, c.control_at-c.ensures.value) refl in
    let right_is : _ ≡ P 1 1 -ℤ P 1 0 = same_wide c.minus-right_rise.result (omega (arith, right.1)) ∙ right.0 ∙ rw (c.control_at-b.ensures.value, c.control_at-d.ensures.value) refl in
    c.of_ends-2.ensures.value u h
    ∙ ap (λ z. pos (2 ^ 48) *ℤ z) (mix_same u _ _ (P 0 1 -ℤ P 0 0) (P 1 1 -ℤ P 1 0) left_is right_is)
    ∙ ap (λ z. pos (2 ^ 48) *ℤ z) (sym (one_column (denominator - u) u (P 0 1 -ℤ P 0 0) (P 1 1 -ℤ P 1 0)))
