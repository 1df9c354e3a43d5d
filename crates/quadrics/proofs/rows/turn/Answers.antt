use Rattle.std.proofs.Common.{◌≡◌, ◌∙◌, ap, arith, ◌+◌, ◌^◌, ◌≤◌, pos, ◌*ℤ◌, unsigned_abs, to_z, of_z, slice_index_or}
use Rattle.std.specs.Int.{w128}
use Rattle.fixed_math.specs.Axes.{part_of, origin}
use Rattle.fixed_math.proofs.Fits.{read_back}
use Rattle.patches.specs.Nets.{control}
use Rattle.quadrics.specs.Rational.{quarter}
use Rattle.quadrics.proofs.Quadratics.{once, twice_below}
use Rattle.quadrics.proofs.rows.turn.Goals as goal

pub returns-clause-value : goal.returns-clause-value
returns-clause-value c =
    let P = control 3 c.args.points.now c.args.axis in
    let k = c.args.k in
    let first : k ≡ 0 + k = omega arith in
    let a = read_back c.control_at-a.result c.control_at-a.type_inv ∙ c.control_at-a.ensures.value ∙ ap (λ i. part_of c.args.axis (slice_index_or c.args.points.now i origin)) first ∙ once (P k 0) in
    let b = read_back c.control_at-b.result c.control_at-b.type_inv ∙ c.control_at-b.ensures.value ∙ once (P k 1) in
    let d = read_back c.scaled-twice.result c.scaled-twice.type_inv ∙ c.scaled-twice.ensures.value ∙ ap (λ z. pos 2 *ℤ z) (read_back c.control_at-c.result c.control_at-c.type_inv ∙ c.control_at-c.ensures.value) in
    read_back c.value.result c.value.type_inv ∙ c.value.ensures.value ∙ c.of_turn-turn.ensures.value (λ y. pos (quarter y) *ℤ P k y) a b d c.args.v

pub returns-clause-bound : goal.returns-clause-bound
returns-clause-bound c =
    let twice = twice_below c.control_at-c.result c.scaled-twice.result (2 ^ 31) c.control_at-c.type_inv c.scaled-twice.ensures.size c.control_at-c.ensures.bound in
    let ha : unsigned_abs (to_z w128 (of_z w128 c.control_at-a.result)) ≤ 2 ^ 32 = rw (read_back c.control_at-a.result c.control_at-a.type_inv) (let h = c.control_at-a.ensures.bound in omega (arith, h)) in
    let hb : unsigned_abs (to_z w128 (of_z w128 c.control_at-b.result)) ≤ 2 ^ 32 = rw (read_back c.control_at-b.result c.control_at-b.type_inv) (let h = c.control_at-b.ensures.bound in omega (arith, h)) in
    let hd : unsigned_abs (to_z w128 (of_z w128 c.scaled-twice.result)) ≤ 2 ^ 32 = rw (read_back c.scaled-twice.result c.scaled-twice.type_inv) (omega (arith, twice)) in
    let size = c.of_turn-turn.ensures.size (2 ^ 32) ha hb hd in
    let most = c.value.ensures.size in
    rw (read_back c.value.result c.value.type_inv) (omega (arith, size, most))
