use Rattle.std.proofs.Common.{◌≡◌, ◌∙◌, ◌*◌, ap, to_z, of_z, arith}
use Rattle.std.proofs.lemmas.Int.{ints}
use Rattle.std.specs.Int.{w128}
use Rattle.fixed_math.specs.Blossom.{blossom, mix}
use Rattle.fixed_math.proofs.Fits.{read_back}
use Rattle.patches.specs.Nets.{control}
use Rattle.grid_variables.proofs.bilinear.exact.Goals as goal

pub returns-clause-value : goal.returns-clause-value
unfolding blossom
returns-clause-value c =
    let P = control 2 c.args.points.now c.args.axis in
    let a = read_back c.control_at-a.result c.control_at-a.type_inv ∙ c.control_at-a.ensures.value in
    let b = read_back c.control_at-b.result c.control_at-b.type_inv ∙ c.control_at-b.ensures.value in
    let d = read_back c.control_at-c.result c.control_at-c.type_inv ∙ c.control_at-c.ensures.value in
    let e = read_back c.control_at-d.result c.control_at-d.type_inv ∙ c.control_at-d.ensures.value in
    let bottom : to_z w128 (of_z w128 c.mix-bottom.result) ≡ mix c.args.u (P 0 0) (P 1 0) =
    read_back c.mix-bottom.result c.mix-bottom.type_inv ∙ c.mix-bottom.ensures.value
    ∙ ap (λ x. mix c.args.u x (to_z w128 (of_z w128 c.control_at-b.result))) a ∙ ap (λ x. mix c.args.u (P 0 0) x) b in
    let top : to_z w128 (of_z w128 c.mix-top.result) ≡ mix c.args.u (P 0 1) (P 1 1) =
    read_back c.mix-top.result c.mix-top.type_inv ∙ c.mix-top.ensures.value
    ∙ ap (λ x. mix c.args.u x (to_z w128 (of_z w128 c.control_at-d.result))) d ∙ ap (λ x. mix c.args.u (P 0 1) x) e in
    read_back c.mix.result c.mix.type_inv ∙ c.mix.ensures.value
    ∙ ap (λ x. mix c.args.v x (to_z w128 (of_z w128 c.mix-top.result))) bottom ∙ ap (λ x. mix c.args.v (mix c.args.u (P 0 0) (P 1 0)) x) top

pub mix-requires-clause-small_a : goal.mix-requires-clause-small_a
mix-requires-clause-small_a c = let b = c.mix-bottom.ensures.bound 2147483647 (omega (arith, ints)) (omega (arith, ints)) in omega (arith, ints, b)

pub mix-requires-clause-small_b : goal.mix-requires-clause-small_b
mix-requires-clause-small_b c = let b = c.mix-top.ensures.bound 2147483647 (omega (arith, ints)) (omega (arith, ints)) in omega (arith, ints, b)

pub returns-clause-bound : goal.returns-clause-bound
returns-clause-bound c =
    let a = c.mix-bottom.ensures.bound 2147483647 (omega (arith, ints)) (omega (arith, ints)) in
    let b = c.mix-top.ensures.bound 2147483647 (omega (arith, ints)) (omega (arith, ints)) in
    let d = c.mix.ensures.bound (4096 * 2147483647) (omega (arith, ints, a)) (omega (arith, ints, b)) in
    omega (arith, ints, d)
