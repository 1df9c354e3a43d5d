use Rattle.std.proofs.Common.{◌≡◌, ◌∙◌, ◌*◌, ap, to_z, of_z, arith}
use Rattle.std.proofs.lemmas.Int.{ints}
use Rattle.std.specs.Int.{w128}
use Rattle.fixed_math.specs.Blossom.{mix}
use Rattle.fixed_math.proofs.Fits.{read_back}
use Rattle.primitives.proofs.spread.exact.Goals as goal

pub returns-clause-value : goal.returns-clause-value
returns-clause-value c =
    let i = c.args in
    let a = read_back c.wide-left.result c.wide-left.type_inv ∙ c.wide-left.ensures.value in
    let b = read_back c.wide-right.result c.wide-right.type_inv ∙ c.wide-right.ensures.value in
    let d = read_back c.wide-left_above.result c.wide-left_above.type_inv ∙ c.wide-left_above.ensures.value in
    let e = read_back c.wide-right_above.result c.wide-right_above.type_inv ∙ c.wide-right_above.ensures.value in
    let bottom : to_z w128 (of_z w128 c.mix-bottom.result) ≡ mix i.u i.a i.b =
    read_back c.mix-bottom.result c.mix-bottom.type_inv ∙ c.mix-bottom.ensures.value
    ∙ ap (λ x. mix i.u x (to_z w128 (of_z w128 c.wide-right.result))) a ∙ ap (λ x. mix i.u i.a x) b in
    let top : to_z w128 (of_z w128 c.mix-top.result) ≡ mix i.u i.c i.d =
    read_back c.mix-top.result c.mix-top.type_inv ∙ c.mix-top.ensures.value
    ∙ ap (λ x. mix i.u x (to_z w128 (of_z w128 c.wide-right_above.result))) d ∙ ap (λ x. mix i.u i.c x) e in
    read_back c.mix.result c.mix.type_inv ∙ c.mix.ensures.value
    ∙ ap (λ x. mix i.v x (to_z w128 (of_z w128 c.mix-top.result))) bottom ∙ ap (λ x. mix i.v (mix i.u i.a i.b) x) top

pub mix-requires-clause-small_a : goal.mix-requires-clause-small_a
mix-requires-clause-small_a c = let b = c.mix-bottom.ensures.bound 2147483647 (omega (arith, ints)) (omega (arith, ints)) in omega (arith, ints, b)

pub mix-requires-clause-small_b : goal.mix-requires-clause-small_b
mix-requires-clause-small_b c = let b = c.mix-top.ensures.bound 2147483647 (omega (arith, ints)) (omega (arith, ints)) in omega (arith, ints, b)

pub returns-clause-bound : goal.returns-clause-bound
returns-clause-bound c =
    let a = c.mix-bottom.ensures.bound 2147483647 (omega (arith, ints)) (omega (arith, ints)) in
    let b = c.mix-top.ensures.bound 2147483647 (omega (arith, ints)) (omega (arith, ints)) in
    let d = c.mix.ensures.bound (4096 * 2147483647) (omega (arith, ints, a)) (omega (arith, ints, b)) in
    omega (arith, ints, d)
