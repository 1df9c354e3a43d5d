use Rattle.std.proofs.Common.{◌≡◌, sym, subst, ◌+◌, ◌^◌, ◌≤◌, arith}
use Rattle.std.proofs.Math.Pow.{pow_mono}
use Rattle.texture.specs.Tables.{AreSums, AreFirst}
use Rattle.texture.proofs.Chains.{first_more}
use Rattle.texture.proofs.texture.tables_of.Goals as goal

pub doubled-requires-clause-side : goal.doubled-requires-clause-side
doubled-requires-clause-side c =
    let h = c.loop-i-test.true in
    let r : 3 + c.loop-i.i ≤ 10 = omega (arith, h) in
    let e : 2 ^ (3 + c.loop-i.i) ≤ 2 ^ 10 = pow_mono r in
    subst (λ n. n ≤ 1024) (sym c.side_of.ensures.value) e

pub loop-i-preserved : goal.loop-i-preserved
loop-i-preserved c =
    let p = c.args.image.now in
    subst (AreFirst (c.loop-i.i + 1 + 1) p) (sym c.in_ok-push-2.ensures.items)
    (first_more c.loop-i.i p c.loop-i.tables.items c.in_ok-next.next c.loop-i.invariant
    (subst (λ m. AreSums p (m + m) c.in_ok-next.next) c.side_of.ensures.value c.in_ok-next.ensures))

pub returns : goal.returns
returns c =
    let low = c.loop-i-test.false in
    let high = c.loop-i.auto.i-end in
    let e : c.loop-i.i ≡ 8 = omega (arith, low, high) in
    subst (λ n. AreFirst (n + 1) c.args.image.now c.loop-i.tables.items) e c.loop-i.invariant
